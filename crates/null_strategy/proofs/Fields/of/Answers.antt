use mathlib.Core.Path.{◌≡◌, refl, ap, ap₂, ◌∙◌}
use mathlib.Core.List.{List}
use Prim.Native.Nat.{◌<◌}
use native.Mathlib.Omega.{arith}
use borrow.Author.Rules.{rules}
use lib.ListN.{length, get_or, set, take, length-take}
use lib.Seq.{get_or-take}
use Rattle.bitmap.proofs.Tables.{retable_store}
use Rattle.union_array.specs.Types.{no_column}
use Rattle.null_strategy.specs.Route.{has_null, fully_null}
use Rattle.null_strategy.specs.Fields.{State, has_nulls, only_nulls, state_of, state_at, no_states}
use Rattle.null_strategy.proofs.FieldStates.{many_le, many_more, has_null_lem, is_full, byte_le, none_yet, states_length, fields_told}
use Rattle.null_strategy.proofs.Fields.of.Goals as goal

pub loop-q-init : goal.loop-q-init
loop-q-init c =
    let m = c.args.lent.now in
    let cs = c.args.array.now.columns in
    record { count = search rules; states = none_yet m cs; some = refl; full = refl }

pub overflow_add-fs : goal.overflow_add-fs
overflow_add-fs c =
    omega (arith, byte_le c.has_null.result, c.loop-q.invariant.some, many_le (has_null c.args.lent.now) c.loop-q.q c.args.array.now.columns, c.requires.0)

pub overflow_add-fs-in-loop-q : goal.overflow_add-fs-in-loop-q
overflow_add-fs-in-loop-q c =
    omega (arith, byte_le c.is_full.result, c.loop-q.invariant.full, many_le (fully_null c.args.lent.now) c.loop-q.q c.args.array.now.columns, c.requires.0)

pub loop-q-preserved : goal.loop-q-preserved
loop-q-preserved c =
    let m = c.args.lent.now in
    let a = c.args.array.now in
    let cs = a.columns in
    let l = c.loop-q in
    let long : length (take a.fields cs) ≡ a.fields = search rules in
    let below : l.q < a.fields = omega arith in
    let h : l.q < length cs = omega (arith, length-take a.fields cs) in
    let e : c.of-state.result ≡ state_at m cs l.q = c.of-state.ensures ∙ ap (state_of m) (get_or-take a.fields cs l.q no_column below) in
    record {
      count = l.invariant.count;
      states = ap₂ (λ (o : List State) (s : State). set o l.q s) l.invariant.states e ∙ retable_store (state_at m cs) no_states l.q (omega (arith, states_length));
      some = many_more (has_null m) cs l.q l.fs.some _ h l.invariant.some (c.has_null.ensures ∙ ap has_nulls e ∙ has_null_lem m (get_or cs l.q no_column));
      full = many_more (fully_null m) cs l.q l.fs.full _ h l.invariant.full (c.is_full.ensures ∙ ap only_nulls e ∙ is_full m (get_or cs l.q no_column));
    }

pub returns : goal.returns
returns c =
    let a = c.args.array.now in
    let l = c.loop-q in
    let long : length (take a.fields a.columns) ≡ a.fields = search rules in
    fields_told a c.args.lent.now l.fs l.q (omega arith) l.invariant.count l.invariant.states l.invariant.some l.invariant.full
