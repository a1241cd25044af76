-- The refusal given, 17, or where the name was found. Assumes nothing.
use mathlib.Core.Path.{◌≡◌, refl, sym, ap, ◌∙◌}
use Prim.Native.Nat.{◌≤◌}
use native.Mathlib.Omega.{arith}
use lib.ListN.{length}
use Rattle.std.proofs.lemmas.Result.{err_from_is_err_and}
use Rattle.array_columns.specs.Refusal.{number_of}
use Rattle.builder_columns.specs.Finding.{Found}
use Rattle.builder_columns.specs.Planning.{found_plan}
use Rattle.builder_columns.proofs.Places.{found_take, searchable_take}
use Rattle.builder_appends.proofs.Planned.{name_short, plan_no, plan_17, plan_rest}
use Rattle.builder_appends.proofs.planning.plan.Goals as goal

pub returns-in_err-checked : goal.returns-in_err-checked
returns-in_err-checked c =
    let a = c.args in
    let p = err_from_is_err_and c.from_residual.result c.from_residual.ensures.1 in
    rw (p.1, p.2, c.in_err-checked.was) (plan_no a.h a.columns.now a.names.now a.name.now a.kind c.in_err-checked.field-0.0)

pub returns-then-not-name_fits : goal.returns-then-not-name_fits
returns-then-not-name_fits c =
    let a = c.args in
    rw c.in_ok-checked.was (plan_17 a.h a.columns.now a.names.now a.name.now a.kind (sym c.name_fits.ensures ∙ c.if-not-name_fits.true))

pub look-found-requires : goal.look-found-requires
look-found-requires c =
    let a = c.args in
    let yes : number_of a.checked ≡ 0 = rw c.in_ok-checked.was refl in
    let s = (c.requires yes).0 in
    let few : a.h.count ≤ length a.columns.now = omega (arith, s.few) in
    searchable_take a.columns.now a.h.count few (length a.names.now) s

pub settle-requires : goal.settle-requires
settle-requires c =
    let yes : number_of c.args.checked ≡ 0 = rw c.in_ok-checked.was refl in
    ((c.requires yes).1, name_short _ (sym c.name_fits.ensures ∙ c.if-not-name_fits.false))

pub returns : goal.returns
returns c =
    let a = c.args in
    let yes : number_of a.checked ≡ 0 = rw c.in_ok-checked.was refl in
    let few : a.h.count ≤ length a.columns.now = omega (arith, (c.requires yes).0.few) in
    rw c.in_ok-checked.was (
    c.settle.ensures
    ∙ ap (λ (f : Found). found_plan a.h f a.name.now a.kind) (c.look-found.ensures ∙ found_take a.columns.now a.h.count few a.names.now a.name.now)
    ∙ plan_rest a.h a.columns.now a.names.now a.name.now a.kind (sym c.name_fits.ensures ∙ c.if-not-name_fits.false))
