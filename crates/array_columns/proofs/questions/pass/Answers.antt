use Prim.Native.Nat.{◌<◌}
use mathlib.Core.Path.{◌≡◌, refl}
use native.Mathlib.Omega.{arith}
use borrow.Author.Rules.{rules}
use lib.ListN.{length, length-set, get_or}
use lib.Seq.{take-length}
use Rattle.array_columns.specs.Types.{no_column}
use Rattle.array_columns.specs.Pass.{entry_of}
use Rattle.array_columns.proofs.Signed.{id_read}
use Rattle.array_columns.proofs.OnePass.{unseen, asked_none, asked_turn, seen_turn, pass_is}
use Rattle.array_columns.proofs.questions.pass.Goals as goal

pub loop-c-init : goal.loop-c-init
loop-c-init c = record { full = refl; asked = asked_none c.args.lent.now c.args.n c.args.layout; seen = λ k l. unseen 256 k }

pub loop-c-preserved : goal.loop-c-preserved
loop-c-preserved c =
    let cs = c.args.columns.now in
    let j = c.loop-c.c-index in
    let seen = c.loop-c.seen in
    let k : j < length cs = c.loop-c-test.true in
    let same = id_read (get_or cs j no_column).id (search rules) in
    let entry : c.entry_of-entry.result ≡ entry_of (get_or cs j no_column).id = rw same at c.entry_of-entry.ensures.0 in
    let new = rw (same, entry) at c.is_new-ids.ensures in
    record {
      full = simp length-set c.loop-c.invariant.full;
      asked = asked_turn cs j k seen c.loop-c.invariant.seen c.args.lent.now c.args.n c.args.layout _ _ c.loop-c.invariant.asked
          (rw (new, c.is_in-parts.ensures, c.slots_match-slots.ensures));
      seen = seen_turn cs j k seen c.loop-c.invariant.seen c.entry_of-entry.result entry (omega (arith, c.entry_of-entry.ensures.1));
    }

pub returns : goal.returns
returns c =
    let cs = c.args.columns.now in
    let end : c.loop-c.c-index ≡ length cs = omega arith in
    pass_is c.args.lent.now c.args.layout c.args.n c.args.id cs _ (rw (end, take-length cs) at c.loop-c.invariant.asked) (search rules)
