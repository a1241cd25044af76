use Rattle.std.proofs.Common.{rules, refl, ap, ◌∙◌, ℕ, ◌+◌, List, set, arith}
use Rattle.bitmap.proofs.Tables.{retable_turn}
use Rattle.array_slots.proofs.Parts.{part_few}
use Rattle.array_slots.proofs.Reading.{found, offset_lent, inside, missing_told, bits_told, ids_told}
use Rattle.array_slots.proofs.run.Slots.write.Goals as goal

pub unwrap-c-requires : goal.unwrap-c-requires
unwrap-c-requires c =
    let s = c.args.self.now in
    let a = rw (← c.lent.view_is) at c.requires.accepted in
    rw (found s.head s.columns.now _ s.first s.n c.loop-k.k a c.loop-k-test.true (search rules) c.child.result c.child.ensures) refl

pub child_slot-p-requires : goal.child_slot-p-requires
child_slot-p-requires c =
    let s = c.args.self.now in
    let a = rw (← c.lent.view_is) at c.requires.accepted in
    offset_lent s.head s.columns.now _ s.first s.n c.loop-k.k a c.loop-k-test.true

pub slot_value-value-requires : goal.slot_value-value-requires
slot_value-value-requires c =
    let s = c.args.self.now in
    let m = c.lent.view_is in
    let a = rw (← m) at c.requires.accepted in
    rw (← m)
    (inside s.head s.columns.now _ s.first s.n c.loop-k.k a c.loop-k-test.true (search rules) c.child.result c.child.ensures c.unwrap-c.result c.unwrap-c.ensures c.child_slot-p.result
    c.child_slot-p.ensures)

pub loop-k-preserved : goal.loop-k-preserved
loop-k-preserved c =
    let s = c.args.self.now in
    let m = c.lent.view_is in
    let a = rw (← m) at c.requires.accepted in
    let e = rw (← m) at c.slot_value-value.ensures in
    let v = rw (← m) at c.loop-k.invariant in
    let r = c.requires.room in
    let k = c.loop-k.k in
    let few = part_few (s.head.start + s.first) s.n k _ c.loop-k-test.true in
    let missing = missing_told s.head s.columns.now _ s.first s.n k a c.loop-k-test.true (search rules) c.child.result c.child.ensures c.unwrap-c.result c.unwrap-c.ensures
    c.child_slot-p.result c.child_slot-p.ensures c.slot_value-value.result e c.is_none.result c.is_none.ensures in
    let bits = bits_told s.head s.columns.now _ s.first s.n k a c.loop-k-test.true (search rules) c.child.result c.child.ensures c.unwrap-c.result c.unwrap-c.ensures
    c.child_slot-p.result c.child_slot-p.ensures c.slot_value-value.result e in
    rw (← m) (
      ap (λ (o : List ℕ). set o k c.from.result) v.0 ∙ retable_turn _ c.args.missing.now k _ (c.from.ensures ∙ missing) (omega arith),
      ap (λ (o : List ℕ). set o k c.unwrap_or.result) v.1 ∙ retable_turn _ c.args.bits.now k _ (c.unwrap_or.ensures ∙ bits) (omega arith),
    )

pub returns-clause-ids_after : goal.returns-clause-ids_after
returns-clause-ids_after c =
    let s = c.args.self.now in
    let m = c.lent.view_is in
    let a = rw (← m) at c.requires.accepted in
    rw (← m) (rw c.copy_from_slice.ensures.after (ids_told s.head s.columns.now _ s.first s.n a s.low c.args.ids.now))
