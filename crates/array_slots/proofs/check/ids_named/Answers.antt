use Rattle.std.proofs.Common.{rules, refl, ◌∙◌, ◌<◌, length, slice_index_or, ℤ, pos, arith}
use Rattle.std.proofs.lemmas.List.Folds.{list_all_more}
use Rattle.bitmap.proofs.Ids.{same_bits, other_bits}
use Rattle.array_columns.proofs.Columns.{unnamed_turn}
use Rattle.array_columns.proofs.Signed.{id_read}
use Rattle.array_slots.proofs.Known.{known_none, known_more, named_by}
use Rattle.array_slots.proofs.check.ids_named.Goals as goal

pub slots-init : goal.slots-init
slots-init c = (refl, refl, known_none c.args.columns.now)

pub loop-c-preserved : goal.loop-c-preserved
loop-c-preserved c =
    let i = c.loop-c in
    (c.slots.invariant.0, unnamed_turn c.args.columns.now _ i.c-index (omega arith) i.invariant.1 (other_bits _ _ c.if-c-id.false), i.invariant.2)

pub slots-preserved : goal.slots-preserved
slots-preserved c =
    let cs = c.args.columns.now in
    let ids = c.args.ids.now in
    let i = c.slots.id-index in
    let id : ℤ = slice_index_or ids i (pos 0) in
    let here : i < length ids = omega arith in
    let named = named_by cs id c.loop-c.c-index c.requires (omega arith) (same_bits _ id (search rules) (search rules) c.if-c-id.true) in
    let entry = rw (id_read id (search rules)) at c.entry_of-entry.ensures.0 in (
      c.slots.invariant.0,
      list_all_more _ ids i (pos 0) here ∙ rw (c.slots.invariant.1, named.1),
      rw entry (known_more cs c.loop-c.known id named.0 named.1 c.loop-c.invariant.2),
    )
