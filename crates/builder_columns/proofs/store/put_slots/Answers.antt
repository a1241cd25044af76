-- First the nulls of a new column, then the row. Assumes nothing.
use mathlib.Core.Path.{◌≡◌, ap, ◌∙◌}
use mathlib.Core.Bool.{cond}
use mathlib.Core.Option.{none}
use native.Mathlib.Omega.{arith}
use Rattle.array_columns.specs.Buffers.{held}
use Rattle.builder_columns.specs.Puts.{filled}
use Rattle.builder_columns.specs.Writing.{put_words}
use Rattle.builder_columns.proofs.Putting.{room_kept, room_upto, words_append, words_none}
use Rattle.builder_columns.proofs.store.put_slots.Goals as goal
use Rattle.builder_columns.proofs.store.put_slots.Goals.{Joined-p, then-p, else-p}

-- the memory before the row
nulls : (c : Joined-p) → held c.if-p.lent ≡ put_words c.args.h.capacity (held c.args.lent.now) (filled none c.args.p.id (cond c.args.p.fresh c.args.h.len 0))
nulls c =
    elim c.if-p.branch [
      | then-p w ↦ rw w.if-p.true (ap held w.lent-is ∙ w.put_nulls.ensures.after)
      | else-p w ↦ rw (w.if-p.false, words_none) (ap held w.lent-is)
    ]

pub put_slot-requires : goal.put_slot-requires
put_slot-requires c =
    (room_upto _ _ _ _ c.requires.0 _ c.requires.1, omega arith)

pub put_nulls-requires : goal.put_nulls-requires
put_nulls-requires c =
    (room_upto _ _ _ _ c.requires.0 _ c.requires.1, omega arith)

pub put_row-requires : goal.put_row-requires
put_row-requires c =
    (room_kept _ _ _ _ _ (nulls (goal.at.put_row-requires c).Joined-p) c.requires.0, c.requires.2)

pub returns-after-p-clause-after : goal.returns-after-p-clause-after
returns-after-p-clause-after c =
    rw c.in-Sparse.is (c.put_row.ensures.after ∙ rw (nulls (goal.at.returns-after-p-clause-after c).Joined-p) (words_append _ _ _ _))
