-- Of the outer loop: each slot passed names a column, and so does each id known. Of the inner one: no column passed has the slot's id.
use Rattle.std.proofs.Common.{◌≡◌, true, false, take}
use Rattle.std.specs.List.{list_all}
use Rattle.array_columns.specs.Slots.{column_of, is_some}
use Rattle.array_slots.proofs.Known.{Known}
use Rattle.array_slots.proofs.check.ids_named.Given as goal

abbrev pub invariant-loop-c : goal.invariant-loop-c
invariant-loop-c l = (l.ok ≡ true) × (is_some (column_of (take l.c-index l.columns) l.id) ≡ false) × Known l.columns l.known

abbrev pub invariant-slots : goal.invariant-slots
invariant-slots l = (l.ok ≡ true) × (list_all (λ id. is_some (column_of l.columns id)) (take l.id-index l.ids) ≡ true) × Known l.columns l.known
