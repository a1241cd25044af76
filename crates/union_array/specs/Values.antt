-- A run of slots: the id, the presence and the value of each, in one call.
use Rattle.std.specs.Prelude.{Bool, List, ℕ, ◌+◌, leb, ℤ}
use Rattle.bitmap.specs.Lists.{retable}
use Rattle.bitmap.specs.Bits.{digit}
use Rattle.union_array.specs.Types.{UnionArray}
use Rattle.array_columns.specs.Buffers.{Buffers}
use Rattle.array_columns.specs.Refusal.{no, ◌then◌, if_yes}
use Rattle.union_array.specs.Questions.{named_at, offset_fits, asked}
use Rattle.union_array.specs.Lookup.{value_of}
use Rattle.array_columns.specs.Numbers.{bad_length}
pub use Rattle.array_slots.specs.Values.{first_refusal, Values, values_answer, has_room}

-- 7 and 8 of slot i
abbrev pub slot_no : UnionArray → Buffers → ℕ → ℕ
slot_no a m i = no 7 (named_at a m i) then no 8 (offset_fits a m i)

-- 1 to 6 once; 10 of the whole run of n slots; 7 and 8 of its slots in order; 129 where the outputs have no room for it
unfoldable pub run_checked : UnionArray → Buffers → ℕ → ℕ → Bool → ℕ
run_checked a m first n room =
    asked a m
    then no 10 (leb (first + n) a.count)
    then first_refusal n (λ k. slot_no a m (first + k))
    then no bad_length room

-- element k of the outputs is of slot first + k, as a lookup of its value tells it; later elements, and all if refused, are kept
unfoldable pub values_of : UnionArray → Buffers → ℕ → ℕ → List ℤ → List ℕ → List ℕ → Values
values_of a m first n ids missing bits =
    let r = run_checked a m first n (has_room n ids missing bits) in
    values_answer r (if_yes r (retable n (λ k. (value_of a m (first + k)).id) ids) ids)
    (if_yes r (retable n (λ k. digit (value_of a m (first + k)).missing) missing) missing)
    (if_yes r (retable n (λ k. (value_of a m (first + k)).bits) bits) bits)
