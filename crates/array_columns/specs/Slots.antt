-- Columns by id, and the presence of a child's slots (Format, validity bitmaps).
use Rattle.std.specs.Prelude.{Bool, true, false, cond, not, ◌&&◌, ◌||◌, List, [], ◌∷◌, ℕ, ◌+◌, ◌*◌, ltb, ℤ}
use Rattle.std.proofs.Math.Option.{Option, none, some}
use Rattle.bitmap.specs.Bits.{bit_at, pack, count, same_id}
use Rattle.array_columns.specs.Types.{Column, first_bit}
use Rattle.array_columns.specs.Buffers.{Buffers}

-- each column passes
abbrev pub all : (Column → Bool) → List Column → Bool
all p [] = true
all p (c ∷ cs) = p c && all p cs

-- "the list entry with the given id"
abbrev pub column_of : List Column → ℤ → Option Column
column_of [] id = none
column_of (c ∷ cs) id = cond (same_id c.id id) (some c) (column_of cs id)

-- there is one
abbrev pub is_some {ℓ} : {A : Type ℓ} → Option A → Bool
is_some none = false
is_some (some a) = true

-- slot p of a child is present: "set means present, clear means null"; a child without a mask has no null
unfoldable pub present : Column → Buffers → ℕ → Bool
present c m p = not c.masked || bit_at m.masks (first_bit c + p)

-- 64 slots of a child at once: bit j is slot 64k + j; bits past the first len slots are 0
unfoldable pub presence_chunk : Column → Buffers → ℕ → ℕ → ℕ
presence_chunk c m len k = pack 64 (λ j. ltb (64 * k + j) len && present c m (64 * k + j))

-- the nulls of a child, selected or not
unfoldable pub nulls_in : Column → Buffers → ℕ
nulls_in c m = count c.slots (λ p. not (present c m p))

-- slot p of a child is null; with no child there is none
abbrev pub null_in : Option Column → Buffers → ℕ → Bool
null_in none m p = false
null_in (some c) m p = not (present c m p)
