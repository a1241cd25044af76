-- Gather: the table of entries by type id, and the bit that is looked up in it.
use Rattle.std.specs.Prelude.{◌≡◌, Bool, true, false, List, [], ◌∷◌, ℕ, ◌+◌, ◌≤◌, ◌<◌, T, ℤ, pos, nat_abs, get_or, set, replicate, length}
use Rattle.std.specs.Int.Signed.{non_neg}
use Rattle.array_columns.specs.declared.Kind.TheVariants.{Int8}
use Rattle.array_columns.specs.declared.Layout.{Layout}
use Rattle.array_columns.specs.declared.Layout.TheVariants.{Dense}
use Rattle.array_columns.specs.declared.Column.{Column}
use Rattle.array_columns.specs.Types.{no_column, by_layout}
use Rattle.array_columns.specs.Buffers.{Buffers}
use Rattle.array_columns.specs.Slots.{present}
use Rattle.array_columns.specs.Questions.{presence_in}
use Rattle.mask_words.specs.Steps.{id_at, Plain}

-- the no_nulls entry: a column without a mask, of more slots than a child has
abbrev pub without_nulls : Column
without_nulls = record { values = 0; mask = 0; name = 0; slots = 4294967295; bit = 0; size = 0; id = pos 0; kind = Int8; masked = false }

-- each column of a list in turn, stored at its id
unfoldable pub stored : List Column → List Column → List Column
stored t [] = t
stored t (c ∷ cs) = stored (set t (nat_abs c.id) c) cs

-- 256 no_nulls entries, and then those of the columns with a null
unfoldable pub table_of : List Column → List Column
table_of cs = stored (replicate 256 without_nulls) cs

-- the entry for slot i
abbrev pub table_entry : List Column → List ℤ → ℕ → Column
table_entry table ids i = get_or table (nat_abs (id_at ids i)) no_column

-- the child slot of slot i, where the offsets start at place `from`
abbrev pub child_slot : Layout → List ℤ → ℕ → ℕ → ℕ
child_slot layout offsets from i = by_layout layout i (nat_abs (get_or offsets (from + i) (pos 0)))

-- Gather: the entry's bit
unfoldable pub gathered_at : List Column → Buffers → List ℤ → (ℕ → ℕ) → ℕ → Bool
gathered_at table words ids slot i = present (table_entry table ids i) words (slot i)

-- a dense union's offsets are lent, and none is negative
abbrev pub Reach : Layout → List ℤ → ℕ → ℕ → Type 0
Reach layout offsets from len =
    layout ≡ Dense → (from + len ≤ length offsets) × ((i : ℕ) → i < len → T (non_neg (get_or offsets (from + i) (pos 0))))

-- what a lookup needs: no type id is negative, the offsets are lent and not negative, and the entry of each slot has its child slot
pub record Gathers (table : List Column) (words : Buffers) (ids : List ℤ) (layout : Layout) (from : ℕ) : Type 0 where
  pub plain : Plain ids
  pub reach : Reach layout words.offsets from (length ids)
  pub within : (i : ℕ) → i < length ids → (child_slot layout words.offsets from i < (table_entry table ids i).slots) × (presence_in words (table_entry table ids i) ≡ true)
