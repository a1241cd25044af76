-- What the questions of document 01 ask of one column, each as a test.
use Rattle.std.specs.Prelude.{Bool, true, false, not, ◌&&◌, ◌||◌, List, [], ◌∷◌, ℕ, ◌+◌, ◌*◌, leb, ltb, ℤ, pos, negsuc, length}
use Rattle.std.proofs.Math.Option.{Option, none, some}
use Rattle.array_columns.specs.Types.{Column, Amounts, first_bit}
use Rattle.array_columns.specs.Buffers.{Buffers}
use Rattle.array_columns.specs.Slots.{column_of, is_some}

-- a field id is 0 to 127
abbrev pub valid_id : ℤ → Bool
valid_id (pos n) = ltb n 128
valid_id (negsuc n) = false

-- no id twice
abbrev pub distinct : List Column → Bool
distinct [] = true
distinct (c ∷ cs) = not (is_some (column_of cs c.id)) && distinct cs

-- "Start plus length is at most what is lent, for an empty part too"
abbrev pub part_in : ℕ → ℕ → ℕ → Bool
part_in start len lent = leb (start + len) lent

-- "an absent mask names no part"
abbrev pub mask_in : Column → ℕ → Bool
mask_in c lent = not c.masked || part_in (first_bit c) c.slots (64 * lent)

-- what the presence of a column's slots is read from lies in lent memory
unfoldable pub presence_in : Buffers → Column → Bool
presence_in m c = mask_in c (length m.masks)

-- a column's name, values and mask lie in lent memory, its name at most 32 bytes
unfoldable pub column_in : Amounts → Column → Bool
column_in lent c =
    leb c.size 32 && (part_in c.name c.size lent.names && (part_in c.values c.slots lent.values && mask_in c lent.masks))

-- an offset is at least 0 and below n
abbrev pub within : ℤ → ℕ → Bool
within (pos k) n = ltb k n
within (negsuc k) n = false

-- an offset is at least 0 and below the slots of the child found
abbrev pub within_child : ℤ → Option Column → Bool
within_child z none = false
within_child z (some c) = within z c.slots
