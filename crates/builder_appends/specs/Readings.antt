-- The readings of a run.
use Rattle.std.specs.Prelude.{Bool, ◌&&◌, List, ℕ, ◌+◌, ◌<◌, eqb, leb, length}
use Rattle.array_columns.specs.Numbers.{is_kind, is_flag}

-- the readings: names in the text, kinds and presence by their numbers, and the values' bits
pub record Readings : Type 0 where
  pub text : List ℕ
  pub starts : List ℕ
  pub sizes : List ℕ
  pub kinds : List ℕ
  pub present : List ℕ
  pub bits : List ℕ

abbrev pub readings_of : List ℕ → List ℕ → List ℕ → List ℕ → List ℕ → List ℕ → Readings
readings_of text starts sizes kinds present bits = record { text = text; starts = starts; sizes = sizes; kinds = kinds; present = present; bits = bits }

-- the name lies in the text, and the numbers name cases
unfoldable pub is_reading : ℕ → ℕ → ℕ → ℕ → ℕ → Bool
is_reading lent start size kind present = leb (start + size) lent && (is_kind kind && is_flag present)

-- as many of everything as there are names, and room for as many numbers
unfoldable pub lengths_match : Readings → ℕ → Bool
lengths_match r lent =
    let n = length r.starts in
    eqb (length r.sizes) n && (eqb (length r.kinds) n && (eqb (length r.present) n && (eqb (length r.bits) n && leb n lent)))

-- there is a reading k
pub record Within (r : Readings) (k : ℕ) : Type 0 where
  pub starts : k < length r.starts
  pub sizes : k < length r.sizes
  pub kinds : k < length r.kinds
  pub present : k < length r.present
  pub bits : k < length r.bits
