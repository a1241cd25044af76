-- Slots that are put in columns: in words, and in mask bits. A text in quotes is document 01's.
use Rattle.std.specs.Prelude.{cond, List, [], ◌∷◌, ℕ, ◌+◌, ◌*◌, eqb, set}
use Rattle.std.proofs.Math.Option.{Option, none, some}
use Rattle.bitmap.specs.Lists.{table}
use Rattle.bitmap.specs.Bits.{set_bit}
use Rattle.array_columns.specs.Slots.{is_some}
use Rattle.builder_columns.specs.Columns.{or_else}

-- the slots that an append adds: in which column, at which slot, a value or a null
pub record Put : Type 0 where
  pub id : ℕ
  pub slot : ℕ
  pub value : Option ℕ

abbrev pub put : ℕ → ℕ → Option ℕ → Put
put id slot value = record { id = id; slot = slot; value = value }

-- the nulls that fill a new sparse column
abbrev pub filled : Option ℕ → ℕ → ℕ → List Put
filled none id n = table n (λ s. put id s none)
filled (some k) id n = []

-- "each append puts a null in every other column"
abbrev pub row : ℕ → ℕ → ℕ → Option ℕ → List Put
row n slot id v = table n (λ k. put k slot (cond (eqb id k) v none))

-- the puts in order, each stored at its place where a column has s places
abbrev pub puts : {M : Type 0} → (M → ℕ → Option ℕ → M) → ℕ → M → List Put → M
puts store s m [] = m
puts store s m (p ∷ ps) = puts store s (store m (p.id * s + p.slot) p.value) ps

-- "A null's word is 0."
abbrev pub put_value : List ℕ → ℕ → Option ℕ → List ℕ
put_value words at v = set words at (or_else v 0)

-- a present slot's bit is set, a null's is clear
abbrev pub put_bit : List ℕ → ℕ → Option ℕ → List ℕ
put_bit words at v = set_bit words at (is_some v)
