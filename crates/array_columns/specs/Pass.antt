-- For the code that asks 1 to 6 in one pass over the columns: of 1, 3, 4 and 6, whether all columns answer yes.
use Rattle.std.specs.Prelude.{Bool, true, ◌&&◌, List, ℕ, eqb, leb, ℤ, pos, negsuc, Some, None}
use Rattle.std.proofs.Math.Option.{Option, none, some}
use Rattle.std.specs.declared.option.Option as given
use Rattle.array_columns.specs.Types.{Layout, Column, Amounts, by_layout}
use Rattle.array_columns.specs.Slots.{all, column_of}
use Rattle.array_columns.specs.Questions.{valid_id, distinct, column_in}
pub use Rattle.array_columns.specs.declared.Passed.{Passed}

-- an id's entry in a table of 256: its own number, or for one below 0 the last
abbrev pub entry_of : ℤ → ℕ
entry_of (pos n) = n
entry_of (negsuc n) = 255

-- what a pass over a list of columns tells
pub record PassAnswer : Type 0 where
  pub ids : Bool
  pub parts : Bool
  pub counts : Bool
  pub slots : Bool
  pub column : Option Column

-- of each case of the code's answer, its column
abbrev pub column_told : given.Option Column → Option Column
column_told None = none
column_told (Some c) = some c

-- the code's answer
abbrev pub passed_told : Passed → PassAnswer
passed_told p = record { ids = p.ids; parts = p.parts; counts = p.counts; slots = p.slots; column = column_told p.column }

-- whether 1, 3, 4 and 6 are answered yes of each column, of an array of a layout with n slots, and "the list entry with the given id"
unfoldable pub pass_of : Amounts → Layout → ℕ → ℤ → List Column → PassAnswer
pass_of lent layout n id cs = record {
  ids = all (λ c. valid_id c.id) cs && distinct cs;
  parts = all (column_in lent) cs;
  counts = all (λ c. leb c.slots 65536) cs;
  slots = by_layout layout (all (λ c. eqb c.slots n) cs) true;
  column = column_of cs id;
}
