-- The place of a slot's child in the column list, by the table of places. Assumes nothing.
use Rattle.std.proofs.Common.{◌≡◌, sym, ap, ◌∙◌, true, ℕ, ◌+◌, ◌<◌, ◌≤◌, arith, ℤ, List, length, get_or, take, Option, Some, None, Bor}
use Rattle.std.proofs.Math.Option.{none, some}
use Rattle.std.specs.Option.{option_copied}
use Rattle.std.proofs.lemmas.List.{get_or_default}
use borrow.Author.Tests.{ltb-true, ltb-false}
use lib.Signed.{mag}
use lib.Seq.{get_or-take, length-take-le}
use Rattle.array_slots.specs.Types.{Column, no_column}
use Rattle.array_columns.specs.Slots.{all, column_of}
use Rattle.array_columns.specs.Slots as slots
use Rattle.std.specs.Option.{is_some, IfSome}
use lib.Dec.{ltb}
use Rattle.array_columns.specs.Questions.{valid_id}
use Rattle.array_columns.specs.Pass.{entry_of, column_told}
use Rattle.array_columns.specs.ById.{place_table}
use Rattle.array_columns.proofs.ById.{place_of, table_at, none_at, some_at, low_at}

-- p is what the table of places has at the entry of an id
module _ (n : ℕ) (columns : List Column) (few : n ≤ 128) (full : length columns ≡ 128) (valid : all (λ c. valid_id c.id) (take n columns) ≡ true)
    (places : List ℕ) (placed : places ≡ place_table (take n columns)) (id : ℤ) (byte : mag id < 128) (entry : ℕ) (here : entry ≡ entry_of id) where
  short : 0 + length (take n columns) ≤ 128
  short = let u = length-take-le n columns (omega arith) in omega arith

  place_is : get_or places entry 0 ≡ place_of 0 (take n columns) id
  place_is = rw (here, placed) (table_at 128 (λ k c. k) (take n columns) 0 id valid byte)

  pub column_none : 128 ≤ get_or places entry 0 → column_of (take n columns) id ≡ none
  column_none h = none_at (take n columns) 0 id short (rw place_is at h)

  pub column_some : get_or places entry 0 < 128 → column_of (take n columns) id ≡ some (get_or columns (get_or places entry 0) no_column)
  column_some h =
      let u = length-take-le n columns (omega arith) in
      rw place_is
      (some_at (take n columns) 0 id (λ j. get_or columns j no_column) (λ j l. let z : 0 + j ≡ j = omega arith in ap (λ (i : ℕ). get_or columns i no_column) z ∙ sym (get_or-take n columns j no_column (omega arith)))
      (rw place_is at h))

  pub place_low : slots.is_some (column_of (take n columns) id) ≡ true → get_or places entry 0 < 128
  place_low s = rw place_is (low_at (take n columns) 0 id short s)

  -- as the code reads it
  pub column_read : (o : Option (Bor Column)) → is_some o ≡ ltb (get_or places entry 0) (length columns)
      → IfSome o (λ c. c.now ≡ get_or columns (get_or places entry 0) c.now) → column_told (option_copied o) ≡ column_of (take n columns) id
  column_read None e f = let l = ltb-false (get_or places entry 0) (length columns) (sym e) in sym (column_none (omega arith))
  column_read (Some c) e f =
      let l : get_or places entry 0 < length columns = ltb-true (get_or places entry 0) (length columns) (sym e) in
      ap some (f ∙ get_or_default columns (get_or places entry 0) c.now no_column l) ∙ sym (column_some (omega arith))
