-- Question 15 but for the columns, and question 16: what their yes tells. Assumes nothing.
use mathlib.Core.Path.{◌≡◌}
use mathlib.Core.Bool.{true, ◌&&◌}
use mathlib.Core.List.{List}
use Prim.Native.Nat.{ℕ, ◌*◌, ◌≤◌}
use native.Mathlib.Omega.{arith}
use borrow.Author.Tests.{leb-true}
use lib.Dec.{leb}
use Rattle.bitmap.specs.Bits.{words_for}
use Rattle.bitmap.proofs.Tables.{both}
use Rattle.array_columns.specs.declared.Amounts.{Amounts}
use Rattle.builder_columns.specs.declared.BuilderColumn.{BuilderColumn}
use Rattle.builder_columns.specs.declared.BuilderHead.{BuilderHead}
use Rattle.builder_columns.specs.Finding.{Searchable}
use Rattle.builder_appends.specs.Questions.{numbers_fit, question16, Numbers, Lent, Open}

-- ---- what a yes tells

pub numbers_yes : (capacity limit len count : ℕ) → numbers_fit capacity limit len count ≡ true → Numbers capacity limit len count
unfolding numbers_fit
numbers_yes capacity limit len count h =
    let h₁ = both (leb 1 capacity && leb capacity 65536) _ h in
    let h₂ = both (leb 1 limit && leb limit 128) _ h₁.1 in
    let h₃ = both (leb len capacity) (leb count limit) h₂.1 in
    record {
      some = leb-true _ _ (both (leb 1 capacity) (leb capacity 65536) h₁.0).0;
      small = leb-true _ _ (both (leb 1 capacity) (leb capacity 65536) h₁.0).1;
      few = leb-true _ _ (both (leb 1 limit) (leb limit 128) h₂.0).1;
      within = leb-true _ _ h₃.0;
      columns = leb-true _ _ h₃.1;
    }

pub lent_yes : (capacity limit : ℕ) (lent : Amounts) → question16 capacity limit lent ≡ true → Lent capacity limit lent
unfolding question16
lent_yes capacity limit lent h =
    let h₁ = both (leb capacity lent.ids) _ h in
    let h₂ = both (leb capacity lent.offsets) _ h₁.1 in
    let h₃ = both (leb (limit * capacity) lent.values) _ h₂.1 in
    let h₄ = both (leb (limit * words_for capacity) lent.masks) _ h₃.1 in
    record {
      ids = leb-true _ _ h₁.0;
      offsets = leb-true _ _ h₂.0;
      values = leb-true _ _ h₃.0;
      masks = leb-true _ _ h₄.0;
      names = leb-true _ _ h₄.1;
    }

-- the names of an open builder can be compared
pub open_searchable : (h : BuilderHead) (cs : List BuilderColumn) (lent : Amounts) → Open h cs lent → Searchable cs h.count lent.names × (h.len ≤ 65536)
open_searchable h cs lent o =
    let n = o.numbers in
    let l = o.memory.names in
    (record { few = omega arith; sizes = o.sizes; names = omega arith }, omega arith)
