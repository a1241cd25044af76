-- Question 15 but for the columns, question 16, and what both tell of a builder.
use Rattle.std.specs.Prelude.{Bool, ◌&&◌, List, ℕ, ◌*◌, ◌≤◌, ◌<◌, leb}
use Rattle.bitmap.specs.Bits.{words_for}
use Rattle.array_columns.specs.declared.Amounts.{Amounts}
use Rattle.builder_columns.specs.declared.BuilderColumn.{BuilderColumn}
use Rattle.builder_columns.specs.declared.BuilderHead.{BuilderHead}
use Rattle.builder_columns.specs.Columns.{nth_column}

-- question 15 but for the columns
unfoldable pub numbers_fit : ℕ → ℕ → ℕ → ℕ → Bool
numbers_fit capacity limit len count =
    (leb 1 capacity && leb capacity 65536) && ((leb 1 limit && leb limit 128) && (leb len capacity && leb count limit))

-- 16. Lent, at least: C type ids, C offsets, KC words, K times (C divided by 64, rounded up) mask words, 32K name bytes?
unfoldable pub question16 : ℕ → ℕ → Amounts → Bool
question16 c k lent =
    leb c lent.ids
    && (leb c lent.offsets && (leb (k * c) lent.values && (leb (k * words_for c) lent.masks && leb (32 * k) lent.names)))

-- what a yes to 15 tells of the numbers
pub record Numbers (capacity limit len count : ℕ) : Type 0 where
  pub some : 1 ≤ capacity
  pub small : capacity ≤ 65536
  pub few : limit ≤ 128
  pub within : len ≤ capacity
  pub columns : count ≤ limit

-- what a yes to 16 tells
pub record Lent (capacity limit : ℕ) (lent : Amounts) : Type 0 where
  pub ids : capacity ≤ lent.ids
  pub offsets : capacity ≤ lent.offsets
  pub values : limit * capacity ≤ lent.values
  pub masks : limit * words_for capacity ≤ lent.masks
  pub names : 32 * limit ≤ lent.names

-- a builder that passed 15 and 16
pub record Open (h : BuilderHead) (cs : List BuilderColumn) (lent : Amounts) : Type 0 where
  pub numbers : Numbers h.capacity h.limit h.len h.count
  pub sizes : (k : ℕ) → k < h.count → (nth_column cs k).size ≤ 32
  pub slots : (k : ℕ) → k < h.count → (nth_column cs k).slots ≤ h.len
  pub memory : Lent h.capacity h.limit lent
