-- One reading of a run. Assumes nothing.
use mathlib.Core.Bool.{true, false}
use mathlib.Core.List.{List}
use mathlib.Core.Path.{◌≡◌}
use Prim.Native.Nat.{ℕ, ◌+◌, ◌≤◌}
use lib.Dec.{leb}
use lib.ListN.{length, take, drop}
use borrow.Author.Tests.{leb-true}
use Rattle.bitmap.proofs.Tables.{both}
use Rattle.array_columns.specs.declared.Kind.{Kind}
use Rattle.array_columns.specs.Types.{width_of, low_bits}
use Rattle.array_columns.specs.Buffers.{Buffers}
use Rattle.array_columns.specs.Numbers.{kind_from, flag_from, bad_number}
use Rattle.builder_columns.specs.declared.BuilderColumn.{BuilderColumn}
use Rattle.builder_columns.specs.declared.BuilderHead.{BuilderHead}
use Rattle.builder_columns.specs.Columns.{some_if}
use Rattle.builder_appends.specs.Readings.{is_reading}
use Rattle.builder_appends.specs.Steps.{Reading, step_refused, append_by, reading_by}

module _ (lent start size kind present : ℕ) (e : is_reading lent start size kind present ≡ true) where
  pub reading_in : start + size ≤ lent
  unfolding is_reading
  reading_in = leb-true (start + size) lent (both (leb (start + size) lent) _ e).0

module _ (n : ℕ) (h : BuilderHead) (cs : List BuilderColumn) (text : List ℕ) (r : Reading) (m : Buffers) where
  pub reading_bad : is_reading (length text) r.start r.size r.kind r.present ≡ false → step_refused bad_number m ≡ reading_by n h cs text r m
  unfolding reading_by
  reading_bad e = rw e

  pub reading_good : is_reading (length text) r.start r.size r.kind r.present ≡ true → (k : Kind) → k ≡ kind_from r.kind
      → append_by n h cs (take r.size (drop r.start text)) k (some_if (flag_from r.present) (low_bits (width_of k) r.bits)) m ≡ reading_by n h cs text r m
  unfolding reading_by
  reading_good e k ek = rw (e, ek)
