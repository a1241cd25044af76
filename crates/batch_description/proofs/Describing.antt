-- Describing: the steps of its functions, and the array that they come to.
-- Assumes nothing.
use mathlib.Core.Path.{◌≡◌, refl, sym, ap, ap₂, ◌∙◌}
use mathlib.Core.List.{List, [], ◌∷◌, ◌++◌, map}
use Prim.Native.Nat.{ℕ, zero, suc, ◌+◌, ◌-◌, ◌≤◌, ◌<◌}
use native.Mathlib.Nat.{le_of_suc-le-suc, not-suc-le-zero, sub-zero}
use native.Mathlib.Omega.{arith}
use lib.ListN.{length, get_or, take, drop, set, replicate}
use Rattle.bitmap.specs.Lists.{table, retable}
use lib.Seq.{length-take-le, get_or-take}
use Rattle.bitmap.proofs.Tables.{retable_none, retable_at, retable_turn, retable_length, retable_ext}
use Rattle.array_columns.specs.declared.Column.{Column}
use Rattle.union_array.specs.declared.UnionArray.{UnionArray}
use Rattle.array_columns.specs.Types.{no_column}
use Rattle.union_names.specs.Names.{name_in}
use Rattle.union_names.specs.Order.{name_by, ordered_ids, order_of, NamesHeld}
use Rattle.union_names.specs.Listing.{Listed}
use Rattle.union_names.proofs.Listing.{order_listed, listed_id, held_front, order_front}
use Rattle.builder_columns.specs.declared.BuilderColumn.{BuilderColumn}
use Rattle.builder_columns.specs.Columns.{no_builder_column, nth_column}
use Rattle.builder_columns.specs.declared.BuilderHead.{BuilderHead}
use Rattle.batch_description.specs.Description.{described_column, array_of, Named, ordered, assembled, blank_of, named_as, described_by}
use Rattle.batch_description.specs.Filling.{sizes_of, filled_columns, filled_of, Fillable, Describable}
use Rattle.batch_description.proofs.ColumnOrder.{ordered_by_id, ordered_ext}

-- ---- the steps

module _ (h : BuilderHead) (cs : List BuilderColumn) (order : List ℕ) where
  pub fill_none : blank_of h.layout h.len h.count ≡ filled_of h cs order 0
  unfolding filled_columns
  fill_none = ap (array_of h.layout h.len h.count) (sym (retable_none _ (replicate 128 no_column)))

  -- column i is filled in
  pub fill_turn : (i : ℕ) (out : UnionArray) (d : Column) → i < 128 → out ≡ filled_of h cs order i
      → d ≡ described_column (nth_column cs (get_or order i 0)) (get_or order i 0) h.capacity
      → record out { columns = set out.columns i d } ≡ filled_of h cs order (i + 1)
  unfolding filled_columns
  fill_turn i out d l e f =
      ap (λ (a : UnionArray). record a { columns = set a.columns i d }) e
      ∙ ap (array_of h.layout h.len h.count)
      (retable_turn (λ j. described_column (nth_column cs (get_or order j 0)) (get_or order j 0) h.capacity) (replicate 128 no_column) i d f l)

  -- only the ids in use matter
  pub filled_front : filled_of h cs (take h.count order) h.count ≡ filled_of h cs order h.count
  unfolding filled_columns
  filled_front =
      ap (array_of h.layout h.len h.count)
      (retable_ext h.count _ _ (replicate 128 no_column)
      (λ i l. ap (λ (k : ℕ). described_column (nth_column cs k) k h.capacity) (get_or-take h.count order i 0 l)))

  pub fillable_front : Fillable h order → Fillable h (take h.count order)
  fillable_front f = record { few = f.few; small = f.small; ids = λ i l. rw (get_or-take h.count order i 0 l) (f.ids i l) }

-- ---- the columns in order

drop_replicate : {A : Type 0} (n m : ℕ) (a : A) → n ≤ m → drop n (replicate m a) ≡ replicate (m - n) a
drop_replicate zero m a h = ap (λ (k : ℕ). replicate k a) (sym (sub-zero m))
drop_replicate (suc n) zero a h = absurd (not-suc-le-zero h)
drop_replicate (suc n) (suc m) a h =
    let e : m - n ≡ suc m - suc n = omega arith in
    drop_replicate n m a (le_of_suc-le-suc h) ∙ ap (λ (k : ℕ). replicate k a) e

table_map : {A : Type 0} (g : ℕ → A) (n : ℕ) (l : List ℕ) → n ≤ length l → table n (λ i. g (get_or l i 0)) ≡ map g (take n l)
table_map g zero l h = refl
table_map g (suc n) [] h = absurd (not-suc-le-zero h)
table_map {A} g (suc n) (x ∷ xs) h = ap (λ (t : List A). g x ∷ t) (table_map g n xs (le_of_suc-le-suc h))

columns_of_lem : (f : ℕ → Named) (ids : List ℕ) → map (λ c. c.column) (map f ids) ≡ map (λ k. (f k).column) ids
columns_of_lem f [] = refl
columns_of_lem f (k ∷ ids) = ap (λ (t : List Column). (f k).column ∷ t) (columns_of_lem f ids)

module _ (h : BuilderHead) (cs : List BuilderColumn) where
  sizes_at : (k : ℕ) → k < h.count → get_or (sizes_of cs h.count) k 0 ≡ (nth_column cs k).size
  unfolding sizes_of
  sizes_at k l = retable_at h.count (λ j. (nth_column cs j).size) (replicate 128 0) k 0 l

  abbrev column : ℕ → Column
  column k = described_column (nth_column cs k) k h.capacity

  -- column k with its name, as the ids in order have it
  abbrev by_id : List ℕ → ℕ → Named
  by_id names k = record { name = name_by names (sizes_of cs h.count) k; column = column k }

  named_is : (names : List ℕ) (k : ℕ) → k < h.count → by_id names k ≡ named_as cs h.capacity names k
  named_is names k l = ap (λ (n : ℕ). record { name = name_in names k n; column = column k }) (sizes_at k l)

  listed : (names order : List ℕ) → h.count ≤ 128 → order ≡ order_of names (sizes_of cs h.count) h.count → Listed names (sizes_of cs h.count) order h.count
  listed names order l e = rw e (order_listed names (sizes_of cs h.count) h.count l)

  pub describe_is : (names order : List ℕ) → h.count ≤ 128 → order ≡ order_of names (sizes_of cs h.count) h.count
      → filled_of h cs order h.count ≡ described_by h cs names
  unfolding filled_columns described_by assembled retable
  describe_is names order l e =
      let s = listed names order l e in
      let in_order : map column (take h.count order) ≡ map (λ c. c.column) (ordered h.count (named_as cs h.capacity names)) =
      ap (map column) s.ids ∙ sym (columns_of_lem (by_id names) (ordered_ids h.count (name_by names (sizes_of cs h.count))))
      ∙ ap (map (λ c. c.column)) (sym (ordered_by_id (by_id names) h.count) ∙ ordered_ext h.count (by_id names) (named_as cs h.capacity names) (named_is names)) in
      ap (array_of h.layout h.len h.count)
      (ap₂ (λ (x y : List Column). x ++ y) (table_map column h.count order s.room ∙ in_order) (drop_replicate h.count 128 no_column l))

  -- only the columns in use matter
  pub sizes_front : h.count ≤ length cs → sizes_of (take h.count cs) (length (take h.count cs)) ≡ sizes_of cs h.count
  unfolding sizes_of
  sizes_front few =
      ap (λ (n : ℕ). retable n (λ k. (nth_column (take h.count cs) k).size) (replicate 128 0)) (length-take-le h.count cs few)
      ∙ retable_ext h.count _ _ (replicate 128 0) (λ k l. ap (λ (c : BuilderColumn). c.size) (get_or-take h.count cs k no_builder_column l))

  sizes_length : h.count ≤ 128 → length (sizes_of cs h.count) ≡ 128
  unfolding sizes_of
  sizes_length l = retable_length h.count (λ j. (nth_column cs j).size) (replicate 128 0) l

  pub held : (names : List ℕ) → Describable h cs (length names)
      → NamesHeld names (take h.count (sizes_of cs h.count)) (length (take h.count (sizes_of cs h.count)))
  held names d = held_front names (sizes_of cs h.count) h.count (record {
    few = d.few;
    known = omega (arith, sizes_length d.few, d.few);
    lent = d.lent;
    short = λ k l. rw (sizes_at k l) (d.short k l);
  })

  -- the order by the names of the columns in use
  pub order_is : (names order : List ℕ) → h.count ≤ 128 → order ≡ order_of names (take h.count (sizes_of cs h.count)) (length (take h.count (sizes_of cs h.count)))
      → order ≡ order_of names (sizes_of cs h.count) h.count
  order_is names order few e = e ∙ order_front names (sizes_of cs h.count) h.count (omega (arith, sizes_length few, few))

  pub fillable : (names order : List ℕ) → Describable h cs (length names) → order ≡ order_of names (sizes_of cs h.count) h.count → Fillable h order
  fillable names order d e =
      record { few = d.few; small = d.small; ids = λ i l. listed_id names (sizes_of cs h.count) order h.count i (listed names order d.few e) l }
