-- What a slice is: one more child moved, and what an accepted array has can be moved. Assumes nothing.
use mathlib.Core.Path.{◌≡◌, refl, sym, ap, ◌∙◌}
use mathlib.Core.Bool.{true, false}
use Rattle.std.specs.Prelude.{Ok, Err}
use Rattle.array_columns.specs.declared.Refusal.{Refusal}
use Rattle.array_columns.specs.declared.Refusal.TheVariants.{SliceRange}
use mathlib.Core.List.{List, [], ◌∷◌, ◌++◌, map}
use Prim.Native.Nat.{ℕ, zero, suc, ◌+◌, ◌^◌, ◌≤◌, ◌<◌}
use native.Mathlib.Numerals.{add-one}
use native.Mathlib.Omega.{arith}
use lib.ListN.{length, get_or, set, take, drop, replicate, take-append-drop}
use Rattle.union_array.specs.Types.{Layout, Sparse, Dense, Column, UnionArray, no_column, no_array, narrowed, relisted}
use Rattle.array_columns.specs.Buffers.{Buffers, amounts_of}
use Rattle.array_columns.specs.Refusal.{refusal_number}
use Rattle.union_array.specs.Questions.{question9, asked}
use Rattle.union_array.specs.Slices.{moved_column, sliced, slice_told, slice_checked, slice_of}
use Rattle.union_array.specs.Movable.{Movable}
use Rattle.array_columns.proofs.Numbered.{if_refused, then_refused}
use Rattle.union_array.proofs.Accepted.{Accepted, column_at_lem as column-accepted, slots_at, mask_part}

-- ---- a list whose first j elements are changed by f

module _ {A : Type 0} (f : A → A) (d : A) where
  abbrev pub map_to : ℕ → List A → List A
  map_to j l = map f (take j l) ++ drop j l

  pub map_at : (l : List A) (j : ℕ) → get_or (map_to j l) j d ≡ get_or l j d
  map_at l zero = refl
  map_at [] (suc j) = refl
  map_at (x ∷ l) (suc j) = map_at l j

  at_suc : (l : List A) (j : ℕ) → set (map_to j l) j (f (get_or l j d)) ≡ map_to (suc j) l
  at_suc [] zero = refl
  at_suc (x ∷ l) zero = refl
  at_suc [] (suc j) = refl
  at_suc (x ∷ l) (suc j) = ap (λ (r : List A). f x ∷ r) (at_suc l j)

  pub map_more : (l : List A) (j : ℕ) → set (map_to j l) j (f (get_or l j d)) ≡ map_to (j + 1) l
  map_more l j = rw add-one (at_suc l j)

-- ---- an array

module _ (a : UnionArray) (o n : ℕ) where
  -- of a layout, with the first j children moved
  abbrev pub sliced_to : Layout → ℕ → UnionArray
  sliced_to l j = relisted (narrowed l o n a) (map_to (moved_column l o n) no_column j a.columns)

  pub sliced_is : (l : Layout) → a.layout ≡ l → sliced_to l a.fields ≡ sliced a o n
  unfolding sliced
  sliced_is l e = ap (λ (k : Layout). sliced_to k a.fields) (sym e)

  -- a dense array keeps its children
  kept : (cs : List Column) → map (moved_column Dense o n) cs ≡ cs
  kept [] = refl
  kept (c ∷ cs) = ap (λ (r : List Column). c ∷ r) (kept cs)

  same_columns : (j : ℕ) (cs : List Column) → map_to (moved_column Dense o n) no_column j cs ≡ cs
  same_columns j cs = ap (λ (l : List Column). l ++ drop j cs) (kept (take j cs)) ∙ take-append-drop j cs

  pub dense_is : a.layout ≡ Dense → narrowed Dense o n a ≡ sliced a o n
  dense_is e = rw (same_columns a.fields a.columns) at (sliced_is Dense e)

  pub sparse_is : (cs : List Column) → a.layout ≡ Sparse → cs ≡ map (moved_column Sparse o n) (take a.fields a.columns)
      → relisted (narrowed Sparse o n a) (cs ++ drop a.fields a.columns) ≡ sliced a o n
  sparse_is cs e f = rw f (sliced_is Sparse e)

-- ---- the call

module _ (a : UnionArray) (m : Buffers) (o n : ℕ) where
  pub slice_refused : (r : Refusal) → refusal_number r ≡ asked a m → slice_told (Err r) ≡ slice_of a m o n
  unfolding slice_of slice_checked
  slice_refused r e = rw (← e, then_refused r, if_refused r)

  module _ (e : 0 ≡ asked a m) where
    pub slice_outside : question9 a o n ≡ false → slice_told (Err SliceRange) ≡ slice_of a m o n
    unfolding slice_of slice_checked
    slice_outside f = rw (← e, f)

    pub slice_is : question9 a o n ≡ true → slice_told (Ok (sliced a o n)) ≡ slice_of a m o n
    unfolding slice_of slice_checked
    slice_is f = rw (← e, f)

-- what an accepted array has can be moved
pub movable : (a : UnionArray) (m : Buffers) → Accepted a m → length a.columns ≡ 128
    → length m.ids < 2 ^ 63 → length m.offsets < 2 ^ 61 → length m.values < 2 ^ 60 → length m.masks < 2 ^ 60 → (o : ℕ) → o ≤ a.count → Movable a o
movable a m y full i f v k o l =
    let p = y.ids in
    let q = y.count in
    let w = y.few in
    record {
      few = w;
      start = omega arith;
      offsets = λ d. omega (arith, y.offsets d);
      columns = λ s j b.
          let c : Column = get_or a.columns j no_column in
          let x = column-accepted a m y j b (omega arith) in
          let e = slots_at a m y s j b (omega arith) in
          record {
            short = omega arith;
            values = omega (arith, x.values);
            mask = λ h. omega (arith, mask_part (amounts_of m) c x.mask h);
          };
    }

-- the empty description, of an empty column
pub empty_is : (c : Column) → c ≡ no_column → relisted no_array (replicate 128 c) ≡ no_array
empty_is c e = rw e
