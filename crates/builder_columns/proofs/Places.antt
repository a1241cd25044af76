-- A name is looked for among the columns in use. Assumes nothing.
use mathlib.Core.Path.{◌≡◌, refl, sym, ap, ◌∙◌}
use mathlib.Core.Bool.{true}
use mathlib.Core.Option.{Option, none, some}
use mathlib.Core.List.{List}
use Prim.Native.Nat.{ℕ, ◌<◌, ◌≤◌}
use native.Mathlib.Omega.{arith}
use lib.ListN.{length, take}
use lib.Seq.{length-take-le, get_or-take}
use Rattle.bitmap.specs.Lists.{first_of}
use Rattle.bitmap.proofs.Firsts.{first_ext, first_here, first_lt}
use Rattle.builder_columns.specs.Columns.{BuilderColumn, no_builder_column, nth_column, has_name, goes_by}
use Rattle.builder_columns.specs.Finding.{found_at, found_in, Searchable}

-- the first column that has the name
pub found_first : (cs : List BuilderColumn) (names name : List ℕ) (k : ℕ) → k < length cs → first_of k (has_name cs names name) ≡ none
    → has_name cs names name k ≡ true → found_at k (nth_column cs k) ≡ found_in cs (first_of (length cs) (has_name cs names name))
found_first cs names name k h e t = sym (ap (found_in cs) (first_here (length cs) (has_name cs names name) k h e t))

module _ (cs : List BuilderColumn) (n : ℕ) (few : n ≤ length cs) where
  front_at : (k : ℕ) → k < n → nth_column (take n cs) k ≡ nth_column cs k
  front_at k h = get_or-take n cs k no_builder_column h

  found_front : (at : Option ℕ) → ((k : ℕ) → at ≡ some k → k < n) → found_in (take n cs) at ≡ found_in cs at
  found_front none h = refl
  found_front (some k) h = ap (found_at k) (front_at k (h k refl))

  -- the columns in use have the same first
  pub found_take : (names name : List ℕ)
      → found_in (take n cs) (first_of (length (take n cs)) (has_name (take n cs) names name)) ≡ found_in cs (first_of n (has_name cs names name))
  found_take names name =
      let p = has_name cs names name in
      let same : first_of (length (take n cs)) (has_name (take n cs) names name) ≡ first_of n p =
      ap (λ (k : ℕ). first_of k (has_name (take n cs) names name)) (length-take-le n cs few)
      ∙ first_ext n (has_name (take n cs) names name) p (λ k h. ap (λ (c : BuilderColumn). goes_by names k c name) (front_at k h)) in
      ap (found_in (take n cs)) same ∙ found_front (first_of n p) (first_lt n p)

  pub searchable_take : (bytes : ℕ) → Searchable cs n bytes → Searchable (take n cs) (length (take n cs)) bytes
  searchable_take bytes s =
      let l = length-take-le n cs few in
      record { few = rw l s.few; sizes = λ k h. rw (front_at k (omega (arith, l))) (s.sizes k (omega (arith, l))); names = rw l s.names }
