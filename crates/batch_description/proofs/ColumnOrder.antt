-- The columns in order by name are those of the ids in order by name.
-- Assumes nothing.
use mathlib.Core.Path.{◌≡◌, refl, ap, ◌∙◌}
use mathlib.Core.Bool.{Bool, true, false, cond}
use mathlib.Core.List.{List, [], ◌∷◌, map}
use Prim.Native.Nat.{ℕ, zero, suc, ◌<◌}
use native.Mathlib.Nat.{le_refl}
use native.Mathlib.Omega.{arith}
use Rattle.union_names.specs.Names.{name_up_to}
use Rattle.union_names.specs.Order.{insert_id, ordered_ids}
use Rattle.batch_description.specs.Description.{Named, insert, ordered}

module _ (f : ℕ → Named) where
  insert_map : (k : ℕ) (js : List ℕ) → insert (f k) (map f js) ≡ map f (insert_id (λ j. (f j).name) k js)
  insert_map k [] = refl
  insert_map k (j ∷ js) = go (name_up_to (f j).name (f k).name) (insert_map k js)
    where
      go : (t : Bool) → insert (f k) (map f js) ≡ map f (insert_id (λ j. (f j).name) k js)
          → cond t (f j ∷ insert (f k) (map f js)) (f k ∷ f j ∷ map f js) ≡ map f (cond t (j ∷ insert_id (λ j. (f j).name) k js) (k ∷ j ∷ js))
      go true e = ap (λ (l : List Named). f j ∷ l) e
      go false e = refl

  pub ordered_by_id : (n : ℕ) → ordered n f ≡ map f (ordered_ids n (λ j. (f j).name))
  ordered_by_id zero = refl
  ordered_by_id (suc n) = ap (insert (f n)) (ordered_by_id n) ∙ insert_map n (ordered_ids n (λ j. (f j).name))

pub ordered_ext : (n : ℕ) (f g : ℕ → Named) → ((j : ℕ) → j < n → f j ≡ g j) → ordered n f ≡ ordered n g
ordered_ext zero f g h = refl
ordered_ext (suc n) f g h = rw (h n (le_refl (suc n)), ordered_ext n f g (λ j q. h j (omega arith)))
