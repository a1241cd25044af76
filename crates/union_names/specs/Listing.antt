-- The ids that are listed so far.
use Rattle.std.specs.Prelude.{◌≡◌, List, ℕ, ◌≤◌, length, take}
use Rattle.union_names.specs.Order.{name_by, ordered_ids}

-- the first n ids are in order by name
pub record Listed (names sizes order : List ℕ) (n : ℕ) : Type 0 where
  pub room : n ≤ length order
  pub ids : take n order ≡ ordered_ids n (name_by names sizes)
