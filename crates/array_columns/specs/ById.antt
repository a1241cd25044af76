-- A table with an entry for each type id: 256 of them, and an id below 0 has the last.
use Rattle.std.specs.Prelude.{List, [], ◌∷◌, ◌≡◌, ℕ, suc, set, replicate}
use Rattle.array_columns.specs.Types.{Column}
use Rattle.array_columns.specs.Pass.{entry_of}

-- v of each column and of its place, counted from k on, at the entry of the column's id; of equal ids the first counts, and an entry of no column is `rest`
unfoldable pub by_id : ℕ → (ℕ → Column → ℕ) → ℕ → List Column → List ℕ
by_id rest v k [] = replicate 256 rest
by_id rest v k (c ∷ cs) = set (by_id rest v (suc k) cs) (entry_of c.id) (v k c)

-- the same of any values, each of which meets R at its column's place
abbrev pub IsById : {A : Type 0} → (ℕ → A → Type 0) → A → ℕ → List Column → List A → Type 0
IsById R rest k [] t = t ≡ replicate 256 rest
IsById {A = A} R rest k (c ∷ cs) t = (below : List A) × (v : A) × IsById R rest (suc k) cs below × R k v × (t ≡ set below (entry_of c.id) v)

-- the places of the columns, 128 for no column
abbrev pub place_table : List Column → List ℕ
place_table cs = by_id 128 (λ k c. k) 0 cs

-- the slot counts of the columns, 0 for no column
abbrev pub slot_table : List Column → List ℕ
slot_table cs = by_id 0 (λ k c. c.slots) 0 cs
