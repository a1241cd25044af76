-- The numbers of C structs, and lists of which only the first entries are in use.
use Rattle.std.specs.Prelude.{Bool, true, cond, ◌&&◌, List, [], ◌∷◌, ℕ, zero, suc, ltb, Result, Ok, Err}
use Rattle.array_columns.specs.declared.Refusal.{Refusal}
use Rattle.array_columns.specs.declared.Refusal.TheVariants.{UnknownNumber}
use Rattle.array_columns.specs.Numbers.{is_kind, is_flag}

-- the numbers of a column name cases
unfoldable pub is_case : ℕ → ℕ → Bool
is_case kind masked = is_kind kind && is_flag masked

-- an entry as it is read, where its numbers name cases, or the refusal of a number that names none
abbrev pub named : {A B : Type 0} → (A → Bool) → (A → B) → A → Result B Refusal
named ok from x = cond (ok x) (Ok (from x)) (Err UnknownNumber)

-- each element passes
abbrev pub each : {A : Type 0} → (A → Bool) → List A → Bool
each p [] = true
each p (x ∷ xs) = p x && each p xs

-- for inner functions: how many of 128 entries are in use
abbrev pub entries_used : ℕ → ℕ
entries_used n = cond (ltb n 128) n 128

-- the first n entries are those of xs by f, the later ones those of rest
unfoldable pub first_by : {A B : Type 0} → ℕ → (A → B) → List A → List B → List B
first_by zero f xs rest = rest
first_by (suc n) f [] rest = rest
first_by (suc n) f (x ∷ xs) [] = []
first_by (suc n) f (x ∷ xs) (y ∷ rest) = f x ∷ first_by n f xs rest
