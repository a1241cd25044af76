-- A part of a list, as the code takes it: `&xs[s..s + n]`. Assumes nothing.
use Rattle.std.proofs.Common.{◌≡◌, refl, ap, ◌∙◌, ℕ, zero, suc, ◌+◌, ◌-◌, ◌<◌, ◌≤◌, List, [], ◌∷◌, length, get_or, take, drop, ℤ, pos, arith, w8, to_z, of_z}
use lib.Signed.{mag}
use Rattle.std.proofs.lemmas.List.{get_or-drop, get_or-take, length-take, length-drop, length-take-le}
use Rattle.bitmap.specs.Lists.{table}
use Rattle.bitmap.proofs.Tables.{table_ext}
use Rattle.array_slots.specs.Types.{Head}
use Rattle.array_slots.specs.Slots.{id_at}
use Rattle.array_columns.proofs.Signed.{id_read}

abbrev pub part : ℕ → ℕ → List ℤ → List ℤ
part s n xs = take (s + n - s) (drop s xs)

pub part_is : (s n : ℕ) (xs : List ℤ) → part s n xs ≡ take n (drop s xs)
part_is s n xs = let e : s + n - s ≡ n = omega arith in rw e

pub part_length : (s n : ℕ) (xs : List ℤ) → s + n ≤ length xs → length (part s n xs) ≡ n
part_length s n xs h = let e : s + n - s ≡ n = omega arith in length-take-le (s + n - s) (drop s xs) (rw length-drop (omega arith)) ∙ e

pub part_at : (s n k : ℕ) (xs : List ℤ) → k < length (part s n xs) → get_or (part s n xs) k (pos 0) ≡ get_or xs (s + k) (pos 0)
part_at s n k xs h =
    let l = length-take (s + n - s) (drop s xs) in
    get_or-take (s + n - s) (drop s xs) k (pos 0) (omega arith) ∙ get_or-drop s xs k (pos 0)

pub part_few : (s n k : ℕ) (xs : List ℤ) → k < length (part s n xs) → k < n
part_few s n k xs h = let l = length-take (s + n - s) (drop s xs) in omega arith

taken : (n : ℕ) (xs : List ℤ) → n ≤ length xs → take n xs ≡ table n (λ k. get_or xs k (pos 0))
taken zero xs h = refl
taken (suc n) [] h = absurd (omega arith)
taken (suc n) (x ∷ xs) h = ap (λ (l : List ℤ). x ∷ l) (taken n xs (omega arith))

pub part_table : (s n : ℕ) (xs : List ℤ) → s + n ≤ length xs → part s n xs ≡ table n (λ k. get_or xs (s + k) (pos 0))
part_table s n xs h =
    part_is s n xs ∙ taken n (drop s xs) (rw length-drop (omega arith)) ∙ table_ext n _ (λ k. get_or xs (s + k) (pos 0)) (λ k l. get_or-drop s xs k (pos 0))

-- the type id of slot k of a run, and as the code passes it on
abbrev pub own_id : Head → List ℤ → ℕ → ℕ → ℕ → ℤ
own_id h ids first n k = get_or (part (h.start + first) n ids) k (pos 0)

abbrev pub passed_id : Head → List ℤ → ℕ → ℕ → ℕ → ℤ
passed_id h ids first n k = to_z w8 (of_z w8 (own_id h ids first n k))

pub id_is : (h : Head) (ids : List ℤ) (first n k : ℕ) → k < length (part (h.start + first) n ids) → mag (own_id h ids first n k) < 128
    → passed_id h ids first n k ≡ id_at h ids (first + k)
id_is h ids first n k low byte =
    let e : h.start + first + k ≡ h.start + (first + k) = omega arith in
    id_read (own_id h ids first n k) byte ∙ part_at (h.start + first) n k ids low ∙ rw e
