-- Dense, the slot counts of all columns sum to the length. Assumes nothing.
use mathlib.Core.Bool.{Bool, cond, false, true}
use mathlib.Core.List.{List, [], ◌∷◌}
use mathlib.Core.Path.{◌∙◌, ◌≡◌, ap, refl}
use Prim.Native.Nat.{◌+◌, ◌<◌, ◌≤◌, suc, suc-le-suc, zero, zero-le, ℕ}
use native.Mathlib.Omega.{arith}
use lib.Dec.{eqb}
use lib.ListN.{get_or, length}
use borrow.Author.Tests.{eqb-false, eqb-true}
use Rattle.union_names.specs.Names.{name_up_to}
use Rattle.batch_description.specs.Description.{Named, insert, ordered}
use Rattle.union_history.specs.Claim.{count_of, slot_sum}
use Rattle.union_history.specs.Log.{Entry, no_entry}
use Rattle.union_history.proofs.Order.{columns_of}

-- g 0 + g 1 + .. + g (n - 1)
abbrev total : ℕ → (ℕ → ℕ) → ℕ
total zero g = 0
total (suc n) g = g n + total n g

sum_insert : (c : Named) (ds : List Named) → slot_sum (columns_of (insert c ds)) ≡ c.column.slots + slot_sum (columns_of ds)
sum_insert c [] = refl
sum_insert c (d ∷ ds) = go (name_up_to d.name c.name) (sum_insert c ds)
  where
    go : (t : Bool) → slot_sum (columns_of (insert c ds)) ≡ c.column.slots + slot_sum (columns_of ds)
        → slot_sum (columns_of (cond t (d ∷ insert c ds) (c ∷ d ∷ ds))) ≡ c.column.slots + (d.column.slots + slot_sum (columns_of ds))
    go true ih = omega arith
    go false ih = refl

sum_ordered : (n : ℕ) (f : ℕ → Named) → slot_sum (columns_of (ordered n f)) ≡ total n (λ k. (f k).column.slots)
sum_ordered zero f = refl
sum_ordered (suc n) f = sum_insert (f n) (ordered n f) ∙ ap (λ (x : ℕ). (f n).column.slots + x) (sum_ordered n f)

-- one more at place i
more : ℕ → (ℕ → ℕ) → ℕ → ℕ
more i g k = cond (eqb i k) (suc (g k)) (g k)

total_past : (i : ℕ) (g : ℕ → ℕ) (n : ℕ) → n ≤ i → total n (more i g) ≡ total n g
unfolding more
total_past i g zero h = refl
total_past i g (suc n) h = go (eqb i n) refl (total_past i g n (omega arith))
  where
    go : (b : Bool) → eqb i n ≡ b → total n (more i g) ≡ total n g → cond b (suc (g n)) (g n) + total n (more i g) ≡ g n + total n g
    go true e ih = absurd (let z = eqb-true i n e in omega arith)
    go false e ih = omega arith

total_more : (i : ℕ) (g : ℕ → ℕ) (n : ℕ) → i < n → total n (more i g) ≡ suc (total n g)
unfolding more
total_more i g zero h = omega arith
total_more i g (suc n) h = go (eqb i n) refl (λ l. total_more i g n l)
  where
    go : (b : Bool) → eqb i n ≡ b → (i < n → total n (more i g) ≡ suc (total n g)) → cond b (suc (g n)) (g n) + total n (more i g) ≡ suc (g n + total n g)
    go true e ih = let z = eqb-true i n e in let p = total_past i g n (omega arith) in omega arith
    go false e ih = let z = eqb-false i n e in let p = ih (omega arith) in omega arith

total_none : (n : ℕ) → total n (λ k. 0) ≡ 0
total_none zero = refl
total_none (suc n) = let ih = total_none n in omega arith

-- each entry is one of a column's
entries_sum : (n : ℕ) (es : List Entry) → ((i : ℕ) → i < length es → (get_or es i no_entry).id < n) → total n (λ k. count_of k es) ≡ length es
unfolding more
entries_sum n [] h = total_none n
entries_sum n (e ∷ es) h =
    total_more e.id (λ k. count_of k es) n (h zero (suc-le-suc zero-le)) ∙ ap suc (entries_sum n es (λ i q. h (suc i) (suc-le-suc q)))

pub slots_sum : (n : ℕ) (f : ℕ → Named) (es : List Entry) → ((k : ℕ) → (f k).column.slots ≡ count_of k es) → ((i : ℕ) → i < length es → (get_or es i no_entry).id < n)
    → slot_sum (columns_of (ordered n f)) ≡ length es
slots_sum n f es own ids = sum_ordered n f ∙ same n ∙ entries_sum n es ids
  where
    same : (k : ℕ) → total k (λ j. (f j).column.slots) ≡ total k (λ j. count_of j es)
    same zero = refl
    same (suc k) = rw (own k, same k)
