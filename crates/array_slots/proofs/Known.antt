-- The table of type ids that are known to name a column. Assumes nothing.
use Rattle.std.proofs.Common.{Bool, true, false, List, ◌≡◌, refl, sym, ◌∙◌, ℕ, ◌<◌, arith, ℤ, pos, negsuc, length, get_or, set, replicate}
use mathlib.Core.Bool.{false≢true}
use lib.Dec.{eqb}
use lib.ListN.{length-set}
use lib.Seq.{get_or-set_other}
use borrow.Author.Tests.{ltb-true, eqb-true, eqb-false}
use Rattle.bitmap.specs.Bits.{same_id}
use Rattle.array_slots.specs.Types.{Column, no_column}
use Rattle.array_columns.specs.Slots.{all, column_of, is_some}
use Rattle.array_columns.specs.Questions.{valid_id}
use Rattle.array_columns.specs.Pass.{entry_of}
use Rattle.std.proofs.Math.Seq.{take-length}
use Rattle.bitmap.proofs.Ids.{same_id_eq}
use Rattle.array_columns.proofs.OnePass.{unseen}
use Rattle.array_columns.proofs.Columns.{all_at, named_at_lem}

-- an entry that is set is the id of one of the columns
abbrev pub Known : List Column → List Bool → Type 0
Known cs known = (length known ≡ 256) × ((k : ℕ) → get_or known k false ≡ true → (k < 128) × (is_some (column_of cs (pos k)) ≡ true))

pub known_none : (cs : List Column) → Known cs (replicate 256 false)
known_none cs = (refl, λ k e. absurd (false≢true (sym (unseen 256 k) ∙ e)))

pub known_is : (cs : List Column) (known : List Bool) (id : ℤ) → Known cs known → get_or known (entry_of id) false ≡ true → is_some (column_of cs id) ≡ true
known_is cs known (pos n) h e = (h.1 n e).1
known_is cs known (negsuc n) h e = let l = (h.1 255 e).0 in absurd (omega arith)

pub known_more : (cs : List Column) (known : List Bool) (id : ℤ) → valid_id id ≡ true → is_some (column_of cs id) ≡ true → Known cs known
    → Known cs (set known (entry_of id) true)
known_more cs known (negsuc n) v s h = absurd (false≢true v)
known_more cs known (pos n) v s h = (length-set known n true ∙ h.0, λ k e. by k (eqb n k) refl e)
  where
    by : (k : ℕ) (b : Bool) → eqb n k ≡ b → get_or (set known n true) k false ≡ true → (k < 128) × (is_some (column_of cs (pos k)) ≡ true)
    by k true q e = let p = eqb-true n k q in (rw p at (ltb-true n 128 v), rw p at s)
    by k false q e = h.1 k (sym (get_or-set_other known n k true false (λ p. eqb-false n k q (sym p))) ∙ e)

-- column j has the id, so the id is valid, and that of a column
pub named_by : (cs : List Column) (id : ℤ) (j : ℕ) → all (λ c. valid_id c.id) cs ≡ true → j < length cs → same_id (get_or cs j no_column).id id ≡ true
    → (valid_id id ≡ true) × (is_some (column_of cs id) ≡ true)
named_by cs id j v l e =
    let t = take-length cs in
    let valid = all_at (λ c. valid_id c.id) (length cs) cs j (rw t v) l l in
    (rw (same_id_eq (get_or cs j no_column).id id e) at valid, rw t at (named_at_lem (length cs) cs id j l l e))
