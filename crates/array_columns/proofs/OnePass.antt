-- Laws of the one pass: what it tells with a column more, and the table of ids seen.
use mathlib.Core.Bool.{Bool, true, false, not, ◌&&◌, ◌||◌}
use mathlib.Core.List.{List, [], ◌∷◌, ◌++◌}
use mathlib.Core.Option.{Option}
use mathlib.Core.Path.{◌≡◌, refl, sym, ap, ap₂, ◌∙◌}
use Prim.Native.Nat.{ℕ, zero, suc, ◌+◌, ◌<◌}
use native.Mathlib.Omega.{arith}
use lib.Dec.{eqb, ltb, leb}
use lib.IntN.{ℤ, pos, negsuc}
use lib.ListN.{get_or, set, length, take, replicate}
use lib.Seq.{get_or-set_same, get_or-set_other}
use borrow.Author.Tests.{ne_eqb, eqb-true, eqb-false, ltb-true}
use Rattle.bitmap.specs.Bits.{same_id}
use Rattle.array_columns.specs.Types.{Layout, Sparse, Dense, Column, Amounts, by_layout, no_column}
use Rattle.array_columns.specs.Slots.{all, column_of, is_some}
use Rattle.array_columns.specs.Questions.{valid_id, distinct, column_in}
use Rattle.array_columns.specs.Pass.{PassAnswer, entry_of, pass_of}
use Rattle.array_columns.proofs.Columns.{take_more, all_more, named_more, distinct_more}

-- ---- the table of ids seen

-- entry k below 128 tells whether a column of the list has the id k
abbrev pub Seen : List Column → List Bool → Type 0
Seen cs seen = (k : ℕ) → k < 128 → get_or seen k false ≡ is_some (column_of cs (pos k))

pub unseen : (n k : ℕ) → get_or (replicate n false) k false ≡ false
unseen zero k = refl
unseen (suc n) zero = refl
unseen (suc n) (suc k) = unseen n k

pub seen_more : (cs : List Column) (c : Column) (seen : List Bool) → entry_of c.id < length seen → Seen cs seen
    → Seen (cs ++ (c ∷ [])) (set seen (entry_of c.id) true)
unfolding same_id
seen_more cs c seen l h k b = by c.id refl
  where
    none_more : (t : Bool) → t || false ≡ t
    none_more true = refl
    none_more false = refl

    last_yes : (t : Bool) → t || true ≡ true
    last_yes true = refl
    last_yes false = refl

    at : (n : ℕ) → n < length seen → (t : Bool) → eqb n k ≡ t → get_or (set seen n true) k false ≡ is_some (column_of cs (pos k)) || t
    at n l true e = rw (last_yes, ← eqb-true n k e) (get_or-set_same seen n true false l)
    at n l false e = rw none_more (get_or-set_other seen n k true false (λ q. eqb-false n k e (sym q)) ∙ h k b)

    by : (z : ℤ) → c.id ≡ z → get_or (set seen (entry_of c.id) true) k false ≡ is_some (column_of (cs ++ (c ∷ [])) (pos k))
    by (pos n) e = rw (named_more cs c (pos k), e) (at n (rw e at l) (eqb n k) refl)
    by (negsuc n) e = rw (named_more cs c (pos k), e) (at 255 (rw e at l) false (ne_eqb 255 k (λ q. omega arith)))

-- what the table tells of a valid id
pub again_is : (cs : List Column) (seen : List Bool) (id : ℤ) → Seen cs seen
    → valid_id id && not (get_or seen (entry_of id) false) ≡ valid_id id && not (is_some (column_of cs id))
again_is cs seen (pos n) h = by (ltb n 128) refl
  where
    by : (t : Bool) → ltb n 128 ≡ t → t && not (get_or seen n false) ≡ t && not (is_some (column_of cs (pos n)))
    by true e = ap not (h n (ltb-true n 128 e))
    by false e = refl
again_is cs seen (negsuc n) h = refl

-- ---- a column more

swap : (a b c d : Bool) → (a && b) && (c && d) ≡ (a && c) && (b && d)
swap true true c d = refl
swap true false true d = refl
swap true false false d = refl
swap false b c d = refl

-- what is asked of each column
pub record Asked : Type 0 where
  pub ids : Bool
  pub parts : Bool
  pub counts : Bool
  pub slots : Bool

abbrev pub asked : PassAnswer → Asked
asked a = record { ids = a.ids; parts = a.parts; counts = a.counts; slots = a.slots }

-- of a list of columns
abbrev pub asked_of : Amounts → Layout → ℕ → List Column → Asked
asked_of lent layout n cs = asked (pass_of lent layout n (pos 0) cs)

-- and of one column more; `again`: one before it has its id
abbrev pub with_one : Amounts → Layout → ℕ → Asked → Bool → Column → Asked
with_one lent layout n a again c = record {
  ids = a.ids && (valid_id c.id && not again);
  parts = a.parts && column_in lent c;
  counts = a.counts && leb c.slots 65536;
  slots = a.slots && by_layout layout (eqb c.slots n) true;
}

module _ (lent : Amounts) (n : ℕ) where
  pub asked_none : (layout : Layout) → record { ids = true; parts = true; counts = true; slots = true } ≡ asked_of lent layout n []
  unfolding pass_of
  asked_none Sparse = refl
  asked_none Dense = refl

  pub asked_more : (layout : Layout) (cs : List Column) (c : Column) (seen : List Bool) (a : Asked) → Seen cs seen → a ≡ asked_of lent layout n cs
      → with_one lent layout n a (get_or seen (entry_of c.id) false) c ≡ asked_of lent layout n (cs ++ (c ∷ []))
  unfolding pass_of
  asked_more layout cs c seen a s e =
      rw (
        e,
        again_is cs seen c.id s,
        all_more (λ c. valid_id c.id) cs c,
        distinct_more cs c,
        all_more (column_in lent) cs c,
        all_more (λ c. leb c.slots 65536) cs c,
        all_more (λ c. eqb c.slots n) cs c,
        swap (all (λ c. valid_id c.id) cs) (distinct cs) (valid_id c.id) (not (is_some (column_of cs c.id))),
        by layout,
      )
    where
      by : (l : Layout) → by_layout l (all (λ c. eqb c.slots n) cs) true && by_layout l (eqb c.slots n) true ≡ by_layout l (all (λ c. eqb c.slots n) cs && eqb c.slots n) true
      by Sparse = refl
      by Dense = refl

-- ---- one turn of the pass

module _ (cs : List Column) (j : ℕ) (l : j < length cs) (seen : List Bool) (s : Seen (take j cs) seen) where
  abbrev col : Column
  col = get_or cs j no_column

  pub seen_turn : (entry : ℕ) → entry ≡ entry_of col.id → entry < length seen → Seen (take (j + 1) cs) (set seen entry true)
  seen_turn entry e b = rw (e, take_more cs j l) (seen_more (take j cs) col seen (rw e at b) s)

  pub asked_turn : (lent : Amounts) (n : ℕ) (layout : Layout) (a b : Asked) → a ≡ asked_of lent layout n (take j cs)
      → b ≡ with_one lent layout n a (get_or seen (entry_of col.id) false) col → b ≡ asked_of lent layout n (take (j + 1) cs)
  asked_turn lent n layout a b e f = f ∙ rw (take_more cs j l) (asked_more lent n layout (take j cs) col seen a s e)

-- ---- the end of the pass

pub pass_is : (lent : Amounts) (layout : Layout) (n : ℕ) (id : ℤ) (cs : List Column) (a : PassAnswer) → asked a ≡ asked_of lent layout n cs
    → a.column ≡ column_of cs id → a ≡ pass_of lent layout n id cs
unfolding pass_of
pass_is lent layout n id cs a e f =
    ap₂ (λ (x : Asked) (o : Option Column). record { ids = x.ids; parts = x.parts; counts = x.counts; slots = x.slots; column = o }) e f
