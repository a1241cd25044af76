-- The fields that are taken up: one more in the loop that collects their places, what holds of each, and that their columns are those
-- of the strategy. Assumes nothing.
use mathlib.Core.Path.{◌≡◌, refl, sym, ap, ap₂, ◌∙◌, subst}
use mathlib.Core.Bool.{Bool, true, false, cond}
use mathlib.Core.List.{List, [], ◌∷◌, ◌++◌, map}
use Prim.Native.Nat.{ℕ, zero, suc, ◌+◌, ◌≤◌, ◌<◌, suc-le-suc}
use native.Mathlib.Nat.{not-suc-le-zero, le_of_suc-le-suc, zero-lt-suc}
use native.Mathlib.Numerals.{add-one}
use native.Mathlib.Omega.{arith}
use lib.ListN.{get_or, take, length, length-map}
use lib.Seq.{take-suc, length-take-le}
use Rattle.std.proofs.lemmas.List.{get_or-map}
use Rattle.array_columns.specs.declared.Column.{Column}
use Rattle.array_columns.specs.Types.{no_column}
use Rattle.array_columns.specs.Buffers.{Buffers}
use Rattle.array_columns.specs.Questions.{valid_id}
use Rattle.null_strategy.specs.declared.State.{State}
use Rattle.null_strategy.specs.declared.State.TheVariants.{NoNull}
use Rattle.null_strategy.specs.Fields.{state_of}
use Rattle.mask_words.specs.Steps.{Taken, All, takes, taken_of, columns_at, taken_places, Held, ValidIds, TakenNamed, TakenReady}

-- ---- the places

-- the column at the place that a list of places has
module _ (cs : List Column) (places : List ℕ) (q : ℕ) (h : q < length places) where
  pub at_place : get_or (columns_at cs places) q no_column ≡ get_or cs (get_or places q 0) no_column
  at_place = get_or-map (λ p. get_or cs p no_column) places q 0 no_column h

  pub valid_at : ValidIds (columns_at cs places) → valid_id (get_or cs (get_or places q 0) no_column).id ≡ true
  valid_at valid = subst (λ (c : Column). valid_id c.id ≡ true) at_place (valid q (omega (arith, length-map places (λ p. get_or cs p no_column))))

module _ (over : Taken) where
  places_snoc : (k : ℕ) (l : List State) (f : State) → taken_places over k (l ++ f ∷ []) ≡ taken_places over k l ++ cond (takes over f) ((k + length l) ∷ []) []
  unfolding taken_places
  places_snoc k [] f = let z : k + 0 ≡ k = omega arith in ap (λ (n : ℕ). cond (takes over f) (n ∷ []) []) (sym z)
  places_snoc k (x ∷ l) f =
      let z : suc k + length l ≡ k + suc (length l) = omega arith in
      at (takes over x) (places_snoc (suc k) l f ∙ ap (λ (n : ℕ). taken_places over (suc k) l ++ cond (takes over f) (n ∷ []) []) z)
    where
      at : (b : Bool) → taken_places over (suc k) (l ++ f ∷ []) ≡ taken_places over (suc k) l ++ cond (takes over f) ((k + suc (length l)) ∷ []) []
          → cond b (k ∷ taken_places over (suc k) (l ++ f ∷ [])) (taken_places over (suc k) (l ++ f ∷ []))
          ≡ cond b (k ∷ taken_places over (suc k) l) (taken_places over (suc k) l) ++ cond (takes over f) ((k + suc (length l)) ∷ []) []
      at true e = ap (λ (r : List ℕ). k ∷ r) e
      at false e = e

  -- one more state of a list
  pub places_more : (l : List State) (q : ℕ) (b : Bool) → q < length l → b ≡ takes over (get_or l q NoNull)
      → taken_places over 0 (take q l) ++ cond b (q ∷ []) [] ≡ taken_places over 0 (take (q + 1) l)
  places_more l q b h e =
      let z : q ≡ 0 + length (take q l) = omega (arith, length-take-le q l (omega arith)) in
      ap₂ (λ (c : Bool) (n : ℕ). taken_places over 0 (take q l) ++ cond c (n ∷ []) []) e z ∙ sym (places_snoc 0 (take q l) (get_or l q NoNull))
      ∙ sym (ap (λ (n : ℕ). taken_places over 0 (take n l)) (add-one q) ∙ ap (taken_places over 0) (take-suc l q NoNull h))

  -- each is the place of a state of the list
  places_each : (P : ℕ → Type 0) (k : ℕ) (l : List State) → ((i : ℕ) → i < length l → P (k + i))
      → (q : ℕ) → q < length (taken_places over k l) → P (get_or (taken_places over k l) q 0)
  unfolding taken_places
  places_each P k [] h = λ q b. absurd (not-suc-le-zero b)
  places_each P k (f ∷ l) h = at (takes over f) (places_each P (suc k) l (λ i b. let z : k + suc i ≡ suc k + i = omega arith in subst P z (h (suc i) (suc-le-suc b))))
    where
      at : (t : Bool) → ((q : ℕ) → q < length (taken_places over (suc k) l) → P (get_or (taken_places over (suc k) l) q 0))
          → (q : ℕ) → q < length (cond t (k ∷ taken_places over (suc k) l) (taken_places over (suc k) l)) → P (get_or (cond t (k ∷ taken_places over (suc k) l) (taken_places over (suc k) l)) q 0)
      at true r zero b = let z : k + 0 ≡ k = omega arith in subst P z (h 0 (zero-lt-suc (length l)))
      at true r (suc q) b = r q (le_of_suc-le-suc b)
      at false r q b = r q b

  -- the columns there are those that are taken up
  places_are : (words : Buffers) (f : ℕ → Column) (k : ℕ) (cs : List Column) → ((i : ℕ) → i < length cs → f (k + i) ≡ get_or cs i no_column)
      → map f (taken_places over k (map (state_of words) cs)) ≡ taken_of over words cs
  unfolding taken_places taken_of
  places_are words f k [] h = refl
  places_are words f k (c ∷ cs) h =
      let z : k + 0 ≡ k = omega arith in
      at (takes over (state_of words c)) (ap f (sym z) ∙ h 0 (zero-lt-suc (length cs)))
      (places_are words f (suc k) cs (λ i b. let s : suc k + i ≡ k + suc i = omega arith in ap f s ∙ h (suc i) (suc-le-suc b)))
    where
      at : (b : Bool) → f k ≡ c → map f (taken_places over (suc k) (map (state_of words) cs)) ≡ taken_of over words cs
          → map f (cond b (k ∷ taken_places over (suc k) (map (state_of words) cs)) (taken_places over (suc k) (map (state_of words) cs)))
          ≡ cond b (c ∷ taken_of over words cs) (taken_of over words cs)
      at true e r = ap₂ (λ (x : Column) (l : List Column). x ∷ l) e r
      at false e r = r

places_all : (k : ℕ) (l : List State) → length (taken_places All k l) ≡ length l
unfolding taken_places
places_all k [] = refl
places_all k (f ∷ l) = ap suc (places_all (suc k) l)

-- ---- what the steps need of what is taken up

module _ (over : Taken) (l : List State) (places : List ℕ) (k : places ≡ taken_places over 0 l) where
  -- what holds of each state's place holds of those taken up
  each : (P : ℕ → Type 0) → ((i : ℕ) → i < length l → P i) → (q : ℕ) → q < length places → P (get_or places q 0)
  each P h =
      subst (λ (m : List ℕ). (q : ℕ) → q < length m → P (get_or m q 0)) (sym k)
      (places_each over P 0 l (λ i b. let z : i ≡ 0 + i = omega arith in subst P z (h i b)))

  module _ (cs : List Column) where
    -- and so of each column
    each_column : (P : Column → Type 0) → ((i : ℕ) → i < length l → P (get_or cs i no_column)) → (q : ℕ) → q < length places → P (get_or (columns_at cs places) q no_column)
    each_column P h q b = subst P (sym (at_place cs places q b)) (each (λ p. P (get_or cs p no_column)) h q b)

    -- if the states are those of the first columns, and these have valid ids
    pub named_by : length l ≤ length cs → ((i : ℕ) → i < length l → valid_id (get_or cs i no_column).id ≡ true) → TakenNamed cs places
    named_by few valid = record {
      placed = each (λ p. p < length cs) (λ i b. omega arith);
      valid = λ q b. each_column (λ c. valid_id c.id ≡ true) valid q (omega (arith, length-map places (λ p. get_or cs p no_column)));
    }

-- of a list of columns by their states
module _ (over : Taken) (cs : List Column) (words : Buffers) (places : List ℕ) (k : places ≡ taken_places over 0 (map (state_of words) cs)) where
  pub columns_taken : columns_at cs places ≡ taken_of over words cs
  columns_taken = ap (columns_at cs) k ∙ places_are over words (λ p. get_or cs p no_column) 0 cs (λ i b. let z : 0 + i ≡ i = omega arith in ap (λ (p : ℕ). get_or cs p no_column) z)

  below : (i : ℕ) → i < length (map (state_of words) cs) → i < length cs
  below i b = omega (arith, length-map cs (state_of words))

  pub taken_named : ValidIds cs → TakenNamed cs places
  taken_named valid = named_by over (map (state_of words) cs) places k cs (omega (arith, length-map cs (state_of words))) (λ i b. valid i (below i b))

  pub taken_ready : (len : ℕ) → ValidIds cs → ((q : ℕ) → q < length cs → Held words len (get_or cs q no_column)) → TakenReady cs places words len
  taken_ready len valid held =
      record { taken = taken_named valid; held = each_column over (map (state_of words) cs) places k cs (Held words len) (λ i b. held i (below i b)) }

  -- SkipOne has a field
  pub taken_some : over ≡ All → 1 ≤ length cs → 1 ≤ length places
  taken_some e h =
      omega (arith, ap length k, ap (λ (o : Taken). length (taken_places o 0 (map (state_of words) cs))) e, places_all 0 (map (state_of words) cs), length-map cs (state_of words))
