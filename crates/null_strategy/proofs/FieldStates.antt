-- What a state says, and the list of states and the counts as the loop of `fields_of` makes them. Assumes nothing.
use mathlib.Core.Path.{◌≡◌, refl, sym, ap, ap₂, ◌∙◌}
use mathlib.Core.Bool.{Bool, true, false, cond, not, ◌&&◌}
use mathlib.Core.List.{List, [], ◌∷◌, ◌++◌, map}
use Prim.Native.Nat.{ℕ, zero, suc, ◌+◌, ◌≤◌, ◌<◌, zero-le}
use native.Mathlib.Nat.{not-suc-le-zero, le_of_suc-le-suc}
use native.Mathlib.Numerals.{add-one}
use native.Mathlib.Omega.{arith}
use borrow.Author.Tests.{eq-eqb, ne_eqb, eqb-true, not-true, not-false}
use lib.Dec.{eqb}
use lib.ListN.{get_or, take, length, replicate, length-replicate}
use lib.Seq.{take-suc}
use mir.Val.{bool_byte}
use Rattle.bitmap.specs.Bits.{digit}
use Rattle.bitmap.specs.Lists.{table, retable}
use Rattle.bitmap.proofs.Words.{digit_lt}
use Rattle.bitmap.proofs.Tables.{retable_none}
use Rattle.bitmap.proofs.OneBit.{byte_digit}
use Rattle.bitmap.proofs.Counts.{count_zero, count_full, fully_null_lem}
use Rattle.array_columns.specs.declared.Column.{Column}
use Rattle.union_array.specs.declared.UnionArray.{UnionArray}
use Rattle.union_array.specs.Types.{no_column}
use Rattle.array_columns.specs.Buffers.{Buffers}
use Rattle.union_array.specs.Slots.{all, present, nulls_in}
use Rattle.null_strategy.specs.Route.{how_many, has_null, fully_null, with_nulls, fully_nulls}
use Rattle.null_strategy.specs.Fields.{Fields, State, NoNull, SomeNull, FullyNull, has_nulls, only_nulls, state_of, state_at, no_states, fields_of}

module _ (m : Buffers) (c : Column) where
  pub state_none : nulls_in c m ≡ 0 → NoNull ≡ state_of m c
  unfolding state_of
  state_none e = rw (eq-eqb (nulls_in c m) 0 e)

  module _ (h : nulls_in c m ≡ 0 → ⊥) where
    pub state_full : fully_null m c ≡ true → FullyNull ≡ state_of m c
    unfolding state_of
    state_full e = rw (ne_eqb (nulls_in c m) 0 h, e)

    pub state_some : fully_null m c ≡ false → SomeNull ≡ state_of m c
    unfolding state_of
    state_some e = rw (ne_eqb (nulls_in c m) 0 h, e)

  -- a fully null child has a null
  full_some : fully_null m c ≡ true → has_null m c ≡ true
  full_some e = let t = fully_null_lem (nulls_in c m) c.slots e in ap not (ne_eqb (nulls_in c m) 0 (λ z. absurd (omega (arith, t.0, t.1, z))))

  some_of : (a b : Bool) → has_nulls (cond a (cond b FullyNull SomeNull) NoNull) ≡ a
  some_of true true = refl
  some_of true false = refl
  some_of false b = refl

  full_of : (a b : Bool) → (b ≡ true → a ≡ true) → only_nulls (cond a (cond b FullyNull SomeNull) NoNull) ≡ b
  full_of true true h = refl
  full_of true false h = refl
  full_of false true h = h refl
  full_of false false h = refl

  pub has_null_lem : has_nulls (state_of m c) ≡ has_null m c
  unfolding state_of
  has_null_lem = some_of (has_null m c) (fully_null m c)

  pub is_full : only_nulls (state_of m c) ≡ fully_null m c
  unfolding state_of
  is_full = full_of (has_null m c) (fully_null m c) full_some

  -- a child without a null is present everywhere, a fully null one nowhere
  module _ (p : ℕ) (h : p < c.slots) where
    pub all-present : has_nulls (state_of m c) ≡ false → present c m p ≡ true
    unfolding nulls_in
    all-present e =
        not-false (present c m p) (count_zero c.slots (λ p. not (present c m p)) (eqb-true (nulls_in c m) 0 (not-false (eqb (nulls_in c m) 0) (sym has_null_lem ∙ e))) p h)

    pub none_present : only_nulls (state_of m c) ≡ true → present c m p ≡ false
    unfolding nulls_in
    none_present e =
        not-true (present c m p) (count_full c.slots (λ p. not (present c m p)) (fully_null_lem (nulls_in c m) c.slots (sym is_full ∙ e)).0 p h)

-- ---- counts of columns, one column at a time

many_snoc : (p : Column → Bool) (cs : List Column) (c : Column) → how_many p (cs ++ c ∷ []) ≡ how_many p cs + digit (p c)
many_snoc p [] c = omega arith
many_snoc p (x ∷ cs) c = ap (λ (n : ℕ). digit (p x) + n) (many_snoc p cs c) ∙ omega arith

pub many_le : (p : Column → Bool) (n : ℕ) (cs : List Column) → how_many p (take n cs) ≤ n
many_le p zero cs = zero-le
many_le p (suc n) [] = zero-le
many_le p (suc n) (c ∷ cs) = omega (arith, digit_lt (p c), many_le p n cs)

-- one more
pub many_more : (p : Column → Bool) (cs : List Column) (q s : ℕ) (b : Bool) → q < length cs → s ≡ how_many p (take q cs) → b ≡ p (get_or cs q no_column)
    → s + bool_byte b ≡ how_many p (take (q + 1) cs)
many_more p cs q s b h es e =
    ap₂ (λ (u v : ℕ). u + v) es (byte_digit b ∙ ap digit e)
    ∙ sym (ap (λ (n : ℕ). how_many p (take n cs)) (add-one q) ∙ ap (how_many p) (take-suc cs q no_column h) ∙ many_snoc p (take q cs) (get_or cs q no_column))

-- every column counts: each passes
pub many_all : (p : Column → Bool) (n : ℕ) (cs : List Column) → how_many p (take n cs) ≡ n → all p (take n cs) ≡ true
many_all p zero cs e = refl
many_all p (suc n) [] e = refl
many_all p (suc n) (c ∷ cs) e = at (p c) refl (many_all p n cs)
  where
    at : (b : Bool) → p c ≡ b → (how_many p (take n cs) ≡ n → all p (take n cs) ≡ true) → (p c && all p (take n cs)) ≡ true
    at true q r = let d : digit (p c) ≡ 1 = ap digit q in rw q (r (omega arith))
    at false q r = let d : digit (p c) ≡ 0 = ap digit q in absurd (omega (arith, many_le p n cs))

-- ---- the states in use are those of the columns in use

table_map : (m : Buffers) (n : ℕ) (cs : List Column) → n ≤ length cs → table n (state_at m cs) ≡ map (state_of m) (take n cs)
table_map m zero cs h = refl
table_map m (suc n) [] h = absurd (not-suc-le-zero h)
table_map m (suc n) (c ∷ cs) h = ap (λ (l : List State). state_of m c ∷ l) (table_map m n cs (le_of_suc-le-suc h))

take_table : (n : ℕ) (f : ℕ → State) (r : List State) → take n (table n f ++ r) ≡ table n f
take_table zero f r = refl
take_table (suc n) f r = ap (λ (l : List State). f 0 ∷ l) (take_table n (λ k. f (suc k)) r)

pub fields_in : (m : Buffers) (n : ℕ) (cs : List Column) → n ≤ length cs → take n (retable n (state_at m cs) no_states) ≡ map (state_of m) (take n cs)
unfolding retable
fields_in m n cs h = take_table n (state_at m cs) _ ∙ table_map m n cs h

-- ---- before the first column, and after the last

pub none_yet : (m : Buffers) (cs : List Column) → replicate 128 NoNull ≡ retable 0 (state_at m cs) no_states
unfolding no_states
none_yet m cs = sym (retable_none (state_at m cs) no_states)

pub states_length : length no_states ≡ 128
unfolding no_states
states_length = length-replicate 128 NoNull

pub byte_le : (b : Bool) → bool_byte b ≤ 1
byte_le true = omega arith
byte_le false = omega arith

pub fields_told : (a : UnionArray) (m : Buffers) (fs : Fields) (q : ℕ) → q ≡ a.fields → fs.count ≡ a.fields → fs.states ≡ retable q (state_at m a.columns) no_states
    → fs.some ≡ how_many (has_null m) (take q a.columns) → fs.full ≡ how_many (fully_null m) (take q a.columns) → fs ≡ fields_of a m
unfolding with_nulls fully_nulls
fields_told a m fs q e n s i j =
    ap₂ (λ (x : List State) (y : ℕ). record { states = x; count = y; some = fs.some; full = fs.full }) (s ∙ ap (λ (q : ℕ). retable q (state_at m a.columns) no_states) e) n
    ∙ ap₂ (λ (x y : ℕ). record { states = retable a.fields (state_at m a.columns) no_states; count = a.fields; some = x; full = y })
    (i ∙ ap (λ (q : ℕ). how_many (has_null m) (take q a.columns)) e) (j ∙ ap (λ (q : ℕ). how_many (fully_null m) (take q a.columns)) e)
