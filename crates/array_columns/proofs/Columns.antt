-- `all`, `column_of` and `distinct` of a list with one column more, and of one column of a list. Assumes nothing.
use mathlib.Core.Bool.{Bool, true, false, cond, not, ◌&&◌, ◌||◌, false≢true}
use mathlib.Core.Option.{Option, none, some}
use mathlib.Core.List.{List, [], ◌∷◌, ◌++◌}
use mathlib.Core.Path.{◌≡◌, refl, sym, ap, ap₂, ◌∙◌}
use Prim.Native.Nat.{ℕ, zero, suc, ◌+◌, ◌<◌}
use native.Mathlib.Nat.{not-suc-le-zero, le_of_suc-le-suc}
use native.Mathlib.Numerals.{add-one}
use lib.IntN.{ℤ}
use lib.ListN.{length, get_or, take}
use lib.Seq.{take-suc}
use Rattle.std.specs.List.{find}
use Rattle.std.specs.Prelude.{Some, None}
use Rattle.std.specs.Option.{option_map, option_copied}
use denote.Bor.{Bor}
use Rattle.std.specs.declared.option.Option as given
use Rattle.bitmap.specs.Bits.{same_id}
use Rattle.bitmap.proofs.Ids.{same_id_sym, same_id_eq}
use Rattle.bitmap.proofs.Tables.{both}
use Rattle.array_columns.specs.Types.{Column, no_column}
use Rattle.array_columns.specs.Slots.{all, column_of, is_some}
use Rattle.array_columns.specs.Questions.{distinct}
use Rattle.array_columns.specs.Lookup.{or_none}
use Rattle.array_columns.specs.Pass.{column_told}

-- the first of two columns that is there
abbrev pub or_else : Option Column → Option Column → Option Column
or_else none o = o
or_else (some c) o = some c

pub some_else : (o p : Option Column) → is_some (or_else o p) ≡ is_some o || is_some p
some_else none p = refl
some_else (some c) p = refl

and_assoc : (a b c : Bool) → a && (b && c) ≡ (a && b) && c
and_assoc true b c = refl
and_assoc false b c = refl

pub all_more : (p : Column → Bool) (cs : List Column) (c : Column) → all p (cs ++ (c ∷ [])) ≡ all p cs && p c
all_more p [] c = by (p c)
  where
    by : (b : Bool) → b && true ≡ b
    by true = refl
    by false = refl
all_more p (d ∷ cs) c = ap (λ (b : Bool). p d && b) (all_more p cs c) ∙ and_assoc (p d) (all p cs) (p c)

-- what one test says of every column, so does a weaker one
pub all_less : (p q : Column → Bool) (cs : List Column) → ((c : Column) → p c ≡ true → q c ≡ true) → all p cs ≡ true → all q cs ≡ true
all_less p q [] h e = refl
all_less p q (c ∷ cs) h e = let t = both (p c) (all p cs) e in ap₂ ◌&&◌ (h c t.0) (all_less p q cs h t.1)

pub column_more : (cs : List Column) (c : Column) (id : ℤ)
    → column_of (cs ++ (c ∷ [])) id ≡ or_else (column_of cs id) (cond (same_id c.id id) (some c) none)
column_more [] c id = refl
column_more (d ∷ cs) c id = by (same_id d.id id) (column_more cs c id)
  where
    by : (b : Bool) → column_of (cs ++ (c ∷ [])) id ≡ or_else (column_of cs id) (cond (same_id c.id id) (some c) none)
        → cond b (some d) (column_of (cs ++ (c ∷ [])) id) ≡ or_else (cond b (some d) (column_of cs id)) (cond (same_id c.id id) (some c) none)
    by true e = refl
    by false e = e

-- the first that has it, found by the library
pub column_found : (cs : List Column) (id : ℤ) (o : given.Option (Bor Column)) (p : given.Option Column) → p ≡ option_copied o
    → option_map (λ y. y.now) o ≡ find (λ c. same_id c.id id) cs → column_told p ≡ column_of cs id
column_found cs id o p f e = ap column_told (f ∙ copied o ∙ e) ∙ by cs
  where
    copied : (o : given.Option (Bor Column)) → option_copied o ≡ option_map (λ y. y.now) o
    copied None = refl
    copied (Some y) = refl

    told : (b : Bool) (c : Column) (o : given.Option Column) (p : Option Column) → column_told o ≡ p → column_told (cond b (Some c) o) ≡ cond b (some c) p
    told true c o p e = refl
    told false c o p e = e

    by : (cs : List Column) → column_told (find (λ c. same_id c.id id) cs) ≡ column_of cs id
    by [] = refl
    by (c ∷ cs) = told (same_id c.id id) c (find (λ c. same_id c.id id) cs) (column_of cs id) (by cs)

is_some_cond : (b : Bool) (c : Column) → is_some (cond b (some c) none) ≡ b
is_some_cond true c = refl
is_some_cond false c = refl

cond_is_some : (b : Bool) (c : Column) (o : Option Column) → is_some (cond b (some c) o) ≡ b || is_some o
cond_is_some true c o = refl
cond_is_some false c o = refl

pub named_more : (cs : List Column) (c : Column) (id : ℤ)
    → is_some (column_of (cs ++ (c ∷ [])) id) ≡ is_some (column_of cs id) || same_id c.id id
named_more cs c id =
    ap is_some (column_more cs c id)
    ∙ some_else (column_of cs id) (cond (same_id c.id id) (some c) none)
    ∙ ap (λ (b : Bool). is_some (column_of cs id) || b) (is_some_cond (same_id c.id id) c)

-- a: an earlier column has d's id, s: c has d's id, b: the ids are distinct, e: an earlier column has c's id
order : (a s b e : Bool) → not (a || s) && (b && not e) ≡ (not a && b) && not (s || e)
order true s b e = refl
order false true true e = refl
order false true false e = refl
order false false b e = refl

pub distinct_more : (cs : List Column) (c : Column) → distinct (cs ++ (c ∷ [])) ≡ distinct cs && not (is_some (column_of cs c.id))
distinct_more [] c = refl
distinct_more (d ∷ cs) c =
    rw (
      named_more cs c d.id,
      distinct_more cs c,
      cond_is_some (same_id d.id c.id) d (column_of cs c.id),
      same_id_sym d.id c.id,
    )
    (order (is_some (column_of cs d.id)) (same_id c.id d.id) (distinct cs) (is_some (column_of cs c.id)))

-- ---- one column of a list

pub all_at : (p : Column → Bool) (n : ℕ) (cs : List Column) (j : ℕ) → all p (take n cs) ≡ true → j < n → j < length cs
    → p (get_or cs j no_column) ≡ true
all_at p zero cs j h l k = absurd (not-suc-le-zero l)
all_at p (suc n) [] j h l k = absurd (not-suc-le-zero k)
all_at p (suc n) (c ∷ cs) zero h l k = (both (p c) (all p (take n cs)) h).0
all_at p (suc n) (c ∷ cs) (suc j) h l k =
    all_at p n cs j (both (p c) (all p (take n cs)) h).1 (le_of_suc-le-suc l) (le_of_suc-le-suc k)

-- the column that has an id is one of the list
pub all_found : (p : Column → Bool) (cs : List Column) (id : ℤ) (c : Column) → all p cs ≡ true → column_of cs id ≡ some c → p c ≡ true
all_found p [] id c h e = absurd (false≢true (ap is_some e))
all_found p (d ∷ cs) id c h e = by (same_id d.id id) (all_found p cs id c (both (p d) (all p cs) h).1) e
  where
    by : (b : Bool) → (column_of cs id ≡ some c → p c ≡ true) → cond b (some d) (column_of cs id) ≡ some c → p c ≡ true
    by true f e = rw (ap or_none e) at (both (p d) (all p cs) h).0
    by false f e = f e

-- and has that id
pub found_id : (cs : List Column) (id : ℤ) (c : Column) → column_of cs id ≡ some c → c.id ≡ id
found_id [] id c e = absurd (false≢true (ap is_some e))
found_id (d ∷ cs) id c e = by (same_id d.id id) refl (found_id cs id c) e
  where
    by : (b : Bool) → same_id d.id id ≡ b → (column_of cs id ≡ some c → c.id ≡ id) → cond b (some d) (column_of cs id) ≡ some c → c.id ≡ id
    by true s f e = sym (ap (λ (o : Option Column). (or_none o).id) e) ∙ same_id_eq d.id id s
    by false s f e = f e

-- ---- a search for an id

pub take_more : (cs : List Column) (j : ℕ) → j < length cs → take (j + 1) cs ≡ take j cs ++ (get_or cs j no_column ∷ [])
take_more cs j h = rw add-one (take-suc cs j no_column h)

-- no column passed has it
pub unnamed_turn : (cs : List Column) (id : ℤ) (j : ℕ) → j < length cs → is_some (column_of (take j cs) id) ≡ false → same_id (get_or cs j no_column).id id ≡ false
    → is_some (column_of (take (j + 1) cs) id) ≡ false
unnamed_turn cs id j l h e = rw (take_more cs j l, named_more (take j cs) (get_or cs j no_column) id, h, e)

-- a column has it
pub named_at_lem : (n : ℕ) (cs : List Column) (id : ℤ) (j : ℕ) → j < n → j < length cs → same_id (get_or cs j no_column).id id ≡ true
    → is_some (column_of (take n cs) id) ≡ true
named_at_lem zero cs id j l k e = absurd (not-suc-le-zero l)
named_at_lem (suc n) [] id j l k e = absurd (not-suc-le-zero k)
named_at_lem (suc n) (c ∷ cs) id zero l k e = rw e
named_at_lem (suc n) (c ∷ cs) id (suc j) l k e =
    cond_is_some (same_id c.id id) c (column_of (take n cs) id)
    ∙ rw (named_at_lem n cs id j (le_of_suc-le-suc l) (le_of_suc-le-suc k) e) (by (same_id c.id id))
  where
    by : (b : Bool) → b || true ≡ true
    by true = refl
    by false = refl
