-- What a lookup reads: a name with zeros after it, a child's slot. Assumes nothing.
use mathlib.Core.Path.{◌≡◌, refl, sym, ap, ◌∙◌}
use mathlib.Core.Bool.{true}
use mathlib.Core.List.{List, [], ◌∷◌, ◌++◌, append_assoc}
use Prim.Native.Nat.{ℕ, zero, suc, ◌+◌, ◌-◌, ◌≤◌, ◌<◌}
use native.Mathlib.Nat.{not-suc-le-zero}
use native.Mathlib.Numerals.{add-one}
use native.Mathlib.Omega.{arith}
use lib.ListN.{length, get_or, set, take, drop, replicate}
use lib.Seq.{take-suc, set_at, length-take-le, take-append-add}
use lib.Dec.{leb}
use borrow.Author.Tests.{leb-true}
use Rattle.std.proofs.lemmas.List.{drop-replicate}
use Rattle.bitmap.proofs.Tables.{both}
use Rattle.array_columns.specs.Types.{Column, Amounts}
use Rattle.array_columns.specs.Buffers.{Buffers, buffers_of, amounts_of}
use Rattle.array_columns.specs.Slots.{present}
use Rattle.array_columns.specs.Questions.{part_in, mask_in, column_in}
use Rattle.array_columns.specs.Lookup.{padded, column_value}

-- ---- a list that is filled from the front

-- one more element of l, before d to the length n
pub fill_more {ℓ} : {A : Type ℓ} (l : List A) (d : A) (n i : ℕ) → i < length l → i < n
    → set (take i l ++ replicate (n - i) d) i (get_or l i d) ≡ take (i + 1) l ++ replicate (n - (i + 1)) d
fill_more l d n i h k =
    let e : n - i ≡ suc (n - (i + 1)) = omega arith in
    rw (e, add-one, take-suc l i d h, set_at (take i l) d (replicate (n - suc i) d) (get_or l i d) i (length-take-le i l (omega arith)), append_assoc)

take_replicate : {A : Type 0} (n m : ℕ) (a : A) → n ≤ m → take n (replicate m a) ≡ replicate n a
take_replicate zero m a h = refl
take_replicate (suc n) zero a h = absurd (not-suc-le-zero h)
take_replicate {A = A} (suc n) (suc m) a h = ap (λ (l : List A). a ∷ l) (take_replicate n m a (omega arith))

-- a name of at most 32 bytes
pub padded_is : (name : List ℕ) → length name ≤ 32 → name ++ replicate (32 - length name) 0 ≡ padded name
unfolding padded
padded_is name h =
    let e : 32 ≡ length name + (32 - length name) = omega arith in
    sym (ap (λ (n : ℕ). take n (name ++ replicate 32 0)) e ∙ take-append-add name (replicate 32 0) (32 - length name)
    ∙ ap (λ (l : List ℕ). name ++ l) (take_replicate (32 - length name) 32 0 (omega arith)))

-- the same, written over the first of 32 zeros
pub padded_over : (name copied : List ℕ) → copied ≡ name → length name ≤ 32 → copied ++ drop (length name) (replicate 32 0) ≡ padded name
padded_over name copied e h = rw (e, drop-replicate {X = ℕ} (length name) 32 0) (padded_is name h)

-- ---- a column whose parts lie in lent memory

pub record Inside (lent : Amounts) (c : Column) : Type 0 where
  pub short : c.size ≤ 32
  pub name : c.name + c.size ≤ lent.names
  pub values : c.values + c.slots ≤ lent.values
  pub mask : mask_in c lent.masks ≡ true

pub inside : (lent : Amounts) (c : Column) → column_in lent c ≡ true → Inside lent c
unfolding column_in
inside lent c h =
    let a = both (leb c.size 32) _ h in
    let b = both (part_in c.name c.size lent.names) _ a.1 in
    let d = both (part_in c.values c.slots lent.values) _ b.1 in
    record {
      short = leb-true c.size 32 a.0;
      name = leb-true (c.name + c.size) lent.names b.0;
      values = leb-true (c.values + c.slots) lent.values d.0;
      mask = d.1;
    }

-- its name, in the names lent
pub name_short : (m : Buffers) (c : Column) → column_in (amounts_of m) c ≡ true → c.size ≤ 32
name_short m c h = (inside (amounts_of m) c h).short

pub name_in : (m : Buffers) (c : Column) → column_in (amounts_of m) c ≡ true → c.name + c.size ≤ length m.names
name_in m c h = (inside (amounts_of m) c h).name

-- ---- a child's slot

-- type ids and offsets do not matter to a child's slot
pub value_parts : (c : Column) (m : Buffers) (p : ℕ) → column_value c (buffers_of [] [] m.values m.masks m.names) p ≡ column_value c m p
unfolding column_value present
value_parts c m p = refl

pub column_parts : (c : Column) (m : Buffers) → column_in (amounts_of (buffers_of [] [] m.values m.masks m.names)) c ≡ column_in (amounts_of m) c
unfolding column_in
column_parts c m = refl
