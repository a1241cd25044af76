-- With distinct ids the child of the slot's id decides, so each strategy's bit of a slot is the null mask's. Assumes nothing.
use mathlib.Core.Path.{◌≡◌, refl, sym, ap, ap₂, ◌∙◌, subst}
use mathlib.Core.Bool.{Bool, true, false, cond, not, ◌&&◌, ◌||◌, false≢true}
use mathlib.Core.List.{List, [], ◌∷◌}
use mathlib.Core.Option.{Option, some}
use Prim.Native.Nat.{ℕ, ◌+◌, ◌-◌, ◌≤◌, ◌<◌}
use native.Mathlib.Omega.{arith}
use borrow.Author.Tests.{not-false}
use lib.IntN.{ℤ, pos, nat_abs}
use lib.ListN.{get_or, take, drop, length, length-drop}
use lib.Seq.{take_all, length-take-le, get_or-take, get_or-drop}
use Rattle.bitmap.specs.Bits.{same_id}
use Rattle.bitmap.proofs.Words.{or_false}
use Rattle.bitmap.proofs.Ids.{same_id_eq, same_id_sym}
use Rattle.bitmap.proofs.Counts.{not_not}
use Rattle.bitmap.proofs.Tables.{both}
use Rattle.array_columns.specs.declared.Column.{Column}
use Rattle.array_columns.specs.declared.Layout.{Layout}
use Rattle.array_columns.specs.declared.Layout.TheVariants.{Sparse}
use Rattle.union_array.specs.declared.UnionArray.{UnionArray}
use Rattle.union_array.specs.Types.{no_column, by_layout}
use Rattle.array_columns.specs.Buffers.{Buffers}
use Rattle.union_array.specs.Slots.{in_use, column_of, is_some, type_id_at, offset_at, child_at, slot_at, present, null_in, slot_null}
use Rattle.union_array.specs.Lookup.{or_none}
use Rattle.union_array.specs.Questions.{distinct}
use Rattle.union_array.proofs.Accepted.{AllAccepted, child_is, slot_in}
use Rattle.null_strategy.specs.Fields.{has_nulls, only_nulls, state_of}
use Rattle.null_strategy.proofs.FieldStates.{all-present, none_present}
use Rattle.mask_words.specs.declared.Taken.{Taken}
use Rattle.mask_words.specs.declared.Taken.TheVariants.{All, WithNulls, NotFull}
use Rattle.mask_words.specs.Steps.{any, takes, taken_of, id_at, skip_one_at, skip_without_at, skip_fully_at, step_at}
use Rattle.mask_words.proofs.Selecting.{any_ext, any_less}

not_yes : (b : Bool) → not b ≡ true → b ≡ false
not_yes true e = absurd (false≢true e)
not_yes false e = refl

module _ (t : ℤ) where
  -- no column has the id
  pub none_has : (cs : List Column) → is_some (column_of cs t) ≡ false → any (λ f. same_id t f.id) cs ≡ false
  unfolding any
  none_has [] e = refl
  none_has (c ∷ cs) e = at (same_id c.id t) refl (none_has cs) e
    where
      at : (b : Bool) → same_id c.id t ≡ b → (is_some (column_of cs t) ≡ false → any (λ f. same_id t f.id) cs ≡ false)
          → is_some (cond b (some c) (column_of cs t)) ≡ false → (same_id t c.id || any (λ f. same_id t f.id) cs) ≡ false
      at true s r e = absurd (false≢true (sym e))
      at false s r e = rw (same_id_sym t c.id ∙ s) (r e)

  -- after the column of the id there is no other of it
  none_after : (c : Column) (cs : List Column) → same_id c.id t ≡ true → distinct (c ∷ cs) ≡ true → any (λ f. same_id t f.id) cs ≡ false
  none_after c cs s d =
      none_has cs (ap (λ (z : ℤ). is_some (column_of cs z)) (sym (same_id_eq c.id t s)) ∙ not_yes (is_some (column_of cs c.id)) (both (not (is_some (column_of cs c.id))) (distinct cs) d).0)

  none_and : (g : Column → Bool) (l : List Column) → any (λ f. same_id t f.id) l ≡ false → any (λ f. same_id t f.id && g f) l ≡ false
  none_and g l e = any_less (λ f. same_id t f.id && g f) (λ f. same_id t f.id) l (λ f n. ap (λ (b : Bool). b && g f) n) e

  -- the column of the id decides
  pub only : (g : Column → Bool) (cs : List Column) (c : Column) → distinct cs ≡ true → column_of cs t ≡ some c → any (λ f. same_id t f.id && g f) cs ≡ g c
  unfolding any
  only g [] c d e = absurd (false≢true (ap is_some e))
  only g (x ∷ cs) c d e = at (same_id x.id t) refl (only g cs c (both (not (is_some (column_of cs x.id))) (distinct cs) d).1) e
    where
      at : (b : Bool) → same_id x.id t ≡ b → (column_of cs t ≡ some c → any (λ f. same_id t f.id && g f) cs ≡ g c)
          → cond b (some x) (column_of cs t) ≡ some c
          → ((same_id t x.id && g x) || any (λ f. same_id t f.id && g f) cs) ≡ g c
      at true s r e =
          ap₂ (λ (u v : Bool). (u && g x) || v) (same_id_sym t x.id ∙ s) (none_and g cs (none_after x cs s d))
          ∙ or_false (g x) ∙ ap (λ (y : Option Column). g (or_none y)) e
      at false s r e = rw (same_id_sym t x.id ∙ s) (r e)

  -- the first child's bit, where no other column has the id
  pub first_else : (g : Column → Bool) (cs : List Column) (c : Column) → distinct cs ≡ true → column_of cs t ≡ some c
      → (any (λ f. same_id t f.id && g f) (drop 1 cs) || (not (any (λ f. same_id t f.id) (drop 1 cs)) && g (get_or cs 0 no_column)))
      ≡ g c
  first_else g [] c d e = absurd (false≢true (ap is_some e))
  first_else g (x ∷ cs) c d e = at (same_id x.id t) refl e
    where
      at : (b : Bool) → same_id x.id t ≡ b → cond b (some x) (column_of cs t) ≡ some c
          → (any (λ f. same_id t f.id && g f) cs || (not (any (λ f. same_id t f.id) cs) && g x)) ≡ g c
      at true s e =
          let n = none_after x cs s d in
          rw (n, none_and g cs n) (ap (λ (y : Option Column). g (or_none y)) e)
      at false s e =
          let d' = (both (not (is_some (column_of cs x.id))) (distinct cs) d).1 in
          rw (any_ext (λ f. same_id t f.id) (λ f. same_id t f.id && true) cs (λ f. and-true (same_id t f.id)) ∙ only (λ f. true) cs c d' e)
          (or_false (any (λ f. same_id t f.id && g f) cs) ∙ only g cs c d' e)
        where
          and-true : (b : Bool) → b ≡ (b && true)
          and-true true = refl
          and-true false = refl

-- ---- the columns that are taken up

module _ (over : Taken) (m : Buffers) where
  taken_any : (p : Column → Bool) (cs : List Column) → any p (taken_of over m cs) ≡ any (λ c. takes over (state_of m c) && p c) cs
  unfolding taken_of any
  taken_any p [] = refl
  taken_any p (c ∷ cs) = at (takes over (state_of m c)) (taken_any p cs)
    where
      at : (b : Bool) → any p (taken_of over m cs) ≡ any (λ c. takes over (state_of m c) && p c) cs
          → any p (cond b (c ∷ taken_of over m cs) (taken_of over m cs)) ≡ ((b && p c) || any (λ c. takes over (state_of m c) && p c) cs)
      at true r = ap (λ (x : Bool). p c || x) r
      at false r = r

pub taken_all : (m : Buffers) (cs : List Column) → taken_of All m cs ≡ cs
unfolding taken_of
taken_all m [] = refl
taken_all m (c ∷ cs) = ap (λ (l : List Column). c ∷ l) (taken_all m cs)

swap : (a b : Bool) → (a && b) ≡ (b && a)
swap true true = refl
swap true false = refl
swap false true = refl
swap false false = refl

swap3 : (u x b : Bool) → (u && (x && b)) ≡ (x && (u && b))
swap3 true x b = refl
swap3 false true b = refl
swap3 false false b = refl

by_use : (u b : Bool) → (u ≡ false → b ≡ true) → ((u && b) || not u) ≡ b
by_use true true h = refl
by_use true false h = refl
by_use false b h = sym (h refl)

by_full : (u b : Bool) → (u ≡ false → b ≡ false) → (u && b) ≡ b
by_full true b h = refl
by_full false b h = sym (h refl)

-- the type ids of an array's slots, in order
pub record OwnIds (a : UnionArray) (m : Buffers) (ids : List ℤ) : Type 0 where
  pub long : length ids ≡ a.count
  pub own : (i : ℕ) → i < a.count → id_at ids i ≡ type_id_at a m i

-- as they are cut from those that are lent
abbrev pub ids_in : UnionArray → List ℤ → List ℤ
ids_in a lent = take a.count (take (length lent - a.start) (drop a.start lent))

pub own_ids : (a : UnionArray) (m : Buffers) (lent : List ℤ) → lent ≡ m.ids → a.start + a.count ≤ length m.ids → OwnIds a m (ids_in a lent)
own_ids a m lent e h = rw (e, take_all (length m.ids - a.start) (drop a.start m.ids) (omega (arith, length-drop a.start m.ids))) (record {
  long = length-take-le a.count (drop a.start m.ids) (omega (arith, length-drop a.start m.ids));
  own = λ i b. get_or-take a.count (drop a.start m.ids) i (pos 0) b ∙ get_or-drop a.start m.ids i (pos 0);
})

-- a slot's bit, by its child
module _ (a : UnionArray) (m : Buffers) (y : AllAccepted a m) (i : ℕ) (h : i < a.count) where
  pub its_child : column_of (in_use a) (type_id_at a m i) ≡ some (or_none (child_at a m i))
  its_child = child_is a m y.array i (y.slot i h)

  pub its_slot : slot_at a m i < (or_none (child_at a m i)).slots
  its_slot = slot_in a m y.array i (y.slot i h)

  pub its_bit : present (or_none (child_at a m i)) m (slot_at a m i) ≡ not (slot_null a m i)
  unfolding slot_null
  its_bit = sym (ap (λ (o : Option Column). not (null_in o m (slot_at a m i))) its_child ∙ not_not (present (or_none (child_at a m i)) m (slot_at a m i)))

-- a sparse slot is that slot of its child
module _ (a : UnionArray) (m : Buffers) (y : AllAccepted a m) (ids : List ℤ) (o : OwnIds a m ids) (e : a.layout ≡ Sparse) (i : ℕ) (h : i < a.count) where
  abbrev child : Column
  child = or_none (child_at a m i)

  found : column_of (in_use a) (id_at ids i) ≡ some (or_none (child_at a m i))
  found = ap (column_of (in_use a)) (o.own i h) ∙ its_child a m y i h

  same_slot : slot_at a m i ≡ i
  same_slot = ap (λ (k : Layout). by_layout k i (nat_abs (offset_at a m i))) e

  slot_is : i < (or_none (child_at a m i)).slots
  slot_is = subst (λ (p : ℕ). p < child.slots) same_slot (its_slot a m y i h)

  bit_is : present (or_none (child_at a m i)) m i ≡ not (slot_null a m i)
  bit_is = ap (present child m) (sym same_slot) ∙ its_bit a m y i h

  -- by the child alone: whether it is taken up, and whether it is present
  module _ (over : Taken) where
    decided : (g : Column → Bool) → any (λ c. same_id (id_at ids i) c.id && g c) (in_use a) ≡ g (or_none (child_at a m i))
    decided g = only (id_at ids i) g (in_use a) child y.array.alone found

    selected_by : any (λ c. same_id (id_at ids i) c.id) (taken_of over m (in_use a)) ≡ takes over (state_of m (or_none (child_at a m i)))
    selected_by =
        taken_any over m (λ c. same_id (id_at ids i) c.id) (in_use a)
        ∙ any_ext _ (λ c. same_id (id_at ids i) c.id && takes over (state_of m c)) (in_use a) (λ c. swap (takes over (state_of m c)) (same_id (id_at ids i) c.id))
        ∙ decided (λ c. takes over (state_of m c))

    present_by : any (λ c. same_id (id_at ids i) c.id && present c m i) (taken_of over m (in_use a))
        ≡ (takes over (state_of m (or_none (child_at a m i))) && present (or_none (child_at a m i)) m i)
    present_by =
        taken_any over m (λ c. same_id (id_at ids i) c.id && present c m i) (in_use a)
        ∙ any_ext _ (λ c. same_id (id_at ids i) c.id && (takes over (state_of m c) && present c m i)) (in_use a)
        (λ c. swap3 (takes over (state_of m c)) (same_id (id_at ids i) c.id) (present c m i))
        ∙ decided (λ c. takes over (state_of m c) && present c m i)

  one_is : skip_one_at (taken_of All m (in_use a)) m ids i ≡ not (slot_null a m i)
  unfolding skip_one_at
  one_is =
      ap (λ (l : List Column). skip_one_at l m ids i) (taken_all m (in_use a)) ∙ first_else (id_at ids i) (λ c. present c m i) (in_use a) child y.array.alone found ∙ bit_is

  without_is : skip_without_at (taken_of WithNulls m (in_use a)) m ids i ≡ not (slot_null a m i)
  unfolding skip_without_at
  without_is =
      ap₂ (λ (u v : Bool). u || not v) (present_by WithNulls) (selected_by WithNulls)
      ∙ by_use (has_nulls (state_of m child)) (present child m i) (all-present m child i slot_is) ∙ bit_is

  fully_is : skip_fully_at (taken_of NotFull m (in_use a)) m ids i ≡ not (slot_null a m i)
  unfolding skip_fully_at
  fully_is =
      present_by NotFull
      ∙ by_full (not (only_nulls (state_of m child))) (present child m i) (λ q. none_present m child i slot_is (not-false (only_nulls (state_of m child)) q)) ∙ bit_is

  pub step_is : (over : Taken) → step_at over (taken_of over m (in_use a)) m ids i ≡ not (slot_null a m i)
  step_is All = one_is
  step_is WithNulls = without_is
  step_is NotFull = fully_is
