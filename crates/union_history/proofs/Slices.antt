-- Chains of slices: what an array accepted in some memory shows through them.
use mathlib.Core.List.{List, [], ◌++◌, ◌∷◌, map}
use mathlib.Core.Logic.{inl, inr}
use mathlib.Core.Path.{◌∙◌, ◌≡◌, ap, refl, subst, sym}
use Prim.Native.Nat.{◌+◌, ◌<◌, ◌≤◌, suc, zero, ℕ}
use native.Mathlib.Nat.{add_assoc, add-zero, zero-add}
use native.Mathlib.Omega.{arith}
use lib.Dec.{leb}
use lib.IntN.{nat_abs}
use lib.ListN.{drop, get_or, take}
use borrow.Author.Tests.{le-leb, leb-true}
use Rattle.array_columns.specs.Buffers.{Buffers}
use Rattle.union_array.specs.Lookup.{value_of}
use Rattle.union_array.specs.Questions.{asked}
use Rattle.array_columns.specs.Refusal.{no}
use Rattle.union_array.specs.Slices.{moved_column, slice_checked, slice_of, sliced}
use Rattle.union_array.specs.Types.{by_layout, no_column}
use Rattle.array_columns.specs.declared.Column.{Column}
use Rattle.array_columns.specs.declared.Layout.{Layout}
use Rattle.array_columns.specs.declared.Layout.TheVariants.{Dense, Sparse}
use Rattle.union_array.specs.declared.UnionArray.{UnionArray}
use Rattle.union_array.proofs.Accepted.{accepted}
use Rattle.union_array.proofs.SlicedSlots.{sliced-asked, sliced-count, sliced_value}
use Rattle.array_columns.proofs.Tests.{then_zero, yes_is}
use Rattle.union_history.specs.Claim.{ChainAccepted, SliceCall, chain, last_count, slice_by, sum_of}
use Rattle.union_history.specs.Listing.{InOrder, ListedBefore, name_in}

slice_fits : (a : UnionArray) (m : Buffers) (o n : ℕ) → slice_checked a m o n ≡ 0 → o + n ≤ a.count
unfolding slice_checked
slice_fits a m o n e = leb-true (o + n) a.count (yes_is 8 (leb (o + n) a.count) (then_zero (asked a m) (no 9 (leb (o + n) a.count)) e).1)

slice_is : (a : UnionArray) (m : Buffers) (o n : ℕ) → (slice_of a m o n).refusal ≡ 0 → (o + n ≤ a.count) × ((slice_of a m o n).array ≡ sliced a o n)
unfolding slice_of
slice_is a m o n e = (slice_fits a m o n e, rw e)

-- a slice within an accepted array is accepted
pub slice_accepted : (a : UnionArray) (m : Buffers) (o n : ℕ) → asked a m ≡ 0 → o + n ≤ a.count → (slice_of a m o n).refusal ≡ 0
unfolding slice_of slice_checked
slice_accepted a m o n g h = rw (g, le-leb _ _ h)

pub chain-count : (a : UnionArray) (cs : List SliceCall) → ChainAccepted a cs → (chain a cs).count ≡ last_count a.count cs
chain-count a [] k = refl
chain-count a (c ∷ cs) k =
    chain-count (slice_by a c).array cs k.1
    ∙ ap (λ (x : UnionArray). last_count x.count cs) (slice_is a c.lent c.from c.count k.0).1 ∙ ap (λ (n : ℕ). last_count n cs) (sym (sliced-count a c.from c.count))

-- what a slice was lent is nothing to the memory that it is read in
slice_asked : (a : UnionArray) (m : Buffers) (c : SliceCall) → asked a m ≡ 0 → (slice_by a c).refusal ≡ 0 → asked (slice_by a c).array m ≡ 0
slice_asked a m c g e = let s = slice_is a c.lent c.from c.count e in rw s.1 (sliced-asked a m c.from c.count (accepted a m g) s.0)

pub chain-asked : (a : UnionArray) (m : Buffers) (cs : List SliceCall) → asked a m ≡ 0 → ChainAccepted a cs → asked (chain a cs) m ≡ 0
chain-asked a m [] g k = g
chain-asked a m (c ∷ cs) g k = chain-asked (slice_by a c).array m cs (slice_asked a m c g k.0) k.1

pub chain_value : (a : UnionArray) (m : Buffers) (cs : List SliceCall) (i : ℕ) → asked a m ≡ 0 → ChainAccepted a cs → i < (chain a cs).count
    → (sum_of cs + i < a.count) × (value_of (chain a cs) m i ≡ value_of a m (sum_of cs + i))
chain_value a m [] i g k h = (omega arith, rw (zero-add i))
chain_value a m (c ∷ cs) i g k h =
    let s = slice_is a c.lent c.from c.count k.0 in
    let r = chain_value (slice_by a c).array m cs i (slice_asked a m c g k.0) k.1 h in
    let q : sum_of cs + i < c.count = rw (s.1, sym (sliced-count a c.from c.count)) at r.0 in
    let w : sum_of (c ∷ cs) + i < a.count = omega (arith, s.0) in (
      w,
      r.1 ∙ ap (λ (x : UnionArray). value_of x m (sum_of cs + i)) s.1 ∙ sliced_value a m c.from c.count (sum_of cs + i) g s.0 q
          ∙ ap (λ (x : ℕ). value_of a m x) (sym (add_assoc c.from (sum_of cs) i)),
    )

-- ---- a slice lists its columns as the whole does
keeps : {A : Type 0} (p : Column → A) (g : Column → Column) → ((c : Column) → p (g c) ≡ p c) → (f : ℕ) (cs : List Column) (i : ℕ)
    → p (get_or (map g (take f cs) ++ drop f cs) i no_column) ≡ p (get_or cs i no_column)
keeps p g h zero cs i = refl
keeps p g h (suc f) [] i = refl
keeps p g h (suc f) (c ∷ cs) zero = h c
keeps p g h (suc f) (c ∷ cs) (suc i) = keeps p g h f cs i

moved_name : (m : Buffers) (l : Layout) (o n : ℕ) (c : Column) → name_in m (moved_column l o n c) ≡ name_in m c
moved_name m Sparse o n c = refl
moved_name m Dense o n c = refl

moved_id : (l : Layout) (o n : ℕ) (c : Column) → nat_abs (moved_column l o n c).id ≡ nat_abs c.id
moved_id Sparse o n c = refl
moved_id Dense o n c = refl

same_listing : (m : Buffers) (c d c' d' : Column) → name_in m c' ≡ name_in m c → name_in m d' ≡ name_in m d → nat_abs c'.id ≡ nat_abs c.id → nat_abs d'.id ≡ nat_abs d.id
    → ListedBefore m c d → ListedBefore m c' d'
same_listing m c d c' d' p q r s (inl b) = inl (rw (p, q) b)
same_listing m c d c' d' p q r s (inr e) = inr (p ∙ e.0 ∙ sym q, rw (r, s) e.1)

sliced_in_order : (a : UnionArray) (m : Buffers) (o n : ℕ) → InOrder a m → InOrder (sliced a o n) m
unfolding sliced
sliced_in_order a m o n g i j h k =
    let names-kept = keeps (name_in m) (moved_column a.layout o n) (moved_name m a.layout o n) a.fields a.columns in
    let ids-kept = keeps (λ c. nat_abs c.id) (moved_column a.layout o n) (moved_id a.layout o n) a.fields a.columns in
    let cs : List Column = (sliced a o n).columns in
    same_listing m (get_or a.columns i no_column) (get_or a.columns j no_column) (get_or cs i no_column) (get_or cs j no_column) (names-kept i) (names-kept j) (ids-kept i) (ids-kept j) (g i j h k)

pub chain_in_order : (a : UnionArray) (m : Buffers) (cs : List SliceCall) → ChainAccepted a cs → InOrder a m → InOrder (chain a cs) m
chain_in_order a m [] k g = g
chain_in_order a m (c ∷ cs) k g =
    chain_in_order (slice_by a c).array m cs k.1
    (subst (λ (x : UnionArray). InOrder x m) (sym (slice_is a c.lent c.from c.count k.0).1) (sliced_in_order a m c.from c.count g))

-- where a chain's type ids and offsets start
sliced_layout : (a : UnionArray) (o n : ℕ) → (sliced a o n).layout ≡ a.layout
unfolding sliced
sliced_layout a o n = refl

pub chain_layout : (a : UnionArray) (cs : List SliceCall) → ChainAccepted a cs → (chain a cs).layout ≡ a.layout
chain_layout a [] k = refl
chain_layout a (c ∷ cs) k =
    chain_layout (slice_by a c).array cs k.1
    ∙ ap (λ (x : UnionArray). x.layout) (slice_is a c.lent c.from c.count k.0).1 ∙ sliced_layout a c.from c.count

sliced-start : (a : UnionArray) (o n : ℕ) → (sliced a o n).start ≡ a.start + o
unfolding sliced
sliced-start a o n = refl

pub chain-start : (a : UnionArray) (cs : List SliceCall) → ChainAccepted a cs → (chain a cs).start ≡ a.start + sum_of cs
chain-start a [] k = sym (add-zero a.start)
chain-start a (c ∷ cs) k =
    chain-start (slice_by a c).array cs k.1
    ∙ ap (λ (x : UnionArray). x.start + sum_of cs) (slice_is a c.lent c.from c.count k.0).1
    ∙ ap (λ (f : ℕ). f + sum_of cs) (sliced-start a c.from c.count)
    ∙ add_assoc a.start c.from (sum_of cs)

sliced_offsets : (a : UnionArray) (o n : ℕ) → (sliced a o n).offsets_start ≡ by_layout a.layout a.offsets_start (a.offsets_start + o)
unfolding sliced
sliced_offsets a o n = refl

starts_add : (l : Layout) (f o p : ℕ) → by_layout l (by_layout l f (f + o)) (by_layout l f (f + o) + p) ≡ by_layout l f (f + (o + p))
starts_add Sparse f o p = refl
starts_add Dense f o p = add_assoc f o p

pub chain_offsets : (a : UnionArray) (cs : List SliceCall) → ChainAccepted a cs → (chain a cs).offsets_start ≡ by_layout a.layout a.offsets_start (a.offsets_start + sum_of cs)
chain_offsets a [] k = none_moved a.layout
  where
    none_moved : (l : Layout) → a.offsets_start ≡ by_layout l a.offsets_start (a.offsets_start + 0)
    none_moved Sparse = refl
    none_moved Dense = sym (add-zero a.offsets_start)
chain_offsets a (c ∷ cs) k =
    chain_offsets (slice_by a c).array cs k.1
    ∙ ap (λ (x : UnionArray). by_layout x.layout x.offsets_start (x.offsets_start + sum_of cs)) (slice_is a c.lent c.from c.count k.0).1
    ∙ ap (λ (l : Layout). by_layout l (sliced a c.from c.count).offsets_start ((sliced a c.from c.count).offsets_start + sum_of cs)) (sliced_layout a c.from c.count)
    ∙ ap (λ (f : ℕ). by_layout a.layout f (f + sum_of cs)) (sliced_offsets a c.from c.count)
    ∙ starts_add a.layout a.offsets_start c.from (sum_of cs)
