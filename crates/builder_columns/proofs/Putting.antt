-- Slots put one after the other, and the room that they have. Assumes nothing.
use mathlib.Core.Path.{◌≡◌, refl, sym, ap, ◌∙◌}
use mathlib.Core.Bool.{Bool, true, false, cond}
use mathlib.Core.Option.{Option, none}
use mathlib.Core.List.{List, [], ◌∷◌, ◌++◌}
use Prim.Native.Nat.{ℕ, ◌+◌, ◌*◌, ◌≤◌, ◌<◌}
use native.Mathlib.Nat.{le_refl, mul-le-mul, mul-le-mul_right, suc-mul}
use native.Mathlib.Numerals.{add-one}
use native.Mathlib.Omega.{arith}
use lib.Dec.{eqb}
use lib.IntN.{ℤ, pos}
use lib.ListN.{length, set, length-set}
use lib.Seq.{paste, length-paste}
use Rattle.bitmap.specs.Lists.{table}
use Rattle.bitmap.specs.Bits.{words_for}
use Rattle.bitmap.proofs.Tables.{table_more}
use Rattle.bitmap.proofs.Setting.{set_bit_length}
use Rattle.array_columns.specs.declared.Layout.{Layout}
use Rattle.array_columns.specs.declared.Layout.TheVariants.{Sparse, Dense}
use Rattle.array_columns.specs.Types.{by_layout}
use Rattle.array_columns.specs.Buffers.{Buffers, buffers_of, amounts_of}
use Rattle.array_columns.specs.Slots.{is_some}
use Rattle.builder_columns.specs.Columns.{or_else}
use Rattle.builder_columns.specs.Puts.{Put, put, filled, row, puts, put_value, put_bit}
use Rattle.builder_columns.specs.Writing.{BuilderHead, Plan, Room, put_words, puts_for, written_by, Writable}

-- ---- puts

module _ {M : Type 0} (store : M → ℕ → Option ℕ → M) (s : ℕ) where
  pub puts_append : (m : M) (ps qs : List Put) → puts store s m (ps ++ qs) ≡ puts store s (puts store s m ps) qs
  puts_append m [] qs = refl
  puts_append m (p ∷ ps) qs = puts_append (store m (p.id * s + p.slot) p.value) ps qs

-- first these, then those
pub words_append : (c : ℕ) (m : Buffers) (ps qs : List Put) → put_words c (put_words c m ps) qs ≡ put_words c m (ps ++ qs)
unfolding put_words
words_append c m ps qs = rw (← puts_append put_value c m.values ps qs, ← puts_append put_bit (64 * words_for c) m.masks ps qs)

-- one put more
words_more : (c : ℕ) (m : Buffers) (n : ℕ) (f : ℕ → Put) → put_words c (put_words c m (table n f)) (f n ∷ []) ≡ put_words c m (table (n + 1) f)
words_more c m n f = words_append c m (table n f) (f n ∷ []) ∙ ap (put_words c m) (sym (ap (λ (k : ℕ). table k f) (add-one n) ∙ table_more n f))

pub words_none : (c : ℕ) (m : Buffers) → put_words c m [] ≡ m
unfolding put_words
words_none c m = refl

pub filled_more : (c : ℕ) (m : Buffers) (k n : ℕ) → put_words c (put_words c m (filled none k n)) (put k n none ∷ []) ≡ put_words c m (filled none k (n + 1))
filled_more c m k n = words_more c m n (λ s. put k s none)

pub row_more : (c : ℕ) (m : Buffers) (k slot id : ℕ) (v w : Option ℕ) → w ≡ cond (eqb id k) v none
    → put_words c (put_words c m (row k slot id v)) (put k slot w ∷ []) ≡ put_words c m (row (k + 1) slot id v)
row_more c m k slot id v w e =
    ap (λ (x : Option ℕ). put_words c (put_words c m (row k slot id v)) (put k slot x ∷ [])) e ∙ words_more c m k (λ j. put j slot (cond (eqb id j) v none))

values_length : (s : ℕ) (m : List ℕ) (ps : List Put) → length (puts put_value s m ps) ≡ length m
values_length s m [] = refl
values_length s m (p ∷ ps) = values_length s (put_value m (p.id * s + p.slot) p.value) ps ∙ length-set m (p.id * s + p.slot) (or_else p.value 0)

bits_length : (s : ℕ) (m : List ℕ) (ps : List Put) → length (puts put_bit s m ps) ≡ length m
bits_length s m [] = refl
bits_length s m (p ∷ ps) = bits_length s (put_bit m (p.id * s + p.slot) p.value) ps ∙ set_bit_length m (p.id * s + p.slot) (is_some p.value)

-- ---- small products

pub small_product : (k c : ℕ) → k ≤ 128 → c ≤ 65536 → k * c ≤ 8388608
small_product k c h g = mul-le-mul h g

pub words_small : (c : ℕ) → c ≤ 65536 → words_for c ≤ 1024
unfolding words_for
words_small c h = omega arith

-- ---- room

-- puts keep it
pub room_kept : (c n : ℕ) (m m' : Buffers) (ps : List Put) → m' ≡ put_words c m ps → Room c n (length m.values) (length m.masks)
    → Room c n (length m'.values) (length m'.masks)
unfolding put_words
room_kept c n m m' ps e r = rw (e, values_length c m.values ps, bits_length (64 * words_for c) m.masks ps) r

pub within_words : (c : ℕ) → c ≤ 64 * words_for c
unfolding words_for
within_words c = omega arith

module _ (c n v m : ℕ) (r : Room c n v m) where
  -- room for n columns is room for those up to column k
  pub room_upto : (k : ℕ) → k < n → Room c (k + 1) v m
  room_upto k h =
      let a = mul-le-mul_right {m = k + 1} {n = n} c (omega arith) in
      let b = mul-le-mul_right {m = k + 1} {n = n} (words_for c) (omega arith) in
      record { small = r.small; few = omega arith; words = omega arith; bits = omega arith }

module _ (c k v m : ℕ) (r : Room c (k + 1) v m) (slot : ℕ) (h : slot < c) where
  more_by_one : (x : ℕ) → (k + 1) * x ≡ k * x + x
  more_by_one x = ap (λ (n : ℕ). n * x) (add-one k) ∙ suc-mul k x

  pub bit_in : 64 * (k * words_for c) + slot < 64 * m
  bit_in = let e = more_by_one (words_for c) in let w = r.bits in let l = within_words c in omega arith

-- ---- what an append writes

pub written_is : (h : BuilderHead) (p : Plan) (m : Buffers) (name : List ℕ) (v : Option ℕ) (is os : List ℤ) (ns : List ℕ)
    → is ≡ set m.ids h.len (pos p.id)
    → os ≡ by_layout h.layout m.offsets (set m.offsets h.len (pos p.column.slots))
    → ns ≡ cond p.fresh (paste m.names (32 * p.id) name (length name)) m.names
    → put_words h.capacity (buffers_of is os m.values m.masks ns) (puts_for h.layout p h.len v) ≡ written_by h p m name v
unfolding written_by put_words
written_is h p m name v is os ns hi ho hn = rw (hi, ho, hn)

-- ---- what is lent stays as much

pub amounts_kept : (m m' : Buffers) → length m'.ids ≡ length m.ids → length m'.offsets ≡ length m.offsets → length m'.values ≡ length m.values
    → length m'.masks ≡ length m.masks → length m'.names ≡ length m.names → amounts_of m' ≡ amounts_of m
amounts_kept m m' hi ho hv hm hn = cc

offsets_length : (l : Layout) (os : List ℤ) (n : ℕ) (x : ℤ) → length (by_layout l os (set os n x)) ≡ length os
offsets_length Sparse os n x = refl
offsets_length Dense os n x = length-set os n x

names_length : (fresh : Bool) (ns : List ℕ) (at : ℕ) (name : List ℕ) → at + length name ≤ length ns → length (cond fresh (paste ns at name (length name)) ns) ≡ length ns
names_length true ns at name h = length-paste ns at name (length name) h (le_refl (length name))
names_length false ns at name h = refl

pub written_kept : (h : BuilderHead) (p : Plan) (m : Buffers) (name : List ℕ) (v : Option ℕ) → Writable h p (length name) (amounts_of m)
    → amounts_of (written_by h p m name v) ≡ amounts_of m
unfolding written_by
written_kept h p m name v w =
    let used = w.used in
    let bytes = w.bytes in
    let short = w.short in
    amounts_kept m (written_by h p m name v)
    (length-set m.ids h.len (pos p.id))
    (offsets_length h.layout m.offsets h.len (pos p.column.slots))
    (values_length h.capacity m.values (puts_for h.layout p h.len v))
    (bits_length (64 * words_for h.capacity) m.masks (puts_for h.layout p h.len v))
    (names_length p.fresh m.names (32 * p.id) name (omega arith))
