-- What a child's mask says of its slots, one by one, 64 at a time, and counted. Assumes nothing.
use mathlib.Core.Path.{◌≡◌, refl, sym, ap, ap₂, ◌∙◌}
use mathlib.Core.Bool.{true, false, not, ◌&&◌}
use Prim.Native.Nat.{ℕ, ◌+◌, ◌-◌, ◌*◌, ◌%◌, ◌^◌, ◌≤◌, ◌<◌, min}
use native.Mathlib.Nat.{add_assoc, le_of_suc-le-suc, lt_of_not-le}
use native.Mathlib.Decide.{dec_lt}
use native.Mathlib.Omega.{arith}
use borrow.Author.Tests.{lt-ltb, le-ltb}
use lib.Dec.{ltb}
use lib.ListN.{length}
use Rattle.bitmap.specs.Bits.{pack, bit_at, chunk_of, nulls_of}
use Rattle.bitmap.proofs.Words.{count_ext, pack_ext, pack_none, not_pack, low_pack}
use Rattle.bitmap.proofs.Counts.{count_none}
use Rattle.array_columns.specs.Types.{Column, first_bit}
use Rattle.array_columns.specs.Buffers.{Buffers, only_words, amounts_of}
use Rattle.array_columns.specs.Slots.{present, presence_chunk, nulls_in}
use Rattle.array_columns.specs.Questions.{column_in, presence_in}
use Rattle.array_columns.specs.Accepted.{InChild}
use Rattle.array_columns.proofs.Accepted.{ColumnAccepted, mask_part}
use Rattle.array_columns.proofs.Values.{inside}

-- ---- only the value words and the mask words matter

pub present_words : (c : Column) (m : Buffers) (p : ℕ) → present c m p ≡ present c (only_words m.values m.masks) p
unfolding present
present_words c m p = refl

pub nulls_words : (c : Column) (m : Buffers) → nulls_in c m ≡ nulls_in c (only_words m.values m.masks)
unfolding nulls_in
nulls_words c m = count_ext c.slots _ _ (λ p h. ap not (present_words c m p))

pub presence_words : (m : Buffers) (c : Column) → presence_in m c ≡ presence_in (only_words m.values m.masks) c
unfolding presence_in
presence_words m c = refl

-- ---- what presence is read from

-- a column that was accepted, and one whose parts lie in lent memory
pub presence_accepted : (m : Buffers) (c : Column) → ColumnAccepted m c → presence_in m c ≡ true
unfolding presence_in
presence_accepted m c y = y.mask

pub presence_in_lem : (m : Buffers) (c : Column) → column_in (amounts_of m) c ≡ true → presence_in (only_words m.values m.masks) c ≡ true
unfolding presence_in
presence_in_lem m c h = (inside (amounts_of m) c h).mask

-- a slot of it lies in its parts
pub in_child : (c : Column) (m : Buffers) (p : ℕ) → p < c.slots → column_in (amounts_of m) c ≡ true → InChild c m p
unfolding presence_in
in_child c m p l h = let x = inside (amounts_of m) c h in record { low = l; values = x.values; presence = x.mask }

-- its mask bits are lent
pub mask_bits : (m : Buffers) (c : Column) → presence_in m c ≡ true → c.masked ≡ true → first_bit c + c.slots ≤ 64 * length m.masks
unfolding presence_in
mask_bits m c h e = mask_part (amounts_of m) c h e

-- a column without a mask needs none
pub no_bits : (m : Buffers) (c : Column) → c.masked ≡ false → presence_in m c ≡ true
unfolding presence_in
no_bits m c e = rw e

-- ---- by the mask

module _ (c : Column) (m : Buffers) where
  pub by_mask : c.masked ≡ true → (p : ℕ) → bit_at m.masks (64 * c.mask + c.bit + p) ≡ present c m p
  unfolding present
  by_mask e p = rw (e)

  pub no_mask_lem : c.masked ≡ false → (p : ℕ) → true ≡ present c m p
  unfolding present
  no_mask_lem e p = rw e

  pub chunk_masked : (len k : ℕ) → c.masked ≡ true → chunk_of m.masks (64 * c.mask + c.bit) len k ≡ presence_chunk c m len k
  unfolding chunk_of presence_chunk present
  chunk_masked len k e =
      pack_ext 64 _ _ (λ j h. rw (e, add_assoc (64 * c.mask + c.bit) (64 * k) j))

  pub chunk_free : (n len k : ℕ) → c.masked ≡ false → n ≡ min 64 (len - 64 * k) → 0xffff_ffff_ffff_ffff % 2 ^ n ≡ presence_chunk c m len k
  unfolding presence_chunk
  chunk_free n len k e en =
      ap (λ (x : ℕ). x % 2 ^ n) ones_all ∙ low_pack 64 n (λ _. true)
      ∙ pack_ext 64 _ _ (λ j h. ap₂ ◌&&◌ (span_cut j h (dec_lt (64 * k + j) len)) (no_mask_lem e (64 * k + j)))
    where
      ones_all : 0xffff_ffff_ffff_ffff ≡ pack 64 (λ _. true)
      ones_all = ap (λ (x : ℕ). (2 ^ 64 - 1) - x) (sym (pack_none 64 (λ _. false) (λ j h. refl))) ∙ not_pack 64 (λ _. false)

      span_cut : (j : ℕ) → j < 64 → Dec (64 * k + j < len) → ltb j n ≡ ltb (64 * k + j) len
      span_cut j h (yes l) = lt-ltb j n (omega arith) ∙ sym (lt-ltb (64 * k + j) len l)
      span_cut j h (no l) =
          let g : len ≤ 64 * k + j = le_of_suc-le-suc (lt_of_not-le l) in
          le-ltb j n (omega arith) ∙ sym (le-ltb (64 * k + j) len g)

  -- ---- the count

  pub nulls_masked : c.masked ≡ true → nulls_of m.masks (64 * c.mask + c.bit) c.slots ≡ nulls_in c m
  unfolding nulls_of nulls_in
  nulls_masked e = count_ext c.slots _ _ (λ p h. ap not (by_mask e p))

  pub nulls_free : c.masked ≡ false → 0 ≡ nulls_in c m
  unfolding nulls_in
  nulls_free e = sym (count_none c.slots _ (λ p h. ap not (sym (no_mask_lem e p))))
