-- The table of Gather: one more column stored, and a word of looked up bits. Assumes nothing.
use mathlib.Core.Path.{◌≡◌, refl, sym, ap, ap₂, ◌∙◌}
use mathlib.Core.Bool.{Bool, true, ◌&&◌}
use mathlib.Core.List.{List, [], ◌∷◌, ◌++◌}
use native.Mathlib.Omega.{arith}
use Prim.Native.Nat.{ℕ, ◌+◌, ◌-◌, ◌*◌, ◌<◌, min}
use native.Mathlib.Numerals.{add-one}
use lib.Dec.{ltb}
use lib.ListN.{get_or, set, take, drop, length, replicate}
use lib.Seq.{take-suc}
use lib.IntN.{ℤ, pos, nat_abs}
use lib.Signed.{mag}
use mir.Syntax.{w8}
use mir.Val.{of_z, to_z}
use Rattle.bitmap.specs.Bits.{pack}
use Rattle.bitmap.proofs.Ids.{id_is}
use Rattle.bitmap.proofs.Words.{pack_ext}
use Rattle.array_columns.specs.declared.Column.{Column}
use Rattle.array_columns.specs.Types.{no_column}
use Rattle.array_columns.specs.Buffers.{Buffers}
use Rattle.array_columns.specs.Slots.{present}
use Rattle.array_columns.specs.Questions.{presence_in}
use Rattle.array_columns.specs.declared.Layout.{Layout}
use Rattle.mask_words.specs.Steps.{word_of, id_at}
use Rattle.mask_words.proofs.Selecting.{span_cut, run_of, run_is, run_length, run_at}
use Rattle.gather_table.specs.Table.{without_nulls, stored, table_of, table_entry, child_slot, gathered_at, Gathers}

-- ---- one more column

stored_snoc : (t : List Column) (l : List Column) (c : Column) → stored t (l ++ c ∷ []) ≡ set (stored t l) (nat_abs c.id) c
unfolding stored
stored_snoc t [] c = refl
stored_snoc t (x ∷ l) c = stored_snoc (set t (nat_abs x.id) x) l c

pub table_none : (l : List Column) → replicate 256 without_nulls ≡ table_of (take 0 l)
unfolding table_of stored
table_none l = refl

pub table_more : (l : List Column) (q : ℕ) → q < length l → set (table_of (take q l)) (nat_abs (get_or l q no_column).id) (get_or l q no_column) ≡ table_of (take (q + 1) l)
unfolding table_of
table_more l q h =
    sym (ap (λ (n : ℕ). table_of (take n l)) (add-one q) ∙ ap table_of (take-suc l q no_column h) ∙ stored_snoc (replicate 256 without_nulls) (take q l) (get_or l q no_column))

-- ---- a word of looked up bits

module _ (t : List Column) (m : Buffers) (ids : List ℤ) (slot : ℕ → ℕ) (k : ℕ) where
  -- bit j of word k
  abbrev pub looked_up : ℕ → Bool
  looked_up j = gathered_at t m ids slot (64 * k + j)

  pub gathered : (n : ℕ) → n ≡ min 64 (length ids - 64 * k) → pack 64 (λ i. ltb i n && looked_up i) ≡ word_of (length ids) (gathered_at t m ids slot) k
  unfolding word_of
  gathered n en = pack_ext 64 _ _ (λ j h. ap (λ (b : Bool). b && looked_up j) (span_cut n (length ids) k en j h))

-- id j of a run as it is cut from the ids, and read as an index
module _ (t : List Column) (m : Buffers) (ids : List ℤ) (layout : Layout) (from : ℕ) (g : Gathers t m ids layout from) (k n j : ℕ)
    (en : n ≡ min 64 (length (take (length ids - 64 * k) (drop (64 * k) ids)))) (h : j < length (take n (take (length ids - 64 * k) (drop (64 * k) ids))))
    (byte : mag (get_or (take n (take (length ids - 64 * k) (drop (64 * k) ids))) j (pos 0)) < 128) where
  abbrev run : List ℤ
  run = take n (take (length ids - 64 * k) (drop (64 * k) ids))

  abbrev read : ℤ
  read = to_z w8 (of_z w8 (get_or run j (pos 0)))

  abbrev entry : Column
  entry = get_or t (nat_abs read) no_column

  low : j < length (run_of ids k)
  low = omega (arith, ap length (run_is ids k n en))

  id_read : read ≡ id_at ids (64 * k + j)
  id_read = id_is (get_or run j (pos 0)) byte ∙ ap (λ (l : List ℤ). get_or l j (pos 0)) (run_is ids k n en) ∙ run_at ids k j low

  its_entry : entry ≡ table_entry t ids (64 * k + j)
  its_entry = ap (λ (z : ℤ). get_or t (nat_abs z) no_column) id_read

  module _ (p : ℕ) (ep : p ≡ child_slot layout m.offsets from (64 * k + j)) where
    pub entry_fits : (p < entry.slots) × (presence_in m entry ≡ true)
    entry_fits = rw (ep, its_entry) (g.within (64 * k + j) (omega (arith, low, run_length ids k)))

    pub looked_up_is : (b : Bool) → b ≡ present entry m p → looked_up t m ids (child_slot layout m.offsets from) k j ≡ b
    unfolding gathered_at
    looked_up_is b r = sym (r ∙ ap₂ (λ (c : Column) (q : ℕ). present c m q) its_entry ep)
