-- A run: what is written of each slot is what a lookup tells. Assumes nothing.
use mathlib.Core.List.{List}
use mathlib.Core.Path.{◌≡◌, refl, sym, ap, ◌∙◌}
use Prim.Native.Nat.{ℕ, zero, suc, ◌+◌, ◌<◌}
use native.Mathlib.Omega.{arith}
use lib.Dec.{leb}
use lib.IntN.{ℤ}
use borrow.Author.Tests.{leb-true}
use Rattle.bitmap.specs.Lists.{retable}
use Rattle.bitmap.specs.Bits.{digit}
use Rattle.bitmap.proofs.Tables.{retable_ext}
use Rattle.union_array.specs.Types.{UnionArray, head_of}
use Rattle.array_columns.specs.Buffers.{Buffers}
use Rattle.array_columns.specs.declared.Refusal.{Refusal}
use Rattle.array_columns.specs.Refusal.{◌then◌, if_yes, refusal_number}
use Rattle.union_array.specs.Slots.{type_id_at}
use Rattle.union_array.specs.Questions.{asked}
use Rattle.union_array.specs.Lookup.{value_of}
use Rattle.union_array.specs.Values.{Values, first_refusal, slot_no, run_checked, values_answer, has_room, values_of}
use Rattle.array_slots.specs.Values.{slot_value_at, run_no, run_by, run_of}
use Rattle.array_columns.proofs.Numbered.{if_refused, then_refused}
use Rattle.array_columns.proofs.Tests.{then_zero, yes_then}
use Rattle.array_slots.proofs.Runs.{run_accepted}
use Rattle.union_array.proofs.Accepted.{SlotAccepted}
use Rattle.union_array.proofs.Checked.{valued}
use Rattle.union_array.proofs.Reading.{told_id, told_value}

module _ (a : UnionArray) (m : Buffers) (first n : ℕ) (ids : List ℤ) (missing bits : List ℕ) where
  pub run_refused : (r : Refusal) → refusal_number r ≡ asked a m → values_answer (refusal_number r) ids missing bits ≡ values_of a m first n ids missing bits
  unfolding values_of run_checked
  run_refused r e = rw (← e, then_refused r, if_refused r, if_refused r, if_refused r)

  -- the first no after 1 to 6
  abbrev number : ℕ
  number = run_no (head_of a) a.columns m.ids m.offsets first n (has_room n ids missing bits)

  -- by a number, what is told of each slot
  abbrev told : ℕ → Values
  told r =
      values_answer r (if_yes r (retable n (λ k. (value_of a m (first + k)).id) ids) ids)
      (if_yes r (retable n (λ k. digit (value_of a m (first + k)).missing) missing) missing)
      (if_yes r (retable n (λ k. (value_of a m (first + k)).bits) bits) bits)

  module _ (y : 0 ≡ asked a m) where
    z : asked a m ≡ 0
    z = sym y

    slot : number ≡ 0 → (k : ℕ) → k < n → SlotAccepted a m (first + k)
    unfolding run_no
    slot e k l =
        let q = yes_then 9 (leb (first + n) a.count) _ e in
        let f = (then_zero (first_refusal n (λ k. slot_no a m (first + k))) _ q.1).0 in
        let b = leb-true (first + n) a.count q.0 in
        (run_accepted (head_of a) a.columns m first n (valued a m y) b f).slot (first + k) (omega arith) (omega arith)

    written : (r : ℕ) → number ≡ r → run_by r (head_of a) a.columns m first n ids missing bits ≡ told r
    unfolding run_by
    written (suc r) e = refl
    written zero e =
        let v : (k : ℕ) → k < n → slot_value_at (head_of a) a.columns m (first + k) ≡ record { bits = (value_of a m (first + k)).bits; missing = (value_of a m (first + k)).missing }
        = λ k l. told_value a m (first + k) z (slot e k l) in
        rw (
          retable_ext n (λ k. type_id_at a m (first + k)) (λ k. (value_of a m (first + k)).id) ids (λ k l. told_id a m (first + k) z (slot e k l)),
          retable_ext n (λ k. digit (slot_value_at (head_of a) a.columns m (first + k)).missing) (λ k. digit (value_of a m (first + k)).missing) missing (λ k l. ap (λ w. digit w.missing) (v k l)),
          retable_ext n (λ k. (slot_value_at (head_of a) a.columns m (first + k)).bits) (λ k. (value_of a m (first + k)).bits) bits (λ k l. ap (λ w. w.bits) (v k l)),
        )

    pub run_is : run_of (head_of a) a.columns m first n ids missing bits ≡ values_of a m first n ids missing bits
    unfolding values_of run_checked run_no
    run_is = written number refl ∙ ap (λ (q : ℕ). told (q then number)) (sym z)
