-- Questions 7 and 8 after 1 to 6, and what 1 to 6 tell of an array's slots. Assumes nothing.
use mathlib.Core.Path.{◌≡◌, sym, ◌∙◌}
use Prim.Native.Nat.{◌+◌}
use lib.ListN.{length}
use borrow.Author.Tests.{le-leb}
use Rattle.union_array.specs.Types.{UnionArray, head_of}
use Rattle.array_columns.specs.declared.Refusal.{Refusal}
use Rattle.array_columns.specs.Refusal.{refusal_number}
use Rattle.array_columns.specs.Buffers.{Buffers, amounts_of}
use Rattle.union_array.specs.Slots.{in_use}
use Rattle.union_array.specs.Questions.{part_in, presence_in, column_in, question7, question8, asked, checked}
use Rattle.array_slots.specs.Check.{Readable, slots_checked}
use Rattle.array_slots.specs.Accepted.{Valued, SlotsAccepted}
use Rattle.array_columns.proofs.Tests.{then_zero}
use Rattle.array_columns.proofs.Numbered.{then_refused}
use Rattle.array_columns.proofs.Columns.{all_less}
use Rattle.array_columns.proofs.Present.{presence_words, presence_in_lem}
use Rattle.array_columns.proofs.Values.{inside}
use Rattle.union_array.proofs.Accepted.{accepted, all_accepted}

module _ (a : UnionArray) (m : Buffers) where
  pub checked_refused : (r : Refusal) → refusal_number r ≡ asked a m → refusal_number r ≡ checked a m
  unfolding checked
  checked_refused r e = rw (← e, then_refused r)

  pub checked_slots : 0 ≡ asked a m → slots_checked (head_of a) a.columns m.ids m.offsets ≡ checked a m
  unfolding checked slots_checked question7 question8
  checked_slots e = rw (← e)

  -- the slots can be asked
  pub readable : 0 ≡ asked a m → Readable (head_of a) a.columns m.ids m.offsets
  readable e =
      let y = accepted a m (sym e) in
      record { few = y.few; valid = y.valid; ids_in = y.ids; offsets_in = y.offsets }

  -- and have values
  pub valued : 0 ≡ asked a m → Valued (head_of a) a.columns m
  valued e =
      let y = accepted a m (sym e) in
      record {
        readable = readable e;
        values = all_less (column_in (amounts_of m)) (λ c. part_in c.values c.slots (length m.values)) (in_use a)
            (λ c h. le-leb (c.values + c.slots) (length m.values) (inside (amounts_of m) c h).values) y.parts;
        presence = all_less (column_in (amounts_of m)) (presence_in m) (in_use a) (λ c h. presence_words m c ∙ presence_in_lem m c h) y.parts;
        equal = y.equal;
      }

  -- 1 to 8 hold: every slot is accepted
  pub slots_accepted : checked a m ≡ 0 → SlotsAccepted (head_of a) a.columns m 0 a.count
  unfolding checked
  slots_accepted h = record { valued = valued (sym (then_zero (asked a m) _ h).0); slot = λ i f l. (all_accepted a m h).slot i l }
