-- What the step of word k is given, and what it makes. Assumes nothing.
use mathlib.Core.Path.{◌≡◌, ap, ap₂, ◌∙◌}
use mathlib.Core.List.{List, map}
use Prim.Native.Nat.{ℕ, ◌*◌, ◌-◌, ◌≤◌, min}
use native.Mathlib.Omega.{arith}
use lib.IntN.{ℤ}
use lib.ListN.{get_or, take, drop, length, length-map}
use Rattle.array_columns.specs.declared.Column.{Column}
use Rattle.array_columns.specs.Types.{no_column}
use Rattle.array_columns.specs.Buffers.{Buffers}
use Rattle.null_strategy.specs.declared.Fields.{Fields}
use Rattle.null_strategy.specs.Fields.{in_list, state_of}
use Rattle.mask_words.specs.Steps.{FieldChunk, Taken, All, word_of, taken_of, step_at, step_word, field_chunk, columns_at, taken_places, StepReady, StepsReady, FieldsReady}
use Rattle.mask_words.proofs.Selecting.{run_is}
use Rattle.mask_words.proofs.StepWords.{run_ready, step_makes, read_to, read_all}
use Rattle.mask_words.proofs.TakenUp.{columns_taken, taken_ready, taken_some}

module _ (over : Taken) (cs : List Column) (places : List ℕ) (words : Buffers) (ids : List ℤ) (r : StepsReady over cs places words ids) where
  -- the fields at those places, all read, and a run as it is cut from the ids
  module _ (k n q : ℕ) (chunks old : List FieldChunk) (e : chunks ≡ read_to (field_chunk words (length ids) k) (columns_at cs places) q old) (z : length places ≡ q)
      (en : n ≡ min 64 (length (take (length ids - 64 * k) (drop (64 * k) ids)))) where
    fields_are : take (length places) chunks ≡ map (field_chunk words (length ids) k) (columns_at cs places)
    fields_are =
        ap₂ (λ (n : ℕ) (l : List FieldChunk). take n l) z e
        ∙ read_all (field_chunk words (length ids) k) (columns_at cs places) q old (omega (arith, z, length-map places (λ p. get_or cs p no_column)))

    some : over ≡ All → 1 ≤ length (columns_at cs places)
    some t = omega (arith, r.some t, length-map places (λ p. get_or cs p no_column))

    pub step_ready : StepReady over (take (length places) chunks) (take n (take (length ids - 64 * k) (drop (64 * k) ids)))
    step_ready = run_ready words ids k over (columns_at cs places) _ _ fields_are (run_is ids k n en) some r.taken.taken.valid r.plain

    pub word_made : (w : ℕ) → w ≡ step_word over (take (length places) chunks) (take n (take (length ids - 64 * k) (drop (64 * k) ids)))
        → w ≡ word_of (length ids) (step_at over (columns_at cs places) words ids) k
    word_made w h = step_makes words ids k over (columns_at cs places) _ _ fields_are (run_is ids k n en) some w h

-- what is taken up by the states
module _ (over : Taken) (cs : List Column) (fs : Fields) (words : Buffers) (ids : List ℤ) (r : FieldsReady cs fs words ids) (places : List ℕ)
    (p : places ≡ taken_places over 0 (in_list fs)) where
  of_states : places ≡ taken_places over 0 (map (state_of words) cs)
  of_states = p ∙ ap (taken_places over 0) r.states

  pub steps_ready : length places ≤ 128 → StepsReady over cs places words ids
  steps_ready few = record {
    taken = taken_ready over cs words places of_states (length ids) r.valid r.held;
    plain = r.plain;
    few = few;
    some = λ e. taken_some over cs words places of_states e r.some;
  }

  pub columns_are : columns_at cs places ≡ taken_of over words cs
  columns_are = columns_taken over cs words places of_states
