-- Runs of appends. Assumes nothing.
use mathlib.Core.Bool.{Bool, true, false, cond}
use mathlib.Core.Option.{Option, none, some}
use mathlib.Core.List.{List}
use mathlib.Core.Path.{◌≡◌, refl, sym, ap, ap₂, ◌∙◌}
use Prim.Native.Nat.{ℕ, zero, suc, ◌+◌}
use native.Mathlib.Omega.{arith}
use lib.ListN.{length, get_or, set, take, drop}
use Rattle.std.specs.Prelude.{Result, Ok, Err, IfOk}
use Rattle.bitmap.specs.Lists.{times}
use Rattle.bitmap.proofs.Tables.{times_more}
use Rattle.array_columns.specs.declared.Kind.{Kind}
use Rattle.array_columns.specs.declared.Refusal.{Refusal}
use Rattle.array_columns.specs.Types.{width_of, low_bits}
use Rattle.array_columns.specs.Slots.{is_some}
use Rattle.array_columns.specs.Buffers.{Buffers, amounts_of}
use Rattle.array_columns.specs.Refusal.{if_yes, number_of}
use Rattle.array_columns.specs.Numbers.{kind_from, flag_from, bad_number, bad_length}
use Rattle.array_columns.proofs.Tests.{refused_is}
use Rattle.builder_columns.specs.Planning.{PlanAnswer}
use Rattle.builder_columns.specs.Writing.{written_by}
use Rattle.builder_appends.specs.declared.Step.{Step}
use Rattle.builder_appends.specs.declared.Reading.{Reading}
use Rattle.builder_appends.specs.Steps.{accepted_step, Steppable, plan_for, Stepped, step_taken, step_refused, stepped, planned, append_by, reading_at, reading_by}
use Rattle.builder_appends.proofs.Planned.{plan_known}
use Rattle.union_builder.specs.Builder.{UnionBuilder, builder_head, open_checked}
use Rattle.union_builder.specs.Append.{some_if, append_checked, AppendOutcome, outcome, appended, append_with}
use Rattle.union_builder.specs.Growing.{grown_by_step, after_step}
use Rattle.union_builder.specs.Appends.{Readings, is_reading, reading_of, RunOutcome, run_outcome, appends_step, lengths_match, appends_of}
use Rattle.union_builder.proofs.Planning.{grown_as, appended_of}
use Rattle.union_builder.proofs.Plans.{plan_is}
use Rattle.union_builder.proofs.Growing.{accepted_after, after_full}
use Rattle.union_builder.proofs.Appending.{open_parts, append_no, append_yes, append_cut}
use Rattle.union_builder.proofs.Keeping.{append_open}

-- ---- one reading

-- the builder after a step, if there is one
abbrev after_option : UnionBuilder → Option Step → UnionBuilder
after_option b none = b
after_option b (some s) = grown_by_step b s

-- what a step answers, and lent memory after it
abbrev pub lifted : UnionBuilder → Stepped → AppendOutcome
lifted b s = outcome (appended (after_option b s.step) s.refusal) s.buffers

-- what the code answers
pub lifted_told : (b : UnionBuilder) (r : Result Step Refusal) (m : Buffers) → outcome (appended (after_step b r) (number_of r)) m ≡ lifted b (stepped r m)
lifted_told b (Ok s) m = refl
lifted_told b (Err r) m = refl

module _ (b : UnionBuilder) (m : Buffers) (full : length b.columns ≡ 128) (n : ℕ) (en : n ≡ open_checked b (amounts_of m)) where
  module _ (name : List ℕ) (kind : Kind) (v : Option ℕ) (word : ℕ) (present : Bool) (is : v ≡ some_if present word) (there : is_some v ≡ present) where
    abbrev p : PlanAnswer
    p = plan_for n (builder_head b) b.columns m.names name kind

    abbrev yes_step : Stepped
    yes_step = step_taken (accepted_step (builder_head b) p.plan (is_some v)) (written_by (builder_head b) p.plan m name v)

    by_number_lem : (k : ℕ) → p.refusal ≡ k → lifted b (if_yes p.refusal yes_step (step_refused p.refusal m)) ≡ appended_of b m name kind v
    by_number_lem zero z =
        let a = plan_known n (builder_head b) b.columns (amounts_of m) m.names name kind p.plan (λ e. open_parts b (amounts_of m) (sym en ∙ e)) (ap (λ (k : ℕ). record { plan = p.plan; refusal = k }) (sym z)) in
        ap (λ (k : ℕ). lifted b (if_yes k yes_step (step_refused k m))) z
        ∙ ap (λ (t : Bool). outcome (appended (grown_by_step b (accepted_step (builder_head b) p.plan t)) 0) yes_step.buffers) there
        ∙ ap (λ (u : UnionBuilder). outcome (appended u 0) yes_step.buffers) (accepted_after b p.plan present full a.few a.used)
        ∙ sym (ap (λ (k : ℕ). outcome (appended (if_yes k (grown_as b p.plan (some_if present 0)) b) k) yes_step.buffers) z)
        ∙ append_yes b m name kind n en p (plan_is b name kind n m.names) z present word (builder_head b) refl yes_step.buffers (ap (written_by (builder_head b) p.plan m name) is)
        ∙ ap (appended_of b m name kind) (sym is)
    by_number_lem (suc k) z =
        ap (λ (k : ℕ). lifted b (if_yes k yes_step (step_refused k m))) z
        ∙ sym (ap (λ (k : ℕ). outcome (appended (if_yes k (grown_as b p.plan v) b) k) m) z)
        ∙ append_no b m name kind n en p (plan_is b name kind n m.names) v v (λ e. omega (arith, e, z))

    lifted_by : lifted b (append_by n (builder_head b) b.columns name kind v m) ≡ appended_of b m name kind v
    unfolding append_by planned
    lifted_by = by_number_lem p.refusal refl

  -- an append by the builder's parts
  pub lifted_append : (name : List ℕ) (kind : Kind) (v : Option ℕ) → lifted b (append_by n (builder_head b) b.columns name kind v m) ≡ appended_of b m name kind v
  lifted_append name kind none = lifted_by name kind none 0 false refl refl
  lifted_append name kind (some x) = lifted_by name kind (some x) x true refl refl

  -- a value is cut to its kind
  cut : (name : List ℕ) (kind : Kind) (bits : ℕ) (t : Bool)
      → appended_of b m name kind (some_if t (low_bits (width_of kind) bits)) ≡ append_with b m name kind (some_if t bits)
  cut name kind bits true = append_cut b m name kind (some bits)
  cut name kind bits false = append_cut b m name kind none

  lifted_reading : (text : List ℕ) (r : Reading)
      → lifted b (reading_by n (builder_head b) b.columns text r m) ≡ reading_of text r.start r.size r.kind r.present r.bits b m
  unfolding reading_by reading_of
  lifted_reading text r = by (is_reading (length text) r.start r.size r.kind r.present)
    where
      by : (t : Bool)
          → lifted b (cond t (append_by n (builder_head b) b.columns (take r.size (drop r.start text)) (kind_from r.kind) (some_if (flag_from r.present) (low_bits (width_of (kind_from r.kind)) r.bits)) m) (step_refused bad_number m))
          ≡ cond t (append_with b m (take r.size (drop r.start text)) (kind_from r.kind) (some_if (flag_from r.present) r.bits)) (outcome (appended b bad_number) m)
      by true =
          lifted_append (take r.size (drop r.start text)) (kind_from r.kind) (some_if (flag_from r.present) (low_bits (width_of (kind_from r.kind)) r.bits))
          ∙ cut (take r.size (drop r.start text)) (kind_from r.kind) r.bits (flag_from r.present)
      by false = refl

-- the builder is open after a reading as before it
reading_open : (text : List ℕ) (start size kind present bits : ℕ) (b : UnionBuilder) (m : Buffers)
    → open_checked (reading_of text start size kind present bits b m).answer.builder (amounts_of m) ≡ open_checked b (amounts_of m)
unfolding reading_of
reading_open text start size kind present bits b m = by (is_reading (length text) start size kind present)
  where
    by : (t : Bool)
        → open_checked (cond t (append_with b m (take size (drop start text)) (kind_from kind) (some_if (flag_from present) bits)) (outcome (record { builder = b; refusal = bad_number }) m)).answer.builder (amounts_of m)
        ≡ open_checked b (amounts_of m)
    by true = append_open b m (take size (drop start text)) (kind_from kind) (some_if (flag_from present) bits)
    by false = refl

-- ---- a run

-- what holds of a run before reading k: the readings before it are appended, and the builder is as open as at first
pub record Run (r : Readings) (n k : ℕ) (s : RunOutcome) (b : UnionBuilder) (m : Buffers) (refusals : List ℕ) : Type 0 where
  pub done : run_outcome (record { builder = b; refusal = 0 }) m refusals ≡ times k (appends_step r) s
  pub asked : n ≡ open_checked b (amounts_of m)
  pub full : length b.columns ≡ 128

-- one reading more
pub run_more : (r : Readings) (n k : ℕ) (s : RunOutcome) (b : UnionBuilder) (m : Buffers) (refusals : List ℕ) → Run r n k s b m refusals
    → (o : Result Step Refusal) (m' : Buffers) → stepped o m' ≡ reading_by n (builder_head b) b.columns r.text (reading_at r k) m → IfOk o (Steppable b.columns)
    → amounts_of m' ≡ amounts_of m → Run r n (k + 1) s (after_step b o) m' (set refusals k (number_of o))
unfolding appends_step
run_more r n k s b m refusals run o m' e takes kept =
    record {
      done =
          ap (λ (x : AppendOutcome). run_outcome (record { builder = x.answer.builder; refusal = 0 }) x.buffers (set refusals k x.answer.refusal)) reads
          ∙ ap (appends_step r k) run.done
          ∙ sym (times_more k (appends_step r) s);
      asked =
          run.asked
          ∙ sym (reading_open r.text (get_or r.starts k 0) (get_or r.sizes k 0) (get_or r.kinds k 0) (get_or r.present k 0) (get_or r.bits k 0) b m)
          ∙ ap₂ open_checked (sym (ap (λ (x : AppendOutcome). x.answer.builder) reads)) (sym kept);
      full = full_after o takes;
    }
  where
    reads : outcome (appended (after_step b o) (number_of o)) m'
        ≡ reading_of r.text (get_or r.starts k 0) (get_or r.sizes k 0) (get_or r.kinds k 0) (get_or r.present k 0) (get_or r.bits k 0) b m
    reads = lifted_told b o m' ∙ ap (lifted b) e ∙ lifted_reading b m run.full n run.asked r.text (reading_at r k)

    full_after : (o : Result Step Refusal) → IfOk o (Steppable b.columns) → length (after_step b o).columns ≡ 128
    full_after (Ok x) h = after_full b x run.full h.few
    full_after (Err x) h = run.full

-- ---- the answer of a run

module _ (b : UnionBuilder) (m : Buffers) (r : Readings) (refusals : List ℕ) where
  pub appends_no : lengths_match r (length refusals) ≡ false → run_outcome (record { builder = b; refusal = bad_length }) m refusals ≡ appends_of b m r refusals
  unfolding appends_of
  appends_no h = rw h

  pub appends_yes : lengths_match r (length refusals) ≡ true → (o : RunOutcome)
      → o ≡ times (length r.starts) (appends_step r) (run_outcome (record { builder = b; refusal = 0 }) m refusals) → o ≡ appends_of b m r refusals
  unfolding appends_of
  appends_yes h o e = rw h e

-- a refused append, by its number: the builder and lent memory as they were
pub refused_append : (b : UnionBuilder) (m : Buffers) (name : List ℕ) (kind : Kind) (v : Option ℕ) (n : ℕ) → n ≡ append_checked b m name kind → (n ≡ 0 → ⊥)
    → outcome (record { builder = b; refusal = n }) m ≡ append_with b m name kind v
unfolding append_with
refused_append b m name kind v n e h = rw (← e, refused_is n _ b h, refused_is n _ m h)
