-- One append by a builder's parts: its plan, what it writes, and what it leaves.
use Rattle.std.specs.Prelude.{◌≡◌, Bool, cond, not, List, ℕ, suc, ◌≤◌, ◌<◌, length, get_or, take, drop, Result, Ok, Err}
use Rattle.std.proofs.Math.Option.{Option, none, some}
use Rattle.bitmap.specs.Lists.{first_of}
use Rattle.array_columns.specs.declared.Kind.{Kind}
use Rattle.array_columns.specs.Types.{by_layout, width_of, low_bits}
use Rattle.array_columns.specs.Slots.{is_some}
use Rattle.array_columns.specs.Buffers.{Buffers}
use Rattle.array_columns.specs.Numbers.{kind_from, flag_from, bad_number}
use Rattle.array_columns.specs.Refusal.{no, if_yes, refusal_number}
use Rattle.array_columns.specs.declared.Refusal.{Refusal}
use Rattle.union_names.specs.Names.{question17}
use Rattle.builder_columns.specs.declared.BuilderColumn.{BuilderColumn}
use Rattle.builder_columns.specs.declared.BuilderHead.{BuilderHead}
use Rattle.builder_columns.specs.declared.Plan.{Plan}
use Rattle.builder_columns.specs.Columns.{some_if, nth_column, has_name, grown_by}
use Rattle.builder_columns.specs.Finding.{found_in}
use Rattle.builder_columns.specs.Planning.{PlanAnswer, plan_if, found_plan}
use Rattle.builder_columns.specs.Writing.{written_by}
use Rattle.builder_appends.specs.Readings.{Readings, is_reading}
pub use Rattle.builder_appends.specs.declared.Step.{Step}
pub use Rattle.builder_appends.specs.declared.Reading.{Reading}

-- ---- whatever lists all fields of a step

-- what an accepted append leaves: in dense its column has its slot, in sparse every column gets one
abbrev pub accepted_step : BuilderHead → Plan → Bool → Step
accepted_step h p present = record {
  column = by_layout h.layout p.column (grown_by p.column (not present));
  id = p.id;
  len = suc h.len;
  count = p.count;
  rows = by_layout h.layout p.count 0;
  present = present;
}

-- a step that can be taken over the columns
pub record Steppable (cs : List BuilderColumn) (s : Step) : Type 0 where
  pub used : s.id < 128
  pub few : s.rows ≤ 128
  pub slots : (k : ℕ) → k < s.rows → (k ≡ s.id → ⊥) → (nth_column cs k).slots < 65536
  pub own : 1 ≤ s.rows → s.column.slots < 65536

-- ---- an append

-- the plan, where n is the number that 15 and 16 gave
unfoldable pub plan_for : ℕ → BuilderHead → List BuilderColumn → List ℕ → List ℕ → Kind → PlanAnswer
plan_for n h cs names name kind =
    plan_if n (plan_if (no 17 (question17 name)) (found_plan h (found_in cs (first_of h.count (has_name cs names name))) name kind))

-- what an append leaves of the builder, nothing if it is refused; the number of the first no; and lent memory at exit
pub record Stepped : Type 0 where
  pub step : Option Step
  pub refusal : ℕ
  pub buffers : Buffers

abbrev pub step_taken : Step → Buffers → Stepped
step_taken s m = record { step = some s; refusal = 0; buffers = m }

abbrev pub step_refused : ℕ → Buffers → Stepped
step_refused n m = record { step = none; refusal = n; buffers = m }

-- the code's answer, with lent memory at exit
abbrev pub stepped : Result Step Refusal → Buffers → Stepped
stepped (Ok s) m = step_taken s m
stepped (Err r) m = step_refused (refusal_number r) m

-- an append as planned, of a value that is cut already or of a null
unfoldable pub planned : BuilderHead → PlanAnswer → List ℕ → Option ℕ → Buffers → Stepped
planned h p name v m =
    if_yes p.refusal (step_taken (accepted_step h p.plan (is_some v)) (written_by h p.plan m name v)) (step_refused p.refusal m)

unfoldable pub append_by : ℕ → BuilderHead → List BuilderColumn → List ℕ → Kind → Option ℕ → Buffers → Stepped
append_by n h cs name kind v m = planned h (plan_for n h cs m.names name kind) name v m

-- ---- a reading

-- reading k of a run
abbrev pub reading_at : Readings → ℕ → Reading
reading_at r k = record {
  bits = get_or r.bits k 0;
  start = get_or r.starts k 0;
  size = get_or r.sizes k 0;
  kind = get_or r.kinds k 0;
  present = get_or r.present k 0;
}

-- one reading: an append, or 128 and nothing changed
unfoldable pub reading_by : ℕ → BuilderHead → List BuilderColumn → List ℕ → Reading → Buffers → Stepped
reading_by n h cs text r m =
    let kind = kind_from r.kind in
    cond (is_reading (length text) r.start r.size r.kind r.present)
    (append_by n h cs (take r.size (drop r.start text)) kind (some_if (flag_from r.present) (low_bits (width_of kind) r.bits)) m)
    (step_refused bad_number m)
