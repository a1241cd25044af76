-- What an append leaves, accepted or refused. Assumes nothing.
use mathlib.Core.Path.{◌≡◌, refl, sym, ap, ◌∙◌}
use mathlib.Core.Bool.{Bool, true, false, not}
use mathlib.Core.Option.{Option}
use mathlib.Core.List.{List}
use Prim.Native.Nat.{ℕ, ◌≤◌, ◌<◌}
use native.Mathlib.Omega.{arith}
use Rattle.std.specs.Prelude.{Some, None, Result, Ok, Err, IfOk}
use Rattle.std.specs.declared.option.Option as code
use Rattle.std.specs.Option as core
use Rattle.std.specs.Bool.{then_some}
use Rattle.array_columns.specs.declared.Amounts.{Amounts}
use Rattle.array_columns.specs.declared.Kind.{Kind}
use Rattle.array_columns.specs.declared.Layout.{Layout}
use Rattle.array_columns.specs.declared.Layout.TheVariants.{Sparse, Dense}
use Rattle.array_columns.specs.declared.Refusal.{Refusal}
use Rattle.array_columns.specs.Types.{by_layout}
use Rattle.array_columns.specs.Slots.{is_some}
use Rattle.array_columns.specs.Buffers.{Buffers}
use Rattle.array_columns.specs.Refusal.{refusal_number}
use Rattle.array_columns.proofs.Numbered.{refused_ne, if_refused}
use Rattle.array_columns.proofs.Tests.{refused_is}
use Rattle.builder_columns.specs.declared.BuilderColumn.{BuilderColumn}
use Rattle.builder_columns.specs.declared.BuilderHead.{BuilderHead}
use Rattle.builder_columns.specs.declared.Plan.{Plan}
use Rattle.builder_columns.specs.Columns.{some_if, given, or_else, nth_column, grown_by}
use Rattle.builder_columns.specs.Planning.{PlanAnswer, plan_told}
use Rattle.builder_appends.specs.Steps.{Step, accepted_step, Steppable, plan_for, Stepped, step_refused, stepped, planned, append_by}
use Rattle.builder_appends.proofs.Planned.{Planned}

-- ---- a value or a null of the code

pub is_some_given : (o : code.Option ℕ) → core.is_some o ≡ is_some (given o)
is_some_given None = refl
is_some_given (Some x) = refl

pub given_then_some : (t : Bool) (x : ℕ) → given (then_some t x) ≡ some_if t x
given_then_some true x = refl
given_then_some false x = refl

-- ---- a step can be taken

pub accepted_steppable : (h : BuilderHead) (cs : List BuilderColumn) (p : Plan) (size : ℕ) (lent : Amounts) (present : Bool) → Planned h cs p size lent
    → Steppable cs (accepted_step h p present)
accepted_steppable h cs p size lent present a =
    let few = a.few in
    let used = a.used in
    record { used = omega arith; few = few_by h.layout; slots = slots_by h.layout; own = own_by h.layout }
  where
    few_by : (l : Layout) → by_layout l p.count 0 ≤ 128
    few_by Sparse = a.few
    few_by Dense = omega arith

    slots_by : (l : Layout) (k : ℕ) → k < by_layout l p.count 0 → (k ≡ p.id → ⊥) → (nth_column cs k).slots < 65536
    slots_by Sparse k g n = a.others k g n
    slots_by Dense k g n = absurd (omega arith)

    own_by : (l : Layout) → 1 ≤ by_layout l p.count 0 → (by_layout l p.column (grown_by p.column (not present))).slots < 65536
    own_by Sparse g = a.slots
    own_by Dense g = absurd (omega arith)

-- ---- an append by its plan

-- the step that a plan leads to can be taken
pub planned_steppable : (h : BuilderHead) (cs : List BuilderColumn) (p : Result Plan Refusal) (size : ℕ) (lent : Amounts) (name : List ℕ) (v : Option ℕ) (m m' : Buffers)
    (r : Result Step Refusal) → stepped r m' ≡ planned h (plan_told p) name v m → IfOk p (λ x. Planned h cs x size lent) → IfOk r (Steppable cs)
unfolding planned
planned_steppable h cs (Ok p) size lent name v m m' (Err r) e k = cc
planned_steppable h cs (Ok p) size lent name v m m' (Ok s) e k =
    let same : s ≡ accepted_step h p (is_some v) = ap (λ (x : Stepped). or_else x.step s) e in
    rw same (accepted_steppable h cs p size lent (is_some v) k)
planned_steppable h cs (Err q) size lent name v m m' (Err r) e k = _
planned_steppable h cs (Err q) size lent name v m m' (Ok s) e k =
    let z : 0 ≡ refusal_number q = ap (λ (x : Stepped). x.refusal) (e ∙ if_refused q _ _) in
    absurd (refused_ne q (sym z))

-- a refused append: there is no step, only the plan's number, and lent memory is as it was
module _ (n : ℕ) (h : BuilderHead) (cs : List BuilderColumn) (name : List ℕ) (kind : Kind) (v : Option ℕ) (m : Buffers) where
  pub refused_is_append : ((plan_for n h cs m.names name kind).refusal ≡ 0 → ⊥) → step_refused (plan_for n h cs m.names name kind).refusal m ≡ append_by n h cs name kind v m
  unfolding append_by planned
  refused_is_append z = sym (refused_is (plan_for n h cs m.names name kind).refusal _ _ z)

  pub append_refused : (p : PlanAnswer) → p ≡ plan_for n h cs m.names name kind → (s : Result Step Refusal) → (p.refusal ≡ 0 → ⊥) → stepped s m ≡ step_refused p.refusal m
      → IfOk s (Steppable cs) × (stepped s m ≡ append_by n h cs name kind v m)
  append_refused p ep (Ok x) z e = absurd (z (sym (ap (λ (q : Stepped). q.refusal) e)))
  append_refused p ep (Err r) z e = (_, e ∙ rw ep (refused_is_append (rw ep at z)))
