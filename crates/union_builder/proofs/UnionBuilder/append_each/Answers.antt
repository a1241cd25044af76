-- One reading more. Assumes nothing.
use mathlib.Core.Path.{◌≡◌, refl, sym, ap, ◌∙◌}
use Prim.Native.Nat.{ℕ, ◌<◌}
use native.Mathlib.Omega.{arith}
use lib.ListN.{length}
use Rattle.bitmap.specs.Lists.{times}
use Rattle.array_columns.specs.Buffers.{amounts_of, held}
use Rattle.array_columns.proofs.Memory.{same_refl, same_trans}
use Rattle.array_columns.specs.Refusal.{number_of}
use Rattle.builder_appends.specs.Readings.{Readings}
use Rattle.builder_appends.specs.Steps.{stepped, reading_at, reading_by}
use Rattle.builder_appends.proofs.Lengths.{within, run_room}
use Rattle.union_builder.specs.Builder.{builder_head}
use Rattle.union_builder.specs.Appends.{run_outcome, appends_step}
use Rattle.union_builder.proofs.Appending.{open_parts}
use Rattle.union_builder.proofs.Readings.{run_more}
use Rattle.union_builder.proofs.UnionBuilder.append_each.Goals as goal

pub loop-k-init : goal.loop-k-init
loop-k-init c = (same_refl c.args.lent.now, record { done = refl; asked = rw c.amounts.ensures at c.check_open-checked.ensures; full = omega arith })

pub get-r-requires : goal.get-r-requires
get-r-requires c =
    let names : length c.readings.inside.starts.now ≡ length c.args.readings.now.starts = ap (λ (r : Readings). length r.starts) c.readings.view_is in
    let below : c.loop-k.k < length c.args.readings.now.starts = omega (arith, names, c.loop-k-test.true) in
    within c.args.readings.now (length c.args.refusals.now) c.requires c.loop-k.k below

pub append_reading-step-requires : goal.append_reading-step-requires
append_reading-step-requires c =
    let l = c.loop-k in
    λ e. rw c.head.ensures (open_parts l.self (amounts_of (held l.lent)) (sym l.invariant.1.asked ∙ e))

pub bounds-refusals-k : goal.bounds-refusals-k
bounds-refusals-k c =
    let names : length c.readings.inside.starts.now ≡ length c.args.readings.now.starts = ap (λ (r : Readings). length r.starts) c.readings.view_is in
    omega (arith, names, c.loop-k-test.true, run_room c.args.readings.now (length c.args.refusals.now) c.requires)

pub loop-k-preserved : goal.loop-k-preserved
loop-k-preserved c =
    let l = c.loop-k in
    let r = c.args.readings.now in
    let n = number_of c.check_open-checked.result in
    let o = c.append_reading-step.result in
    let m' = held c.append_reading-step.new.lent in
    let text : c.readings.inside.text.now ≡ r.text = ap (λ (x : Readings). x.text) c.readings.view_is in
    let after : stepped o m' ≡ reading_by n (builder_head l.self) l.self.columns r.text (reading_at r l.k) (held l.lent) =
    rw (c.head.ensures, c.get-r.ensures, text) at c.append_reading-step.ensures.after in (
      same_trans c.append_reading-step.ensures.same l.invariant.0,
      rw (c.take.ensures.builder, c.number_of.ensures, c.take.ensures.number)
          (run_more r n l.k _ l.self (held l.lent) l.refusals l.invariant.1 o m' after c.append_reading-step.ensures.steppable c.append_reading-step.ensures.kept),
    )

pub returns-clause-after : goal.returns-clause-after
returns-clause-after c =
    let r = c.args.readings.now in
    let names : length c.readings.inside.starts.now ≡ length r.starts = ap (λ (x : Readings). length x.starts) c.readings.view_is in
    let all : c.loop-k.k ≡ length r.starts = omega (arith, names, c.loop-k-test.false) in
    c.loop-k.invariant.1.done ∙ ap (λ (n : ℕ). times n (appends_step r) (run_outcome (record { builder = c.args.self.now; refusal = 0 }) (held c.args.lent.now) c.args.refusals.now)) all
