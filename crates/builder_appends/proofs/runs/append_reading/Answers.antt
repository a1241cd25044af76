-- A reading that is refused, or its append. Assumes nothing.
use mathlib.Core.Path.{◌≡◌, sym, ap, ◌∙◌}
use mathlib.Core.Option.{Option}
use Prim.Native.Nat.{ℕ, ◌+◌, ◌-◌}
use native.Mathlib.Omega.{arith}
use lib.ListN.{take, drop}
use Rattle.array_columns.specs.Types.{width_of, low_bits}
use Rattle.array_columns.specs.Buffers.{held}
use Rattle.array_columns.specs.Numbers.{flag_from}
use Rattle.array_columns.specs.Refusal.{number_of}
use Rattle.builder_columns.specs.Columns.{some_if, given}
use Rattle.builder_appends.specs.Steps.{append_by}
use Rattle.builder_appends.proofs.Stepping.{given_then_some}
use Rattle.builder_appends.proofs.OneReading.{reading_in, reading_bad, reading_good}
use Rattle.builder_appends.proofs.runs.append_reading.Goals as goal

pub returns-then-not-is_in-clause-after : goal.returns-then-not-is_in-clause-after
returns-then-not-is_in-clause-after c =
    reading_bad _ _ _ _ _ _ (sym c.is_in.ensures ∙ c.if-not-is_in.true)

pub slice_bounds-name-end : goal.slice_bounds-name-end
slice_bounds-name-end c =
    omega (arith, reading_in _ _ _ _ _ (sym c.is_in.ensures ∙ c.if-not-is_in.false))

pub returns-clause-after : goal.returns-clause-after
returns-clause-after c =
    let a = c.args in
    let r = a.r in
    let e = sym c.is_in.ensures ∙ c.if-not-is_in.false in
    let m = low_bits (width_of c.from_number-kind.result) r.bits in
    let ev : given c.then_some-value.result ≡ some_if (flag_from r.present) m =
    ap given c.then_some-value.ensures ∙ given_then_some (flag_from r.present) c.low_bits.result ∙ ap (some_if (flag_from r.present)) c.low_bits.ensures in
    let size : (r.start + r.size) - r.start ≡ r.size = omega arith in
    c.append_step.ensures.after
    ∙ ap (λ (v : Option ℕ). append_by (number_of a.checked) a.h a.columns.now (take ((r.start + r.size) - r.start) (drop r.start a.text.now)) c.from_number-kind.result v (held a.lent.now)) ev
    ∙ ap (λ (n : ℕ). append_by (number_of a.checked) a.h a.columns.now (take n (drop r.start a.text.now)) c.from_number-kind.result (some_if (flag_from r.present) m) (held a.lent.now)) size
    ∙ reading_good (number_of a.checked) a.h a.columns.now a.text.now r (held a.lent.now) e c.from_number-kind.result c.from_number-kind.ensures
