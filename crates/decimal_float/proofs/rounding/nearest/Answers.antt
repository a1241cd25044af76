use Rattle.std.proofs.Common.{ℕ, sym, ap, ◌∙◌, arith}
use Rattle.std.specs.Float.Ieee.{to_bits, round}
use Rattle.decimal_float.specs.Floats.{ieee}
use Rattle.decimal_float.proofs.NearestLaws.{bits_zero, sum_fits, sum_is}
use Rattle.decimal_float.proofs.rounding.nearest.Goals as goal

pub returns-then-m-eq0 : goal.returns-then-m-eq0
returns-then-m-eq0 c =
    c.sign_of-sign.ensures ∙ sym (ap (λ (x : ℕ). to_bits (ieee c.args.f) (round (ieee c.args.f) c.args.negative x c.args.d)) c.if-m-eq0.true ∙ bits_zero (ieee c.args.f) c.args.negative c.args.d (omega arith))

pub overflow_add-result : goal.overflow_add-result
overflow_add-result c =
    let h = sum_fits (ieee c.args.f) c.args.negative c.args.m c.args.d c.sizes-s.result c.divided-q.result c.rounded.result c.sign_of-sign.result c.sizes-s.ensures.precision c.sizes-s.ensures.emax c.sign_of-sign.ensures c.divided-q.ensures c.rounded.ensures in
    omega (arith, h)

pub overflow_add-result-2 : goal.overflow_add-result-2
overflow_add-result-2 c =
    record { fits = sum_fits (ieee c.args.f) c.args.negative c.args.m c.args.d c.sizes-s.result c.divided-q.result c.rounded.result c.sign_of-sign.result c.sizes-s.ensures.precision c.sizes-s.ensures.emax c.sign_of-sign.ensures c.divided-q.ensures c.rounded.ensures }

pub returns : goal.returns
returns c =
    sum_is (ieee c.args.f) c.args.negative c.args.m c.args.d c.sizes-s.result c.divided-q.result c.rounded.result c.sign_of-sign.result c.sizes-s.ensures.precision c.sizes-s.ensures.emax c.sign_of-sign.ensures c.divided-q.ensures c.rounded.ensures
