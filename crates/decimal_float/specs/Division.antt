-- For inner functions: the long division of a fraction, and its rounding.
use Rattle.std.specs.Prelude.{◌≡◌, ℕ, ◌+◌, ◌*◌, ◌^◌, ◌<◌, ◌≤◌}
use Rattle.std.specs.Float.Ieee.{prec, emax}
use Rattle.std.specs.Float.Ieee.Nearest.{closest}
use Rattle.decimal_float.specs.declared.Format.{Format}
use Rattle.decimal_float.specs.declared.Sizes.{Sizes}
use Rattle.decimal_float.specs.declared.Quotient.{Quotient}
use Rattle.decimal_float.specs.Floats.{ieee, sign_weight, hex_digits}

pub record SizesOf (f : Format) (r : Sizes) : Type 0 where
  pub precision : r.precision ≡ prec (ieee f)
  pub emax : r.emax ≡ emax (ieee f)
  pub sign : r.sign ≡ sign_weight f
  pub hex_digits : r.hex_digits ≡ hex_digits f

-- m with `steps` binary digits 0 after it, divided by d: 63 binary digits, and a rest
pub record Divided (m d : ℕ) (r : Quotient) : Type 0 where
  pub parts : m * 2 ^ r.steps ≡ d * r.whole + r.rest
  pub small : r.rest < d
  pub low : 2 ^ 62 ≤ r.whole
  pub high : r.whole < 2 ^ 63
  pub few : r.steps ≤ 113

-- the whole number nearest to the quotient by 2 ^ drop, ties to even, whatever the divisor was
abbrev pub Rounded : Quotient → ℕ → ℕ → Type 0
Rounded q drop r = (d : ℕ) → q.rest < d → r ≡ closest (d * q.whole + q.rest) (d * 2 ^ drop)
