-- Names as they are printed.
use Rattle.std.specs.Prelude.{cond, ◌||◌, ℕ, ltb, eqb}

-- a name's byte as it is printed: "below 32 or equal to 127" as ? (63), any other as it is
unfoldable pub printed : ℕ → ℕ
printed b = cond (ltb b 32 || eqb b 127) 63 b
