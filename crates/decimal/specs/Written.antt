-- For inner functions: bits as text.
use Rattle.std.specs.Prelude.{List, ◌∷◌, ℕ}
use Rattle.decimal.specs.Text.{last_digits}

-- 0x (48, 120) and the last `count` hexadecimal digits of the bits
unfoldable pub hex_text : ℕ → ℕ → List ℕ
hex_text bits count = 48 ∷ (120 ∷ last_digits 16 count bits)
