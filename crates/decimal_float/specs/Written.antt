-- For inner functions: the start of a buffer reads as a float's bits.
use Rattle.std.specs.Prelude.{◌≡◌, List, ℕ, ◌≤◌, take, Option, Some, IfSome}
use Rattle.decimal_float.specs.declared.Format.{Format}
use Rattle.decimal_float.specs.Floats.{float_of}

-- if a length is answered, so many bytes at the start read as the bits
abbrev pub ReadsBack : ℕ → Format → List ℕ → Option ℕ → Type 0
ReadsBack bits f now r = IfSome r (λ end. (end ≤ 37) × (float_of f (take end now) ≡ Some bits))
