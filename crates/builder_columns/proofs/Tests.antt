-- What a test of an answer tells. Assumes nothing.
use mathlib.Core.Path.{◌≡◌, sym, ◌∙◌}
use mathlib.Core.Bool.{Bool, true, false, not}
use borrow.Author.Tests.{not-true, not-false}

-- a test of an answer t, by what t is: `if !t` was taken, or left
pub denied : {t q : Bool} → t ≡ q → not t ≡ true → q ≡ false
denied {t} e h = sym e ∙ not-true t h

pub granted : {t q : Bool} → t ≡ q → not t ≡ false → q ≡ true
granted {t} e h = sym e ∙ not-false t h
