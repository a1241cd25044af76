-- Kinds and their numbers: what holds of ten numbers by computing holds of every kind. Assumes nothing.
use mathlib.Core.Path.{◌≡◌, refl, sym, ap, ◌∙◌}
use mathlib.Core.Bool.{Bool, true}
use Prim.Native.Nat.{◌<◌}
use native.Mathlib.Omega.{arith}
use borrow.Author.Tests.{eqb-true}
use Rattle.bitmap.specs.Lists.{every}
use Rattle.bitmap.proofs.Tables.{every_at}
use Rattle.array_columns.specs.Types.{Kind, Int8, Int16, Int32, Int64, UInt8, UInt16, UInt32, UInt64, Float32, Float64, kind_number, same_kind}
use Rattle.array_columns.specs.Numbers.{kind_from}

-- a kind is the one with its number, which is below 10
pub record Numbered (k : Kind) : Type 0 where
  pub back : kind_from (kind_number k) ≡ k
  pub low : kind_number k < 10

pub numbered : (k : Kind) → Numbered k
numbered Int8 = record { back = refl; low = omega arith }
numbered Int16 = record { back = refl; low = omega arith }
numbered Int32 = record { back = refl; low = omega arith }
numbered Int64 = record { back = refl; low = omega arith }
numbered UInt8 = record { back = refl; low = omega arith }
numbered UInt16 = record { back = refl; low = omega arith }
numbered UInt32 = record { back = refl; low = omega arith }
numbered UInt64 = record { back = refl; low = omega arith }
numbered Float32 = record { back = refl; low = omega arith }
numbered Float64 = record { back = refl; low = omega arith }

-- a test that all ten numbers pass, every kind passes
pub every_kind : (p : Kind → Bool) → every 10 (λ n. p (kind_from n)) ≡ true → (k : Kind) → p k ≡ true
every_kind p e k = ap p (sym (numbered k).back) ∙ every_at 10 (λ n. p (kind_from n)) e (kind_number k) (numbered k).low

pub same_kind_lem : (a b : Kind) → same_kind a b ≡ true → a ≡ b
same_kind_lem a b e = sym (numbered a).back ∙ ap kind_from (eqb-true (kind_number a) (kind_number b) e) ∙ (numbered b).back
