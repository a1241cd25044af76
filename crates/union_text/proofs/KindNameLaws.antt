-- A kind's name names it and no other text does. Assumes nothing.
use mathlib.Core.Path.{◌≡◌, refl, ap, ◌∙◌}
use mathlib.Core.Bool.{Bool, true, false, cond}
use mathlib.Core.List.{List, [], ◌∷◌}
use Prim.Native.Nat.{ℕ}
use native.Mathlib.Omega.{arith}
use Rattle.bitmap.specs.Lists.{table}
use Rattle.array_columns.specs.declared.Kind.{Kind}
use Rattle.array_columns.specs.declared.Kind.TheVariants.{Int8, Int16, Int32, Int64, UInt8, UInt16, UInt32, UInt64, Float32, Float64}
use Rattle.array_columns.specs.Numbers.{kind_from}
use Rattle.union_names.specs.Names.{same_name}
use Rattle.union_names.proofs.Same.{same_eq}
use Rattle.std.specs.Prelude.{Some, find, bytes_eq, nat_eq, ◌&&◌}
use Rattle.union_text.specs.KindNames.{kind_name, kind_named}

-- the library's test of bytes is the names'
pub same_bytes : (xs ys : List ℕ) → bytes_eq xs ys ≡ same_name xs ys
same_bytes [] [] = refl
same_bytes [] (y ∷ ys) = refl
same_bytes (x ∷ xs) [] = refl
same_bytes (x ∷ xs) (y ∷ ys) = ap (λ (t : Bool). nat_eq x y && t) (same_bytes xs ys)

-- ---- each reads the other back

pub named_back : (k : Kind) → kind_named (kind_name k) ≡ Some k
unfolding kind_named
named_back Int8 = refl
named_back Int16 = refl
named_back Int32 = refl
named_back Int64 = refl
named_back UInt8 = refl
named_back UInt16 = refl
named_back UInt32 = refl
named_back UInt64 = refl
named_back Float32 = refl
named_back Float64 = refl

first_only : (text : List ℕ) (ks : List Kind) (k : Kind) → find (λ j. same_name text (kind_name j)) ks ≡ Some k → text ≡ kind_name k
first_only text [] k e = absurd (let z : ◌≡◌ {A = ℕ} 0 1 = cc in omega arith)
first_only text (j ∷ ks) k e = at (same_name text (kind_name j)) refl e (first_only text ks k)
  where
    at : (t : Bool) → same_name text (kind_name j) ≡ t → cond t (Some j) (find (λ j. same_name text (kind_name j)) ks) ≡ Some k → (find (λ j. same_name text (kind_name j)) ks ≡ Some k → text ≡ kind_name k) → text ≡ kind_name k
    at true s q later = let h : j ≡ k = cc in same_eq text (kind_name j) s ∙ ap kind_name h
    at false s q later = later q

pub named_only : (text : List ℕ) (k : Kind) → kind_named text ≡ Some k → text ≡ kind_name k
unfolding kind_named
named_only text k e = first_only text (table 10 kind_from) k e
