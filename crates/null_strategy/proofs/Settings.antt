-- The ways out of the constructor of a setting, and what its answer says. Assumes nothing.
use mathlib.Core.Path.{◌≡◌, refl, sym, ap}
use mathlib.Core.Bool.{Bool, true, false, cond}
use Prim.Native.Nat.{ℕ}
use native.Mathlib.Omega.{arith}
use borrow.Author.Tests.{ne_eqb}
use Rattle.std.specs.Prelude.{Ok, Err}
use Rattle.array_columns.specs.declared.Refusal.{Refusal}
use Rattle.array_columns.specs.declared.Refusal.TheVariants.{UnknownSetting}
use Rattle.array_columns.specs.Refusal.{no, refusal_number}
use Rattle.null_strategy.specs.Setting.{Processor, Setting, SettingAnswer, question12, setting_number, setting_cost, setting_told, setting_answer, setting_of}

-- the number 12 is one refusal's
only_12 : (r : Refusal) → refusal_number r ≡ 12 → r ≡ UnknownSetting
only_12 r e = grind arith

-- and 0 none's
pub not_0 : (r : Refusal) → refusal_number r ≡ 0 → ⊥
not_0 r e = grind arith

module _ (c : ℕ) where
  -- a setting is answered with its cost, any other number with the refusal
  pub setting_yes : (k : ℕ) → c ≡ k → question12 c ≡ true → setting_told (Ok (record { cost = k })) ≡ setting_answer c
  unfolding setting_answer
  setting_yes k e q = rw (q, e)

  pub setting_no : question12 c ≡ false → setting_told (Err UnknownSetting) ≡ setting_answer c
  unfolding setting_answer
  setting_no q = rw q

  -- the four settings, and no others
  pub is_10 : c ≡ 10 → question12 c ≡ true
  unfolding question12
  is_10 e = ap question12 e

  pub is_3 : c ≡ 3 → question12 c ≡ true
  unfolding question12
  is_3 e = ap question12 e

  pub is_2 : c ≡ 2 → question12 c ≡ true
  unfolding question12
  is_2 e = ap question12 e

  pub is_0 : c ≡ 0 → question12 c ≡ true
  unfolding question12
  is_0 e = ap question12 e

  pub is_none : (c ≡ 10 → ⊥) → (c ≡ 3 → ⊥) → (c ≡ 2 → ⊥) → (c ≡ 0 → ⊥) → question12 c ≡ false
  unfolding question12
  is_none p q r s = rw (ne_eqb c 10 p, ne_eqb c 3 q, ne_eqb c 2 r, ne_eqb c 0 s)

  told_of : setting_told (setting_of c) ≡ setting_answer c
  unfolding setting_answer setting_of
  told_of = by (question12 c)
    where
      by : (b : Bool) → setting_told (cond b (Ok (record { cost = c })) (Err UnknownSetting)) ≡ record { refusal = no 12 b; cost = cond b c 0 }
      by true = refl
      by false = refl

  -- the answer is the case that the definition names
  pub setting_is : (s : Setting) → setting_told s ≡ setting_answer c → s ≡ setting_of c
  unfolding setting_of setting_answer
  setting_is s e = by (question12 c) s e
    where
      by : (b : Bool) (s : Setting) → setting_told s ≡ record { refusal = no 12 b; cost = cond b c 0 } → s ≡ cond b (Ok (record { cost = c })) (Err UnknownSetting)
      by true (Ok p) e = ap (λ (a : SettingAnswer). Ok (record { cost = a.cost })) e
      by true (Err r) e = absurd (not_0 r (ap (λ (a : SettingAnswer). a.refusal) e))
      by false (Ok p) e = let z : ◌≡◌ {A = ℕ} 0 12 = ap (λ (a : SettingAnswer). a.refusal) e in cc
      by false (Err r) e = ap (λ (x : Refusal). Err x) (only_12 r (ap (λ (a : SettingAnswer). a.refusal) e))

  pub setting_refused : (r : Refusal) → setting_told (Err r) ≡ setting_answer c → setting_number (setting_of c) ≡ refusal_number r
  setting_refused r e = ap setting_number (sym (setting_is (Err r) e))

  pub setting_taken : (p : Processor) → setting_told (Ok p) ≡ setting_answer c → (setting_number (setting_of c) ≡ 0) × (p.cost ≡ c)
  unfolding setting_of
  setting_taken p e = let r = setting_is (Ok p) e in (ap setting_number (sym r), by (question12 c) r)
    where
      by : (b : Bool) → Ok p ≡ cond b (Ok (record { cost = c })) (Err UnknownSetting) → p.cost ≡ c
      by true r = ap setting_cost r
      by false r = cc
