-- The processor setting. "The gather cost is one of 10, 3, 2 and 0."
use Rattle.std.specs.Prelude.{Bool, cond, ◌||◌, ℕ, eqb, Result, Ok, Err}
use Rattle.array_columns.specs.declared.Refusal.{Refusal}
use Rattle.array_columns.specs.declared.Refusal.TheVariants.{UnknownSetting}
use Rattle.array_columns.specs.Refusal.{no, refusal_number}
pub use Rattle.null_strategy.specs.declared.Processor.{Processor}

-- a setting, or the refusal of a number that is none
abbrev pub Setting : Type 0
Setting = Result Processor Refusal

-- 12. Setting 10, 3, 2 or 0?
unfoldable pub question12 : ℕ → Bool
question12 cost = eqb cost 10 || (eqb cost 3 || (eqb cost 2 || eqb cost 0))

-- 01's number of each case
abbrev pub setting_number : Setting → ℕ
setting_number (Ok p) = 0
setting_number (Err r) = refusal_number r

-- and its value: the gather cost, 0 when refused
abbrev pub setting_cost : Setting → ℕ
setting_cost (Ok p) = p.cost
setting_cost (Err r) = 0

-- a number and a value
pub record SettingAnswer : Type 0 where
  pub refusal : ℕ
  pub cost : ℕ

-- those of a setting
abbrev pub setting_told : Setting → SettingAnswer
setting_told s = record { refusal = setting_number s; cost = setting_cost s }

-- what document 01 answers to a number given as a setting: 12 if it is none, and its cost, 0 when refused
unfoldable pub setting_answer : ℕ → SettingAnswer
setting_answer cost = record { refusal = no 12 (question12 cost); cost = cond (question12 cost) cost 0 }

-- the case of `Setting` that has this number and value
unfoldable pub setting_of : ℕ → Setting
setting_of cost = cond (question12 cost) (Ok (record { cost = cost })) (Err UnknownSetting)
