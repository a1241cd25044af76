-- For the code that asks 7 and 8 of many slots.
use Rattle.std.specs.Prelude.{true, List, ◌≡◌, ℕ, ◌+◌, ◌≤◌, ℤ, length}
use Rattle.bitmap.specs.Lists.{every}
use Rattle.array_slots.specs.Types.{Dense, Column, Head}
use Rattle.array_columns.specs.Refusal.{no, ◌then◌}
use Rattle.array_columns.specs.Slots.{all}
use Rattle.array_columns.specs.Questions.{valid_id}
use Rattle.array_slots.specs.Slots.{used, named_at, fits_at}

-- an array whose slots can be asked: what 1 to 6 tell of it as far as 7 and 8 need it
pub record Readable (h : Head) (columns : List Column) (ids offsets : List ℤ) : Type 0 where
  pub few : h.fields ≤ 128
  pub valid : all (λ c. valid_id c.id) (used h columns) ≡ true
  pub ids_in : h.start + h.count ≤ length ids
  pub offsets_in : h.layout ≡ Dense → h.offsets_start + h.count ≤ length offsets

-- the first no of 7 and 8, asked of every slot
unfoldable pub slots_checked : Head → List Column → List ℤ → List ℤ → ℕ
slots_checked h columns ids offsets =
    no 7 (every h.count (named_at h columns ids)) then no 8 (every h.count (fits_at h columns ids offsets))
