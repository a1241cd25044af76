-- What holds of an array before its null mask is written.
use Rattle.std.specs.Prelude.{◌≡◌, true, List, ℕ, ◌≤◌, length}
use Rattle.bitmap.specs.Bits.{words_for}
use Rattle.union_array.specs.declared.UnionArray.{UnionArray}
use Rattle.array_columns.specs.Buffers.{Buffers}
use Rattle.union_array.specs.Questions.{checked}
use Rattle.null_strategy.specs.declared.Route.{Route}
use Rattle.null_strategy.specs.Route.{is_all_null, fully_nulls}
use Rattle.null_strategy.specs.declared.Fields.{Fields}
use Rattle.null_strategy.specs.Fields.{fields_of}

-- the questions 1 to 8 were answered yes, the fields are the array's, the words are lent, and the route is one for this array
pub record Ready (a : UnionArray) (fs : Fields) (route : Route) (m : Buffers) (out : List ℕ) : Type 0 where
  pub accepted : checked a m ≡ 0
  pub fields : fs ≡ fields_of a m
  pub lent : words_for a.count ≤ length out
  pub some : 1 ≤ a.fields
  pub full : is_all_null route ≡ true → fully_nulls a m ≡ a.fields
