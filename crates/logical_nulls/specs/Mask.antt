-- The null mask and the named strategies: the answer, and the lent words at exit. A text in quotes is document 01's.
use Rattle.std.specs.Prelude.{Bool, true, false, cond, ◌&&◌, List, ℕ, eqb, leb, length, Result, Ok, Err, Some, None}
use Rattle.bitmap.specs.Bits.{count, words_for, written}
use Rattle.array_columns.specs.declared.Layout.{Layout}
use Rattle.union_array.specs.declared.UnionArray.{UnionArray}
use Rattle.union_array.specs.Types.{by_layout}
use Rattle.array_columns.specs.Buffers.{Buffers}
use Rattle.array_columns.specs.declared.Refusal.{Refusal}
use Rattle.array_columns.specs.Refusal.{no, ◌then◌, if_yes, refusal_number}
use Rattle.std.specs.declared.option.Option as given
use Rattle.union_array.specs.Slots.{slot_null}
use Rattle.union_array.specs.Questions.{checked}
use Rattle.null_strategy.specs.Setting.{setting_number, setting_of}
use Rattle.null_strategy.specs.declared.Route.{Route}
use Rattle.null_strategy.specs.declared.Route.TheVariants.{Gather as routeGather, SkipOne as routeSkipOne, SkipWithoutNulls as routeSkipWithout, SkipFullyNull as routeSkipFully}
use Rattle.null_strategy.specs.Route.{route_number, is_absent, present_on, with_nulls, route_of}
pub use Rattle.logical_nulls.specs.declared.LogicalNulls.{LogicalNulls}
pub use Rattle.logical_nulls.specs.declared.SparseStrategy.{SparseStrategy}
pub use Rattle.logical_nulls.specs.declared.SparseStrategy.TheVariants.{Gather, SkipOne, SkipWithoutNulls, SkipFullyNull}

-- what is answered beside the words: "presence, null count (0 when absent) and route", and the refusal, in document 01's numbers
pub record NullsAnswer : Type 0 where
  pub nulls : ℕ
  pub refusal : ℕ
  pub route : ℕ
  pub present : Bool

-- the answer on a route, for a mask of so many nulls
abbrev pub answer_on : Route → ℕ → NullsAnswer
answer_on route nulls = record { nulls = cond (present_on route nulls) nulls 0; refusal = 0; route = route_number route; present = present_on route nulls }

-- a refused call answers "all other answer fields 0"
abbrev pub refused_with : ℕ → NullsAnswer
refused_with n = record { nulls = 0; refusal = n; route = 0; present = false }

-- an accepted answer of the code, with the null count of its mask if there is one
abbrev pub accepted_nulls : Route → given.Option ℕ → NullsAnswer
accepted_nulls route None = record { nulls = 0; refusal = 0; route = route_number route; present = false }
accepted_nulls route (Some nulls) = record { nulls = nulls; refusal = 0; route = route_number route; present = true }

-- of each case of the code's answer, document 01's numbers
abbrev pub numbers_of : Result LogicalNulls Refusal → NullsAnswer
numbers_of (Ok r) = accepted_nulls r.route r.null_count
numbers_of (Err r) = refused_with (refusal_number r)

-- the answer, and the lent words at exit
pub record Masked : Type 0 where
  pub answer : NullsAnswer
  pub out : List ℕ

-- the two put together
abbrev pub masked : NullsAnswer → List ℕ → Masked
masked answer out = record { answer = answer; out = out }

-- with an answer of the code
abbrev pub with_words : Result LogicalNulls Refusal → List ℕ → Masked
with_words r out = masked (numbers_of r) out

-- 13. Enough words lent for the mask (also asked on routes 0 to 2)?
abbrev pub question13 : UnionArray → ℕ → Bool
question13 a lent = leb (words_for a.count) lent

-- "Bit i is clear exactly if slot i's child slot is null." "Routes 1 to 6 write ..; Route 0 writes nothing."
unfoldable pub masked_by : UnionArray → Buffers → Route → List ℕ → Masked
masked_by a m route out = masked (answer_on route (count a.count (slot_null a m))) (cond (is_absent route) out (written a.count (slot_null a m) out))

-- and leaves "lent memory untouched"
abbrev pub not_masked : ℕ → List ℕ → Masked
not_masked n out = masked (refused_with n) out

-- "the null mask 7, 8, 12, 13", after 1 to 6; 12 is the number of a refused setting
abbrev pub nulls_checked : UnionArray → Buffers → ℕ → ℕ → ℕ
nulls_checked a m cost lent = checked a m then setting_number (setting_of cost) then no 13 (question13 a lent)

-- the null mask at a gather cost, over the words lent for it
unfoldable pub logical_nulls_of : UnionArray → Buffers → ℕ → List ℕ → Masked
logical_nulls_of a m cost out =
    if_yes (nulls_checked a m cost (length out)) (masked_by a m (route_of a m cost) out) (not_masked (nulls_checked a m cost (length out)) out)

-- "Gather .. (3); SkipOne .. (4); SkipWithoutNulls .. (5); SkipFullyNull .. (6)"
abbrev pub strategy_route : SparseStrategy → Route
strategy_route Gather = routeGather
strategy_route SkipOne = routeSkipOne
strategy_route SkipWithoutNulls = routeSkipWithout
strategy_route SkipFullyNull = routeSkipFully

-- "sparse unless Gather; M = N for SkipOne", by N and M
abbrev pub applies : SparseStrategy → Layout → ℕ → ℕ → Bool
applies Gather layout n m = true
applies SkipOne layout n m = by_layout layout (eqb m n) false
applies SkipWithoutNulls layout n m = by_layout layout true false
applies SkipFullyNull layout n m = by_layout layout true false

-- "two or more fields", and that
unfoldable pub may_run : SparseStrategy → Layout → ℕ → ℕ → Bool
may_run s layout n m = leb 2 n && applies s layout n m

-- 14. Named strategy: two or more fields; sparse unless Gather; M = N for SkipOne?
unfoldable pub question14 : SparseStrategy → UnionArray → Buffers → Bool
question14 s a m = may_run s a.layout a.fields (with_nulls a m)

-- "a named strategy 7, 8, 14, 13", after 1 to 6
abbrev pub strategy_checked : UnionArray → Buffers → SparseStrategy → ℕ → ℕ
strategy_checked a m s lent = checked a m then no 14 (question14 s a m) then no 13 (question13 a lent)

-- "A named strategy writes as its route does and answers the null count, absent exactly if there is no null."
unfoldable pub strategy_of : UnionArray → Buffers → SparseStrategy → List ℕ → Masked
strategy_of a m s out =
    if_yes (strategy_checked a m s (length out)) (masked_by a m (strategy_route s) out) (not_masked (strategy_checked a m s (length out)) out)
