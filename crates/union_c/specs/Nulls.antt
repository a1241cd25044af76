-- A null mask's answer as a C struct, and strategies by number.
use Rattle.std.specs.Prelude.{Bool, cond, ◌&&◌, ℕ, eqb, leb, ltb, Result}
use Rattle.bitmap.specs.Bits.{digit}
use Rattle.array_columns.specs.declared.Refusal.{Refusal}
use Rattle.logical_nulls.specs.declared.SparseStrategy.{SparseStrategy}
use Rattle.logical_nulls.specs.declared.SparseStrategy.TheVariants.{Gather, SkipOne, SkipWithoutNulls, SkipFullyNull}
use Rattle.logical_nulls.specs.Mask.{NullsAnswer}
use Rattle.union_c.specs.Numbers.{named}
pub use Rattle.union_c.specs.declared.CNulls.{CNulls}

-- a strategy by its route's number
abbrev pub strategy_from : ℕ → SparseStrategy
strategy_from n = cond (eqb n 4) SkipOne (cond (eqb n 5) SkipWithoutNulls (cond (eqb n 6) SkipFullyNull Gather))

abbrev pub is_strategy : ℕ → Bool
is_strategy n = leb 3 n && ltb n 7

-- that strategy, or the refusal of a number that names none
abbrev pub strategy_named : ℕ → Result SparseStrategy Refusal
strategy_named n = named is_strategy strategy_from n

abbrev pub nulls_to : NullsAnswer → CNulls
nulls_to r = record { nulls = r.nulls; refusal = r.refusal; route = r.route; present = digit r.present }
