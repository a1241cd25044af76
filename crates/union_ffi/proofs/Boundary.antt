-- Finishes and shown parts at the boundary. Assumes nothing.
use mathlib.Core.Path.{◌≡◌, refl}
use mathlib.Core.List.{[]}
use lib.ListN.{take, drop}
use Prim.Native.Nat.{ℕ, zero, suc}
use Rattle.std.proofs.Common.{Result, Ok, Err}
use Rattle.array_columns.specs.declared.Refusal.{Refusal}
use Rattle.union_array.specs.declared.UnionArray.{UnionArray}
use Rattle.array_columns.specs.Buffers.{Buffers}
use Rattle.array_columns.specs.Refusal.{if_yes}
use Rattle.union_array.specs.Questions.{asked}
use Rattle.union_array.specs.Lookup.{type_ids_of}
use Rattle.union_array.specs.Slices.{slice_told}
use Rattle.union_builder.specs.declared.Finished as code
use Rattle.union_builder.specs.Finish.{with_array, finished_told}
use Rattle.union_c.specs.declared.CBuilder.{CBuilder}
use Rattle.union_c.specs.Builders.{kept_with, cloned_to}
use Rattle.union_ffi.specs.Arrays.{part_of}

-- a finish that keeps the builder, by its answer alone
pub kept_told : (c : CBuilder) (f : code.Finished) → kept_with c (slice_told f.answer) ≡ cloned_to c (finished_told f)
kept_told c f = by f.answer
  where
    by : (answer : Result UnionArray Refusal) → kept_with c (slice_told answer) ≡ cloned_to c (with_array f.builder answer)
    by (Ok a) = refl
    by (Err r) = refl

-- the part that is told is the one that `type_ids` shows
pub part_shown : (a : UnionArray) (m : Buffers)
    → let p = part_of a (asked a m) in (type_ids_of a m).ids ≡ take p.count (drop p.start m.ids)
unfolding type_ids_of
part_shown a m = by (asked a m)
  where
    by : (n : ℕ) → if_yes n (take a.count (drop a.start m.ids)) [] ≡ take (if_yes n a.count 0) (drop (if_yes n a.start 0) m.ids)
    by zero = refl
    by (suc n) = refl
