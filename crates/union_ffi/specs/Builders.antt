-- Each call on a builder at the boundary.
use Rattle.std.specs.Prelude.{◌&&◌, List, ℕ, Result}
use Rattle.std.proofs.Math.Option.{Option}
use Rattle.array_columns.specs.declared.Kind.{Kind}
use Rattle.array_columns.specs.declared.Layout.{Layout}
use Rattle.array_columns.specs.declared.Refusal.{Refusal}
use Rattle.array_columns.specs.Buffers.{Buffers}
use Rattle.array_columns.specs.Numbers.{kind_from, is_kind, bad_number}
use Rattle.union_builder.specs.declared.UnionBuilder.{UnionBuilder}
use Rattle.union_builder.specs.Builder.{made_of}
use Rattle.union_builder.specs.Append.{AppendOutcome, append_with}
use Rattle.union_builder.specs.Finish.{len_of, finish_cloned_of, finish_of}
use Rattle.union_c.specs.declared.CBuilder.{CBuilder}
use Rattle.union_c.specs.declared.CBuilt.{CBuilt}
use Rattle.union_c.specs.declared.CLength.{CLength}
use Rattle.union_c.specs.declared.CFinished.{CFinished}
use Rattle.union_c.specs.Numbers.{named}
use Rattle.union_c.specs.Builders.{builder_from, is_builder, built, made_to, appended_to, length_to, cloned_to, finished_to, not_finished}
use Rattle.union_ffi.specs.Boundary.{at_boundary}

-- the answer of an append, and lent memory at exit
pub record COutcome : Type 0 where
  pub answer : CBuilt
  pub buffers : Buffers

abbrev pub c_outcome : CBuilt → Buffers → COutcome
c_outcome answer buffers = record { answer = answer; buffers = buffers }

abbrev pub outcome_to : CBuilder → AppendOutcome → COutcome
outcome_to c r = c_outcome (appended_to c r.answer) r.buffers

-- ---- the calls: a number that names no case hands the builder back as it came
abbrev pub c_made : Layout → ℕ → ℕ → Buffers → CBuilt
c_made l c k m = made_to (made_of l c k m)

-- the builder and the kind that an append's numbers name, or the refusal
abbrev pub append_named : CBuilder → ℕ → Result (UnionBuilder × Kind) Refusal
append_named b kind = named (λ c. is_builder c && is_kind kind) (λ c. (builder_from c, kind_from kind)) b

-- an append of a value, or of none
unfoldable pub c_append_with : CBuilder → Buffers → List ℕ → ℕ → Option ℕ → COutcome
c_append_with b m name kind v =
    at_boundary (is_builder b && is_kind kind) (outcome_to b (append_with (builder_from b) m name (kind_from kind) v)) (c_outcome (built b bad_number) m)

-- "`len` asks none", not even whether its numbers name cases
unfoldable pub c_len : CBuilder → CLength
c_len b = length_to b (len_of (builder_from b))

unfoldable pub c_finish_cloned : CBuilder → Buffers → CFinished
c_finish_cloned b m = at_boundary (is_builder b) (cloned_to b (finish_cloned_of (builder_from b) m)) (not_finished b)

unfoldable pub c_finish : CBuilder → Buffers → CFinished
c_finish b m = at_boundary (is_builder b) (finished_to b (finish_of (builder_from b) m)) (not_finished b)
