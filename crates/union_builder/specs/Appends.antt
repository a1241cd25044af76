-- appends: a run of readings appended in order, in one call. It is not one of document 01's calls.
use Rattle.std.specs.Prelude.{cond, List, ℕ, length, get_or, set, take, drop}
use Rattle.bitmap.specs.Lists.{times}
use Rattle.array_columns.specs.Buffers.{Buffers}
use Rattle.array_columns.specs.Numbers.{kind_from, flag_from, bad_number, bad_length}
use Rattle.union_builder.specs.Builder.{UnionBuilder}
use Rattle.union_builder.specs.Append.{Appended, some_if, AppendOutcome, outcome, appended, append_with}
pub use Rattle.builder_appends.specs.Readings.{Readings, readings_of}
unfoldable pub use Rattle.builder_appends.specs.Readings.{is_reading, lengths_match}

-- one reading: an append, or 128 and nothing changed
unfoldable pub reading_of : List ℕ → ℕ → ℕ → ℕ → ℕ → ℕ → UnionBuilder → Buffers → AppendOutcome
reading_of text start size kind present bits b m =
    cond (is_reading (length text) start size kind present) (append_with b m (take size (drop start text)) (kind_from kind) (some_if (flag_from present) bits))
    (outcome (appended b bad_number) m)

-- the answer, lent memory, and the number of each reading
pub record RunOutcome : Type 0 where
  pub answer : Appended
  pub buffers : Buffers
  pub refusals : List ℕ

abbrev pub run_outcome : Appended → Buffers → List ℕ → RunOutcome
run_outcome answer buffers refusals = record { answer = answer; buffers = buffers; refusals = refusals }

-- reading k, its number stored at its place; the run's own number is 0
unfoldable pub appends_step : Readings → ℕ → RunOutcome → RunOutcome
appends_step r k s =
    let o =
    reading_of r.text (get_or r.starts k 0) (get_or r.sizes k 0) (get_or r.kinds k 0) (get_or r.present k 0) (get_or r.bits k 0) s.answer.builder
    s.buffers
    in
    run_outcome (appended o.answer.builder 0) o.buffers (set s.refusals k o.answer.refusal)

-- all readings in order; where the lengths do not match, 129 and nothing changed
unfoldable pub appends_of : UnionBuilder → Buffers → Readings → List ℕ → RunOutcome
appends_of b m r refusals =
    cond (lengths_match r (length refusals)) (times (length r.starts) (appends_step r) (run_outcome (appended b 0) m refusals))
    (run_outcome (appended b bad_length) m refusals)
