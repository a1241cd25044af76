-- The outer loop has written the words before k, the inner one has read the columns at the places before q. Assumes nothing.
use mathlib.Core.Path.{◌≡◌}
use lib.ListN.{length}
use Rattle.bitmap.specs.Lists.{retable}
use Rattle.mask_words.specs.Steps.{word_of, columns_at, field_chunk, step_at}
use Rattle.mask_words.proofs.StepWords.{read_to}
use Rattle.mask_words.proofs.words.write_by.Given as goal

abbrev pub invariant-loop-q : goal.invariant-loop-q
invariant-loop-q g l = record {
  long : length l.chunks ≡ 128;
  read : l.chunks ≡ read_to (field_chunk l.lent l.len l.k) (columns_at l.columns l.places) l.q l.initial.chunks;
}

abbrev pub invariant-loop-k : goal.invariant-loop-k
invariant-loop-k g l = record {
  long : length l.chunks ≡ 128;
  words : l.word-items ≡ retable l.k (word_of (length l.ids) (step_at g.over (columns_at l.columns l.places) l.lent l.ids)) l.initial.word-items;
}
