-- Each step is that of what is taken up. Assumes nothing.
use Rattle.mask_words.specs.Steps.{All, WithNulls, NotFull}
use Rattle.mask_words.proofs.words.write_words.Given as goal

abbrev pub ghost-write_by : goal.ghost-write_by
ghost-write_by a = All

abbrev pub ghost-write_by-2 : goal.ghost-write_by-2
ghost-write_by-2 a = WithNulls

abbrev pub ghost-write_by-3 : goal.ghost-write_by-3
ghost-write_by-3 a = NotFull
