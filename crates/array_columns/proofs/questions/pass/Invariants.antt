-- `pass` meets its contract: it has asked of the columns passed, and has the ids seen.
use mathlib.Core.Path.{◌≡◌}
use lib.ListN.{length, take}
use Rattle.array_columns.proofs.OnePass.{Seen, asked_of}
use Rattle.array_columns.proofs.questions.pass.Given as goal

abbrev pub invariant-loop-c : goal.invariant-loop-c
invariant-loop-c l = record {
  full : length l.seen ≡ 256;
  asked : record { ids = l.ids; parts = l.parts; counts = l.counts; slots = l.slots } ≡ asked_of l.lent l.layout l.n (take l.c-index l.columns);
  seen : Seen (take l.c-index l.columns) l.seen;
}
