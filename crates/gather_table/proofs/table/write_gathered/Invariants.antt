-- The outer loop has written the words before k, the inner one has looked up the bits below j of word k. Assumes nothing.
use mathlib.Core.Path.{◌≡◌}
use mathlib.Core.Bool.{◌&&◌}
use lib.Dec.{ltb}
use lib.ListN.{length}
use Rattle.bitmap.specs.Lists.{retable}
use Rattle.bitmap.specs.Bits.{pack}
use Rattle.mask_words.specs.Steps.{word_of}
use Rattle.gather_table.specs.Table.{child_slot, gathered_at}
use Rattle.gather_table.proofs.Entries.{looked_up}
use Rattle.gather_table.proofs.table.write_gathered.Given as goal

abbrev pub invariant-loop-j : goal.invariant-loop-j
invariant-loop-j l = l.x ≡ pack 64 (λ i. ltb i l.j && looked_up l.table l.lent l.ids (child_slot l.layout l.lent.offsets l.at) l.k i)

abbrev pub invariant-loop-k : goal.invariant-loop-k
invariant-loop-k l = l.word-items ≡ retable l.k (word_of (length l.ids) (gathered_at l.table l.lent l.ids (child_slot l.layout l.lent.offsets l.at))) l.initial.word-items
