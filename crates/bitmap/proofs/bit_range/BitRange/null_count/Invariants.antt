-- The set bits and the nulls before chunk k are its bits, at most len of them. Assumes nothing.
use Rattle.std.proofs.Common.{◌≡◌, ◌+◌, ◌*◌, min}
use Rattle.bitmap.specs.Bits.{nulls_of}
use Rattle.bitmap.proofs.bit_range.BitRange.null_count.Given as goal

abbrev pub invariant-loop-k : goal.invariant-loop-k
invariant-loop-k l =
    l.set + nulls_of l.self.words.now (64 * l.self.word + l.self.bit) (min (64 * l.k) l.self.len) ≡ min (64 * l.k) l.self.len
