use Rattle.std.proofs.Common.{rules, arith, ◌≡◌, length}
use Rattle.union_c.proofs.Maps.{first_none, first_turn}
use Rattle.union_c.proofs.convert.turned.Goals as goal

pub loop-k-init : goal.loop-k-init
loop-k-init g c = record { within = omega arith; written = first_none g.to _ _ }

pub loop-k-preserved : goal.loop-k-preserved
loop-k-preserved g c =
    let l = c.loop-k in
    let x = c.index-entries-k in
    let full : length c.args.rest ≡ 128 = search rules in
    let to : c.from.result ≡ g.to x.result = search rules in
    record {
      within = omega arith;
      written = first_turn g.to _ _ _ _ _ l.k l.invariant.written x.is to (omega arith) (omega arith);
    }
