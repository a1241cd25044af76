use native.Mathlib.Omega.{arith}
use Rattle.logical_nulls.proofs.Masks.{short, count_in, answered}
use Rattle.logical_nulls.proofs.words.run_route.Goals as goal

pub invariant_of-mask : goal.invariant_of-mask
invariant_of-mask c =
    let a = c.args in record {
      inside = omega (arith, count_in a.array.now a.fs.now a.route a.lent.now a.out.now c.requires.0 c.write_mask.new.out c.write_mask.ensures);
      short = omega (arith, short a.array.now a.fs.now a.route a.lent.now a.out.now c.requires.0);
    }

pub returns : goal.returns
returns c =
    let a = c.args in
    answered a.array.now a.fs.now a.route a.lent.now a.out.now c.requires.0 c.write_mask.new.out c.write_mask.ensures c.null_count.result c.on.result c.requires.1
    c.null_count.ensures c.on.ensures
