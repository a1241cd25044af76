use native.Mathlib.Omega.{arith}
use Rattle.builder_columns.proofs.Putting.{small_product, words_small}
use Rattle.batch_description.proofs.describe.described_column.Goals as goal

pub overflow_mul-result-2 : goal.overflow_mul-result-2
overflow_mul-result-2 c =
    let w = words_small c.args.capacity (omega arith) in
    omega (arith, small_product c.args.k c.words_for.result (omega arith) (omega (arith, c.words_for.ensures)))
