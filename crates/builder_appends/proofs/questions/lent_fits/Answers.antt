use native.Mathlib.Omega.{arith}
use Rattle.builder_columns.proofs.Putting.{small_product, words_small}
use Rattle.builder_appends.proofs.questions.lent_fits.Goals as goal

pub overflow_mul-limit-then-limit-capacity : goal.overflow_mul-limit-then-limit-capacity
overflow_mul-limit-then-limit-capacity c =
    let a = c.args in
    let w = words_small a.capacity (omega arith) in
    omega (arith, small_product a.limit c.words_for.result (omega arith) (omega (arith, c.words_for.ensures)))
