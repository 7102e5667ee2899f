use Rattle.std.proofs.Common.{◌<◌, arith}
use Rattle.produce.proofs.BudgetLemmas.{enough_fits}
use Rattle.produce.proofs.budget.enough.Goals as goal

-- the product is below 2 ^ 98
pub overflow_mul-result : goal.overflow_mul-result
overflow_mul-result c =
    omega (arith, enough_fits c.args.n c.args.v c.from.result c.from-2.result c.requires (let small : c.args.v < 4294967296 = omega (arith, c.ranges.v.fits) in small) c.from.ensures c.from-2.ensures)
