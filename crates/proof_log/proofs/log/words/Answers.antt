use Rattle.std.proofs.Common.{arith}
use Rattle.proof_log.proofs.KeptLemmas.{few_literals}
use Rattle.proof_log.proofs.log.words.Goals as goal

pub overflow_cast-result : goal.overflow_cast-result
overflow_cast-result c =
    let few = few_literals c.args.lits.now c.requires.ordered c.literals_are_within_limits.ensures in omega arith

pub overflow_add-result : goal.overflow_add-result
overflow_add-result c =
    let few = few_literals c.args.lits.now c.requires.ordered c.literals_are_within_limits.ensures in omega arith

pub overflow_add-result-2 : goal.overflow_add-result-2
overflow_add-result-2 c =
    let few = few_literals c.args.lits.now c.requires.ordered c.literals_are_within_limits.ensures in
    let ants = c.requires.few in omega arith
