use Rattle.net_defs.proofs.AssignmentLemmas.{assignment_exists, assignment_is_unique}
use Rattle.net_defs.proofs.laws.assignment_exists_and_is_unique.Goals as goal

-- as many rounds as there are nodes settle all of them
pub returns-clause-exists : goal.returns-clause-exists
returns-clause-exists c = assignment_exists

-- two assignments agree at each settled node, and all are settled
pub returns-clause-unique : goal.returns-clause-unique
returns-clause-unique c = assignment_is_unique
