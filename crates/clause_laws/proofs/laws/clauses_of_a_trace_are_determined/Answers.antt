use Rattle.clause_laws.proofs.TraceLits.{lits_stated, lits_given}
use Rattle.clause_laws.proofs.laws.clauses_of_a_trace_are_determined.Goals as goal

pub returns : goal.returns
returns c = record { stated = lits_stated; given = lits_given }
