use Rattle.std.proofs.Common.{Ok, Err}
use Rattle.bundle.proofs.AnswerLemmas.{answer_in, answer_in-is}
use Rattle.bundle.proofs.NumberLemmas.{AreBytes-from_all}
use Rattle.verify_laws.proofs.Outcomes.{accepted_outcome, refused_outcome, outcome_one}
use Rattle.verify_laws.proofs.Judging.{judged}
use Rattle.verify_laws.proofs.laws.refusal_is_first.Goals as goal

-- the tests are made in their order
pub returns-clause-some : goal.returns-clause-some
returns-clause-some c g net bytes h = judged g net bytes (answer_in bytes) (answer_in-is bytes (AreBytes-from_all bytes h))

-- the first test that fails is one
pub returns-clause-one : goal.returns-clause-one
returns-clause-one c g net bytes r s h i =
    let same = outcome_one g net bytes (Err r) (Err s) (refused_outcome g net bytes r h) (refused_outcome g net bytes s i) in cc

-- where all tests pass, none fails
pub returns-clause-not_both : goal.returns-clause-not_both
returns-clause-not_both c g net bytes r h i =
    let same = outcome_one g net bytes (Ok h.0) (Err r) (accepted_outcome g net bytes h.0 h.1) (refused_outcome g net bytes r i) in cc
