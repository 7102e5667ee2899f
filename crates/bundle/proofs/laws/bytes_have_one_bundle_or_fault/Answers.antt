use Rattle.std.proofs.Common.{sym, ◌∙◌}
use Rattle.bundle.proofs.NumberLemmas.{AreBytes-from_all}
use Rattle.bundle.proofs.AnswerLemmas.{answer_in, answer_in-is, answer_in-only}
use Rattle.bundle.proofs.laws.bytes_have_one_bundle_or_fault.Goals as goal

-- the answer is found part by part
pub returns-clause-some : goal.returns-clause-some
returns-clause-some c bytes h = (answer_in bytes, answer_in-is bytes (AreBytes-from_all bytes h))

-- and any other is the same
pub returns-clause-one : goal.returns-clause-one
returns-clause-one c bytes a b ha hb = sym (answer_in-only bytes a ha) ∙ answer_in-only bytes b hb
