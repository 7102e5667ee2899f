use Rattle.fabric_laws.proofs.ConfigAnswers.{answer_exists, answer_unique}
use Rattle.fabric_laws.proofs.laws.bytes_have_one_configuration_or_fault.Goals as goal

-- the words of the bytes are judged in their order
pub returns : goal.returns
returns c = record { some = answer_exists; one = answer_unique }
