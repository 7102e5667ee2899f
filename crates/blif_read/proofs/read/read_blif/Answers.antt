use Rattle.blif_read.proofs.Whole.{answer_is_read, answer_is_design}
use Rattle.blif_read.proofs.read.read_blif.Goals as goal

-- the answer is the value or the first fault of the text
pub returns-clause-answer : goal.returns-clause-answer
returns-clause-answer c = answer_is_read c.args.b.now c.read_text.result c.read_text.ensures

-- and a value is a design within the limits
pub returns-clause-design : goal.returns-clause-design
returns-clause-design c = answer_is_design c.args.b.now c.read_text.result c.read_text.ensures
