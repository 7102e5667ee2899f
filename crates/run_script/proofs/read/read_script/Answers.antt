use Rattle.run_script.proofs.Reading.{answer_is_read, answer_is_script, answer_has_four}
use Rattle.run_script.proofs.read.read_script.Goals as goal

-- the answer is the value or the first fault
pub returns-clause-answer : goal.returns-clause-answer
returns-clause-answer c = answer_is_read c.args.b.now c.read_text.result c.read_text.ensures

-- a value is a script within the limits
pub returns-clause-script : goal.returns-clause-script
returns-clause-script c = answer_is_script c.args.b.now c.read_text.result c.read_text.ensures

-- its cells have four inputs
pub returns-clause-kind : goal.returns-clause-kind
returns-clause-kind c = answer_has_four c.args.b.now c.read_text.result c.read_text.ensures
