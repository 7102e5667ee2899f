use Rattle.demo_texts.specs.Texts.{select_text}
use Rattle.demonstration.proofs.JudgingLemmas.{fault_of_text}
use Rattle.demonstration.proofs.adders.design_of.Goals as goal

-- what is answered is the first fault of the text
pub returns-clause-faulty : goal.returns-clause-faulty
returns-clause-faulty c =
    fault_of_text (select_text c.args.bits) c.deref.result.now c.in_ok-select_text.field-0.items c.in-Err.error c.deref.ensures.value
    c.in_ok-select_text.ensures c.in-Err.ensures c.in_default.not-NoMemory
