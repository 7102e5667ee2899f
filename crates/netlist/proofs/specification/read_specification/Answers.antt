use Rattle.blif_read.specs.Views.{blif_of}
use Rattle.netlist.proofs.FaultLemmas.{IsSpecFault-text, IsSpecFault-network}
use Rattle.netlist.proofs.specification.read_specification.Goals as goal

-- the fault of the text is the specification's
pub returns-in-Err : goal.returns-in-Err
returns-in-Err c = IsSpecFault-text c.args.text.now c.in-Err.error c.of_text.result c.in-Err.ensures.answer c.of_text.ensures

-- so is the fault of the design, where the text has none
pub returns : goal.returns
returns c =
    IsSpecFault-network c.args.text.now (blif_of c.in-Ok.design) c.in-Err-build.error c.of_network.result c.in-Ok.ensures.answer
    c.in-Err-build.ensures c.of_network.ensures
