use Rattle.std.proofs.Common.{arith}
use Rattle.std.proofs.lemmas.Grind.{common_steps}
use Rattle.pch_io.proofs.mem_sink.MemSinkSink.put.Goals as goal

pub returns-then-is_err-clause-cut_off : goal.returns-then-is_err-clause-cut_off
returns-then-is_err-clause-cut_off c = (0, grind (arith, common_steps))
