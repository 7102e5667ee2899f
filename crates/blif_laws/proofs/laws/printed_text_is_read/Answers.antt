use Rattle.blif_laws.proofs.PrintedLines.{printed_again}
use Rattle.blif_laws.proofs.laws.printed_text_is_read.Goals as goal

-- the printed lines lead to the design that they print
pub returns : goal.returns
returns c = printed_again
