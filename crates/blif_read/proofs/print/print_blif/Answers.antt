use Rattle.blif_read.specs.Views.{blif_of}
use Rattle.blif_read.proofs.Whole.{printed_is_read}
use Rattle.blif_read.proofs.print.print_blif.Goals as goal

-- the printed text of a design is read as that design
pub returns-clause-again : goal.returns-clause-again
returns-clause-again c = λ design. printed_is_read (blif_of c.args.b.now) c.printed.result c.printed.ensures design
