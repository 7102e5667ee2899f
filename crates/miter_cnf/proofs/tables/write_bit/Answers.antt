use Rattle.std.proofs.Common.{length}
use Rattle.miter_cnf.proofs.TableLemmas.{bit-within}
use Rattle.miter_cnf.proofs.tables.write_bit.Goals as goal

-- a bit of a table has a place below 64
pub overflow_shr-table : goal.overflow_shr-table
overflow_shr-table c = bit-within (length c.args.pins.now) c.args.n c.requires.pins c.requires.bit
