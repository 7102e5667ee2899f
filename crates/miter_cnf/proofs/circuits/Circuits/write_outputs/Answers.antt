use Rattle.miter_defs.specs.Miters.{output_clauses}
use Rattle.miter_cnf.proofs.WritingLemmas.{Adds-joined}
use Rattle.miter_cnf.proofs.circuits.Circuits.write_outputs.Goals as goal

-- one output more adds its clauses
pub loop-o-preserved : goal.loop-o-preserved
loop-o-preserved c =
    let s = c.args.self.now in
    Adds-joined c.args.w.now.clauses c.loop-o.w.clauses c.write_output.new.w.clauses c.loop-o.o
    (output_clauses s.net s.cells) c.loop-o.invariant c.in_ok-write_output.ensures
