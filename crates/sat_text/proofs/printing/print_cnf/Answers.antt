use Rattle.std.proofs.Common.{◌<◌, length, arith}
use Rattle.sat_text_defs.specs.Printed.{cnf_text}
use Rattle.sat_values.specs.CnfFormula.{formula_of}
use Rattle.sat_text.proofs.Pieces.{line_more}
use Rattle.sat_text.proofs.printing.print_cnf.Goals as goal

-- one more line was printed
pub loop-k-preserved : goal.loop-k-preserved
loop-k-preserved c =
    let within : c.loop-k.k < length c.args.c.now.clauses = omega (arith, c.len-k-end.ensures.len) in
    line_more c.args.c.now.clauses c.loop-k.k c.clause.result.now c.loop-k.out.items c.print_line.new.out.items (cnf_text (formula_of c.args.c.now))
    within c.clause.ensures.lits c.in_ok-print_line.ensures c.loop-k.invariant
