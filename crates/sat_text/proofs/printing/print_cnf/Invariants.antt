use Rattle.std.proofs.Common.{◌≡◌, ◌++◌, drop}
use Rattle.std.specs.List.{flat_map}
use Rattle.sat_text_defs.specs.Printed.{line_of, cnf_text}
use Rattle.sat_values.specs.CnfFormula.{formula_of}
use Rattle.sat_text.proofs.printing.print_cnf.Given as goal

-- what was printed, with the lines of the clauses that are left, is the CNF's text
abbrev pub invariant-loop-k : goal.invariant-loop-k
invariant-loop-k l = l.out.items ++ flat_map line_of (drop l.k l.c.clauses) ≡ cnf_text (formula_of l.c)
