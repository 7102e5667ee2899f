use Rattle.std.proofs.Common.{◌≡◌, ◌++◌, drop}
use Rattle.std.specs.List.{flat_map}
use Rattle.sat_text_defs.specs.Printed.{literal_text}
use Rattle.sat_text.proofs.printing.print_lits.Given as goal

-- what was printed, with the literals that are left, is the clause's text
abbrev pub invariant-loop-l : goal.invariant-loop-l
invariant-loop-l l = l.out.items ++ flat_map literal_text (drop l.l-index l.lits) ≡ l.fn.out.items ++ flat_map literal_text l.lits
