use Rattle.std.proofs.Common.{[], ◌∷◌, map, take}
use Rattle.clause_defs.specs.Literals.{negation}
use Rattle.miter_defs.specs.Miters.{row_literals}
use Rattle.miter_cnf.specs.Writing.{Adds}
use Rattle.miter_cnf.proofs.circuits.Circuits.write_marks.Given as goal

-- there is a clause for all that the marks so far ask
abbrev pub invariant-loop-i : goal.invariant-loop-i
invariant-loop-i l =
    Adds l.initial.w.clauses (map (λ m. negation l.fn.hit ∷ m ∷ []) (row_literals (take l.i l.row) l.fan_ins)) l.w.clauses
