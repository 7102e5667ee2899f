use Rattle.std.proofs.Common.{◌≡◌, Result, Ok, Err, IfOk, sym, subst}
use Rattle.clause_defs.specs.Formulas.{Formula}
use Rattle.miter_cnf.proofs.formula.miter.Goals as goal

-- what holds of a formula holds of the set that is it
of_formula : {E : Type 0} (P : Formula → Type 0) (f : Formula) (r : Result Formula E) → P f → IfOk r (λ s. s ≡ f) → IfOk r P
of_formula P f (Ok s) p e = subst P (sym e) p
of_formula P f (Err e) p h = h

-- the set is the formula, so what holds where that has no assignment holds here
pub returns-clause-sound : goal.returns-clause-sound
returns-clause-sound c = of_formula _ _ c.from_clauses.result (c.in_ok-variables.ensures {u = tt}).sound c.from_clauses.ensures
