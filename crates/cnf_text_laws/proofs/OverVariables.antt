-- The formula of a text is within the limits, and over its own variables.
use Rattle.std.proofs.Common.{◌≡◌, ℕ, ◌≤◌, inl, inr, List, [], ◌∷◌, Ok, subst}
use Rattle.clause_defs.specs.declared.verdict.TheConstants.{MAX_VARIABLE}
use Rattle.clause_defs.specs.Clauses.{Lits, Has, IsClause, WithinVariables}
use Rattle.clause_defs.specs.Formulas.{Formula}
use Rattle.sat_text_defs.specs.CnfReading.{cnf_in}
use Rattle.sat_text_defs.specs.CnfText.{CnfText, IsFormula, AreSpelled, EachWithin}
use Rattle.cnf_text_laws.proofs.CnfsRead.{text_of_cnf_in}

-- each clause that is spelled is in its order and over the variables
spelled_within : (v : ℕ) (spelled cs : List Lits) → AreSpelled v spelled cs → (c : Lits) → Has cs c → IsClause c × WithinVariables v c
spelled_within v [] [] h c none = absurd none
spelled_within v [] (d ∷ ds) h c k = absurd h
spelled_within v (ls ∷ spelled) [] h c k = absurd h
spelled_within v (ls ∷ spelled) (d ∷ ds) h c (inl e) = subst (λ (x : Lits). IsClause x × WithinVariables v x) e (h.0.clause, h.0.within)
spelled_within v (ls ∷ spelled) (d ∷ ds) h c (inr k) = spelled_within v spelled ds h.1 c k

-- what the formula of a text keeps
pub IsFormula-text : (text : List ℕ) (f : Formula) → CnfText text f → IsFormula f
IsFormula-text text f h =
    let each = spelled_within f.variables h.1.spelled f.clauses h.1.same_clauses in
    record {
      few_variables = h.1.variables;
      few_clauses = h.1.clauses;
      clauses = λ c k. (each c k).0;
      within = λ c k. (each c k).1;
    }

-- a formula that a text gives has variables within the limits, and is over them
pub formula_within : (text : List ℕ) (f : Formula) → cnf_in text ≡ Ok f → (f.variables ≤ MAX_VARIABLE) × EachWithin f.variables f.clauses
formula_within text f e = let is = IsFormula-text text f (text_of_cnf_in text f e) in (is.few_variables, is.within)
