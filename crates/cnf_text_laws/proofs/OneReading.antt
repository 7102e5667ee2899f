-- A text has one CNF or one fault.
use Rattle.std.proofs.Common.{◌≡◌, ℕ, ◌⊎◌, inl, inr, List, Result, Ok, Err, refl}
use Rattle.sat_text_defs.specs.declared.errors.CnfError.{CnfError}
use Rattle.clause_defs.specs.Formulas.{Formula}
use Rattle.sat_text_defs.specs.CnfReading.{cnf_in}
use Rattle.sat_text_defs.specs.CnfText.{CnfText, CnfTextFault}
use Rattle.cnf_text_laws.proofs.CnfsRead.{text_of_cnf_in, cnf_in_of_text}
use Rattle.cnf_text_laws.proofs.CnfFaults.{fault_of_cnf_in, cnf_in_of_fault}

-- what is computed of a text is its CNF or its fault
computed : (text : List ℕ) (r : Result Formula CnfError) → cnf_in text ≡ r → ((f : Formula) × CnfText text f) ⊎ ((e : CnfError) × CnfTextFault text e)
computed text (Ok f) h = inl (f, text_of_cnf_in text f h)
computed text (Err e) h = inr (e, fault_of_cnf_in text e h)

-- a text has a CNF or a fault
pub text_or_fault : (text : List ℕ) → ((f : Formula) × CnfText text f) ⊎ ((e : CnfError) × CnfTextFault text e)
text_or_fault text = computed text (cnf_in text) refl

-- it has one CNF at most
pub one_cnf : (text : List ℕ) (f g : Formula) → CnfText text f → CnfText text g → f ≡ g
one_cnf text f g h k = let first = cnf_in_of_text text f h in let second = cnf_in_of_text text g k in cc

-- it has one fault at most
pub one_fault : (text : List ℕ) (d e : CnfError) → CnfTextFault text d → CnfTextFault text e → d ≡ e
one_fault text d e h k = let first = cnf_in_of_fault text d h in let second = cnf_in_of_fault text e k in cc

-- it doesn't have both
pub not_both : (text : List ℕ) (f : Formula) (e : CnfError) → CnfText text f → CnfTextFault text e → ⊥
not_both text f e h k = let first = cnf_in_of_text text f h in let second = cnf_in_of_fault text e k in cc
