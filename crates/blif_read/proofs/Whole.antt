-- What a reader of whole texts answers.
use Rattle.std.proofs.Common.{◌≡◌, Vec, Global, length, ◌≤◌, sym, ℕ, List, Result, Ok, Err, subst, ⊎_elim, inl, inr}
use Rattle.std.specs.Prelude.{IfOk}
use Rattle.text_defs.specs.Memory.{Gives, OrMemory}
use Rattle.blif_defs.specs.declared.error.BlifError.{BlifError}
use Rattle.blif_defs.specs.declared.error.BlifError.TheVariants.{NoMemory}
use Rattle.blif_defs.specs.Values.{BlifValue, IsBlif}
use Rattle.blif_defs.specs.Grammar.{reading}
use Rattle.blif_defs.specs.Texts.{BlifText}
use Rattle.blif_laws.proofs.Following.{value_read, fault_read}
use Rattle.blif_defs.specs.declared.mark.TheConstants.{MAX_BYTES}
use Rattle.blif_defs.specs.Printing.{blif_text}
use Rattle.blif_laws.proofs.PrintedLines.{printed_again}
use Rattle.blif_laws.proofs.Designs.{design_of_text}
use Rattle.blif_read.specs.declared.blif.Blif.{Blif}
use Rattle.blif_read.specs.Views.{blif_of, IsReadFrom}

-- what `reading` gives is the value or the first fault
pub answer_is_read : (text : List ℕ) (r : Result Blif BlifError) → Gives NoMemory blif_of r (reading text)
    → OrMemory NoMemory (IsReadFrom text) r
answer_is_read text (Ok m) h = value_read text (blif_of m) h
answer_is_read text (Err e) h = ⊎_elim (λ memory. inl memory) (λ is. inr (fault_read text e is)) h

-- and a value is a design within the limits
pub answer_is_design : (text : List ℕ) (r : Result Blif BlifError) → Gives NoMemory blif_of r (reading text)
    → IfOk r (λ m. IsBlif (blif_of m))
answer_is_design text (Ok m) h = design_of_text text (blif_of m) (value_read text (blif_of m) h)
answer_is_design text (Err e) h = tt

-- what was printed is read again
pub printed_is_read : {E : Type 0} (m : BlifValue) (r : Result (Vec ℕ Global) E) → IfOk r (λ v. v.items ≡ blif_text m) → IsBlif m
    → IfOk r (λ v. length v.items ≤ MAX_BYTES → BlifText v.items m)
printed_is_read m (Ok v) h design =
    subst (λ (text : List ℕ). length text ≤ MAX_BYTES → BlifText text m) (sym h) (printed_again m design)
printed_is_read m (Err e) h design = tt
