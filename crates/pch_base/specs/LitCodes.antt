-- A literal and its code determine each other.
use Rattle.std.proofs.Common.{◌≡◌, ℕ, ◌+◌, ◌*◌, ◌/◌, ◌%◌, ◌==◌, Bool, true, false, if◌then◌else◌, eq-eqb, ne_eqb, ap, sym, ◌∙◌, arith}
use Rattle.clause_defs.specs.Literals.{Literal, code}
use Rattle.pch_base.specs.Lits.{literal_of}

-- the code of the literal with a code is that code
pub code-literal_of : (n : ℕ) → code (literal_of n) ≡ n
code-literal_of n = grind arith

-- the variable of a literal is half of its code
variable-code : (v : ℕ) (b : Bool) → (2 * v + (if b then 1 else 0)) / 2 ≡ v
variable-code v true = omega arith
variable-code v false = omega arith

-- the code of a literal is odd just where the literal is positive
positive-code : (v : ℕ) (b : Bool) → ((2 * v + (if b then 1 else 0)) % 2 == 1) ≡ b
positive-code v true = eq-eqb ((2 * v + 1) % 2) 1 (omega arith)
positive-code v false = ne_eqb ((2 * v + 0) % 2) 1 (λ e. omega arith)

-- the literal with a literal's code is that literal
pub literal_of-code : (l : Literal) → literal_of (code l) ≡ l
literal_of-code l i = record {
  variable = variable-code l.variable l.positive i;
  positive = positive-code l.variable l.positive i;
}

-- literals with one code are one
pub code_injective : (l m : Literal) → code l ≡ code m → l ≡ m
code_injective l m e = sym (literal_of-code l) ∙ ap literal_of e ∙ literal_of-code m
