-- Going through the literals of a clause.
use Rattle.std.proofs.Common.{◌≡◌, ℕ, ◌+◌, ◌<◌, length, get_or, take, inl, inr, subst, ◌∙◌}
use Rattle.clause_defs.specs.Literals.{Literal}
use Rattle.clause_defs.specs.Clauses.{Lits, Has}
use Rattle.pch_base.proofs.SetLemmas.{Has-take_next}

-- what holds of the first i literals, and of the next one, holds of i + 1
pub next_too : (P : Literal → Type 0) (lits : Lits) (i : ℕ) (l : Literal) → i < length lits → l ≡ get_or lits i l
    → ((m : Literal) → Has (take i lits) m → P m) → P l → (m : Literal) → Has (take (i + 1) lits) m → P m
next_too P lits i l lt read before here m has = elim (Has-take_next lits i l m lt has) [
  | inl old ↦ before m old
  | inr e ↦ subst P (read ∙ e) here
]
