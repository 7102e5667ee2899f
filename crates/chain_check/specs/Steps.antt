-- What a step of a chain finds.
use Rattle.std.specs.Prelude.{◌≡◌, ◌↔◌, Option, Some, None}
use Rattle.clause_defs.specs.Literals.{Literal, negation}
use Rattle.clause_defs.specs.Clauses.{Lits, Has}
use Rattle.clause_defs.specs.Resolution.{Clashes, Step, NoClash, ManyClash}
use Rattle.chain_check.specs.declared.marks.Clash.{Clash}

-- the one literal of r that clashes with c, or that none does
abbrev pub IsPivot : Lits → Lits → Option Literal → Type 0
IsPivot r c None = NoClash r c
IsPivot r c (Some p) = Clashes r c p × ((l : Literal) → Clashes r c l → l ≡ p)

-- f has the literals of c that are new to r and don't clash with a literal of r
abbrev pub AddsToStep : Lits → Lits → Lits → Type 0
AddsToStep r c f = (l : Literal) → Has f l ↔ (Has c l × (Has r (negation l) → ⊥) × (Has r l → ⊥))

-- a literal of c that stands in r clashes with r, too
abbrev pub RepeatsNone : Lits → Lits → Type 0
RepeatsNone r c = (l : Literal) → Has c l → Has r l → Has r (negation l)

-- where the literals of r clash with c, and s, what is left after a step where they clash once
abbrev pub StepGives : Lits → Lits → Clash → Lits → Type 0
StepGives r c Clash.NoClash s = NoClash r c
StepGives r c Clash.OneClash s = Step r c s
StepGives r c Clash.ManyClash s = ManyClash r c
