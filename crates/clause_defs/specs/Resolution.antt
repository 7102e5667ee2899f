-- Resolution, and the chain rule: a running clause is resolved with one antecedent after another.
use Rattle.std.specs.Prelude.{◌≡◌, ◌≢◌, ◌==◌, ◌||◌, not, Bool, false, ◌↔◌, ◌⊎◌, List, [], ◌∷◌, ◌++◌, Option, Some, None}
use Rattle.std.specs.List.{filter}
use Rattle.clause_defs.specs.Literals.{Literal, negation, code}
use Rattle.clause_defs.specs.Clauses.{Lits, Has, SameSet, clause_of}

-- l stands in r and its negation in c
abbrev pub Clashes : Lits → Lits → Literal → Type 0
Clashes r c l = Has r l × Has c (negation l)

-- exactly one literal of r clashes, the pivot, and s has the other literals of both
pub record Step (r c s : Lits) : Type 0 where
  pub pivot : Literal
  pub clashes : Clashes r c pivot
  pub only : (l : Literal) → Clashes r c l → l ≡ pivot
  pub resolvent : (l : Literal) → Has s l ↔ ((Has r l × (l ≢ pivot)) ⊎ (Has c l × (l ≢ negation pivot)))

-- no literal of r clashes with c
abbrev pub NoClash : Lits → Lits → Type 0
NoClash r c = (l : Literal) → Clashes r c l → ⊥

-- two or more literals of r clash with c
abbrev pub ManyClash : Lits → Lits → Type 0
ManyClash r c = (l : Literal) × (m : Literal) × (l ≢ m) × Clashes r c l × Clashes r c m

-- s is what is left of r after a step with each of the clauses, in their order
abbrev pub Chain : Lits → List Lits → Lits → Type 0
Chain r [] s = SameSet r s
Chain r (c ∷ cs) s = (m : Lits) × Step r c m × Chain m cs s

-- the clause c follows from the list by the chain rule; a list of one clause gives that clause
abbrev pub Resolves : List Lits → Lits → Type 0
Resolves [] c = ⊥
Resolves (r ∷ cs) c = Chain r cs c

-- ---- the same, computed: clauses as lists of distinct literals in their order

-- whether l is one of the literals
abbrev pub is_among : Literal → Lits → Bool
is_among l [] = false
is_among l (m ∷ ms) = (code m == code l) || is_among l ms

-- the literals of r that clash with c, each once
abbrev pub clashing : Lits → Lits → Lits
clashing r c = filter (λ l. is_among (negation l) c) (clause_of r)

-- the clause without the literal
abbrev pub without : Literal → Lits → Lits
without l c = filter (λ m. not (code m == code l)) c

-- r and c resolved on a pivot of r
abbrev pub resolvent_on : Literal → Lits → Lits → Lits
resolvent_on pivot r c = clause_of (without pivot r ++ without (negation pivot) c)

-- r and c resolved, if just one literal of r clashes
abbrev pub resolvent_by : Lits → Lits → Lits → Option Lits
resolvent_by [] r c = None
resolvent_by (l ∷ []) r c = Some (resolvent_on l r c)
resolvent_by (l ∷ m ∷ ls) r c = None

-- r and c resolved, if just one literal clashes
abbrev pub resolvent_of : Lits → Lits → Option Lits
resolvent_of r c = resolvent_by (clashing r c) r c

-- what is left of r after a step with each of the clauses, if each step has just one pivot
abbrev pub chain_from : Option Lits → List Lits → Option Lits
chain_from None cs = None
chain_from (Some r) [] = Some r
chain_from (Some r) (c ∷ cs) = chain_from (resolvent_of r c) cs

-- the clause that follows from the list by the chain rule, if one does
abbrev pub chain_of : List Lits → Option Lits
chain_of [] = None
chain_of (r ∷ cs) = chain_from (Some (clause_of r)) cs
