-- What a trace shows of a list of clauses: the fault of the first faulty clause, in the order of the
-- trace, or that it ends with the empty clause. (The chain rule as this project reads TraceCheck.)
use Rattle.std.specs.Prelude.{◌≡◌, ℕ, ◌+◌, ◌-◌, ◌<◌, nat_lt, ◌⊎◌, List, [], ◌∷◌, length, Option, Some, None, Result, Ok, Err, if◌then◌else◌}
use Rattle.clause_defs.specs.Clauses.{Lits, SameSet, HasClause}
use Rattle.clause_defs.specs.Resolution.{Step, NoClash, ManyClash}
use Rattle.clause_defs.specs.Traces.{Entry, stated_at, lits_at, antecedents_at, index_at}
use Rattle.clause_defs.specs.TraceClauses.{LitsOf, antecedent_lits, computed_before}
use Rattle.clause_defs.specs.declared.verdict.TheConstants.{MAX_COMPUTED}
use Rattle.clause_defs.specs.declared.verdict.ChainError.{ChainError}
use Rattle.clause_defs.specs.declared.verdict.Verdict.{Verdict}
use Rattle.clause_defs.specs.declared.verdict.Verdict.TheVariants.{Refutes, NotOriginal, Chain, TooWide, NotEmptyEnd}

-- how a chain without a faulty step ends, which comes to r: where a clause is stated, r must be the same
abbrev pub EndsAt : ℕ → Option Lits → Lits → Result (Unit {0}) ChainError → Type 0
EndsAt index None r end = end ≡ Ok tt
EndsAt index (Some stated) r end =
    (SameSet r stated × (end ≡ Ok tt)) ⊎ ((SameSet r stated → ⊥) × (end ≡ Err (ChainError.Other index)))

-- How the chain of the clause whose index is `index` goes on from the running clause r with the antecedents
-- cs, of which the first is used in step number `step`: to its first faulty step, to another clause than the
-- stated one, or to its end.
abbrev pub ChainEnds : ℕ → Option Lits → ℕ → Lits → List Lits → Result (Unit {0}) ChainError → Type 0
ChainEnds index stated step r [] end = EndsAt index stated r end
ChainEnds index stated step r (c ∷ cs) end =
    (NoClash r c × (end ≡ Err (ChainError.NoClash index step)))
    ⊎ ((ManyClash r c × (end ≡ Err (ChainError.ManyClash index step)))
    ⊎ ((s : Lits) × Step r c s × ChainEnds index stated (step + 1) s cs end))

-- the chain of a derived clause: its first antecedent is the first running clause
abbrev pub ChainFault : ℕ → Option Lits → List Lits → Result (Unit {0}) ChainError → Type 0
ChainFault index stated [] end = ⊥
ChainFault index stated (r ∷ cs) end = ChainEnds index stated 1 r cs end

-- the fault of a clause with stated literals whose chain ends so
abbrev pub fault_of : Result (Unit {0}) ChainError → Option Verdict
fault_of (Ok _) = None
fault_of (Err e) = Some (Chain e)

-- the fault of a clause with the sign, where such clauses have so many literals up to this place, of w
abbrev pub compact_fault_of : ℕ → ℕ → ℕ → Result (Unit {0}) ChainError → Option Verdict
compact_fault_of index literals w (Ok _) = if nat_lt w literals then Some (TooWide index) else None
compact_fault_of index literals w (Err e) = Some (Chain e)

-- the fault of clause k of the trace, whose chain ends so: with the sign it may also be too wide
abbrev pub derived_fault_of : List Entry → ℕ → ℕ → Option Lits → Result (Unit {0}) ChainError → Option Verdict
derived_fault_of t w k None end = compact_fault_of (index_at t k) (computed_before t (k + 1)) w end
derived_fault_of t w k (Some stated) end = fault_of end

-- the fault of a derived clause, if its antecedents are these; where one of them has no literals, the clause
-- has no fault of its own
abbrev pub DerivedFault : List Entry → ℕ → ℕ → Option (List Lits) → Option Verdict → Type 0
DerivedFault t w k None found = found ≡ None
DerivedFault t w k (Some cs) found =
    (end : Result (Unit {0}) ChainError)
    × ChainFault (index_at t k) (stated_at t k) cs end
    × (found ≡ derived_fault_of t w k (stated_at t k) end)

-- the fault of clause k of the trace t, whose antecedents are listed; originals are looked up in f
abbrev pub FaultWith : List Lits → List Entry → ℕ → ℕ → List ℕ → Option Verdict → Type 0
FaultWith f t w k [] found =
    (HasClause f (lits_at t k) × (found ≡ None))
    ⊎ ((HasClause f (lits_at t k) → ⊥) × (found ≡ Some (NotOriginal (index_at t k))))
FaultWith f t w k (p ∷ ps) found = DerivedFault t w k (antecedent_lits t k) found

-- the fault of clause k, if it has one, where clauses with the sign may have w literals together
abbrev pub ClauseFault : List Lits → List Entry → ℕ → ℕ → Option Verdict → Type 0
ClauseFault f t w k found = FaultWith f t w k (antecedents_at t k) found

-- every clause before place n is right
abbrev pub AllRightBefore : List Lits → List Entry → ℕ → ℕ → Type 0
AllRightBefore f t w n = (k : ℕ) → k < n → ClauseFault f t w k None

-- v is the fault of the first faulty clause
abbrev pub FirstFault : List Lits → List Entry → ℕ → Verdict → Type 0
FirstFault f t w v = (k : ℕ) × (k < length t) × AllRightBefore f t w k × ClauseFault f t w k (Some v)

-- there is a clause, and the last one is empty
abbrev pub EndsEmpty : List Entry → Type 0
EndsEmpty t = (0 < length t) × (LitsOf t (length t - 1) ≡ Some [])

-- v is what the trace t shows of the list f, where clauses with the sign may have w literals together
abbrev pub VerdictOf : List Lits → List Entry → ℕ → Verdict → Type 0
VerdictOf f t w Refutes = AllRightBefore f t w (length t) × EndsEmpty t
VerdictOf f t w NotEmptyEnd = AllRightBefore f t w (length t) × (EndsEmpty t → ⊥)
VerdictOf f t w (NotOriginal i) = FirstFault f t w (NotOriginal i)
VerdictOf f t w (Chain e) = FirstFault f t w (Chain e)
VerdictOf f t w (TooWide i) = FirstFault f t w (TooWide i)

-- the trace shows that nothing satisfies the list, within the limit that holds everywhere
abbrev pub IsRefutedBy : List Lits → List Entry → Type 0
IsRefutedBy f t = VerdictOf f t MAX_COMPUTED Refutes
