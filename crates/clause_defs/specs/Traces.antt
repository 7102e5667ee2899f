-- A trace of resolution steps: clauses with indices, each an original or derived from earlier clauses.
-- (TraceCheck)
use Rattle.std.specs.Prelude.{◌≡◌, ◌≢◌, ℕ, ◌+◌, ◌==◌, ◌<◌, ◌≤◌, List, [], ◌∷◌, length, slice_get, Option, Some, None, if◌then◌else◌}
use Rattle.clause_defs.specs.declared.verdict.TheConstants.{MAX_INDEX}
use Rattle.clause_defs.specs.Clauses.{Lits, Has, IsClause}

-- A clause of a trace. One without antecedents is an original, and antecedents are places in the trace.
-- Where the sign `*` stands in place of the literals, the clause is what its antecedents give.
pub record Entry : Type 0 where
  pub index : ℕ
  pub stated : Option Lits
  pub antecedents : List ℕ

-- the stated literals of an entry, or the sign; an absent entry states no literals
abbrev pub stated_of : Option Entry → Option Lits
stated_of None = Some []
stated_of (Some e) = e.stated

-- the antecedents of an entry; an absent one has none
abbrev pub antecedents_of : Option Entry → List ℕ
antecedents_of None = []
antecedents_of (Some e) = e.antecedents

-- the index of an entry; 0, which is no index, where there is none
abbrev pub index_of : Option Entry → ℕ
index_of None = 0
index_of (Some e) = e.index

-- the literals that are stated: none where the sign stands
abbrev pub literals_in : Option Lits → Lits
literals_in None = []
literals_in (Some c) = c

-- what stands at place k, counted from 0
abbrev pub stated_at : List Entry → ℕ → Option Lits
stated_at t k = stated_of (slice_get t k)

-- the stated literals of clause k, counted from 0: none where the sign stands
abbrev pub lits_at : List Entry → ℕ → Lits
lits_at t k = literals_in (stated_at t k)

-- the places of the antecedents of clause k, counted from 0
abbrev pub antecedents_at : List Entry → ℕ → List ℕ
antecedents_at t k = antecedents_of (slice_get t k)

-- the index of clause k, counted from 0
abbrev pub index_at : List Entry → ℕ → ℕ
index_at t k = index_of (slice_get t k)

-- the sign stands in place of the literals of clause k
abbrev pub IsCompactAt : List Entry → ℕ → Type 0
IsCompactAt t k = stated_at t k ≡ None

-- every antecedent stands earlier
abbrev pub AntecedentsAreEarlier : List Entry → Type 0
AntecedentsAreEarlier t = (k p : ℕ) → Has (antecedents_at t k) p → p < k

-- what every trace keeps
pub record IsTrace (t : List Entry) : Type 0 where
  pub earlier : AntecedentsAreEarlier t
  pub clauses : (k : ℕ) → k < length t → IsClause (lits_at t k)
  pub derived : (k : ℕ) → k < length t → IsCompactAt t k → antecedents_at t k ≢ []
  pub low : (k : ℕ) → k < length t → 1 ≤ index_at t k
  pub high : (k : ℕ) → k < length t → index_at t k ≤ MAX_INDEX
  pub distinct : (j k : ℕ) → j < k → k < length t → index_at t j ≢ index_at t k

-- ---- places of indices

-- the first place, counted from k on, where x stands in the list
abbrev pub place_from : ℕ → List ℕ → ℕ → Option ℕ
place_from k [] x = None
place_from k (y ∷ ys) x = if y == x then Some k else place_from (k + 1) ys x

-- the place of the first clause with this index
abbrev pub place_of : List ℕ → ℕ → Option ℕ
place_of indices x = place_from 0 indices x
