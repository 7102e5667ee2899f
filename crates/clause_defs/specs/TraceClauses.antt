-- What each clause of a trace is: its stated literals, or what the chain of its antecedents gives, by recursion
-- on the place. (The chain rule as this project reads TraceCheck.)
use Rattle.std.specs.Prelude.{ℕ, zero, suc, ◌+◌, List, [], ◌∷◌, ◌++◌, length, map, Option, Some, None}
use Rattle.clause_defs.specs.Clauses.{Lits}
use Rattle.clause_defs.specs.Resolution.{chain_of}
use Rattle.clause_defs.specs.Traces.{Entry, stated_at, antecedents_at}

-- the clause before the others, if none of them is missing
abbrev pub given_with : Option Lits → Option (List Lits) → Option (List Lits)
given_with None cs = None
given_with (Some c) None = None
given_with (Some c) (Some cs) = Some (c ∷ cs)

-- all of them, if none is missing
abbrev pub all_given : List (Option Lits) → Option (List Lits)
all_given [] = Some []
all_given (o ∷ os) = given_with o (all_given os)

-- the clause that these antecedents give, if each of them is there and each step has just one pivot
abbrev pub given_by : Option (List Lits) → Option Lits
given_by None = None
given_by (Some cs) = chain_of cs

-- the stated clause, or else the given one
abbrev pub stated_or : Option Lits → Option Lits → Option Lits
stated_or None given = given
stated_or (Some c) given = Some c

-- clause p of a list of those that are known
abbrev pub known_at : List (Option Lits) → ℕ → Option Lits
known_at [] p = None
known_at (o ∷ os) zero = o
known_at (o ∷ os) (suc p) = known_at os p

-- clause k, where those before it are these
abbrev pub clause_behind : List (Option Lits) → List Entry → ℕ → Option Lits
clause_behind before t k = stated_or (stated_at t k) (given_by (all_given (map (known_at before) (antecedents_at t k))))

-- the clauses before place n
abbrev pub clauses_before : List Entry → ℕ → List (Option Lits)
clauses_before t zero = []
clauses_before t (suc k) = clauses_before t k ++ clause_behind (clauses_before t k) t k ∷ []

-- the literals of clause k; none where a step of its chain fails or an antecedent has none
abbrev pub LitsOf : List Entry → ℕ → Option Lits
LitsOf t k = clause_behind (clauses_before t k) t k

-- the literals of the antecedents of clause k, if each of them has some
abbrev pub antecedent_lits : List Entry → ℕ → Option (List Lits)
antecedent_lits t k = all_given (map (LitsOf t) (antecedents_at t k))

-- how many literals a computed clause has; a stated one counts nothing
abbrev pub computed_size : Option Lits → Option Lits → ℕ
computed_size (Some stated) clause = 0
computed_size None None = 0
computed_size None (Some c) = length c

-- how many literals the clauses with the sign before place n have together
abbrev pub computed_before : List Entry → ℕ → ℕ
computed_before t zero = 0
computed_before t (suc k) = computed_before t k + computed_size (stated_at t k) (LitsOf t k)
