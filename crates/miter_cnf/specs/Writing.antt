-- Clauses that are written one after another, each as the set of its literals.
use Rattle.std.specs.Prelude.{◌≡◌, List, ◌++◌, map}
use Rattle.clause_defs.specs.Clauses.{Lits, clause_of}

-- behind the old clauses stand these, and no others
abbrev pub Adds : List Lits → List Lits → List Lits → Type 0
Adds old added new = new ≡ old ++ map clause_of added
