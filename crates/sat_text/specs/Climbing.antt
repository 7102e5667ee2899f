-- Literals that come each before the next.
use Rattle.std.specs.Prelude.{ℕ, ◌+◌, nat_lt, Bool, true, false, [], ◌∷◌, if◌then◌else◌}
use Rattle.clause_defs.specs.Literals.{code}
use Rattle.clause_defs.specs.Clauses.{Lits}

-- the codes go up from n or more
abbrev pub climbs_from : ℕ → Lits → Bool
climbs_from n [] = true
climbs_from n (l ∷ ls) = if nat_lt (code l) n then false else climbs_from (code l + 1) ls
