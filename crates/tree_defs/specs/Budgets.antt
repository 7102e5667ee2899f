-- How many words of derived clauses are enough for the search that tries every input.
use Rattle.std.specs.Prelude.{ℕ, ◌+◌, ◌*◌, ◌^◌}

-- For each of the 2 ^ n values of n inputs one chain through the variables, of which there are v; and above them
-- fewer than 2 ^ n steps that resolve two clauses over inputs. No clause has more than v + n + 5 words.
abbrev pub Enough : ℕ → ℕ → ℕ
Enough n v = 2 ^ (n + 1) * (v + n + 5)
