-- Words that have a bit for each of several evaluations.
use Rattle.std.specs.Prelude.{ℕ, List, map}
use Rattle.std.specs.Int.{bit_at}

-- the bits of evaluation j: bit j of each word
abbrev pub lane : List ℕ → ℕ → List ℕ
lane words j = map (λ word. bit_at word j) words
