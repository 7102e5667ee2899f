-- Blocks of words that are computed at once.
use Rattle.std.specs.Prelude.{ℕ, List, map}

-- word i of each block
abbrev pub words_of : {W : Type 0} → (W → ℕ → ℕ) → List W → ℕ → List ℕ
words_of word blocks i = map (λ block. word block i) blocks
