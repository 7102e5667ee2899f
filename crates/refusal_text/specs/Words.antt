-- Words and numbers with one blank between them.
use Rattle.std.specs.Prelude.{ℕ, List, ◌∷◌, ◌++◌, decimal}

-- the text with a blank and one word more
abbrev pub and_word : List ℕ → List ℕ → List ℕ
and_word text word = text ++ 32 ∷ word

-- the text with a blank and one number more
abbrev pub and_number : List ℕ → ℕ → List ℕ
and_number text n = and_word text (decimal n)
