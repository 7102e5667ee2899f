-- Lists of bits, and the words that hold them: bit i of the word is element i of the list.
use Rattle.std.specs.Prelude.{ℕ, zero, suc, ◌+◌, ◌*◌, ◌/◌, ◌%◌, List, [], ◌∷◌}

-- the first n bits of the word, the least one first
abbrev pub bits_of : ℕ → ℕ → List ℕ
bits_of zero w = []
bits_of (suc n) w = (w % 2) ∷ bits_of n (w / 2)

-- the word whose bits are these
abbrev pub word_of : List ℕ → ℕ
word_of [] = 0
word_of (b ∷ bs) = b + 2 * word_of bs
