-- Words of 16 bits as bytes, the more significant byte first.
use Rattle.std.specs.Prelude.{ℕ, ◌+◌, ◌*◌, ◌/◌, ◌%◌, List, [], ◌∷◌, length, slice_index}
use Rattle.fabric_defs.specs.Numbered.{list_of, joined}

-- word j of the bytes
abbrev pub word_at : List ℕ → ℕ → ℕ
word_at bytes j = 256 * slice_index bytes (2 * j) + slice_index bytes (2 * j + 1)

-- the words that the bytes spell, each with two bytes
abbrev pub words_in : List ℕ → List ℕ
words_in bytes = list_of (length bytes / 2) (word_at bytes)

-- the bytes that spell the words
abbrev pub bytes_of : List ℕ → List ℕ
bytes_of words =
    joined (length words) (λ j. slice_index words j / 256 ∷ slice_index words j % 256 ∷ [])
