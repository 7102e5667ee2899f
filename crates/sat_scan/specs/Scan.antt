-- What a place in a text has ahead.
use Rattle.std.specs.Prelude.{◌≡◌, ◌<◌, ◌≤◌, ℕ, ◌+◌, List, [], ◌∷◌, length, drop, if◌then◌else◌}
use Rattle.text_defs.specs.Tokens.{Token, tokens}
use Rattle.sat_text_defs.specs.Words.{separates}
use Rattle.sat_text_defs.specs.CnfText.{uncommented, later}

-- the bytes before the first separator
abbrev pub word : List ℕ → List ℕ
word [] = []
word (b ∷ bs) = if separates b then [] else (b ∷ word bs)

-- the word that begins at this place
abbrev pub word_at : ℕ → List ℕ → List ℕ
word_at at text = word (drop at text)

-- the word that begins at this place, with the place
abbrev pub token_at : ℕ → List ℕ → Token
token_at at text = record { at = at; bytes = word_at at text }

-- the place behind the word that begins at this place
abbrev pub behind_word_at : ℕ → List ℕ → ℕ
behind_word_at at text = at + length (word_at at text)

-- the tokens of a trace from this place on
abbrev pub tokens_from : ℕ → List ℕ → List Token
tokens_from at text = tokens separates at (drop at text)

-- the tokens of a CNF from this place on, which doesn't begin a line
abbrev pub cnf_tokens_from : ℕ → List ℕ → List Token
cnf_tokens_from at text = tokens separates at (uncommented later (drop at text))

-- a token of a trace begins at this place, or the text ends there
pub record IsAtWord (at : ℕ) (text : List ℕ) : Type 0 where
  pub within : at ≤ length text
  pub word : at < length text → tokens_from at text ≡ token_at at text ∷ tokens_from (behind_word_at at text) text
  pub end : length text ≤ at → tokens_from at text ≡ []

-- a token of a CNF begins at this place, or the text ends there
pub record IsAtCnfWord (at : ℕ) (text : List ℕ) : Type 0 where
  pub within : at ≤ length text
  pub word : at < length text → cnf_tokens_from at text ≡ token_at at text ∷ cnf_tokens_from (behind_word_at at text) text
  pub end : length text ≤ at → cnf_tokens_from at text ≡ []
