-- The tokens of a text: the longest runs of bytes that aren't separators.
use Rattle.std.specs.Prelude.{ℕ, ◌+◌, Bool, false, not, List, [], ◌∷◌, if◌then◌else◌}

-- a token: the offset of its first byte, and its bytes
pub record Token : Type 0 where
  pub at : ℕ
  pub bytes : List ℕ

-- the first byte of the text is there and isn't a separator
abbrev pub begins_with_token : (ℕ → Bool) → List ℕ → Bool
begins_with_token separates [] = false
begins_with_token separates (b ∷ bs) = not (separates b)

-- the tokens with a byte, which stands at this offset, put in front of the first one
abbrev pub lengthened : ℕ → ℕ → List Token → List Token
lengthened at b [] = record { at = at; bytes = b ∷ [] } ∷ []
lengthened at b (t ∷ ts) = record { at = at; bytes = b ∷ t.bytes } ∷ ts

-- the tokens of a text whose first byte stands at this offset
abbrev pub tokens : (ℕ → Bool) → ℕ → List ℕ → List Token
tokens separates at [] = []
tokens separates at (b ∷ bs) =
    if separates b
    then tokens separates (at + 1) bs
    else (if begins_with_token separates bs
    then lengthened at b (tokens separates (at + 1) bs)
    else (record { at = at; bytes = b ∷ [] } ∷ tokens separates (at + 1) bs))
