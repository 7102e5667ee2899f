-- How a reader goes from one token to the next.
use Rattle.std.proofs.Common.{◌≡◌, ℕ, ◌+◌, Bool, true, false, not, List, [], ◌∷◌, ◌++◌, length, refl, ap, ◌∙◌, arith}
use Rattle.text_defs.specs.Tokens.{tokens, begins_with_token, lengthened}

-- no byte of the list separates
abbrev pub NoneSeparates : (ℕ → Bool) → List ℕ → Type 0
NoneSeparates separates [] = Unit {0}
NoneSeparates separates (b ∷ bs) = (separates b ≡ false) × NoneSeparates separates bs

-- a separator is skipped
pub tokens-separator : (separates : ℕ → Bool) (at b : ℕ) (bs : List ℕ) → separates b ≡ true
    → tokens separates at (b ∷ bs) ≡ tokens separates (at + 1) bs
tokens-separator separates at b bs h = rw h refl

-- a byte before a token is put in front of it
tokens-before_token : (separates : ℕ → Bool) (at b : ℕ) (rest : List ℕ) → separates b ≡ false
    → begins_with_token separates rest ≡ true
    → tokens separates at (b ∷ rest) ≡ lengthened at b (tokens separates (at + 1) rest)
tokens-before_token separates at b rest h e = rw (h, e) refl

-- a byte before a separator or the text's end is a token
tokens-single : (separates : ℕ → Bool) (at b : ℕ) (rest : List ℕ) → separates b ≡ false
    → begins_with_token separates rest ≡ false
    → tokens separates at (b ∷ rest) ≡ record { at = at; bytes = b ∷ [] } ∷ tokens separates (at + 1) rest
tokens-single separates at b rest h e = rw (h, e) refl

-- a run of bytes that ends at a separator or at the text's end is one token
pub tokens-run : (separates : ℕ → Bool) (at b : ℕ) (bs rest : List ℕ)
    → NoneSeparates separates (b ∷ bs) → begins_with_token separates rest ≡ false
    → tokens separates at ((b ∷ bs) ++ rest)
    ≡ record { at = at; bytes = b ∷ bs } ∷ tokens separates (at + length (b ∷ bs)) rest
tokens-run separates at b [] rest h e = tokens-single separates at b rest h.0 e
tokens-run separates at b (c ∷ cs) rest h e =
    tokens-before_token separates at b ((c ∷ cs) ++ rest) h.0 (ap not h.1.0)
    ∙ ap (lengthened at b) (tokens-run separates (at + 1) c cs rest h.1 e)
    ∙ ap (λ n. record { at = at; bytes = b ∷ c ∷ cs } ∷ tokens separates n rest)
    (let e : at + 1 + length (c ∷ cs) ≡ at + length (b ∷ c ∷ cs) = omega arith in e)
