-- Going on from one place of a text to the next.
use Rattle.std.proofs.Common.{◌≡◌, ℕ, ◌+◌, ◌<◌, ◌≤◌, ◌==◌, ◌||◌, true, false, not, List, [], ◌∷◌, ◌++◌, length, get_or, drop, refl, sym, ap, subst, inl, inr, ◌∙◌}
use Rattle.std.proofs.lemmas.List.{drop_all, drop_more, drop-drop}
use Rattle.std.proofs.lemmas.Bool.{cases_Bool, or_parts}
use Rattle.text_defs.specs.Tokens.{tokens, begins_with_token}
use Rattle.text_defs.proofs.TokenLemmas.{NoneSeparates, tokens-run}
use Rattle.sat_text_defs.specs.Words.{separates}
use Rattle.sat_text_defs.specs.CnfText.{uncommented, later}
use Rattle.sat_scan.specs.Scan.{word, word_at, token_at, behind_word_at, tokens_from, cnf_tokens_from}

-- ---- the first word of a list of bytes

-- no word begins at a separator
word-separator : (b : ℕ) (bs : List ℕ) → separates b ≡ true → word (b ∷ bs) ≡ []
word-separator b bs e = rw e refl

-- a byte that separates nothing begins the word
pub word-byte : (b : ℕ) (bs : List ℕ) → separates b ≡ false → word (b ∷ bs) ≡ b ∷ word bs
word-byte b bs e = rw e refl

-- a word and what is behind it make up the bytes
word-append : (bs : List ℕ) → word bs ++ drop (length (word bs)) bs ≡ bs
word-append [] = refl
word-append (b ∷ bs) = elim (cases_Bool (separates b)) [
  | inl e ↦ rw (word-separator b bs e) refl
  | inr e ↦ rw (word-byte b bs e) (ap (λ (xs : List ℕ). b ∷ xs) (word-append bs))
]

-- no separator stands in a word
word-none : (bs : List ℕ) → NoneSeparates separates (word bs)
word-none [] = tt
word-none (b ∷ bs) = elim (cases_Bool (separates b)) [
  | inl e ↦ rw (word-separator b bs e) tt
  | inr e ↦ rw (word-byte b bs e) (e, word-none bs)
]

-- behind a word a separator stands, or nothing
word-ends : (bs : List ℕ) → begins_with_token separates (drop (length (word bs)) bs) ≡ false
word-ends [] = refl
word-ends (b ∷ bs) = elim (cases_Bool (separates b)) [
  | inl e ↦ rw (word-separator b bs e) (ap not e)
  | inr e ↦ rw (word-byte b bs e) (word-ends bs)
]

-- a word that is followed by no token's byte is one token, with the tokens behind it
one_token : (at b : ℕ) (ws rest bs : List ℕ) → NoneSeparates separates (b ∷ ws) → begins_with_token separates rest ≡ false
    → (b ∷ ws) ++ rest ≡ bs
    → tokens separates at bs ≡ record { at = at; bytes = b ∷ ws } ∷ tokens separates (at + length (b ∷ ws)) rest
one_token at b ws rest bs none ends joined =
    subst (λ (xs : List ℕ). tokens separates at xs ≡ record { at = at; bytes = b ∷ ws } ∷ tokens separates (at + length (b ∷ ws)) rest)
    joined (tokens-run separates at b ws rest none ends)

-- a text that begins with a token has that one, and then those of the rest
tokens-word : (at b : ℕ) (bs : List ℕ) → separates b ≡ false
    → tokens separates at (b ∷ bs)
    ≡ record { at = at; bytes = word (b ∷ bs) } ∷ tokens separates (at + length (word (b ∷ bs))) (drop (length (word (b ∷ bs))) (b ∷ bs))
tokens-word at b bs e =
    rw (word-byte b bs e)
    (one_token at b (word bs) (drop (length (word bs)) bs) (b ∷ bs) (e, word-none bs) (word-ends bs)
    (ap (λ (xs : List ℕ). b ∷ xs) (word-append bs)))

-- ---- the same behind comments

-- a byte of a word is kept when comments are left out
uncommented-byte : (b : ℕ) (bs : List ℕ) → separates b ≡ false → uncommented later (b ∷ bs) ≡ b ∷ uncommented later bs
uncommented-byte b bs e =
    let no_line_feed : (b == 10) ≡ false = (or_parts ((b == 32) || (b == 9) || (b == 13)) (b == 10) e).1 in
    rw no_line_feed refl

-- a word is kept when comments are left out, which may begin behind it
uncommented-word : (bs : List ℕ) → word bs ++ uncommented later (drop (length (word bs)) bs) ≡ uncommented later bs
uncommented-word [] = refl
uncommented-word (b ∷ bs) = elim (cases_Bool (separates b)) [
  | inl e ↦ rw (word-separator b bs e) refl
  | inr e ↦ rw (word-byte b bs e, uncommented-byte b bs e) (ap (λ (xs : List ℕ). b ∷ xs) (uncommented-word bs))
]

-- leaving out comments behind the line's first word doesn't change whether a token comes next
begins-uncommented : (bs : List ℕ) → begins_with_token separates (uncommented later bs) ≡ begins_with_token separates bs
begins-uncommented [] = refl
begins-uncommented (b ∷ bs) = refl

-- the first word of bytes within a line is their first token, with comments left out
cnf_tokens-word : (at b : ℕ) (bs : List ℕ) → separates b ≡ false
    → tokens separates at (uncommented later (b ∷ bs))
    ≡ record { at = at; bytes = word (b ∷ bs) } ∷ tokens separates (at + length (word (b ∷ bs))) (uncommented later (drop (length (word (b ∷ bs))) (b ∷ bs)))
cnf_tokens-word at b bs e =
    rw (word-byte b bs e)
    (one_token at b (word bs) (uncommented later (drop (length (word bs)) bs)) (uncommented later (b ∷ bs)) (e, word-none bs)
    (begins-uncommented (drop (length (word bs)) bs) ∙ word-ends bs)
    (ap (λ (xs : List ℕ). b ∷ xs) (uncommented-word bs) ∙ sym (uncommented-byte b bs e)))

-- ---- the same at a place of a text

-- dropping a word from its place is going on behind it
behind_word : (at : ℕ) (text : List ℕ) → drop (length (word_at at text)) (drop at text) ≡ drop (behind_word_at at text) text
behind_word at text = drop-drop (length (word_at at text)) at text

-- where a word begins, it is the next token of a trace
token_here : (at : ℕ) (text rest : List ℕ) (b : ℕ) → drop at text ≡ b ∷ rest → separates b ≡ false
    → tokens_from at text ≡ token_at at text ∷ tokens_from (behind_word_at at text) text
token_here at text rest b e starts =
    rw (← behind_word at text) (rw e (tokens-word at b rest starts))

-- at a byte that isn't a separator, the word there is the next token of a trace
pub tokens_from-word : (at : ℕ) (text : List ℕ) → at < length text → separates (get_or text at 0) ≡ false
    → tokens_from at text ≡ token_at at text ∷ tokens_from (behind_word_at at text) text
tokens_from-word at text h e = token_here at text (drop (at + 1) text) (get_or text at 0) (drop_more text at 0 h) e

-- where a word begins within a line, it is the next token of a CNF
cnf_token_here : (at : ℕ) (text rest : List ℕ) (b : ℕ) → drop at text ≡ b ∷ rest → separates b ≡ false
    → cnf_tokens_from at text ≡ token_at at text ∷ cnf_tokens_from (behind_word_at at text) text
cnf_token_here at text rest b e starts =
    rw (← behind_word at text) (rw e (cnf_tokens-word at b rest starts))

-- at a byte that isn't a separator, the word there is the next token of a CNF
pub cnf_tokens_from-word : (at : ℕ) (text : List ℕ) → at < length text → separates (get_or text at 0) ≡ false
    → cnf_tokens_from at text ≡ token_at at text ∷ cnf_tokens_from (behind_word_at at text) text
cnf_tokens_from-word at text h e = cnf_token_here at text (drop (at + 1) text) (get_or text at 0) (drop_more text at 0 h) e

-- at the end of a trace's text there are no tokens
pub tokens_from-end : (at : ℕ) (text : List ℕ) → length text ≤ at → tokens_from at text ≡ []
tokens_from-end at text h = rw (drop_all at text h) refl

-- at the end of a CNF's text there are no tokens
pub cnf_tokens_from-end : (at : ℕ) (text : List ℕ) → length text ≤ at → cnf_tokens_from at text ≡ []
cnf_tokens_from-end at text h = rw (drop_all at text h) refl
