-- The tokens of the printed header of a CNF, and the end of its line.
use Rattle.std.proofs.Common.{◌≡◌, ℕ, ◌+◌, true, List, [], ◌∷◌, ◌++◌, length, refl, ap, ◌∙◌, append_assoc, arith}
use Rattle.std.proofs.lemmas.Bool.{ne_eqb}
use Rattle.text_defs.specs.Tokens.{Token, tokens}
use Rattle.text_defs.proofs.TokenLemmas.{NoneSeparates}
use Rattle.sat_text_defs.specs.Words.{separates}
use Rattle.sat_text_defs.specs.CnfText.{line_end}
use Rattle.sat_print_laws.proofs.WordBytes.{IsWord}
use Rattle.sat_print_laws.proofs.PrintedWords.{tokens-word, tokens-blank}

-- ---- the end of a line

-- a word isn't the end of its line
line_end-word : (at : ℕ) (w rest : List ℕ) → NoneSeparates separates w → line_end at (w ++ rest) ≡ line_end (at + length w) rest
line_end-word at [] rest bytes = ap (λ (n : ℕ). line_end n rest) (let e : at ≡ at + 0 = omega arith in e)
line_end-word at (b ∷ bs) rest bytes =
    let goes_on = ne_eqb b 10 (λ e. (let separated : separates b ≡ true = ap separates e in absurd (cc (bytes.0)))) in
    rw goes_on (line_end-word (at + 1) bs rest bytes.1 ∙ ap (λ (n : ℕ). line_end n rest) (let e : at + 1 + length bs ≡ at + length (b ∷ bs) = omega arith in e))

-- ---- the header

-- the words v and c behind `p cnf ` on the first line of a text, in front of the lines
abbrev pub header_text : List ℕ → List ℕ → List ℕ → List ℕ
header_text v c lines = (112 ∷ 32 ∷ 99 ∷ 110 ∷ 102 ∷ 32 ∷ []) ++ ((v ++ (32 ∷ [])) ++ (c ++ (10 ∷ lines)))

-- the end of the header's line
abbrev pub line_of_header : List ℕ → List ℕ → ℕ
line_of_header v c = 6 + length v + 1 + length c

-- the tokens of the header, and those behind it
abbrev pub header_tokens : List ℕ → List ℕ → List Token → List Token
header_tokens v c rest =
    record { at = 0; bytes = 112 ∷ [] } ∷ record { at = 2; bytes = 99 ∷ 110 ∷ 102 ∷ [] } ∷ record { at = 6; bytes = v } ∷ record { at = 6 + length v + 1; bytes = c } ∷ rest

-- the tokens of a header and of the lines behind it
pub tokens-header : (v c lines : List ℕ) → IsWord v → IsWord c
    → tokens separates 0 (header_text v c lines) ≡ header_tokens v c (tokens separates (line_of_header v c + 1) lines)
tokens-header v c lines v_word c_word =
    ap (λ (ts : List Token). record { at = 0; bytes = 112 ∷ [] } ∷ record { at = 2; bytes = 99 ∷ 110 ∷ 102 ∷ [] } ∷ ts)
    (tokens-blank 6 v (c ++ (10 ∷ lines)) v_word
    ∙ ap (λ (ts : List Token). record { at = 6; bytes = v } ∷ ts) (tokens-word (6 + length v + 1) c (10 ∷ lines) c_word refl))

-- the header's line ends behind its fourth word
pub line_end-header : (v c lines : List ℕ) → IsWord v → IsWord c → line_end 0 (header_text v c lines) ≡ line_of_header v c
line_end-header v c lines v_word c_word =
    ap (line_end 6) (append_assoc v (32 ∷ []) (c ++ (10 ∷ lines)))
    ∙ line_end-word 6 v (32 ∷ (c ++ (10 ∷ lines))) v_word.bytes
    ∙ line_end-word (6 + length v + 1) c (10 ∷ lines) c_word.bytes
