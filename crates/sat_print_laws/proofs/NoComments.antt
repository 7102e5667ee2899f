-- No line of a printed CNF is a comment.
use Rattle.std.proofs.Common.{◌≡◌, ℕ, ◌≤◌, ◌==◌, true, false, List, [], ◌∷◌, ◌++◌, refl, sym, ap, ◌∙◌, append_assoc, inl, inr, arith}
use Rattle.std.specs.List.{flat_map}
use Rattle.std.proofs.lemmas.Bool.{ne_eqb}
use Rattle.clause_defs.specs.Literals.{Literal, IsLiteral}
use Rattle.clause_defs.specs.Clauses.{Lits, Has, IsClause}
use Rattle.text_defs.proofs.TokenLemmas.{NoneSeparates}
use Rattle.sat_text_defs.specs.Words.{separates, literal_word}
use Rattle.sat_text_defs.specs.CnfText.{Place, first, later, uncommented}
use Rattle.sat_text_defs.specs.Printed.{literal_text, line_of}
use Rattle.sat_print_laws.proofs.WordBytes.{IsWord, IsWord-literal}

-- the piece p of a text, which begins at the place s and behind which the place is q, has no comments
abbrev pub Keeps : Place → Place → List ℕ → Type 0
Keeps s q p = (rest : List ℕ) → uncommented s (p ++ rest) ≡ p ++ uncommented q rest

-- one piece behind another
pub Keeps-append : (s q r : Place) (a b : List ℕ) → Keeps s q a → Keeps q r b → Keeps s r (a ++ b)
Keeps-append s q r a b one two rest =
    ap (uncommented s) (append_assoc a b rest)
    ∙ one (b ++ rest)
    ∙ ap (λ (text : List ℕ). a ++ text) (two rest)
    ∙ sym (append_assoc a b (uncommented r rest))

-- a byte of a word is no line feed
no_line_feed : (b : ℕ) → separates b ≡ false → (b == 10) ≡ false
no_line_feed b h = ne_eqb b 10 (λ e. (let separated : separates b ≡ true = ap separates e in absurd (cc)))

-- a word later in its line
pub Keeps-later : (w : List ℕ) → NoneSeparates separates w → Keeps later later w
Keeps-later [] bytes rest = refl
Keeps-later (b ∷ bs) bytes rest = rw (no_line_feed b bytes.0) (ap (λ (text : List ℕ). b ∷ text) (Keeps-later bs bytes.1 rest))

-- a word that begins its line begins no comment: its first byte is no letter
Keeps-first : (w : List ℕ) → IsWord w → Keeps first later w
Keeps-first [] word = absurd (word.nonempty refl)
Keeps-first (b ∷ bs) word = λ rest.
    let low : b ≤ 57 = word.first in
    rw (ne_eqb b 99 (λ e. omega arith), no_line_feed b word.bytes.0) (ap (λ (text : List ℕ). b ∷ text) (Keeps-later bs word.bytes.1 rest))

-- the literals of a clause, later in its line, begin no comment
lits_keep : (cs : Lits) → ((l : Literal) → Has cs l → IsLiteral l) → Keeps later later (flat_map literal_text cs)
lits_keep [] literals = λ rest. refl
lits_keep (c ∷ cs) literals = λ rest.
    Keeps-append later later later (literal_text c) (flat_map literal_text cs)
    (Keeps-append later later later (literal_word c) (32 ∷ []) (Keeps-later (literal_word c) (IsWord-literal c (literals c (inl refl))).bytes) (λ r. refl))
    (lits_keep cs (λ l h. literals l (inr h))) rest

-- the line of a clause is no comment
line_keeps : (c : Lits) → ((l : Literal) → Has c l → IsLiteral l) → Keeps first first (line_of c)
line_keeps [] literals = λ rest. refl
line_keeps (c ∷ cs) literals =
    Keeps-append first later first (flat_map literal_text (c ∷ cs)) (48 ∷ 10 ∷ [])
    (Keeps-append first later later (literal_text c) (flat_map literal_text cs)
    (Keeps-append first later later (literal_word c) (32 ∷ []) (Keeps-first (literal_word c) (IsWord-literal c (literals c (inl refl)))) (λ r. refl))
    (lits_keep cs (λ l h. literals l (inr h))))
    (λ r. refl)

-- no line of a clause is a comment
pub lines_keep : (cs : List Lits) → ((c : Lits) → Has cs c → IsClause c) → Keeps first first (flat_map line_of cs)
lines_keep [] clauses = λ rest. refl
lines_keep (c ∷ cs) clauses =
    Keeps-append first first first (line_of c) (flat_map line_of cs) (line_keeps c (clauses c (inl refl)).literals) (lines_keep cs (λ d h. clauses d (inr h)))
