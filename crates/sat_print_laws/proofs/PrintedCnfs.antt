-- The printed text of a CNF is the text of that CNF.
use Rattle.std.proofs.Common.{◌≡◌, ℕ, ◌+◌, ◌<◌, ◌≤◌, inl, inr, List, [], ◌∷◌, ◌++◌, length, map, decimal, refl, sym, ap, subst, ◌∙◌, arith}
use Rattle.std.specs.List.{flat_map}
use Rattle.std.proofs.lemmas.List.{append-nil}
use Rattle.clause_defs.specs.declared.verdict.TheConstants.{MAX_VARIABLE, MAX_CLAUSES}
use Rattle.clause_defs.specs.Clauses.{Lits, Has, IsClause}
use Rattle.clause_defs.specs.Formulas.{Formula}
use Rattle.clause_laws.proofs.ClauseLemmas.{same_refl}
use Rattle.text_defs.specs.Tokens.{Token, tokens}
use Rattle.sat_text_defs.specs.declared.limits.TheConstants.{MAX_CNF_BYTES}
use Rattle.sat_text_defs.specs.Words.{separates, zero_word, literal_word}
use Rattle.sat_text_defs.specs.CnfText.{first, later, uncommented, tokens_of, header_end, clause_words, IsFormula, EachWithin, AreSpelled, SpellsFormula, CnfText}
use Rattle.sat_text_defs.specs.Printed.{literal_text, line_of, cnf_text}
use Rattle.cnf_text_laws.proofs.TokenOrder.{tokens_from}
use Rattle.sat_print_laws.proofs.WordBytes.{IsWord-decimal, IsWord-literal, IsWord-zero, length-word}
use Rattle.sat_print_laws.proofs.PrintedWords.{Prints, Prints-append, Prints-line_feed, Prints-blank, Prints-map, Prints-flat_map, Prints-all}
use Rattle.sat_print_laws.proofs.NoComments.{Keeps, Keeps-append, Keeps-later, lines_keep}
use Rattle.sat_print_laws.proofs.PrintedHeader.{header_tokens, line_of_header, tokens-header, line_end-header}

-- ---- the clauses

-- the line of a clause has the clause's words
line_prints : (c : Lits) → IsClause c → Prints (line_of c) (clause_words c)
line_prints c h =
    Prints-append (flat_map literal_text c) (48 ∷ 10 ∷ []) (map literal_word c) (zero_word ∷ [])
    (Prints-map literal_text literal_word c (λ l k. Prints-blank (literal_word l) (IsWord-literal l (h.literals l k))))
    (Prints-line_feed zero_word IsWord-zero)

-- the lines of the clauses have the clauses' words
lines_print : (cs : List Lits) → ((c : Lits) → Has cs c → IsClause c) → Prints (flat_map line_of cs) (flat_map clause_words cs)
lines_print cs h = Prints-flat_map line_of clause_words cs (λ c k. line_prints c (h c k))

-- clauses are spelled as they are printed
AreSpelled-printed : (v : ℕ) (cs : List Lits) → ((c : Lits) → Has cs c → IsClause c) → EachWithin v cs → AreSpelled v cs cs
AreSpelled-printed v [] h k = tt
AreSpelled-printed v (c ∷ cs) h k = (
  record { clause = h c (inl refl); within = k c (inl refl); lits = same_refl c },
  AreSpelled-printed v cs (λ d i. h d (inr i)) (λ d i. k d (inr i)),
)

-- ---- the header

-- the tokens of the printed header stand before the end of its line
before_line : (v c : List ℕ) → 0 < length c → (t : Token) → Has (header_tokens v c []) t → t.at < line_of_header v c
before_line v c some t (inl e) = subst (λ (u : Token). u.at < line_of_header v c) e (omega arith)
before_line v c some t (inr (inl e)) = subst (λ (u : Token). u.at < line_of_header v c) e (omega arith)
before_line v c some t (inr (inr (inl e))) = subst (λ (u : Token). u.at < line_of_header v c) e (omega arith)
before_line v c some t (inr (inr (inr (inl e)))) = subst (λ (u : Token). u.at < line_of_header v c) e (omega arith)
before_line v c some t (inr (inr (inr (inr none)))) = absurd none

-- the tokens of the clauses stand behind the header's line
behind_line : (line : ℕ) (lines : List ℕ) (t : Token) → Has (tokens separates (line + 1) lines) t → line ≤ t.at
behind_line line lines t i = omega (arith, tokens_from separates (line + 1) lines t i)

-- ---- the whole text

-- no line of a printed CNF is a comment
uncommented-text : (f : Formula) → IsFormula f → uncommented first (cnf_text f) ≡ cnf_text f
uncommented-text f h =
    let few : f.variables ≤ MAX_VARIABLE = h.few_variables in
    let few_clauses : length f.clauses ≤ MAX_CLAUSES = h.few_clauses in
    let v = decimal f.variables in
    let c = decimal (length f.clauses) in
    let lines = flat_map line_of f.clauses in
    let v_keeps : Keeps later later (v ++ (32 ∷ [])) = Keeps-append later later later v (32 ∷ []) (Keeps-later v (IsWord-decimal f.variables (omega arith)).bytes) (λ r. refl) in
    let c_keeps : Keeps later later c = Keeps-later c (IsWord-decimal (length f.clauses) (omega arith)).bytes in
    let lines_are : uncommented first lines ≡ lines =
    ap (uncommented first) (sym (append-nil lines)) ∙ lines_keep f.clauses h.clauses [] ∙ append-nil lines in
    ap (λ (text : List ℕ). 112 ∷ 32 ∷ 99 ∷ 110 ∷ 102 ∷ 32 ∷ text)
    (v_keeps (c ++ (10 ∷ lines))
    ∙ ap (λ (text : List ℕ). (v ++ (32 ∷ [])) ++ text) (c_keeps (10 ∷ lines) ∙ ap (λ (text : List ℕ). c ++ (10 ∷ text)) lines_are))

-- the tokens of the printed text spell the formula
spells : (f : Formula) → IsFormula f → (v c : List ℕ) → v ≡ decimal f.variables → c ≡ decimal (length f.clauses) → 0 < length c
    → SpellsFormula (line_of_header v c) (header_tokens v c (tokens separates (line_of_header v c + 1) (flat_map line_of f.clauses))) f
spells f h v c v_is c_is some = record {
  header = header_tokens v c [];
  body = tokens separates (line_of_header v c + 1) (flat_map line_of f.clauses);
  parts = refl;
  words = ap (λ (w : List ℕ). (112 ∷ []) ∷ (99 ∷ 110 ∷ 102 ∷ []) ∷ w ∷ c ∷ []) v_is
      ∙ ap (λ (w : List ℕ). (112 ∷ []) ∷ (99 ∷ 110 ∷ 102 ∷ []) ∷ decimal f.variables ∷ w ∷ []) c_is;
  on_line = before_line v c some;
  alone = behind_line (line_of_header v c) (flat_map line_of f.clauses);
  variables = h.few_variables;
  clauses = h.few_clauses;
  spelled = f.clauses;
  same_clauses = AreSpelled-printed f.variables f.clauses h.clauses h.within;
  same_words = Prints-all (line_of_header v c + 1) (flat_map line_of f.clauses) (flat_map clause_words f.clauses) (lines_print f.clauses h.clauses);
}

-- the printed text of a CNF is the text of that CNF
pub printed-text : (f : Formula) → IsFormula f → length (cnf_text f) ≤ MAX_CNF_BYTES → CnfText (cnf_text f) f
printed-text f h short =
    let few : f.variables ≤ MAX_VARIABLE = h.few_variables in
    let few_clauses : length f.clauses ≤ MAX_CLAUSES = h.few_clauses in
    let v = decimal f.variables in
    let c = decimal (length f.clauses) in
    let lines = flat_map line_of f.clauses in
    let v_is = IsWord-decimal f.variables (omega arith) in
    let c_is = IsWord-decimal (length f.clauses) (omega arith) in
    let all = header_tokens v c (tokens separates (line_of_header v c + 1) lines) in
    let are : tokens_of (cnf_text f) ≡ all = ap (tokens separates 0) (uncommented-text f h) ∙ tokens-header v c lines v_is c_is in
    let line_is : header_end (cnf_text f) all ≡ line_of_header v c = line_end-header v c lines v_is c_is in (
      short,
      subst (λ (ts : List Token). SpellsFormula (header_end (cnf_text f) ts) ts f) (sym are)
          (subst (λ (line : ℕ). SpellsFormula line all f) (sym line_is) (spells f h v c refl refl (length-word c c_is))),
    )
