-- The CNF that is computed of a text is the one whose text it is.
use Rattle.std.proofs.Common.{◌≡◌, ℕ, ◌<◌, ◌≤◌, inl, inr, ◌==◌, true, false, nat_lt, List, [], ◌∷◌, ◌++◌, length, decimal, Result, Ok, Err, refl, sym, ap, subst, ◌∙◌}
use Rattle.std.proofs.lemmas.Bool.{cases_Bool, eqb-true, eq-eqb, ltb-true, ltb-false, lt-ltb, le-ltb}
use Rattle.clause_defs.specs.declared.verdict.TheConstants.{MAX_VARIABLE, MAX_CLAUSES}
use Rattle.clause_defs.specs.Clauses.{Lits, Has}
use Rattle.text_defs.specs.Tokens.{Token}
use Rattle.sat_text_defs.specs.declared.limits.TheConstants.{MAX_CNF_BYTES}
use Rattle.sat_text_defs.specs.declared.errors.CnfError.{CnfError}
use Rattle.sat_text_defs.specs.declared.errors.CnfError.TheVariants.{TooLong, Syntax, Count}
use Rattle.sat_text_defs.specs.Words.{words_of}
use Rattle.text_defs.specs.Steps.{◌>>=◌}
use Rattle.sat_text_defs.specs.CnfText.{tokens_of}
use Rattle.clause_defs.specs.Formulas.{Formula}
use Rattle.sat_text_defs.specs.CnfReading.{clauses_from, counted, header_in, Header, cnf_from, cnf_in}
use Rattle.sat_text_defs.specs.CnfText.{p_word, cnf_word, header_words, AreSpelled, header_end, SpellsFormula, CnfText}
use Rattle.text_defs.proofs.StepLemmas.{bind_ok, guard_ok}
use Rattle.cnf_text_laws.proofs.HeaderTokens.{Headed, headed_alone}
use Rattle.cnf_text_laws.proofs.TokenOrder.{InOrder, tokens_in_order, all_behind, each_is_behind, begins_each}
use Rattle.cnf_text_laws.proofs.HeaderOrNot.{Good, answer}
use Rattle.cnf_text_laws.proofs.ClausesSpelled.{spells_from, reads_clauses}

-- ---- what goes on behind the header

-- what goes on behind this header
abbrev pub behind_header : ℕ → Header → Result Formula CnfError
behind_header end h = clauses_from h.variables end h.rest [] [] >>= λ fs. counted h.variables h.clauses fs

-- behind a header the clauses are read and counted
pub cnf_from-good : (end line : ℕ) (ts : List Token) (v k : ℕ) (body : List Token) → header_in end line ts ≡ Ok (record { variables = v; clauses = k; rest = body })
    → cnf_from end line ts ≡ (clauses_from v end body [] [] >>= λ fs. counted v k fs)
cnf_from-good end line ts v k body e = ap {B = Result Formula CnfError} (λ r. r >>= behind_header end) e

-- a fault of the header is the text's
pub cnf_from-stops : (end line : ℕ) (ts : List Token) (e : CnfError) → header_in end line ts ≡ Err e → cnf_from end line ts ≡ Err e
cnf_from-stops end line ts e h = ap {B = Result Formula CnfError} (λ r. r >>= behind_header end) h

-- as many clauses as the header says
pub counted-same : (v : ℕ) (fs : List Lits) (k : ℕ) → length fs ≡ k → counted v k fs ≡ Ok (record { variables = v; clauses = fs })
counted-same v fs k e = let test : (length fs == k) ≡ true = eq-eqb (length fs) k e in rw test refl

-- ---- from what is computed

-- the four tokens of a header stand before the end of its line
before_line : (line : ℕ) (p c d n : Token) (v k : ℕ) → Headed line p c d n v k → (t : Token) → Has (p ∷ c ∷ d ∷ n ∷ []) t → t.at < line
before_line line p c d n v k h t (inl e) = subst (λ (u : Token). u.at < line) e h.first.0
before_line line p c d n v k h t (inr (inl e)) = subst (λ (u : Token). u.at < line) e h.second.0
before_line line p c d n v k h t (inr (inr (inl e))) = subst (λ (u : Token). u.at < line) e h.third.0
before_line line p c d n v k h t (inr (inr (inr (inl e)))) = subst (λ (u : Token). u.at < line) e h.fourth.0
before_line line p c d n v k h t (inr (inr (inr (inr none)))) = absurd none

-- the words of the four tokens are those of a header with these numbers
headed_words : (line : ℕ) (p c d n : Token) (v k m : ℕ) → Headed line p c d n v k → m ≡ k → words_of (p ∷ c ∷ d ∷ n ∷ []) ≡ header_words v m
headed_words line p c d n v k m h e =
    let a : p.bytes ≡ p_word = h.first.1 in
    let b : c.bytes ≡ cnf_word = h.second.1 in
    let x : d.bytes ≡ decimal v = h.third.1.0 in
    let y : n.bytes ≡ decimal m = h.fourth.1.0 ∙ ap decimal (sym e) in
    cc

-- clauses that are read behind a header spell the formula, where there are as many as it says
spells_good : (end line : ℕ) (ts : List Token) → InOrder ts → (g : Good end line ts) (fs : List Lits) → clauses_from g.variables end g.body [] [] ≡ Ok fs
    → length fs ≡ g.clauses → SpellsFormula line ts (record { variables = g.variables; clauses = fs })
spells_good end line ts o g fs read count =
    let s = spells_from g.variables end g.body [] [] fs (λ l none. absurd none) read in
    record {
      header = g.p ∷ g.c ∷ g.d ∷ g.n ∷ [];
      body = g.body;
      parts = g.parts;
      words = headed_words line g.p g.c g.d g.n g.variables g.clauses (length fs) g.headed count;
      on_line = before_line line g.p g.c g.d g.n g.variables g.clauses g.headed;
      alone = each_is_behind line g.body (all_behind line g.body (subst (λ (x : List Token). InOrder x) g.parts o).1.1.1.1 g.alone);
      variables = g.headed.third.1.1;
      clauses = subst (λ (k : ℕ). k ≤ MAX_CLAUSES) (sym count) g.headed.fourth.1.1;
      spelled = s.spelled;
      same_clauses = subst (λ (x : List Lits). AreSpelled g.variables s.spelled x) (sym s.same) s.each;
      same_words = s.words;
    }

-- the formula that is read is spelled
pub spells_computed : (end line : ℕ) (ts : List Token) (f : Formula) → InOrder ts → cnf_from end line ts ≡ Ok f → SpellsFormula line ts f
spells_computed end line ts f o e = elim (answer end line ts) [
  | inl g ↦
      let reads = sym (cnf_from-good end line ts g.variables g.clauses g.body g.value) ∙ e in
      let b = bind_ok (clauses_from g.variables end g.body [] []) (λ fs. counted g.variables g.clauses fs) f reads in
      let c = guard_ok (length b.0 == g.clauses) (record { variables = g.variables; clauses = b.0 }) (Count g.clauses (length b.0)) f b.2 in
      subst (λ (x : Formula). SpellsFormula line ts x) c.1 (spells_good end line ts o g b.0 b.1 (eqb-true (length b.0) g.clauses c.0))
  | inr stops ↦ elim stops [
    | inl bad ↦ absurd (let h = cnf_from-stops end line ts (Syntax bad.0.at) bad.2 in cc)
    | inr short ↦ absurd (let h = cnf_from-stops end line ts (Syntax end) short.2 in cc)
  ]
]

-- ---- to what is computed

-- the tokens on the first line are the four of a header with these numbers
record FourTokens (line : ℕ) (header : List Token) (v k : ℕ) : Type 0 where
  p : Token
  c : Token
  d : Token
  n : Token
  same : header ≡ p ∷ c ∷ d ∷ n ∷ []
  headed : Headed line p c d n v k

-- tokens on the first line with the words of a header are its four
four_tokens : (line : ℕ) (header : List Token) (v k : ℕ) → words_of header ≡ header_words v k → ((t : Token) → Has header t → t.at < line)
    → v ≤ MAX_VARIABLE → k ≤ MAX_CLAUSES → FourTokens line header v k
four_tokens line [] v k e h i j = absurd (cc)
four_tokens line (p ∷ []) v k e h i j = absurd (cc)
four_tokens line (p ∷ c ∷ []) v k e h i j = absurd (cc)
four_tokens line (p ∷ c ∷ d ∷ []) v k e h i j = absurd (cc)
four_tokens line (p ∷ c ∷ d ∷ n ∷ []) v k e h i j =
    let a : p.bytes ≡ p_word = cc in
    let b : c.bytes ≡ cnf_word = cc in
    let x : d.bytes ≡ decimal v = cc in
    let y : n.bytes ≡ decimal k = cc in
    record {
      p = p;
      c = c;
      d = d;
      n = n;
      same = refl;
      headed = record {
        first = (h p (inl refl), a);
        second = (h c (inr (inl refl)), b);
        third = (h d (inr (inr (inl refl))), (x, i));
        fourth = (h n (inr (inr (inr (inl refl)))), (y, j));
      };
    }
four_tokens line (p ∷ c ∷ d ∷ n ∷ t ∷ ts) v k e h i j = absurd (cc)

-- the formula that is spelled is read
pub computed_spells : (end line : ℕ) (ts : List Token) (f : Formula) → SpellsFormula line ts f → cnf_from end line ts ≡ Ok f
computed_spells end line ts f s =
    let four = four_tokens line s.header f.variables (length f.clauses) s.words s.on_line s.variables s.clauses in
    let same : ts ≡ four.p ∷ four.c ∷ four.d ∷ four.n ∷ s.body = s.parts ∙ ap (λ (hs : List Token). hs ++ s.body) four.same in
    let header = headed_alone end line four.p four.c four.d four.n s.body f.variables (length f.clauses) four.headed (begins_each line s.body s.alone) in
    ap (λ (us : List Token). cnf_from end line us) same
    ∙ cnf_from-good end line (four.p ∷ four.c ∷ four.d ∷ four.n ∷ s.body) f.variables (length f.clauses) s.body header
    ∙ ap {B = Result Formula CnfError} (λ r. r >>= λ fs. counted f.variables (length f.clauses) fs)
    (reads_clauses f.variables end s.spelled f.clauses s.body [] s.same_clauses s.same_words)
    ∙ counted-same f.variables f.clauses (length f.clauses) refl

-- ---- texts

-- what is read of a text that isn't too long
pub cnf_in-short : (text : List ℕ) → length text ≤ MAX_CNF_BYTES
    → cnf_in text ≡ cnf_from (length text) (header_end text (tokens_of text)) (tokens_of text)
cnf_in-short text h =
    let test : nat_lt MAX_CNF_BYTES (length text) ≡ false = le-ltb MAX_CNF_BYTES (length text) h in
    rw test refl

-- what is read of a text that is too long
pub cnf_in-long : (text : List ℕ) → MAX_CNF_BYTES < length text → cnf_in text ≡ Err TooLong
cnf_in-long text h = let test : nat_lt MAX_CNF_BYTES (length text) ≡ true = lt-ltb MAX_CNF_BYTES (length text) h in rw test refl

-- a formula that is computed of a text is the one whose text it is
pub text_of_cnf_in : (text : List ℕ) (f : Formula) → cnf_in text ≡ Ok f → CnfText text f
text_of_cnf_in text f e = elim (cases_Bool (nat_lt MAX_CNF_BYTES (length text))) [
  | inl long ↦ absurd (let h = cnf_in-long text (ltb-true MAX_CNF_BYTES (length text) long) in cc)
  | inr short ↦
      let le = ltb-false MAX_CNF_BYTES (length text) short in
      (le, spells_computed (length text) (header_end text (tokens_of text)) (tokens_of text) f (tokens_in_order text) (sym (cnf_in-short text le) ∙ e))
]

-- the formula whose text it is is computed of the text
pub cnf_in_of_text : (text : List ℕ) (f : Formula) → CnfText text f → cnf_in text ≡ Ok f
cnf_in_of_text text f h =
    cnf_in-short text h.0 ∙ computed_spells (length text) (header_end text (tokens_of text)) (tokens_of text) f h.1
