-- The clauses that are read of a text, and the words that spell them.
use Rattle.std.proofs.Common.{◌≡◌, ℕ, ◌≤◌, inl, inr, List, [], ◌∷◌, ◌++◌, map, Ok, refl, sym, ap, subst, ◌∙◌, append_assoc}
use Rattle.std.specs.List.{flat_map}
use Rattle.std.proofs.lemmas.List.{append-nil, map-append}
use Rattle.clause_defs.specs.Literals.{Literal, IsLiteral}
use Rattle.clause_defs.specs.Clauses.{Lits, Has, clause_of}
use Rattle.clause_laws.proofs.ClauseLemmas.{same_sym}
use Rattle.text_defs.specs.Tokens.{Token}
use Rattle.sat_text_defs.specs.Words.{words_of, zero_word, literal_word}
use Rattle.sat_text_defs.specs.CnfReading.{clauses_from}
use Rattle.clause_laws.proofs.ClauseOf.{IsOrdered-clause_of, SameSet-clause_of, clause_of-ordered}
use Rattle.sat_text_defs.specs.CnfText.{clause_words, IsSpelled, AreSpelled}
use Rattle.clause_laws.proofs.TraceLemmas.{Has-snoc}
use Rattle.cnf_text_laws.proofs.ClauseTokens.{kind, step_zero, step_literal, step_out, step_bad}

-- ---- from what is read

-- literals within the limits, over this many variables
abbrev pub GoodLits : ℕ → Lits → Type 0
GoodLits v ls = (l : Literal) → Has ls l → IsLiteral l × (l.variable ≤ v)

-- literals over the variables with one more are over the variables
good_snoc : (v : ℕ) (ls : Lits) (l : Literal) → GoodLits v ls → IsLiteral l → l.variable ≤ v → GoodLits v (ls ++ l ∷ [])
good_snoc v ls l h i le m k = elim (Has-snoc ls l m k) [ inl j ↦ h m j | inr e ↦ subst (λ (x : Literal). IsLiteral x × (x.variable ≤ v)) e (i, le) ]

-- literals over the variables spell their clause
spelled_clause : (v : ℕ) (ls : Lits) → GoodLits v ls → IsSpelled v ls (clause_of ls)
spelled_clause v ls h = record {
  clause = record { literals = λ l k. (h l ((SameSet-clause_of ls l).0 k)).0; ordered = IsOrdered-clause_of ls };
  within = λ l k. (h l ((SameSet-clause_of ls l).0 k)).1;
  lits = same_sym (clause_of ls) ls (SameSet-clause_of ls);
}

-- the clauses behind those read so far, and how they are spelled; ls are the literals of an open clause
pub record Spells (v : ℕ) (ts : List Token) (fs : List Lits) (ls : Lits) (gs : List Lits) : Type 0 where
  pub clauses : List Lits
  pub spelled : List Lits
  pub same : gs ≡ fs ++ clauses
  pub each : AreSpelled v spelled clauses
  pub words : map literal_word ls ++ words_of ts ≡ flat_map clause_words spelled

-- what is spelled behind a 0 is spelled from it on, with the clause that it closes
spells_zero : (v : ℕ) (t : Token) (ts : List Token) (fs : List Lits) (ls : Lits) (gs : List Lits) → GoodLits v ls → t.bytes ≡ zero_word
    → Spells v ts (fs ++ clause_of ls ∷ []) [] gs → Spells v (t ∷ ts) fs ls gs
spells_zero v t ts fs ls gs h e s = record {
  clauses = clause_of ls ∷ s.clauses;
  spelled = ls ∷ s.spelled;
  same = s.same ∙ append_assoc fs (clause_of ls ∷ []) s.clauses;
  each = (spelled_clause v ls h, s.each);
  words =
      ap (λ (w : List ℕ). map literal_word ls ++ (w ∷ words_of ts)) e
      ∙ ap (λ (ws : List (List ℕ)). map literal_word ls ++ (zero_word ∷ ws)) s.words
      ∙ sym (append_assoc (map literal_word ls) (zero_word ∷ []) (flat_map clause_words s.spelled));
}

-- what is spelled behind a literal is spelled from it on
spells_literal : (v : ℕ) (t : Token) (ts : List Token) (fs : List Lits) (ls : Lits) (l : Literal) (gs : List Lits) → t.bytes ≡ literal_word l
    → Spells v ts fs (ls ++ l ∷ []) gs → Spells v (t ∷ ts) fs ls gs
spells_literal v t ts fs ls l gs e s = record {
  clauses = s.clauses;
  spelled = s.spelled;
  same = s.same;
  each = s.each;
  words =
      ap (λ (w : List ℕ). map literal_word ls ++ (w ∷ words_of ts)) e
      ∙ sym (append_assoc (map literal_word ls) (literal_word l ∷ []) (words_of ts))
      ∙ ap (λ (ws : List (List ℕ)). ws ++ words_of ts) (sym (map-append literal_word ls (l ∷ [])))
      ∙ s.words;
}

-- what is read is spelled
pub spells_from : (v end : ℕ) (ts : List Token) (fs : List Lits) (ls : Lits) (gs : List Lits) → GoodLits v ls
    → clauses_from v end ts fs ls ≡ Ok gs → Spells v ts fs ls gs
spells_from v end [] fs [] gs h e =
    let same : fs ≡ gs = cc in
    record { clauses = []; spelled = []; same = sym same ∙ sym (append-nil fs); each = tt; words = refl }
spells_from v end [] fs (l ∷ ls) gs h e = absurd (cc)
spells_from v end (t ∷ ts) fs ls gs h e = elim (kind v t.bytes) [
  | inl right ↦ elim right as (λ r. Spells v (t ∷ ts) fs ls gs) [
    | inl z ↦
        spells_zero v t ts fs ls gs h z
        (spells_from v end ts (fs ++ clause_of ls ∷ []) [] gs (λ l none. absurd none) (sym (step_zero v end t ts fs ls z) ∙ e))
    | inr k ↦
        spells_literal v t ts fs ls k.0 gs k.1.1
        (spells_from v end ts fs (ls ++ k.0 ∷ []) gs (good_snoc v ls k.0 h k.1.0 k.2) (sym (step_literal v end t ts fs ls k.0 k.1 k.2) ∙ e))
  ]
  | inr wrong ↦ elim wrong [
    | inl out ↦ absurd (let stops = step_out v end t ts fs ls out.0 out.1 out.2 in cc)
    | inr bad ↦ absurd (let stops = step_bad v end t ts fs ls bad in cc)
  ]
]

-- ---- to what is read

-- the words of literals and 0 are read as one clause
reads_clause : (v end : ℕ) (ls : Lits) (ts : List Token) (fs : List Lits) (ms : Lits) (more : List (List ℕ)) → GoodLits v ls
    → words_of ts ≡ map literal_word ls ++ (zero_word ∷ more)
    → (rest : List Token) × (words_of rest ≡ more) × (clauses_from v end ts fs ms ≡ clauses_from v end rest (fs ++ clause_of (ms ++ ls) ∷ []) [])
reads_clause v end [] [] fs ms more h e = absurd (cc)
reads_clause v end [] (t ∷ ts) fs ms more h e =
    let word : t.bytes ≡ zero_word = cc in
    let rest : words_of ts ≡ more = cc in
    (ts, rest, step_zero v end t ts fs ms word ∙ ap (λ (ns : Lits). clauses_from v end ts (fs ++ clause_of ns ∷ []) []) (sym (append-nil ms)))
reads_clause v end (l ∷ ls) [] fs ms more h e = absurd (cc)
reads_clause v end (l ∷ ls) (t ∷ ts) fs ms more h e =
    let word : t.bytes ≡ literal_word l = cc in
    let rest : words_of ts ≡ map literal_word ls ++ (zero_word ∷ more) = cc in
    let first = h l (inl refl) in
    let r = reads_clause v end ls ts fs (ms ++ l ∷ []) more (λ m k. h m (inr k)) rest in (
      r.0,
      r.1,
      step_literal v end t ts fs ms l (first.0, word) first.1 ∙ r.2
          ∙ ap (λ (ns : Lits). clauses_from v end r.0 (fs ++ clause_of ns ∷ []) []) (append_assoc ms (l ∷ []) ls),
    )

-- literals that spell a clause are over the variables
good_spelled : (v : ℕ) (ls c : Lits) → IsSpelled v ls c → GoodLits v ls
good_spelled v ls c s l k = let there = (s.lits l).0 k in (s.clause.literals l there, s.within l there)

-- the clause that literals spell is the one that is made of them
same_clause : (v : ℕ) (ls c : Lits) → IsSpelled v ls c → c ≡ clause_of ls
same_clause v ls c s = clause_of-ordered c ls s.clause.ordered (same_sym ls c s.lits)

-- what is spelled is read
pub reads_clauses : (v end : ℕ) (spelled cs : List Lits) (ts : List Token) (fs : List Lits) → AreSpelled v spelled cs
    → words_of ts ≡ flat_map clause_words spelled → clauses_from v end ts fs [] ≡ Ok (fs ++ cs)
reads_clauses v end [] [] [] fs h e = ap Ok (sym (append-nil fs))
reads_clauses v end [] [] (t ∷ ts) fs h e = absurd (cc)
reads_clauses v end [] (c ∷ cs) ts fs h e = absurd h
reads_clauses v end (ls ∷ spelled) [] ts fs h e = absurd h
reads_clauses v end (ls ∷ spelled) (c ∷ cs) ts fs h e =
    let words : words_of ts ≡ map literal_word ls ++ (zero_word ∷ flat_map clause_words spelled) =
    e ∙ append_assoc (map literal_word ls) (zero_word ∷ []) (flat_map clause_words spelled) in
    let r = reads_clause v end ls ts fs [] (flat_map clause_words spelled) (good_spelled v ls c h.0) words in
    r.2 ∙ reads_clauses v end spelled cs r.0 (fs ++ clause_of ls ∷ []) h.1 r.1
    ∙ ap Ok (append_assoc fs (clause_of ls ∷ []) cs)
    ∙ ap (λ (d : Lits). Ok (fs ++ (d ∷ cs))) (sym (same_clause v ls c h.0))
