-- What is read of a text is the trace that the text spells, or the fault that it has.
use Rattle.std.proofs.Common.{◌≡◌, ℕ, inl, inr, nat_lt, List, [], ◌∷◌, ◌++◌, length, map, Option, Some, None, option_map, Result, Ok, Err, refl, sym, ap, subst, ◌∙◌, arith}
use Rattle.std.proofs.lemmas.Bool.{ltb-true, ltb-false}
use Rattle.std.proofs.lemmas.List.{append-nil, append_assoc, map-append}
use Rattle.std.specs.List.{flat_map}
use Rattle.clause_defs.specs.Literals.{Literal, IsLiteral}
use Rattle.clause_defs.specs.Clauses.{Lits, Has, IsClause, clause_of}
use Rattle.clause_defs.specs.Traces.{Entry, IsTrace, literals_in, index_at}
use Rattle.clause_defs.specs.Compaction.{AllStated}
use Rattle.clause_laws.proofs.ClauseLemmas.{same_sym}
use Rattle.clause_laws.proofs.ClauseOf.{IsOrdered-clause_of, SameSet-clause_of}
use Rattle.clause_laws.proofs.TraceLemmas.{CanFollow, IsTrace-push, IsTrace-empty, indices-before}
use Rattle.text_defs.specs.Steps.{◌>>=◌}
use Rattle.text_defs.specs.Tokens.{Token}
use Rattle.text_defs.proofs.StepLemmas.{unless_ok, unless_err}
use Rattle.sat_text_defs.specs.declared.limits.TheConstants.{MAX_TRACE_BYTES}
use Rattle.sat_text_defs.specs.declared.errors.TraceError.{TraceError}
use Rattle.sat_text_defs.specs.declared.errors.TraceError.TheVariants.{TooLong, Syntax}
use Rattle.sat_text_defs.specs.Words.{words_of, bytes_of}
use Rattle.sat_text_defs.specs.TraceText.{Spelled, clause_words, SameStated, IsSpelled, AreSpelled, SpellsTrace, TraceText, tokens_of, index, role_behind, role_after, CanStandAs, CanStand, EachCanStand, StandsBefore, FirstBad, EndsInside, IsSpelledClause, FirstJudged, FaultOf, TraceTextFault}
use Rattle.sat_text_defs.specs.TraceReading.{Part, start, behind_index, among_lits, behind_sign, among_antecedents, Next, goes_on, is_whole, step, entry_of, judged, trace_from, trace_in}
use Rattle.sat_text_defs.proofs.TokenByToken.{trace_from-goes_on, trace_from-whole, trace_from-fault}
use Rattle.trace_text_laws.proofs.Judgement.{IsPlaced, judged-ok, IsJudged, judged-err}
use Rattle.trace_text_laws.proofs.SpelledTraces.{AreSpelled-before, AreSpelled-snoc, EachWithin-own, AllStated-snoc}
use Rattle.trace_text_laws.proofs.WordLists.{words_of-snoc, one_more, flat_map-snoc, EachCanStand-snoc, EachCanStand-empty}
use Rattle.trace_text_laws.proofs.TokenSteps.{StepsTo, step-ok, step-err, step-cannot, role_of, steps-stand}
use Rattle.trace_text_laws.proofs.OpenClauses.{open_words, IsPart, Extends, Closes, steps-do, role_behind-snoc, IsOpen, IsOpen-empty, IsOpen-snoc}

-- ---- what was read so far

-- these tokens can all stand, and they are the clauses of t and this part of the next one
pub record Stands (v : ℕ) (before : List Token) (t : List Entry) (p : Part) : Type 0 where
  pub trace : IsTrace t
  pub signs : v ≡ 1 → AllStated t
  pub part : IsPart v p
  pub spelled : List Spelled
  pub same_clauses : AreSpelled t spelled t
  pub parts : words_of before ≡ flat_map clause_words spelled ++ open_words p
  pub opened : IsOpen (open_words p) (role_of p)
  pub role : role_behind index (words_of before) ≡ role_of p
  pub each : EachCanStand v before

-- nothing was read
pub nothing_stands : (v : ℕ) → Stands v [] [] start
nothing_stands v = record {
  trace = IsTrace-empty;
  signs = λ one k lt. absurd (omega arith);
  part = tt;
  spelled = [];
  same_clauses = tt;
  parts = refl;
  opened = IsOpen-empty;
  role = refl;
  each = EachCanStand-empty v;
}

-- a word that can have the next role can stand there
pub can_stand : (v : ℕ) (before : List Token) (t : List Entry) (p : Part) (w : List ℕ) → Stands v before t p → CanStandAs v (role_of p) w → CanStand v (words_of before) w
can_stand v before t p w h k = subst (λ r. CanStandAs v r w) (sym h.role) k

-- a word that can stand there can have the next role
pub stand_can : (v : ℕ) (before : List Token) (t : List Entry) (p : Part) (w : List ℕ) → Stands v before t p → CanStand v (words_of before) w → CanStandAs v (role_of p) w
stand_can v before t p w h k = subst (λ r. CanStandAs v r w) h.role k

-- ---- one token more

-- the words up to behind a token are those of the whole clauses, those of the open one and the token's
words_more : (v : ℕ) (before : List Token) (w : Token) (t : List Entry) (p : Part) → (h : Stands v before t p)
    → words_of (before ++ w ∷ []) ≡ flat_map clause_words h.spelled ++ (open_words p ++ w.bytes ∷ [])
words_more v before w t p h =
    words_of-snoc before w
    ∙ ap (λ (ws : List (List ℕ)). ws ++ w.bytes ∷ []) h.parts
    ∙ append_assoc (flat_map clause_words h.spelled) (open_words p) (w.bytes ∷ [])

-- the role of the word behind a token follows from the token and the open clause
role_more : (v : ℕ) (before : List Token) (w : Token) (t : List Entry) (p : Part) → Stands v before t p
    → role_behind index (words_of (before ++ w ∷ [])) ≡ role_after (role_of p) w.bytes
role_more v before w t p h =
    ap (role_behind index) (words_of-snoc before w)
    ∙ role_behind-snoc index (words_of before) w.bytes
    ∙ ap (λ r. role_after r w.bytes) h.role

-- tokens that can stand with one that leads on are tokens that can stand
each_more : (v : ℕ) (before : List Token) (w : Token) (t : List Entry) (p : Part) (n : Next) → Stands v before t p → StepsTo v p w.bytes n → EachCanStand v (before ++ w ∷ [])
each_more v before w t p n h k = EachCanStand-snoc v before w h.each (can_stand v before t p w.bytes h (steps-stand v p w.bytes n k))

-- the clause goes on
pub stands-goes_on : (v : ℕ) (before : List Token) (w : Token) (t : List Entry) (p q : Part) → Stands v before t p → step v p w ≡ Ok (goes_on q)
    → Stands v (before ++ w ∷ []) t q
stands-goes_on v before w t p q h e =
    let steps = step-ok v p w (goes_on q) e in
    let more : Extends v p w.bytes q = steps-do v p w.bytes (goes_on q) steps in
    record {
      trace = h.trace;
      signs = h.signs;
      part = more.part h.part;
      spelled = h.spelled;
      same_clauses = h.same_clauses;
      parts = words_more v before w t p h ∙ ap (λ (ws : List (List ℕ)). flat_map clause_words h.spelled ++ ws) (sym more.words);
      opened = subst (λ (ws : List (List ℕ)). IsOpen ws (role_of q)) (sym more.words)
          (IsOpen-snoc (open_words p) w.bytes (role_of p) (role_of q) h.opened more.role more.inside);
      role = role_more v before w t p h ∙ more.role;
      each = each_more v before w t p (goes_on q) h steps;
    }

-- literals as they are spelled are the same set as their clause
same_stated : (o : Option Lits) → SameStated o (option_map clause_of o)
same_stated None = tt
same_stated (Some ls) = same_sym (clause_of ls) ls (SameSet-clause_of ls)

-- literals within the limits have a clause
clause_stated : (o : Option Lits) → ((l : Literal) → Has (literals_in o) l → IsLiteral l) → IsClause (literals_in (option_map clause_of o))
clause_stated None h = record { literals = λ l k. absurd k; ordered = tt }
clause_stated (Some ls) h = record { literals = λ l k. h l ((SameSet-clause_of ls l).0 k); ordered = IsOrdered-clause_of ls }

-- where the clause has no stated literals, none are spelled
none_stated : (o : Option Lits) → option_map clause_of o ≡ None → o ≡ None
none_stated None e = refl
none_stated (Some ls) e = absurd (cc)

-- where the mapped list is empty, so is the list
same_number : (xs ys : List ℕ) (f : ℕ → ℕ) → map f xs ≡ ys → xs ≡ [] → ys ≡ []
same_number xs ys f e h = sym e ∙ ap (map f) h

-- a right clause, with the places of its antecedents, can follow the trace
follows : (v : ℕ) (t u : List Entry) (s : Spelled) → IsSpelledClause v s → (new : IsPlaced t s u) → CanFollow t (entry_of s new.places)
follows v t u s h new = record {
  low = h.low;
  high = h.high;
  other = new.other;
  clause = clause_stated s.stated h.lits;
  derived = λ e none. (h.sign (none_stated s.stated e)).1 (same_number new.places s.antecedents (index_at t) new.antecedents none);
  earlier = new.within;
}

-- the clause that was appended is spelled as it was read
spelled_last : (t u : List Entry) (s : Spelled) → (new : IsPlaced t s u) → IsSpelled (t ++ entry_of s new.places ∷ []) s (entry_of s new.places)
spelled_last t u s new = record {
  index = refl;
  stated = same_stated s.stated;
  antecedents = sym new.antecedents ∙ indices-before t (entry_of s new.places) new.places new.within;
}

-- in version 1 each clause is still stated with a right one appended
still_stated : (v : ℕ) (t u : List Entry) (s : Spelled) → (v ≡ 1 → AllStated t) → IsSpelledClause v s → (new : IsPlaced t s u) → v ≡ 1 → AllStated (t ++ entry_of s new.places ∷ [])
still_stated v t u s h clause new one =
    AllStated-snoc t (entry_of s new.places) (h one) (λ e. (clause.sign (none_stated s.stated e)).0 one)

-- the clause is whole, and judged right
pub stands-whole : (v : ℕ) (before : List Token) (w : Token) (t u : List Entry) (p : Part) (s : Spelled) → Stands v before t p → step v p w ≡ Ok (is_whole s)
    → judged t s ≡ Ok u → Stands v (before ++ w ∷ []) u start
stands-whole v before w t u p s h e right =
    let steps = step-ok v p w (is_whole s) e in
    let more : Closes v p w.bytes s = steps-do v p w.bytes (is_whole s) steps in
    let clause = more.clause h.part in
    let new = judged-ok t s u right in
    let one : Entry = entry_of s new.places in
    subst (λ (x : List Entry). Stands v (before ++ w ∷ []) x start) (sym new.one_more) (record {
      trace = IsTrace-push t one h.trace (follows v t u s clause new);
      signs = still_stated v t u s h.signs clause new;
      part = tt;
      spelled = h.spelled ++ s ∷ [];
      same_clauses = AreSpelled-snoc (t ++ one ∷ []) s one h.spelled t
          (AreSpelled-before t one h.spelled t (EachWithin-own t h.trace) h.same_clauses) (spelled_last t u s new);
      parts = words_more v before w t p h
          ∙ ap (λ (ws : List (List ℕ)). flat_map clause_words h.spelled ++ ws) (sym more.words)
          ∙ sym (flat_map-snoc clause_words h.spelled s)
          ∙ sym (append-nil (flat_map clause_words (h.spelled ++ s ∷ [])));
      opened = IsOpen-empty;
      role = role_more v before w t p h ∙ more.role;
      each = each_more v before w t p (is_whole s) h steps;
    })

-- ---- faults

-- the words of the whole clauses are those of the trace that was read
spells_whole : (v : ℕ) (before : List Token) (t : List Entry) (p : Part) → (h : Stands v before t p) → SpellsTrace v (flat_map clause_words h.spelled) t
spells_whole v before t p h = record {
  trace = h.trace;
  signs = h.signs;
  spelled = h.spelled;
  same_clauses = h.same_clauses;
  same_words = refl;
}

-- what was read are the words of the trace, and then those of no whole clause
stands_before : (v : ℕ) (before : List Token) (t : List Entry) (p : Part) → Stands v before t p → StandsBefore v t (words_of before)
stands_before v before t p h = record {
  whole = flat_map clause_words h.spelled;
  open_clause = open_words p;
  spells = spells_whole v before t p h;
  parts = h.parts;
  none_whole = h.opened.inside;
}

-- a token that can't stand in the open clause is the first bad one
cannot_stand : (v : ℕ) (all before ts : List Token) (w : Token) (t : List Entry) (p : Part) → all ≡ before ++ (w ∷ ts) → Stands v before t p
    → (CanStandAs v (role_of p) w.bytes → ⊥) → FirstBad v all w
cannot_stand v all before ts w t p e h bad = record {
  before = before;
  after = ts;
  parts = e;
  each_before = h.each;
  cannot = λ k. bad (stand_can v before t p w.bytes h k);
  trace = t;
  right = stands_before v before t p h;
}

-- an end within the open clause is an end inside a clause
ends_inside : (v : ℕ) (before : List Token) (t : List Entry) (p : Part) → Stands v before t p → (role_of p ≡ index → ⊥) → EndsInside v before
ends_inside v before t p h inside = record {
  each = h.each;
  not_whole = λ whole. inside (sym h.role ∙ whole);
  trace = t;
  right = stands_before v before t p h;
}

-- a clause that is whole with the next token is the first one that may be judged faulty
pub first_judged : (v : ℕ) (all before ts : List Token) (w : Token) (t : List Entry) (p : Part) (s : Spelled) → all ≡ before ++ (w ∷ ts) → Stands v before t p
    → step v p w ≡ Ok (is_whole s) → FirstJudged v (words_of all) t s
first_judged v all before ts w t p s e h k =
    let more : Closes v p w.bytes s = steps-do v p w.bytes (is_whole s) (step-ok v p w (is_whole s) k) in
    record {
      whole = flat_map clause_words h.spelled;
      after = words_of ts;
      spells = spells_whole v before t p h;
      clause = more.clause h.part;
      parts = ap words_of (one_more all before ts w e)
          ∙ map-append bytes_of (before ++ w ∷ []) ts
          ∙ ap (λ (ws : List (List ℕ)). ws ++ words_of ts) (words_more v before w t p h)
          ∙ append_assoc (flat_map clause_words h.spelled) (open_words p ++ w.bytes ∷ []) (words_of ts)
          ∙ ap (λ (ws : List (List ℕ)). flat_map clause_words h.spelled ++ (ws ++ words_of ts)) (sym more.words);
    }

-- the fault of the clause that is judged first is the fault of the text
judged_fault : (v end : ℕ) (all : List Token) (t : List Entry) (s : Spelled) (f : TraceError) → FirstJudged v (words_of all) t s → IsJudged t s f → FaultOf v end all f
judged_fault v end all t s f h (inl twice) = subst (FaultOf v end all) (sym twice.1) (t, s, h, twice.0, refl)
judged_fault v end all t s f h (inr lost) = subst (FaultOf v end all) (sym lost.3) (t, s, h, lost.1, refl, lost.2)

-- ---- all tokens

-- the value or the fault is that of the tokens
abbrev pub Means : ℕ → ℕ → List Token → Result (List Entry) TraceError → Type 0
Means v end all (Ok u) = SpellsTrace v (words_of all) u
Means v end all (Err f) = FaultOf v end all f

-- where no clause is open, the words are those of the trace
all_read : (v : ℕ) (before : List Token) (t : List Entry) → Stands v before t start → SpellsTrace v (words_of before) t
all_read v before t h = record {
  trace = h.trace;
  signs = h.signs;
  spelled = h.spelled;
  same_clauses = h.same_clauses;
  same_words = h.parts ∙ append-nil (flat_map clause_words h.spelled);
}

-- an end within the open clause is the fault of the text
bad_end : (v end : ℕ) (before : List Token) (t : List Entry) (p : Part) → Stands v before t p → (role_of p ≡ index → ⊥) → FaultOf v end before (Syntax end)
bad_end v end before t p h inside = inr (ends_inside v before t p h inside, refl)

-- at the end of the tokens what was read is the trace, or an end inside a clause
at_end : (v end : ℕ) (before : List Token) (t : List Entry) (p : Part) → Stands v before t p → Means v end before (trace_from v end [] t p)
at_end v end before t start h = all_read v before t h
at_end v end before t (behind_index i) h = bad_end v end before t (behind_index i) h (λ e. cc)
at_end v end before t (among_lits i ls) h = bad_end v end before t (among_lits i ls) h (λ e. cc)
at_end v end before t (behind_sign i) h = bad_end v end before t (behind_sign i) h (λ e. cc)
at_end v end before t (among_antecedents i stated xs) h = bad_end v end before t (among_antecedents i stated xs) h (λ e. cc)

-- what goes on from here means what all tokens do
abbrev GoesOn : ℕ → ℕ → List Token → List Token → List Token → Type 0
GoesOn v end all before ts = (u : List Entry) (q : Part) → Stands v before u q → Means v end all (trace_from v end ts u q)

-- a token that ends a clause gives the fault of its judgement, or what the later tokens mean
judged_next : (v end : ℕ) (all before ts : List Token) (w : Token) (t : List Entry) (p : Part) (s : Spelled) (r : Result (List Entry) TraceError)
    → all ≡ before ++ (w ∷ ts) → Stands v before t p → step v p w ≡ Ok (is_whole s) → judged t s ≡ r → GoesOn v end all (before ++ w ∷ []) ts
    → Means v end all (trace_from v end (w ∷ ts) t p)
judged_next v end all before ts w t p s (Ok u) e h k right rest =
    let same : trace_from v end (w ∷ ts) t p ≡ trace_from v end ts u start =
    trace_from-whole v end w ts t p s k ∙ ap (λ (r : Result (List Entry) TraceError). r >>= λ x. trace_from v end ts x start) right in
    subst (Means v end all) (sym same) (rest u start (stands-whole v before w t u p s h k right))
judged_next v end all before ts w t p s (Err f) e h k wrong rest =
    let same : trace_from v end (w ∷ ts) t p ≡ Err f =
    trace_from-whole v end w ts t p s k ∙ ap (λ (r : Result (List Entry) TraceError). r >>= λ x. trace_from v end ts x start) wrong in
    subst (Means v end all) (sym same) (judged_fault v end all t s f (first_judged v all before ts w t p s e h k) (judged-err t s f wrong))

-- a token gives its fault, or what the later tokens mean
next : (v end : ℕ) (all before ts : List Token) (w : Token) (t : List Entry) (p : Part) (r : Result Next TraceError)
    → all ≡ before ++ (w ∷ ts) → Stands v before t p → step v p w ≡ r → GoesOn v end all (before ++ w ∷ []) ts
    → Means v end all (trace_from v end (w ∷ ts) t p)
next v end all before ts w t p (Ok (goes_on q)) e h k rest =
    subst (Means v end all) (sym (trace_from-goes_on v end w ts t p q k)) (rest t q (stands-goes_on v before w t p q h k))
next v end all before ts w t p (Ok (is_whole s)) e h k rest = judged_next v end all before ts w t p s (judged t s) e h k refl rest
next v end all before ts w t p (Err f) e h k rest =
    let same : trace_from v end (w ∷ ts) t p ≡ Err (Syntax w.at) = trace_from-fault v end w ts t p f k ∙ ap Err (step-err v p w f k) in
    subst (Means v end all) (sym same) (inl (w, cannot_stand v all before ts w t p e h (step-cannot v p w f k), refl))

-- what is read of the tokens from here on is the trace or the fault of the whole text
from_here : (v end : ℕ) (all before ts : List Token) (t : List Entry) (p : Part) → all ≡ before ++ ts → Stands v before t p
    → Means v end all (trace_from v end ts t p)
from_here v end all before [] t p e h =
    subst (λ (ts : List Token). Means v end ts (trace_from v end [] t p)) (sym (e ∙ append-nil before)) (at_end v end before t p h)
from_here v end all before (w ∷ ts) t p e h =
    next v end all before ts w t p (step v p w) e h refl
    (λ u q k. from_here v end all (before ++ w ∷ []) ts u q (one_more all before ts w e) k)

-- the tokens mean what is read of them
pub read-means : (v end : ℕ) (ts : List Token) → Means v end ts (trace_from v end ts [] start)
read-means v end ts = from_here v end ts [] ts [] start refl (nothing_stands v)

-- ---- the whole text

-- a trace that is computed of a text is the one whose text it is
pub trace_in-text : (text : List ℕ) (v : ℕ) (t : List Entry) → trace_in v text ≡ Ok t → TraceText text v t
trace_in-text text v t e =
    let g = unless_ok (nat_lt MAX_TRACE_BYTES (length text)) TooLong (trace_from v (length text) (tokens_of text) [] start) t e in (
      ltb-false MAX_TRACE_BYTES (length text) g.0,
      subst (Means v (length text) (tokens_of text)) g.1 (read-means v (length text) (tokens_of text)),
    )

-- a fault that is computed of a text is the one that the text has
pub trace_in-fault : (text : List ℕ) (v : ℕ) (f : TraceError) → trace_in v text ≡ Err f → TraceTextFault text v f
trace_in-fault text v f e = elim (unless_err (nat_lt MAX_TRACE_BYTES (length text)) TooLong (trace_from v (length text) (tokens_of text) [] start) f e) [
  | inl long ↦ inl (ltb-true MAX_TRACE_BYTES (length text) long.0, sym long.1)
  | inr read ↦ inr (
    ltb-false MAX_TRACE_BYTES (length text) read.0,
    subst (Means v (length text) (tokens_of text)) read.1 (read-means v (length text) (tokens_of text)),
  )
]
