-- The fault that a text has is computed of it.
use Rattle.std.proofs.Common.{◌≡◌, ◌≢◌, ℕ, ◌<◌, ◌⊎◌, inl, inr, List, [], ◌∷◌, ◌++◌, length, Result, Ok, Err, refl, sym, ap, subst, ◌∙◌}
use Rattle.std.proofs.lemmas.Bool.{lt-ltb}
use Rattle.std.proofs.lemmas.List.{append-nil, map-append}
use Rattle.clause_defs.specs.Traces.{Entry}
use Rattle.text_defs.specs.Steps.{◌>>=◌}
use Rattle.text_defs.specs.Tokens.{Token}
use Rattle.text_defs.proofs.StepLemmas.{cases_Result}
use Rattle.sat_text_defs.specs.declared.limits.TheConstants.{MAX_TRACE_BYTES}
use Rattle.sat_text_defs.specs.declared.errors.TraceError.{TraceError}
use Rattle.sat_text_defs.specs.declared.errors.TraceError.TheVariants.{TooLong, Syntax, Repeated, Unknown, NoMemory}
use Rattle.sat_text_defs.specs.Words.{words_of, bytes_of}
use Rattle.sat_text_defs.specs.TraceText.{Spelled, clause_words, tokens_of, Role, index, role_after, role_behind, EachCanStand, AreWhole, StandsBefore, FirstBad, EndsInside, FirstJudged, FaultOf, TraceTextFault}
use Rattle.sat_text_defs.specs.TraceReading.{Part, start, behind_index, among_lits, behind_sign, among_antecedents, Next, goes_on, is_whole, step, judged, trace_from, trace_in}
use Rattle.sat_text_defs.proofs.TokenByToken.{trace_from-goes_on, trace_from-whole, trace_from-fault}
use Rattle.trace_text_laws.proofs.Judgement.{IsJudged, judged-err, judged-repeated, judged-unknown}
use Rattle.trace_text_laws.proofs.WordLists.{one_more}
use Rattle.trace_text_laws.proofs.TokenSteps.{step-ok, step-from, step-err, stand-steps, cannot-step, role_of}
use Rattle.trace_text_laws.proofs.OpenClauses.{Extends, Closes, steps-do}
use Rattle.trace_text_laws.proofs.TracesRead.{Stands, nothing_stands, can_stand, stand_can, stands-goes_on, stands-whole, first_judged}
use Rattle.trace_text_laws.proofs.TracesWritten.{spelled_read, read_clause, not_long}

-- ---- tokens that can all stand are read, up to a clause that is judged faulty

-- some clause of the tokens is judged faulty
abbrev JudgedInside : ℕ → List Token → Type 0
JudgedInside v all = (t : List Entry) × (s : Spelled) × (f : TraceError) × FirstJudged v (words_of all) t s × (judged t s ≡ Err f)

-- the tokens xs before the others are read from here on, or a clause is judged faulty
abbrev GoesThrough : ℕ → ℕ → List Token → List Token → List Token → List Entry → Part → Type 0
GoesThrough v end all xs rest t p =
    ((u : List Entry) × (q : Part) × Stands v all u q × (trace_from v end (xs ++ rest) t p ≡ trace_from v end rest u q)) ⊎ JudgedInside v all

-- what a token leads to is read on as from behind the token
step_before : (v end : ℕ) (all xs ys rest : List Token) (t u : List Entry) (p q : Part) → trace_from v end (xs ++ rest) t p ≡ trace_from v end (ys ++ rest) u q
    → GoesThrough v end all ys rest u q → GoesThrough v end all xs rest t p
step_before v end all xs ys rest t u p q e (inl h) = inl (h.0, h.1, h.2, e ∙ h.3)
step_before v end all xs ys rest t u p q e (inr h) = inr h

-- what is gone through from here on
abbrev Through : ℕ → ℕ → List Token → List Token → List Token → List Token → Type 0
Through v end all before xs rest = (u : List Entry) (q : Part) → Stands v before u q → GoesThrough v end all xs rest u q

-- a token that ends a right clause leads to the start of the next one
through_whole : (v end : ℕ) (all before xs rest : List Token) (w : Token) (t : List Entry) (p : Part) (s : Spelled) → all ≡ before ++ (w ∷ xs) → Stands v before t p
    → step v p w ≡ Ok (is_whole s) → Through v end all (before ++ w ∷ []) xs rest → GoesThrough v end all (w ∷ xs) rest t p
through_whole v end all before xs rest w t p s e h k more = elim (cases_Result (judged t s)) [
  | inl right ↦
      step_before v end all (w ∷ xs) xs rest t right.0 p start
      (trace_from-whole v end w (xs ++ rest) t p s k ∙ ap (λ (r : Result (List Entry) TraceError). r >>= λ u. trace_from v end (xs ++ rest) u start) right.1)
      (more right.0 start (stands-whole v before w t right.0 p s h k right.1))
  | inr wrong ↦ inr (t, s, wrong.0, first_judged v all before xs w t p s e h k, wrong.1)
]

-- a token with which a clause goes on leads further into the clause
through_next : (v end : ℕ) (all before xs rest : List Token) (w : Token) (t : List Entry) (p : Part) (n : Next) → all ≡ before ++ (w ∷ xs) → Stands v before t p
    → step v p w ≡ Ok n → Through v end all (before ++ w ∷ []) xs rest → GoesThrough v end all (w ∷ xs) rest t p
through_next v end all before xs rest w t p (goes_on q) e h k more =
    step_before v end all (w ∷ xs) xs rest t t p q (trace_from-goes_on v end w (xs ++ rest) t p q k) (more t q (stands-goes_on v before w t p q h k))
through_next v end all before xs rest w t p (is_whole s) e h k more = through_whole v end all before xs rest w t p s e h k more

-- tokens that can stand are read up to where a clause is judged, or to their end
go_through : (v end : ℕ) (all before xs rest : List Token) (t : List Entry) (p : Part) → all ≡ before ++ xs → EachCanStand v all → Stands v before t p
    → GoesThrough v end all xs rest t p
go_through v end all before [] rest t p e each h = inl (t, p, subst (λ (ts : List Token). Stands v ts t p) (sym (e ∙ append-nil before)) h, refl)
go_through v end all before (w ∷ xs) rest t p e each h =
    let found = stand-steps v p w.bytes (stand_can v before t p w.bytes h (each before w xs e)) in
    through_next v end all before xs rest w t p found.0 e h (step-from v p w found.0 found.1)
    (λ u q k. go_through v end all (before ++ w ∷ []) xs rest u q (one_more all before xs w e) each k)

-- ---- a clause is judged only when it is whole

-- the fault is a token that can't stand, or an end inside a clause
abbrev IsSyntax : TraceError → Type 0
IsSyntax f = (at : ℕ) × (f ≡ Syntax at)

-- a part of the tokens, which isn't empty, ends a whole clause
abbrev HasWhole : Role → List Token → Type 0
HasWhole r us = (front : List Token) × (back : List Token) × (us ≡ front ++ back) × (words_of front ≢ []) × (role_behind r (words_of front) ≡ index)

-- the words of a token and more aren't none
some_words : (w : Token) (us : List Token) → words_of (w ∷ us) ≢ []
some_words w us e = cc

-- a whole clause behind a token is one behind it too with the token counted in
put_before : (f : TraceError) (r q : Role) (w : Token) (us : List Token) → role_after r w.bytes ≡ q → IsSyntax f ⊎ HasWhole q us → IsSyntax f ⊎ HasWhole r (w ∷ us)
put_before f r q w us e (inl h) = inl h
put_before f r q w us e (inr h) = inr (
  w ∷ h.0,
  h.1,
  ap (λ (ts : List Token). w ∷ ts) h.2,
  some_words w h.0,
  ap (λ (x : Role). role_behind x (words_of h.0)) e ∙ h.4,
)

-- where a token ends a clause, the tokens from it on have a whole one
whole_here : (r : Role) (w : Token) (us : List Token) → role_after r w.bytes ≡ index → HasWhole r (w ∷ us)
whole_here r w us e = (w ∷ [], us, refl, some_words w [], e)

-- a fault from here on is one of syntax, or a whole clause stands before it
abbrev AtWhole : ℕ → ℕ → List Token → TraceError → Type 0
AtWhole v end us f = (t : List Entry) (p : Part) → trace_from v end us t p ≡ Err f → IsSyntax f ⊎ HasWhole (role_of p) us

-- a fault behind one more token is of syntax, or a whole clause stands before it
next_whole : (v end : ℕ) (w : Token) (us : List Token) (t : List Entry) (p : Part) (f : TraceError) (r : Result Next TraceError) → step v p w ≡ r
    → trace_from v end (w ∷ us) t p ≡ Err f → AtWhole v end us f → IsSyntax f ⊎ HasWhole (role_of p) (w ∷ us)
next_whole v end w us t p f (Ok (goes_on q)) k h rest =
    let does : Extends v p w.bytes q = steps-do v p w.bytes (goes_on q) (step-ok v p w (goes_on q) k) in
    put_before f (role_of p) (role_of q) w us does.role (rest t q (sym (trace_from-goes_on v end w us t p q k) ∙ h))
next_whole v end w us t p f (Ok (is_whole s)) k h rest =
    let does : Closes v p w.bytes s = steps-do v p w.bytes (is_whole s) (step-ok v p w (is_whole s) k) in
    inr (whole_here (role_of p) w us does.role)
next_whole v end w us t p f (Err d) k h rest =
    let same : trace_from v end (w ∷ us) t p ≡ Err d = trace_from-fault v end w us t p d k in
    let one : f ≡ d = cc in
    inl (w.at, one ∙ step-err v p w d k)

-- a fault behind a clause that was judged has a whole clause before it, or is of syntax
judged_whole : (v end : ℕ) (us : List Token) (f : TraceError) → AtWhole v end us f
judged_whole v end [] f t start r = absurd (cc)
judged_whole v end [] f t (behind_index i) r = inl (end, (let same : f ≡ Syntax end = cc in same))
judged_whole v end [] f t (among_lits i ls) r = inl (end, (let same : f ≡ Syntax end = cc in same))
judged_whole v end [] f t (behind_sign i) r = inl (end, (let same : f ≡ Syntax end = cc in same))
judged_whole v end [] f t (among_antecedents i stated xs) r = inl (end, (let same : f ≡ Syntax end = cc in same))
judged_whole v end (w ∷ us) f t p r = next_whole v end w us t p f (step v p w) refl r (judged_whole v end us f)

-- tokens with a clause that is judged faulty are read as that fault
judged_read : (v end : ℕ) (all : List Token) (t : List Entry) (s : Spelled) (f : TraceError) → FirstJudged v (words_of all) t s → judged t s ≡ Err f
    → trace_from v end all [] start ≡ Err f
judged_read v end all t s f h e =
    let whole = spelled_read v end t all h.whole (clause_words s ++ h.after) h.spells h.parts in
    let one = read_clause v end whole.0 t s h.after h.clause whole.1 in
    whole.2 ∙ one.2 ∙ ap (λ (r : Result (List Entry) TraceError). r >>= λ u. trace_from v end one.0 u start) e

-- a fault of the judgement is none of syntax
not_syntax : (t : List Entry) (s : Spelled) (f : TraceError) → IsJudged t s f → IsSyntax f → ⊥
not_syntax t s f (inl twice) h = let clash : Repeated s.index ≡ Syntax h.0 = sym twice.1 ∙ h.1 in absurd (cc)
not_syntax t s f (inr lost) h = let clash : Unknown s.index lost.0 ≡ Syntax h.0 = sym lost.3 ∙ h.1 in absurd (cc)

-- where all whole clauses are right, none is judged faulty
none_judged : (v : ℕ) (all : List Token) (t : List Entry) → StandsBefore v t (words_of all) → JudgedInside v all → ⊥
none_judged v all t h wrong =
    let read = spelled_read v 0 t all h.whole h.open_clause h.spells h.parts in
    let fails : trace_from v 0 read.0 t start ≡ Err wrong.2 = sym read.2 ∙ judged_read v 0 all wrong.0 wrong.1 wrong.2 wrong.3 wrong.4 in
    elim (judged_whole v 0 read.0 wrong.2 t start fails) [
      | inl syntax ↦ not_syntax wrong.0 wrong.1 wrong.2 (judged-err wrong.0 wrong.1 wrong.2 wrong.4) syntax
      | inr found ↦
          found.3 (h.none_whole (words_of found.0) (words_of found.1) (sym read.1 ∙ ap words_of found.2 ∙ map-append bytes_of found.0 found.1) found.4)
    ]

-- ---- each fault

-- the first token that can't stand is the fault that is read
bad_read : (v end : ℕ) (all : List Token) (w : Token) → FirstBad v all w → trace_from v end all [] start ≡ Err (Syntax w.at)
bad_read v end all w h = elim (go_through v end h.before [] h.before (w ∷ h.after) [] start refl h.each_before (nothing_stands v)) [
  | inl read ↦
      ap (λ (ts : List Token). trace_from v end ts [] start) h.parts ∙ read.3
      ∙ trace_from-fault v end w h.after read.0 read.1 (Syntax w.at)
      (cannot-step v read.1 w (step v read.1 w) refl (λ k. h.cannot (can_stand v h.before read.0 read.1 w.bytes read.2 k)))
  | inr wrong ↦ absurd (none_judged v h.before h.trace h.right wrong)
]

-- an end inside a clause is the fault that is read there
ends_at : (v end : ℕ) (all : List Token) (t : List Entry) (p : Part) → Stands v all t p → (AreWhole (words_of all) → ⊥) → trace_from v end [] t p ≡ Err (Syntax end)
ends_at v end all t start h bad = absurd (bad h.role)
ends_at v end all t (behind_index i) h bad = refl
ends_at v end all t (among_lits i ls) h bad = refl
ends_at v end all t (behind_sign i) h bad = refl
ends_at v end all t (among_antecedents i stated xs) h bad = refl

-- a text that ends inside a clause is read as that fault
inside_read : (v end : ℕ) (all : List Token) → EndsInside v all → trace_from v end all [] start ≡ Err (Syntax end)
inside_read v end all h = elim (go_through v end all [] all [] [] start refl h.each (nothing_stands v)) [
  | inl read ↦ ap (λ (ts : List Token). trace_from v end ts [] start) (sym (append-nil all)) ∙ read.3 ∙ ends_at v end all read.0 read.1 read.2 h.not_whole
  | inr wrong ↦ absurd (none_judged v all h.trace h.right wrong)
]

-- the fault of the tokens is the one that is read
fault_read : (v end : ℕ) (all : List Token) (f : TraceError) → FaultOf v end all f → trace_from v end all [] start ≡ Err f
fault_read v end all TooLong h = absurd h
fault_read v end all (Syntax at) (inl h) = bad_read v end all h.0 h.1 ∙ ap (λ (n : ℕ). Err (Syntax n)) (sym h.2)
fault_read v end all (Syntax at) (inr h) = inside_read v end all h.0 ∙ ap (λ (n : ℕ). Err (Syntax n)) (sym h.1)
fault_read v end all (Repeated repeated) h =
    judged_read v end all h.0 h.1 (Repeated h.1.index) h.2 (judged-repeated h.0 h.1 h.3) ∙ ap (λ (n : ℕ). Err (Repeated n)) (sym h.4)
fault_read v end all (Unknown lost antecedent) h =
    judged_read v end all h.0 h.1 (Unknown h.1.index antecedent) h.2 (judged-unknown h.0 h.1 antecedent h.3 h.5) ∙ ap (λ (n : ℕ). Err (Unknown n antecedent)) (sym h.4)
fault_read v end all NoMemory h = absurd h

-- a text with too many bytes is read as that fault
too_long : (text : List ℕ) (v : ℕ) → MAX_TRACE_BYTES < length text → trace_in v text ≡ Err TooLong
too_long text v h = rw (lt-ltb MAX_TRACE_BYTES (length text) h) refl

-- the fault that the text has is computed of it
pub fault-trace_in : (text : List ℕ) (v : ℕ) (f : TraceError) → TraceTextFault text v f → trace_in v text ≡ Err f
fault-trace_in text v f (inl long) = too_long text v long.0 ∙ ap Err (sym long.1)
fault-trace_in text v f (inr h) = not_long text v h.0 ∙ fault_read v (length text) (tokens_of text) f h.1
