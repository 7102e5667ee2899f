-- The clauses of a text, token by token.
use Rattle.std.proofs.Common.{◌≡◌, ℕ, ◌+◌, ◌<◌, ◌≤◌, ◌⊎◌, inl, inr, Bool, true, false, nat_le, List, [], ◌∷◌, ◌++◌, length, Option, Some, None, Result, Ok, Err, refl, sym, ap, ◌∙◌, arith}
use Rattle.std.proofs.lemmas.List.{append-nil, length-append}
use Rattle.std.proofs.lemmas.Bool.{cases_Bool, cases_lt, le-leb, lt-leb}
use Rattle.clause_defs.specs.Literals.{Literal}
use Rattle.clause_defs.specs.Clauses.{Lits, clause_of}
use Rattle.text_defs.specs.Tokens.{Token}
use Rattle.sat_text_defs.specs.declared.errors.CnfError.{CnfError}
use Rattle.sat_text_defs.specs.declared.errors.CnfError.TheVariants.{Syntax, VarRange}
use Rattle.sat_text_defs.specs.Words.{words_of, zero_word}
use Rattle.sat_text_defs.specs.Spellings.{is_zero, literal_in}
use Rattle.sat_text_defs.specs.CnfText.{ends_in_zero}
use Rattle.text_defs.specs.Steps.{◌>>=◌}
use Rattle.sat_text_defs.specs.CnfReading.{literal_within, clauses_from}
use Rattle.sat_text_defs.specs.CnfText.{IsClauseWord, zeros}
use Rattle.sat_text_defs.specs.Words.{SpellsLiteral}
use Rattle.sat_text_defs.proofs.WordLemmas.{is_zero-word, literal_in-word, word_literal, literal_nonzero}
use Rattle.cnf_text_laws.proofs.HeaderWords.{one_literal}

-- ---- one token

-- a token that is 0 or a literal over this many variables
abbrev pub RightWord : ℕ → List ℕ → Type 0
RightWord v w = (w ≡ zero_word) ⊎ ((l : Literal) × SpellsLiteral w l × (l.variable ≤ v))

-- a literal that isn't over this many variables
abbrev pub Outside : ℕ → List ℕ → Type 0
Outside v w = (l : Literal) × SpellsLiteral w l × (v < l.variable)

-- a literal over the variables is taken as one of the clause
within_ok : (v : ℕ) (t : Token) (l : Literal) → SpellsLiteral t.bytes l → l.variable ≤ v → literal_within v t ≡ Ok l
within_ok v t l h le = let found = word_literal t.bytes l h in let test : nat_le l.variable v ≡ true = le-leb l.variable v le in rw (found, test) refl

-- a literal of a greater variable is out of range
within_out : (v : ℕ) (t : Token) (l : Literal) → SpellsLiteral t.bytes l → v < l.variable → literal_within v t ≡ Err (VarRange t.at)
within_out v t l h lt = let found = word_literal t.bytes l h in let test : nat_le l.variable v ≡ false = lt-leb l.variable v lt in rw (found, test) refl

-- a word that is no literal can't stand
within_bad : (v : ℕ) (t : Token) → literal_in t.bytes ≡ None → literal_within v t ≡ Err (Syntax t.at)
within_bad v t e = rw e refl

-- a token that isn't 0 is taken as a literal of the clause, or is the fault
step_if : (v end : ℕ) (t : Token) (ts : List Token) (fs : List Lits) (ls : Lits) → is_zero t.bytes ≡ false
    → clauses_from v end (t ∷ ts) fs ls ≡ (literal_within v t >>= λ l. clauses_from v end ts fs (ls ++ l ∷ []))
step_if v end t ts fs ls e = rw e refl

-- what is read behind a literal of the clause, or the literal's fault
then_lit : (v end : ℕ) (ts : List Token) (fs : List Lits) (ls : Lits) → Result Literal CnfError → Result (List Lits) CnfError
then_lit v end ts fs ls r = r >>= λ l. clauses_from v end ts fs (ls ++ l ∷ [])

-- a `0` closes the clause
pub step_zero : (v end : ℕ) (t : Token) (ts : List Token) (fs : List Lits) (ls : Lits) → t.bytes ≡ zero_word
    → clauses_from v end (t ∷ ts) fs ls ≡ clauses_from v end ts (fs ++ clause_of ls ∷ []) []
step_zero v end t ts fs ls e = let zero : is_zero t.bytes ≡ true = ap is_zero e in rw zero refl

-- a literal over the variables is read
pub step_literal : (v end : ℕ) (t : Token) (ts : List Token) (fs : List Lits) (ls : Lits) (l : Literal) → SpellsLiteral t.bytes l → l.variable ≤ v
    → clauses_from v end (t ∷ ts) fs ls ≡ clauses_from v end ts fs (ls ++ l ∷ [])
unfolding then_lit
step_literal v end t ts fs ls l h le =
    step_if v end t ts fs ls (literal_nonzero t.bytes l h) ∙ ap (then_lit v end ts fs ls) (within_ok v t l h le)

-- a literal that isn't over the variables is a fault
pub step_out : (v end : ℕ) (t : Token) (ts : List Token) (fs : List Lits) (ls : Lits) (l : Literal) → SpellsLiteral t.bytes l → v < l.variable
    → clauses_from v end (t ∷ ts) fs ls ≡ Err (VarRange t.at)
unfolding then_lit
step_out v end t ts fs ls l h lt =
    step_if v end t ts fs ls (literal_nonzero t.bytes l h) ∙ ap (then_lit v end ts fs ls) (within_out v t l h lt)

-- a word that is neither a literal nor 0 is read as no literal
no_literal : (w : List ℕ) (o : Option Literal) → literal_in w ≡ o → (IsClauseWord w → ⊥) → literal_in w ≡ None
no_literal w None e h = e
no_literal w (Some l) e h = absurd (h (inr (l, literal_in-word w l e)))

-- a word that is neither a literal nor 0 isn't 0
no_zero : (w : List ℕ) → (IsClauseWord w → ⊥) → is_zero w ≡ false
no_zero w h = elim (cases_Bool (is_zero w)) [ inl z ↦ absurd (h (inl (is_zero-word w z))) | inr z ↦ z ]

-- a word that is no word of a clause is a fault
pub step_bad : (v end : ℕ) (t : Token) (ts : List Token) (fs : List Lits) (ls : Lits) → (IsClauseWord t.bytes → ⊥)
    → clauses_from v end (t ∷ ts) fs ls ≡ Err (Syntax t.at)
unfolding then_lit
step_bad v end t ts fs ls h =
    step_if v end t ts fs ls (no_zero t.bytes h)
    ∙ ap (then_lit v end ts fs ls) (within_bad v t (no_literal t.bytes (literal_in t.bytes) refl h))

-- what a word is
kind_literal : (v : ℕ) (w : List ℕ) (l : Literal) → SpellsLiteral w l → RightWord v w ⊎ (Outside v w ⊎ (IsClauseWord w → ⊥))
kind_literal v w l h = elim (cases_lt v l.variable) [ inl lt ↦ inr (inl (l, h, lt)) | inr le ↦ inl (inr (l, h, le)) ]

-- a word that isn't 0 is a literal over the variables, a literal of a greater one, or can't stand
kind_other : (v : ℕ) (w : List ℕ) (o : Option Literal) → is_zero w ≡ false → literal_in w ≡ o → RightWord v w ⊎ (Outside v w ⊎ (IsClauseWord w → ⊥))
kind_other v w (Some l) z e = kind_literal v w l (literal_in-word w l e)
kind_other v w None z e = inr (inr (λ h. elim h [
  | inl k ↦ (let zero : is_zero w ≡ true = ap is_zero k in cc)
  | inr k ↦ (let some : literal_in w ≡ Some k.0 = word_literal w k.0 k.1 in cc)
]))

-- a word is right, or a literal outside, or no word of a clause
pub kind : (v : ℕ) (w : List ℕ) → RightWord v w ⊎ (Outside v w ⊎ (IsClauseWord w → ⊥))
kind v w = elim (cases_Bool (is_zero w)) [ inl z ↦ inl (inl (is_zero-word w z)) | inr z ↦ kind_other v w (literal_in w) z refl ]

-- a right word is a word of a clause
pub clause_word : (v : ℕ) (w : List ℕ) → RightWord v w → IsClauseWord w
clause_word v w (inl z) = inl z
clause_word v w (inr h) = inr (h.0, h.1)

-- a right word isn't outside
pub not_outside : (v : ℕ) (w : List ℕ) → RightWord v w → Outside v w → ⊥
not_outside v w (inl z) o =
    let zero : is_zero w ≡ true = ap is_zero z in
    let other : is_zero w ≡ false = literal_nonzero w o.0 o.1 in
    cc
not_outside v w (inr h) o =
    let same : h.0 ≡ o.0 = one_literal w h.0 o.0 h.1 o.1 in
    let number : h.0.variable ≡ o.0.variable = ap (λ (l : Literal). l.variable) same in
    let le : h.0.variable ≤ v = h.2 in
    let lt : v < o.0.variable = o.2 in
    omega arith

-- ---- the tokens that are right

-- each token is 0 or a literal over this many variables
abbrev pub AllRight : ℕ → List Token → Type 0
AllRight v [] = Unit {0}
AllRight v (t ∷ ts) = RightWord v t.bytes × AllRight v ts

-- there is no literal
abbrev pub is_empty : Lits → Bool
is_empty [] = true
is_empty (l ∷ ls) = false

-- a clause with a literal isn't empty
is_empty-snoc : (ls : Lits) (l : Literal) → is_empty (ls ++ l ∷ []) ≡ false
is_empty-snoc [] l = refl
is_empty-snoc (m ∷ ms) l = refl

-- what is read of right tokens: the clauses, and the literals of an open one
pub record Ran (v end : ℕ) (ts : List Token) (fs : List Lits) (ls : Lits) : Type 0 where
  pub read : List Lits
  pub left : Lits
  pub goes_on : (rest : List Token) → clauses_from v end (ts ++ rest) fs ls ≡ clauses_from v end rest read left
  pub count : length read ≡ length fs + zeros (words_of ts)
  pub ends : is_empty left ≡ ends_in_zero (is_empty ls) (words_of ts)

-- a 0 counts one
zeros-zero : (w : List ℕ) (ws : List (List ℕ)) → is_zero w ≡ true → zeros (w ∷ ws) ≡ 1 + zeros ws
zeros-zero w ws e = rw e refl

-- another word counts none
zeros-other : (w : List ℕ) (ws : List (List ℕ)) → is_zero w ≡ false → zeros (w ∷ ws) ≡ zeros ws
zeros-other w ws e = rw e refl

-- whether words end in 0 is told by the last one
ends-step : (z b : Bool) (w : List ℕ) (ws : List (List ℕ)) → is_zero w ≡ b → ends_in_zero z (w ∷ ws) ≡ ends_in_zero b ws
ends-step z b w ws e = ap (λ (x : Bool). ends_in_zero x ws) e

-- tokens that run through behind a 0 run through from the 0 on
run_zero : (v end : ℕ) (t : Token) (ts : List Token) (fs : List Lits) (ls : Lits) → t.bytes ≡ zero_word
    → Ran v end ts (fs ++ clause_of ls ∷ []) [] → Ran v end (t ∷ ts) fs ls
run_zero v end t ts fs ls e r = record {
  read = r.read;
  left = r.left;
  goes_on = λ rest. step_zero v end t (ts ++ rest) fs ls e ∙ r.goes_on rest;
  count =
      (let a = zeros-zero t.bytes (words_of ts) (ap is_zero e) in
      let b = length-append fs (clause_of ls ∷ []) in
      let k = r.count in omega arith);
  ends = r.ends ∙ sym (ends-step (is_empty ls) true t.bytes (words_of ts) (ap is_zero e));
}

-- tokens that run through behind a literal run through from the literal on
run_literal : (v end : ℕ) (t : Token) (ts : List Token) (fs : List Lits) (ls : Lits) (l : Literal) → SpellsLiteral t.bytes l → l.variable ≤ v
    → Ran v end ts fs (ls ++ l ∷ []) → Ran v end (t ∷ ts) fs ls
run_literal v end t ts fs ls l h le r =
    let other : is_zero t.bytes ≡ false = literal_nonzero t.bytes l h in
    record {
      read = r.read;
      left = r.left;
      goes_on = λ rest. step_literal v end t (ts ++ rest) fs ls l h le ∙ r.goes_on rest;
      count = r.count ∙ ap (λ (k : ℕ). length fs + k) (sym (zeros-other t.bytes (words_of ts) other));
      ends =
          r.ends ∙ ap (λ (b : Bool). ends_in_zero b (words_of ts)) (is_empty-snoc ls l)
          ∙ sym (ends-step (is_empty ls) false t.bytes (words_of ts) other);
    }

-- right tokens are read
pub run : (v end : ℕ) (ts : List Token) (fs : List Lits) (ls : Lits) → AllRight v ts → Ran v end ts fs ls
run v end [] fs ls h = record { read = fs; left = ls; goes_on = λ rest. refl; count = omega arith; ends = refl }
run v end (t ∷ ts) fs ls h = elim h.0 [
  | inl z ↦ run_zero v end t ts fs ls z (run v end ts (fs ++ clause_of ls ∷ []) [] h.1)
  | inr k ↦ run_literal v end t ts fs ls k.0 k.1 k.2 (run v end ts fs (ls ++ k.0 ∷ []) h.1)
]

-- ---- the first token that isn't right

-- the first token that isn't right, and the fault that it is
pub record BodyFault (v end : ℕ) (ts : List Token) (e : CnfError) : Type 0 where
  pub before : List Token
  pub token : Token
  pub after : List Token
  pub parts : ts ≡ before ++ (token ∷ after)
  pub right : AllRight v before
  pub fault : ((IsClauseWord token.bytes → ⊥) × (e ≡ Syntax token.at)) ⊎ (Outside v token.bytes × (e ≡ VarRange token.at))

-- each token is right, and whether the last one is 0; or the first one that isn't, and its fault
abbrev pub Judged : ℕ → ℕ → List Token → List Lits → Lits → Type 0
Judged v end ts fs ls = AllRight v ts ⊎ ((e : CnfError) × BodyFault v end ts e × (clauses_from v end ts fs ls ≡ Err e))

-- a right token in front leaves the judgement of the later ones as it is
judged_more : (v end : ℕ) (t : Token) (ts : List Token) (fs gs : List Lits) (ls ms : Lits) → RightWord v t.bytes
    → clauses_from v end (t ∷ ts) fs ls ≡ clauses_from v end ts gs ms → Judged v end ts gs ms → Judged v end (t ∷ ts) fs ls
judged_more v end t ts fs gs ls ms right step (inl h) = inl (right, h)
judged_more v end t ts fs gs ls ms right step (inr h) =
    let b = h.1 in
    inr (h.0, record { before = t ∷ b.before; token = b.token; after = b.after; parts = ap (λ (us : List Token). t ∷ us) b.parts; right = (right, b.right); fault = b.fault }, step ∙ h.2)

-- tokens of clauses are right, or one is the first that isn't
pub judged_body : (v end : ℕ) (ts : List Token) (fs : List Lits) (ls : Lits) → Judged v end ts fs ls
judged_body v end [] fs ls = inl tt
judged_body v end (t ∷ ts) fs ls = elim (kind v t.bytes) [
  | inl right ↦ elim right as (λ r. Judged v end (t ∷ ts) fs ls) [
    | inl z ↦
        judged_more v end t ts fs (fs ++ clause_of ls ∷ []) ls [] (inl z) (step_zero v end t ts fs ls z)
        (judged_body v end ts (fs ++ clause_of ls ∷ []) [])
    | inr k ↦
        judged_more v end t ts fs fs ls (ls ++ k.0 ∷ []) (inr k) (step_literal v end t ts fs ls k.0 k.1 k.2)
        (judged_body v end ts fs (ls ++ k.0 ∷ []))
  ]
  | inr wrong ↦ elim wrong [
    | inl out ↦ inr (
      VarRange t.at,
      record { before = []; token = t; after = ts; parts = refl; right = tt; fault = inr (out, refl) },
      step_out v end t ts fs ls out.0 out.1 out.2,
    )
    | inr bad ↦ inr (
      Syntax t.at,
      record { before = []; token = t; after = ts; parts = refl; right = tt; fault = inl (bad, refl) },
      step_bad v end t ts fs ls bad,
    )
  ]
]

-- what the tokens up to a faulty one give
pub fault_body : (v end : ℕ) (ts : List Token) (e : CnfError) (fs : List Lits) (ls : Lits) → BodyFault v end ts e → clauses_from v end ts fs ls ≡ Err e
fault_body v end ts e fs ls b =
    let r = run v end b.before fs ls b.right in
    ap (λ (us : List Token). clauses_from v end us fs ls) b.parts ∙ r.goes_on (b.token ∷ b.after)
    ∙ elim b.fault [
      | inl bad ↦ step_bad v end b.token b.after r.read r.left bad.0 ∙ ap (λ (x : CnfError). Err x) (sym bad.1)
      | inr out ↦ step_out v end b.token b.after r.read r.left out.0.0 out.0.1 out.0.2 ∙ ap (λ (x : CnfError). Err x) (sym out.1)
    ]

-- ---- the end

-- at the end, with no clause open, the clauses are those that were read
at_end : (v end : ℕ) (fs : List Lits) (ls : Lits) → is_empty ls ≡ true → clauses_from v end [] fs ls ≡ Ok fs
at_end v end fs [] e = refl
at_end v end fs (l ∷ ls) e = absurd (cc)

-- at the end, with a clause open, the text ends inside it
inside : (v end : ℕ) (fs : List Lits) (ls : Lits) → is_empty ls ≡ false → clauses_from v end [] fs ls ≡ Err (Syntax end)
inside v end fs [] e = absurd (cc)
inside v end fs (l ∷ ls) e = refl

-- tokens that run through are read to their end
run_out : (v end : ℕ) (ts : List Token) (fs : List Lits) (ls : Lits) (r : Ran v end ts fs ls) → clauses_from v end ts fs ls ≡ clauses_from v end [] r.read r.left
run_out v end ts fs ls r = ap (λ (us : List Token). clauses_from v end us fs ls) (sym (append-nil ts)) ∙ r.goes_on []

-- right tokens of whole clauses give as many clauses as there are words 0
pub whole_body : (v end : ℕ) (ts : List Token) → AllRight v ts → ends_in_zero true (words_of ts) ≡ true
    → (fs : List Lits) × (clauses_from v end ts [] [] ≡ Ok fs) × (length fs ≡ zeros (words_of ts))
whole_body v end ts h e =
    let r = run v end ts [] [] h in
    (r.read, run_out v end ts [] [] r ∙ at_end v end r.read r.left (r.ends ∙ e), (let k = r.count in omega arith))

-- right tokens that end inside a clause end too early
pub open_body : (v end : ℕ) (ts : List Token) → AllRight v ts → ends_in_zero true (words_of ts) ≡ false → clauses_from v end ts [] [] ≡ Err (Syntax end)
open_body v end ts h e =
    let r = run v end ts [] [] h in
    run_out v end ts [] [] r ∙ inside v end r.read r.left (r.ends ∙ e)
