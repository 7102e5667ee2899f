-- What a token makes of a clause: which words can stand, what they add, and which role comes next.
use Rattle.std.proofs.Common.{◌≡◌, ◌≢◌, ℕ, ◌==◌, ◌&&◌, ◌⊎◌, inl, inr, Bool, true, false, not, List, [], ◌∷◌, ◌++◌, Option, Some, None, ok_or, Result, Ok, Err, eq-eqb, refl, sym, ap, ◌∙◌}
use Rattle.std.proofs.lemmas.Bool.{cases_Bool, and_parts, and_from, ne_eqb}
use Rattle.clause_defs.specs.Literals.{Literal}
use Rattle.clause_defs.specs.Clauses.{Lits}
use Rattle.text_defs.specs.Steps.{◌>>=◌}
use Rattle.text_defs.specs.Tokens.{Token}
use Rattle.text_defs.proofs.StepLemmas.{bind_ok, bind_err, ok_or_ok, ok_or_err}
use Rattle.sat_text_defs.specs.declared.errors.TraceError.{TraceError}
use Rattle.sat_text_defs.specs.declared.errors.TraceError.TheVariants.{Syntax}
use Rattle.sat_text_defs.specs.Words.{zero_word, sign_word, SpellsIndex, SpellsLiteral, IsLiteralWord}
use Rattle.sat_text_defs.specs.Spellings.{is_zero, is_sign, index_in, literal_in}
use Rattle.sat_text_defs.specs.TraceText.{Role, index, first, literal, behind_sign, antecedent, CanStandAs}
use Rattle.sat_text_defs.specs.TraceReading.{Part, start, behind_index, among_lits, among_antecedents, Next, goes_on, is_whole, has_sign, index_from, literal_step, step}
use Rattle.sat_text_defs.specs.TraceReading as reading
use Rattle.sat_text_defs.proofs.WordLemmas.{is_zero-word, word_zero, is_sign-word, word_sign, index_in-word, word_index, index_nonzero, literal_in-word, word_literal, literal_nonzero, literal_unsigned, zero_unsigned}

-- ---- what each step is

-- the token is `0`, or one more literal of a clause with these literals
abbrev pub LiteralStep : ℕ → Lits → List ℕ → Next → Type 0
LiteralStep i ls w n =
    ((w ≡ zero_word) × (n ≡ goes_on (among_antecedents i (Some ls) [])))
    ⊎ ((l : Literal) × SpellsLiteral w l × (n ≡ goes_on (among_lits i (ls ++ l ∷ []))))

-- what the word makes of a clause of which this was read
abbrev pub StepsTo : ℕ → Part → List ℕ → Next → Type 0
StepsTo v start w n = (i : ℕ) × SpellsIndex w i × (n ≡ goes_on (behind_index i))
StepsTo v (behind_index i) w n =
    ((v ≢ 1) × (w ≡ sign_word) × (n ≡ goes_on (reading.behind_sign i))) ⊎ LiteralStep i [] w n
StepsTo v (among_lits i ls) w n = LiteralStep i ls w n
StepsTo v (reading.behind_sign i) w n = (x : ℕ) × SpellsIndex w x × (n ≡ goes_on (among_antecedents i None (x ∷ [])))
StepsTo v (among_antecedents i stated xs) w n =
    ((w ≡ zero_word) × (n ≡ is_whole (record { index = i; stated = stated; antecedents = xs })))
    ⊎ ((x : ℕ) × SpellsIndex w x × (n ≡ goes_on (among_antecedents i stated (xs ++ x ∷ []))))

-- a step that gives this, and one that fails so
abbrev gives : Next → Result Next TraceError
gives n = Ok n

-- a step that fails so
abbrev fails : TraceError → Result Next TraceError
fails f = Err f

-- two steps that are the same outcome are the same step
same_step : (m n : Next) → gives m ≡ Ok n → n ≡ m
same_step m n e = cc

-- a word that is taken as an index spells it
index_from-ok : (w : Token) (x : ℕ) → index_from w ≡ Ok x → SpellsIndex w.bytes x
index_from-ok w x e = index_in-word w.bytes x (ok_or_ok (index_in w.bytes) (Syntax w.at) x e)

-- a step that takes an index goes on with the one that the word spells
index_step-ok : (f : ℕ → Next) (w : Token) (n : Next) → (index_from w >>= λ x. Ok (f x)) ≡ Ok n → (x : ℕ) × SpellsIndex w.bytes x × (n ≡ f x)
index_step-ok f w n e =
    let b = bind_ok (index_from w) (λ x. Ok (f x)) n e in
    (b.0, index_from-ok w b.0 b.1, same_step (f b.0) n b.2)

-- a step among literals goes on with the one that the word spells, or ends them at 0
literal_step-ok : (i : ℕ) (ls : Lits) (w : Token) (n : Next) → literal_step i ls w ≡ Ok n → LiteralStep i ls w.bytes n
literal_step-ok i ls w n e = elim (cases_Bool (is_zero w.bytes)) [
  | inl zero ↦ inl (is_zero-word w.bytes zero, same_step (goes_on (among_antecedents i (Some ls) [])) n (rw zero at e))
  | inr other ↦
      let b = bind_ok (ok_or (literal_in w.bytes) (Syntax w.at)) (λ l. Ok (goes_on (among_lits i (ls ++ l ∷ [])))) n (rw other at e) in
      inr (b.0, literal_in-word w.bytes b.0 (ok_or_ok (literal_in w.bytes) (Syntax w.at) b.0 b.1), same_step (goes_on (among_lits i (ls ++ b.0 ∷ []))) n b.2)
]

-- a version in which the sign can stand isn't 1
not_one : (v : ℕ) → has_sign v ≡ true → v ≢ 1
not_one v h e = let same : (v == 1) ≡ true = eq-eqb v 1 e in let clash : has_sign v ≡ false = ap not same in absurd (cc)

-- the sign can stand in each version but 1
pub other_one : (v : ℕ) → v ≢ 1 → has_sign v ≡ true
other_one v h = ap not (ne_eqb v 1 h)

-- a step that is computed is one of these
pub step-ok : (v : ℕ) (p : Part) (w : Token) (n : Next) → step v p w ≡ Ok n → StepsTo v p w.bytes n
step-ok v start w n e = index_step-ok (λ i. goes_on (behind_index i)) w n e
step-ok v (behind_index i) w n e = elim (cases_Bool (has_sign v && is_sign w.bytes)) [
  | inl sign ↦
      let parts = and_parts (has_sign v) (is_sign w.bytes) sign in
      inl (not_one v parts.0, is_sign-word w.bytes parts.1, same_step (goes_on (reading.behind_sign i)) n (rw sign at e))
  | inr none ↦ inr (literal_step-ok i [] w n (rw none at e))
]
step-ok v (among_lits i ls) w n e = literal_step-ok i ls w n e
step-ok v (reading.behind_sign i) w n e = index_step-ok (λ x. goes_on (among_antecedents i None (x ∷ []))) w n e
step-ok v (among_antecedents i stated xs) w n e = elim (cases_Bool (is_zero w.bytes)) [
  | inl zero ↦ inl (is_zero-word w.bytes zero, same_step (is_whole (record { index = i; stated = stated; antecedents = xs })) n (rw zero at e))
  | inr other ↦ inr (index_step-ok (λ x. goes_on (among_antecedents i stated (xs ++ x ∷ []))) w n (rw other at e))
]

-- ---- each of these is computed

-- a word that spells an index is taken as it
index_step-from : (f : ℕ → Next) (w : Token) (x : ℕ) → SpellsIndex w.bytes x → (index_from w >>= λ y. Ok (f y)) ≡ Ok (f x)
index_step-from f w x h = ap (λ (o : Option ℕ). ok_or o (Syntax w.at) >>= λ y. Ok (f y)) (word_index w.bytes x h)

-- a word that spells a literal is taken as it, and 0 as the end of the literals
literal_step-from : (i : ℕ) (ls : Lits) (w : Token) (n : Next) → LiteralStep i ls w.bytes n → literal_step i ls w ≡ Ok n
literal_step-from i ls w n (inl h) = let zero : is_zero w.bytes ≡ true = word_zero w.bytes h.0 in rw zero (ap Ok (sym h.1))
literal_step-from i ls w n (inr h) =
    let other : is_zero w.bytes ≡ false = literal_nonzero w.bytes h.0 h.1 in
    let one : literal_in w.bytes ≡ Some h.0 = word_literal w.bytes h.0 h.1 in
    rw (other, one) (ap Ok (sym h.2))

-- a literal and 0 aren't the sign
literal_step-unsigned : (i : ℕ) (ls : Lits) (w : List ℕ) (n : Next) → LiteralStep i ls w n → is_sign w ≡ false
literal_step-unsigned i ls w n (inl h) = zero_unsigned w h.0
literal_step-unsigned i ls w n (inr h) = literal_unsigned w h.0 h.1

-- where the second test fails, both don't pass
pub no_sign : (b c : Bool) → c ≡ false → (b && c) ≡ false
no_sign true c e = e
no_sign false c e = refl

-- what the word makes of the clause is computed
pub step-from : (v : ℕ) (p : Part) (w : Token) (n : Next) → StepsTo v p w.bytes n → step v p w ≡ Ok n
step-from v start w n h = index_step-from (λ i. goes_on (behind_index i)) w h.0 h.1 ∙ ap Ok (sym h.2)
step-from v (behind_index i) w n (inl h) =
    let sign : (has_sign v && is_sign w.bytes) ≡ true = and_from (has_sign v) (is_sign w.bytes) (other_one v h.0) (word_sign w.bytes h.1) in
    rw sign (ap Ok (sym h.2))
step-from v (behind_index i) w n (inr h) =
    let none : (has_sign v && is_sign w.bytes) ≡ false = no_sign (has_sign v) (is_sign w.bytes) (literal_step-unsigned i [] w.bytes n h) in
    rw none (literal_step-from i [] w n h)
step-from v (among_lits i ls) w n h = literal_step-from i ls w n h
step-from v (reading.behind_sign i) w n h = index_step-from (λ x. goes_on (among_antecedents i None (x ∷ []))) w h.0 h.1 ∙ ap Ok (sym h.2)
step-from v (among_antecedents i stated xs) w n (inl h) =
    let zero : is_zero w.bytes ≡ true = word_zero w.bytes h.0 in rw zero (ap Ok (sym h.1))
step-from v (among_antecedents i stated xs) w n (inr h) =
    let other : is_zero w.bytes ≡ false = index_nonzero w.bytes h.0 h.1 in
    rw other (index_step-from (λ x. goes_on (among_antecedents i stated (xs ++ x ∷ []))) w h.0 h.1 ∙ ap Ok (sym h.2))

-- ---- which word can stand

-- the role of the word behind what was read of a clause
abbrev pub role_of : Part → Role
role_of start = index
role_of (behind_index i) = first
role_of (among_lits i ls) = literal
role_of (reading.behind_sign i) = behind_sign
role_of (among_antecedents i stated xs) = antecedent

-- what is taken among literals is a literal or 0
literal_stands : (i : ℕ) (ls : Lits) (w : List ℕ) (n : Next) → LiteralStep i ls w n → IsLiteralWord w ⊎ (w ≡ zero_word)
literal_stands i ls w n (inl h) = inr h.0
literal_stands i ls w n (inr h) = inl (h.0, h.1)

-- a word with which the clause goes on can stand there
pub steps-stand : (v : ℕ) (p : Part) (w : List ℕ) (n : Next) → StepsTo v p w n → CanStandAs v (role_of p) w
steps-stand v start w n h = (h.0, h.1)
steps-stand v (behind_index i) w n (inl h) = inr (h.0, h.1)
steps-stand v (behind_index i) w n (inr h) = inl (literal_stands i [] w n h)
steps-stand v (among_lits i ls) w n h = literal_stands i ls w n h
steps-stand v (reading.behind_sign i) w n h = (h.0, h.1)
steps-stand v (among_antecedents i stated xs) w n (inl h) = inr h.0
steps-stand v (among_antecedents i stated xs) w n (inr h) = inl (h.0, h.1)

-- a literal and 0 are taken among literals
literal_stand-steps : (i : ℕ) (ls : Lits) (w : List ℕ) → IsLiteralWord w ⊎ (w ≡ zero_word) → (n : Next) × LiteralStep i ls w n
literal_stand-steps i ls w (inl h) = (goes_on (among_lits i (ls ++ h.0 ∷ [])), inr (h.0, h.1, refl))
literal_stand-steps i ls w (inr h) = (goes_on (among_antecedents i (Some ls) []), inl (h, refl))

-- a word that can stand there makes something of the clause
pub stand-steps : (v : ℕ) (p : Part) (w : List ℕ) → CanStandAs v (role_of p) w → (n : Next) × StepsTo v p w n
stand-steps v start w h = (goes_on (behind_index h.0), (h.0, h.1, refl))
stand-steps v (behind_index i) w (inl h) = let found = literal_stand-steps i [] w h in (found.0, inr found.1)
stand-steps v (behind_index i) w (inr h) = (goes_on (reading.behind_sign i), inl (h.0, h.1, refl))
stand-steps v (among_lits i ls) w h = literal_stand-steps i ls w h
stand-steps v (reading.behind_sign i) w h = (goes_on (among_antecedents i None (h.0 ∷ [])), (h.0, h.1, refl))
stand-steps v (among_antecedents i stated xs) w (inl h) = (goes_on (among_antecedents i stated (xs ++ h.0 ∷ [])), inr (h.0, h.1, refl))
stand-steps v (among_antecedents i stated xs) w (inr h) = (is_whole (record { index = i; stated = stated; antecedents = xs }), inl (h, refl))

-- ---- a step that fails

-- a step that goes on has no fault
never_fails : (n : Next) (f : TraceError) → gives n ≡ Err f → ⊥
never_fails n f e = absurd (cc)

-- a word that isn't taken as an index is the fault
index_step-err : (g : ℕ → Next) (w : Token) (f : TraceError) → (index_from w >>= λ x. Ok (g x)) ≡ Err f → f ≡ Syntax w.at
index_step-err g w f e = elim (bind_err (index_from w) (λ x. Ok (g x)) f e) [
  | inl one ↦ sym (ok_or_err (index_in w.bytes) (Syntax w.at) f one).1
  | inr more ↦ absurd (never_fails (g more.0) f more.2)
]

-- a word that isn't taken among literals is the fault
literal_step-err : (i : ℕ) (ls : Lits) (w : Token) (f : TraceError) → literal_step i ls w ≡ Err f → f ≡ Syntax w.at
literal_step-err i ls w f e = elim (cases_Bool (is_zero w.bytes)) [
  | inl zero ↦ absurd (never_fails (goes_on (among_antecedents i (Some ls) [])) f (rw zero at e))
  | inr other ↦ elim (bind_err (ok_or (literal_in w.bytes) (Syntax w.at)) (λ l. Ok (goes_on (among_lits i (ls ++ l ∷ [])))) f (rw other at e)) [
    | inl one ↦ sym (ok_or_err (literal_in w.bytes) (Syntax w.at) f one).1
    | inr more ↦ absurd (never_fails (goes_on (among_lits i (ls ++ more.0 ∷ []))) f more.2)
  ]
]

-- a step that fails says where the token stands
pub step-err : (v : ℕ) (p : Part) (w : Token) (f : TraceError) → step v p w ≡ Err f → f ≡ Syntax w.at
step-err v start w f e = index_step-err (λ i. goes_on (behind_index i)) w f e
step-err v (behind_index i) w f e = elim (cases_Bool (has_sign v && is_sign w.bytes)) [
  | inl sign ↦ absurd (never_fails (goes_on (reading.behind_sign i)) f (rw sign at e))
  | inr none ↦ literal_step-err i [] w f (rw none at e)
]
step-err v (among_lits i ls) w f e = literal_step-err i ls w f e
step-err v (reading.behind_sign i) w f e = index_step-err (λ x. goes_on (among_antecedents i None (x ∷ []))) w f e
step-err v (among_antecedents i stated xs) w f e = elim (cases_Bool (is_zero w.bytes)) [
  | inl zero ↦ absurd (never_fails (is_whole (record { index = i; stated = stated; antecedents = xs })) f (rw zero at e))
  | inr other ↦ index_step-err (λ x. goes_on (among_antecedents i stated (xs ++ x ∷ []))) w f (rw other at e)
]

-- the token of a step that fails can't stand there
pub step-cannot : (v : ℕ) (p : Part) (w : Token) (f : TraceError) → step v p w ≡ Err f → CanStandAs v (role_of p) w.bytes → ⊥
step-cannot v p w f e h =
    let found = stand-steps v p w.bytes h in
    never_fails found.0 f (sym (step-from v p w found.0 found.1) ∙ e)

-- the step with a token that can't stand fails
pub cannot-step : (v : ℕ) (p : Part) (w : Token) (r : Result Next TraceError) → step v p w ≡ r → (CanStandAs v (role_of p) w.bytes → ⊥) → step v p w ≡ Err (Syntax w.at)
cannot-step v p w (Ok n) e h = absurd (h (steps-stand v p w.bytes n (step-ok v p w n e)))
cannot-step v p w (Err f) e h = e ∙ ap Err (step-err v p w f e)
