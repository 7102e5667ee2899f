-- The header of a text, token by token.
use Rattle.std.proofs.Common.{◌≡◌, ℕ, ◌^◌, ◌<◌, ◌⊎◌, inl, inr, true, false, ◌&&◌, nat_lt, List, [], ◌∷◌, Option, Some, None, Result, Ok, Err, refl, ap, ◌∙◌, arith}
use Rattle.std.proofs.lemmas.Bool.{cases_Bool, cases_lt, and_from, and_parts, lt-ltb, le-ltb, ltb-true, false_from_ne_true}
use Rattle.clause_defs.specs.declared.verdict.TheConstants.{MAX_VARIABLE, MAX_CLAUSES}
use Rattle.text_defs.specs.Tokens.{Token}
use Rattle.sat_text_defs.specs.declared.errors.CnfError.{CnfError}
use Rattle.sat_text_defs.specs.declared.errors.CnfError.TheVariants.{Syntax}
use Rattle.text_defs.specs.Steps.{◌>>=◌}
use Rattle.sat_text_defs.specs.CnfReading.{same_word, behind_word, number_before, behind_line, header_in, Header}
use Rattle.sat_text_defs.specs.CnfText.{p_word, cnf_word, CanStand}
use Rattle.sat_text_defs.specs.Words.{SpellsNumber}
use Rattle.cnf_text_laws.proofs.TokenOrder.{BeginsBehind}
use Rattle.cnf_text_laws.proofs.HeaderWords.{same_word-itself, same_word-equal}
use Rattle.text_defs.specs.Numbers.{number_within}
use Rattle.text_defs.proofs.NumberLemmas.{number_within-spelled, spelled-number_within}

-- ---- one token

-- the wanted word on the header's line is read
word_stands : (end line : ℕ) (w : List ℕ) (t : Token) (ts : List Token) → (t.at < line) × (t.bytes ≡ w) → behind_word end line w (t ∷ ts) ≡ Ok ts
word_stands end line w t ts h =
    let same : same_word t.bytes w ≡ true = ap (λ (u : List ℕ). same_word u w) h.1 ∙ same_word-itself w in
    let test : (nat_lt t.at line && same_word t.bytes w) ≡ true = and_from (nat_lt t.at line) (same_word t.bytes w) (lt-ltb t.at line h.0) same in
    rw test refl

-- a token that isn't the wanted word on the header's line is the fault
word_bad : (end line : ℕ) (w : List ℕ) (t : Token) (ts : List Token) → ((t.at < line) × (t.bytes ≡ w) → ⊥) → behind_word end line w (t ∷ ts) ≡ Err (Syntax t.at)
word_bad end line w t ts h =
    let test : (nat_lt t.at line && same_word t.bytes w) ≡ false =
    false_from_ne_true (nat_lt t.at line && same_word t.bytes w)
    (λ e. let parts = and_parts (nat_lt t.at line) (same_word t.bytes w) e in h (ltb-true t.at line parts.0, same_word-equal t.bytes w parts.1)) in
    rw test refl

-- a token is this word on the line, or not
pub word_cases : (line : ℕ) (w : List ℕ) (t : Token) → ((t.at < line) × (t.bytes ≡ w)) ⊎ ((t.at < line) × (t.bytes ≡ w) → ⊥)
word_cases line w t = elim (cases_Bool (nat_lt t.at line && same_word t.bytes w)) [
  | inl e ↦ (let parts = and_parts (nat_lt t.at line) (same_word t.bytes w) e in inl (ltb-true t.at line parts.0, same_word-equal t.bytes w parts.1))
  | inr e ↦ inr (λ h.
      let same : same_word t.bytes w ≡ true = ap (λ (u : List ℕ). same_word u w) h.1 ∙ same_word-itself w in
      let test : (nat_lt t.at line && same_word t.bytes w) ≡ true = and_from (nat_lt t.at line) (same_word t.bytes w) (lt-ltb t.at line h.0) same in
      cc)
]

-- the token is this number on the line
abbrev pub NumberStands : ℕ → ℕ → Token → ℕ → Type 0
NumberStands line max t n = (t.at < line) × SpellsNumber max t.bytes n

-- a number up to the greatest, on the header's line, is read
number_stands : (end line max : ℕ) (t : Token) (ts : List Token) (n : ℕ) → max < 2 ^ 64 → NumberStands line max t n → number_before end line max (t ∷ ts) ≡ Ok (n, ts)
number_stands end line max t ts n small h =
    let test : nat_lt t.at line ≡ true = lt-ltb t.at line h.0 in
    let found : number_within max t.bytes ≡ Some n = spelled-number_within max n t.bytes small h.1.0 h.1.1 in
    rw (test, found) refl

-- a word that spells no number up to the greatest is read as none
no_number : (max : ℕ) (w : List ℕ) (o : Option ℕ) → max < 2 ^ 64 → number_within max w ≡ o → (((n : ℕ) × SpellsNumber max w n) → ⊥) → number_within max w ≡ None
no_number max w None small e h = e
no_number max w (Some n) small e h = absurd (h (n, number_within-spelled max n w small e))

-- a token behind the header's line is the fault, where a number is wanted
number_off : (end line max : ℕ) (t : Token) (ts : List Token) → nat_lt t.at line ≡ false → number_before end line max (t ∷ ts) ≡ Err (Syntax t.at)
number_off end line max t ts e = rw e refl

-- a token that is no number up to the greatest is the fault
number_none : (end line max : ℕ) (t : Token) (ts : List Token) → nat_lt t.at line ≡ true → number_within max t.bytes ≡ None → number_before end line max (t ∷ ts) ≡ Err (Syntax t.at)
number_none end line max t ts e h = rw (e, h) refl

-- a token that isn't a number up to the greatest, on the header's line, is the fault
number_bad : (end line max : ℕ) (t : Token) (ts : List Token) → max < 2 ^ 64 → ((t.at < line) × ((n : ℕ) × SpellsNumber max t.bytes n) → ⊥)
    → number_before end line max (t ∷ ts) ≡ Err (Syntax t.at)
number_bad end line max t ts small h = elim (cases_Bool (nat_lt t.at line)) [
  | inl e ↦
      number_none end line max t ts e
      (no_number max t.bytes (number_within max t.bytes) small refl (λ k. h (ltb-true t.at line e, k)))
  | inr e ↦ number_off end line max t ts e
]

-- a token on the header's line is a number up to the greatest, or none
number_if : (line max : ℕ) (t : Token) (o : Option ℕ) → max < 2 ^ 64 → number_within max t.bytes ≡ o → t.at < line
    → ((n : ℕ) × NumberStands line max t n) ⊎ ((t.at < line) × ((n : ℕ) × SpellsNumber max t.bytes n) → ⊥)
number_if line max t (Some n) small e lt = inl (n, (lt, number_within-spelled max n t.bytes small e))
number_if line max t None small e lt = inr (λ h. let found = spelled-number_within max h.1.0 t.bytes small h.1.1.0 h.1.1.1 in cc)

-- a token is a number on the line, or not
pub number_cases : (line max : ℕ) (t : Token) → max < 2 ^ 64 → ((n : ℕ) × NumberStands line max t n) ⊎ ((t.at < line) × ((n : ℕ) × SpellsNumber max t.bytes n) → ⊥)
number_cases line max t small = elim (cases_lt t.at line) [
  | inl lt ↦ number_if line max t (number_within max t.bytes) small refl lt
  | inr le ↦ inr (λ h. let lt : t.at < line = h.0 in omega arith)
]

-- tokens behind the header's line are left to be read
behind_ok : (line : ℕ) (ts : List Token) → BeginsBehind line ts → behind_line line ts ≡ Ok ts
behind_ok line [] h = refl
behind_ok line (t ∷ ts) h = let test : nat_lt t.at line ≡ false = le-ltb t.at line h in rw test refl

-- a further token on the header's line is the fault
behind_bad : (line : ℕ) (t : Token) (ts : List Token) → t.at < line → behind_line line (t ∷ ts) ≡ Err (Syntax t.at)
behind_bad line t ts h = let test : nat_lt t.at line ≡ true = lt-ltb t.at line h in rw test refl

-- the next token stands behind the header's line or on it
behind_cases : (line : ℕ) (ts : List Token) → BeginsBehind line ts ⊎ ((t : Token) × (us : List Token) × (ts ≡ t ∷ us) × (t.at < line))
behind_cases line [] = inl tt
behind_cases line (t ∷ ts) = elim (cases_lt t.at line) [ inl lt ↦ inr (t, ts, refl, lt) | inr le ↦ inl le ]

-- ---- what goes on behind each token

-- the header of these numbers, where its line ends here
abbrev header4 : ℕ → ℕ → ℕ → List Token → Result Header CnfError
header4 line v n ts = behind_line line ts >>= λ rest. Ok (record { variables = v; clauses = n; rest = rest })

-- the header with this greatest variable, of which the number of clauses comes next
abbrev header3 : ℕ → ℕ → ℕ → List Token → Result Header CnfError
header3 end line v ts = number_before end line MAX_CLAUSES ts >>= λ c. header4 line v c.0 c.1

-- the header, of which the greatest variable comes next
abbrev header2 : ℕ → ℕ → List Token → Result Header CnfError
header2 end line ts = number_before end line MAX_VARIABLE ts >>= λ v. header3 end line v.0 v.1

-- the header, of which the second word comes next
abbrev header1 : ℕ → ℕ → List Token → Result Header CnfError
header1 end line ts = behind_word end line cnf_word ts >>= header2 end line

-- a greatest variable is a small number
pub max_variable : MAX_VARIABLE < 2 ^ 64
max_variable = omega arith

-- a greatest number of clauses is a small number
pub max_clauses : MAX_CLAUSES < 2 ^ 64
max_clauses = omega arith

-- behind the word p, the header's second word comes next
go0 : (end line : ℕ) (p : Token) (ts : List Token) → CanStand line [] p → header_in end line (p ∷ ts) ≡ header1 end line ts
go0 end line p ts h = ap {B = Result Header CnfError} (λ r. r >>= header1 end line) (word_stands end line p_word p ts h)

-- behind the word cnf, the greatest variable comes next
go1 : (end line : ℕ) (p c : Token) (ts : List Token) → CanStand line (p ∷ []) c → header1 end line (c ∷ ts) ≡ header2 end line ts
go1 end line p c ts h = ap {B = Result Header CnfError} (λ r. r >>= header2 end line) (word_stands end line cnf_word c ts h)

-- behind the greatest variable, the number of clauses comes next
go2 : (end line : ℕ) (t : Token) (ts : List Token) (v : ℕ) → NumberStands line MAX_VARIABLE t v → header2 end line (t ∷ ts) ≡ header3 end line v ts
go2 end line t ts v h = ap {B = Result Header CnfError} (λ r. r >>= λ x. header3 end line x.0 x.1) (number_stands end line MAX_VARIABLE t ts v max_variable h)

-- behind the number of clauses, the line is to end
go3 : (end line v : ℕ) (t : Token) (ts : List Token) (n : ℕ) → NumberStands line MAX_CLAUSES t n → header3 end line v (t ∷ ts) ≡ header4 line v n ts
go3 end line v t ts n h = ap {B = Result Header CnfError} (λ r. r >>= λ x. header4 line v x.0 x.1) (number_stands end line MAX_CLAUSES t ts n max_clauses h)

-- a header whose line ends behind its numbers is read
go4 : (line v n : ℕ) (ts : List Token) → BeginsBehind line ts → header4 line v n ts ≡ Ok (record { variables = v; clauses = n; rest = ts })
go4 line v n ts h = ap {B = Result Header CnfError} (λ r. r >>= λ rest. Ok (record { variables = v; clauses = n; rest = rest })) (behind_ok line ts h)

-- a first token that can't stand
pub first_stops : (end line : ℕ) (p : Token) (ts : List Token) → (CanStand line [] p → ⊥) → header_in end line (p ∷ ts) ≡ Err (Syntax p.at)
first_stops end line p ts h = ap {B = Result Header CnfError} (λ r. r >>= header1 end line) (word_bad end line p_word p ts h)

-- a second token that can't stand is the fault
stop1 : (end line : ℕ) (p c : Token) (ts : List Token) → (CanStand line (p ∷ []) c → ⊥) → header1 end line (c ∷ ts) ≡ Err (Syntax c.at)
stop1 end line p c ts h = ap {B = Result Header CnfError} (λ r. r >>= header2 end line) (word_bad end line cnf_word c ts h)

-- a third token that can't stand is the fault
stop2 : (end line : ℕ) (p c t : Token) (ts : List Token) → (CanStand line (p ∷ c ∷ []) t → ⊥) → header2 end line (t ∷ ts) ≡ Err (Syntax t.at)
stop2 end line p c t ts h = ap {B = Result Header CnfError} (λ r. r >>= λ x. header3 end line x.0 x.1) (number_bad end line MAX_VARIABLE t ts max_variable h)

-- a fourth token that can't stand is the fault
stop3 : (end line v : ℕ) (p c d t : Token) (ts : List Token) → (CanStand line (p ∷ c ∷ d ∷ []) t → ⊥) → header3 end line v (t ∷ ts) ≡ Err (Syntax t.at)
stop3 end line v p c d t ts h = ap {B = Result Header CnfError} (λ r. r >>= λ x. header4 line v x.0 x.1) (number_bad end line MAX_CLAUSES t ts max_clauses h)

-- a fifth token on the header's line is the fault
stop4 : (line v n : ℕ) (t : Token) (ts : List Token) → t.at < line → header4 line v n (t ∷ ts) ≡ Err (Syntax t.at)
stop4 line v n t ts h = ap {B = Result Header CnfError} (λ r. r >>= λ rest. Ok (record { variables = v; clauses = n; rest = rest })) (behind_bad line t ts h)

-- ---- headers

-- the four tokens of a header
pub record Headed (line : ℕ) (p c d n : Token) (variables clauses : ℕ) : Type 0 where
  pub first : CanStand line [] p
  pub second : CanStand line (p ∷ []) c
  pub third : NumberStands line MAX_VARIABLE d variables
  pub fourth : NumberStands line MAX_CLAUSES n clauses

-- the text behind a header
pub header_goes_on : (end line : ℕ) (p c d n : Token) (ts : List Token) (v k : ℕ) → Headed line p c d n v k
    → header_in end line (p ∷ c ∷ d ∷ n ∷ ts) ≡ header4 line v k ts
header_goes_on end line p c d n ts v k h =
    go0 end line p (c ∷ d ∷ n ∷ ts) h.first ∙ go1 end line p c (d ∷ n ∷ ts) h.second ∙ go2 end line d (n ∷ ts) v h.third ∙ go3 end line v n ts k h.fourth

-- a header alone on its line
pub headed_alone : (end line : ℕ) (p c d n : Token) (ts : List Token) (v k : ℕ) → Headed line p c d n v k → BeginsBehind line ts
    → header_in end line (p ∷ c ∷ d ∷ n ∷ ts) ≡ Ok (record { variables = v; clauses = k; rest = ts })
headed_alone end line p c d n ts v k h b = header_goes_on end line p c d n ts v k h ∙ go4 line v k ts b

-- a header with a fifth token on its line
pub headed_not_alone : (end line : ℕ) (p c d n t : Token) (ts : List Token) (v k : ℕ) → Headed line p c d n v k → t.at < line
    → header_in end line (p ∷ c ∷ d ∷ n ∷ t ∷ ts) ≡ Err (Syntax t.at)
headed_not_alone end line p c d n t ts v k h b = header_goes_on end line p c d n (t ∷ ts) v k h ∙ stop4 line v k t ts b

-- a second token that can't stand
pub second_stops : (end line : ℕ) (p c : Token) (ts : List Token) → CanStand line [] p → (CanStand line (p ∷ []) c → ⊥)
    → header_in end line (p ∷ c ∷ ts) ≡ Err (Syntax c.at)
second_stops end line p c ts h k = go0 end line p (c ∷ ts) h ∙ stop1 end line p c ts k

-- a third token that can't stand
pub third_stops : (end line : ℕ) (p c d : Token) (ts : List Token) → CanStand line [] p → CanStand line (p ∷ []) c → (CanStand line (p ∷ c ∷ []) d → ⊥)
    → header_in end line (p ∷ c ∷ d ∷ ts) ≡ Err (Syntax d.at)
third_stops end line p c d ts h i k = go0 end line p (c ∷ d ∷ ts) h ∙ go1 end line p c (d ∷ ts) i ∙ stop2 end line p c d ts k

-- a fourth token that can't stand
pub fourth_stops : (end line : ℕ) (p c d n : Token) (ts : List Token) → CanStand line [] p → CanStand line (p ∷ []) c → CanStand line (p ∷ c ∷ []) d
    → (CanStand line (p ∷ c ∷ d ∷ []) n → ⊥) → header_in end line (p ∷ c ∷ d ∷ n ∷ ts) ≡ Err (Syntax n.at)
fourth_stops end line p c d n ts h i j k =
    go0 end line p (c ∷ d ∷ n ∷ ts) h ∙ go1 end line p c (d ∷ n ∷ ts) i ∙ go2 end line d (n ∷ ts) j.1.0 (j.0, j.1.1) ∙ stop3 end line j.1.0 p c d n ts k

-- a text of one token
pub ends_behind_first : (end line : ℕ) (p : Token) → CanStand line [] p → header_in end line (p ∷ []) ≡ Err (Syntax end)
ends_behind_first end line p h = go0 end line p [] h

-- a text of two tokens
pub ends_behind_second : (end line : ℕ) (p c : Token) → CanStand line [] p → CanStand line (p ∷ []) c → header_in end line (p ∷ c ∷ []) ≡ Err (Syntax end)
ends_behind_second end line p c h i = go0 end line p (c ∷ []) h ∙ go1 end line p c [] i

-- a text of three tokens
pub ends_behind_third : (end line : ℕ) (p c d : Token) → CanStand line [] p → CanStand line (p ∷ []) c → CanStand line (p ∷ c ∷ []) d
    → header_in end line (p ∷ c ∷ d ∷ []) ≡ Err (Syntax end)
ends_behind_third end line p c d h i j =
    go0 end line p (c ∷ d ∷ []) h ∙ go1 end line p c (d ∷ []) i ∙ go2 end line d [] j.1.0 (j.0, j.1.1)
