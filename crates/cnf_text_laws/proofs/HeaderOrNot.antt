-- Each list of tokens has a header alone on its line, or a first token that can't stand there, or ends
-- before the header does.
use Rattle.std.proofs.Common.{◌≡◌, ℕ, ◌≤◌, ◌⊎◌, inl, inr, List, [], ◌∷◌, ◌++◌, Ok, Err, refl, arith}
use Rattle.std.proofs.lemmas.Bool.{cases_lt}
use Rattle.clause_defs.specs.declared.verdict.TheConstants.{MAX_VARIABLE, MAX_CLAUSES}
use Rattle.text_defs.specs.Tokens.{Token}
use Rattle.sat_text_defs.specs.declared.errors.CnfError.TheVariants.{Syntax}
use Rattle.sat_text_defs.specs.CnfReading.{header_in}
use Rattle.sat_text_defs.specs.CnfText.{p_word, cnf_word, CanStand, IsRight, EachRight, FirstBad, IsWhole}
use Rattle.cnf_text_laws.proofs.TokenOrder.{BeginsBehind}
use Rattle.cnf_text_laws.proofs.HeaderTokens.{NumberStands, Headed, word_cases, number_cases, max_variable, max_clauses, first_stops, second_stops, third_stops, fourth_stops, ends_behind_first, ends_behind_second, ends_behind_third, headed_alone, headed_not_alone}
use Rattle.cnf_text_laws.proofs.RightTokens.{each_nil, right_with_first, right_with_second, right_with_third, right_with_header}

-- a header, alone on its line
pub record Good (end line : ℕ) (ts : List Token) : Type 0 where
  pub p : Token
  pub c : Token
  pub d : Token
  pub n : Token
  pub body : List Token
  pub variables : ℕ
  pub clauses : ℕ
  pub parts : ts ≡ p ∷ c ∷ d ∷ n ∷ body
  pub headed : Headed line p c d n variables clauses
  pub alone : BeginsBehind line body
  pub value : header_in end line ts ≡ Ok (record { variables = variables; clauses = clauses; rest = body })

-- no header
abbrev pub Stops : ℕ → ℕ → List Token → Type 0
Stops end line ts =
    ((t : Token) × FirstBad line ts t × (header_in end line ts ≡ Err (Syntax t.at)))
    ⊎ (EachRight line ts × (IsWhole ts → ⊥) × (header_in end line ts ≡ Err (Syntax end)))

-- a header or none
abbrev pub Answer : ℕ → ℕ → List Token → Type 0
Answer end line ts = Good end line ts ⊎ Stops end line ts

-- a token that can't stand behind right ones is the first bad one
first_bad : (line : ℕ) (before : List Token) (t : Token) (after : List Token) → EachRight line before → (CanStand line before t → ⊥) → FirstBad line (before ++ (t ∷ after)) t
first_bad line before t after h k = record { before = before; after = after; parts = refl; each_before = h; cannot = k }

-- behind four tokens of a header the line ends, or a fifth token can't stand
answer4 : (end line : ℕ) (p c d n : Token) (ts : List Token) (v k : ℕ) → Headed line p c d n v k → Answer end line (p ∷ c ∷ d ∷ n ∷ ts)
answer4 end line p c d n [] v k h = inl (record {
  p = p;
  c = c;
  d = d;
  n = n;
  body = [];
  variables = v;
  clauses = k;
  parts = refl;
  headed = h;
  alone = tt;
  value = headed_alone end line p c d n [] v k h tt;
})
answer4 end line p c d n (t ∷ ts) v k h = elim (cases_lt t.at line) [
  | inl lt ↦ inr (inl (
    t,
    first_bad line (p ∷ c ∷ d ∷ n ∷ []) t ts (right_with_header line p c d n [] v k h (each_nil (λ us. IsRight line (p ∷ c ∷ d ∷ n ∷ us))))
        (λ s. let le : line ≤ t.at = s.0 in omega arith),
    headed_not_alone end line p c d n t ts v k h lt,
  ))
  | inr le ↦ inl (record {
    p = p;
    c = c;
    d = d;
    n = n;
    body = t ∷ ts;
    variables = v;
    clauses = k;
    parts = refl;
    headed = h;
    alone = le;
    value = headed_alone end line p c d n (t ∷ ts) v k h le;
  })
]

-- behind three tokens of a header the number of clauses stands, or no header does
answer3 : (end line : ℕ) (p c d : Token) (ts : List Token) (v : ℕ) → CanStand line [] p → CanStand line (p ∷ []) c → NumberStands line MAX_VARIABLE d v → Answer end line (p ∷ c ∷ d ∷ ts)
answer3 end line p c d [] v h i j = inr (inr (
  right_with_third line p c d [] h i (j.0, (v, j.1)) (each_nil (λ us. IsRight line (p ∷ c ∷ d ∷ us))),
  λ w. w,
  ends_behind_third end line p c d h i (j.0, (v, j.1)),
))
answer3 end line p c d (n ∷ ts) v h i j = elim (number_cases line MAX_CLAUSES n max_clauses) [
  | inl k ↦ answer4 end line p c d n ts v k.0 (record { first = h; second = i; third = j; fourth = k.1 })
  | inr bad ↦ inr (inl (
    n,
    first_bad line (p ∷ c ∷ d ∷ []) n ts (right_with_third line p c d [] h i (j.0, (v, j.1)) (each_nil (λ us. IsRight line (p ∷ c ∷ d ∷ us)))) bad,
    fourth_stops end line p c d n ts h i (j.0, (v, j.1)) bad,
  ))
]

-- behind two tokens of a header the greatest variable stands, or no header does
answer2 : (end line : ℕ) (p c : Token) (ts : List Token) → CanStand line [] p → CanStand line (p ∷ []) c → Answer end line (p ∷ c ∷ ts)
answer2 end line p c [] h i = inr (inr (right_with_second line p c [] h i (each_nil (λ us. IsRight line (p ∷ c ∷ us))), λ w. w, ends_behind_second end line p c h i))
answer2 end line p c (d ∷ ts) h i = elim (number_cases line MAX_VARIABLE d max_variable) [
  | inl k ↦ answer3 end line p c d ts k.0 h i k.1
  | inr bad ↦ inr (inl (
    d,
    first_bad line (p ∷ c ∷ []) d ts (right_with_second line p c [] h i (each_nil (λ us. IsRight line (p ∷ c ∷ us)))) bad,
    third_stops end line p c d ts h i bad,
  ))
]

-- behind the first token of a header the second one stands, or no header does
answer1 : (end line : ℕ) (p : Token) (ts : List Token) → CanStand line [] p → Answer end line (p ∷ ts)
answer1 end line p [] h = inr (inr (right_with_first line p [] h (each_nil (λ us. IsRight line (p ∷ us))), λ w. w, ends_behind_first end line p h))
answer1 end line p (c ∷ ts) h = elim (word_cases line cnf_word c) [
  | inl i ↦ answer2 end line p c ts h i
  | inr bad ↦ inr (inl (
    c,
    first_bad line (p ∷ []) c ts (right_with_first line p [] h (each_nil (λ us. IsRight line (p ∷ us)))) bad,
    second_stops end line p c ts h bad,
  ))
]

-- tokens have a header or none
pub answer : (end line : ℕ) (ts : List Token) → Answer end line ts
answer end line [] = inr (inr (each_nil (IsRight line), λ w. w, refl))
answer end line (p ∷ ts) = elim (word_cases line p_word p) [
  | inl h ↦ answer1 end line p ts h
  | inr bad ↦ inr (inl (p, first_bad line [] p ts (each_nil (IsRight line)) bad, first_stops end line p ts bad))
]
