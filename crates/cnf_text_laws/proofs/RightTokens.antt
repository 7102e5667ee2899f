-- Lists of tokens each of which is right behind those before it.
use Rattle.std.proofs.Common.{◌≡◌, ℕ, ◌<◌, ◌≤◌, inl, inr, List, [], ◌∷◌, ◌++◌, refl, ap, subst, arith}
use Rattle.std.proofs.lemmas.Bool.{cases_lt}
use Rattle.clause_defs.specs.declared.verdict.TheConstants.{MAX_VARIABLE}
use Rattle.text_defs.specs.Tokens.{Token}
use Rattle.sat_text_defs.specs.CnfText.{IsClauseWord, CanStand, IsOutOfRange, IsRight, EachRight}
use Rattle.sat_text_defs.specs.Words.{SpellsNumber}
use Rattle.cnf_text_laws.proofs.TokenOrder.{BeginsBehind, AllBehind}
use Rattle.cnf_text_laws.proofs.HeaderWords.{one_number}
use Rattle.cnf_text_laws.proofs.ClauseTokens.{RightWord, Outside, AllRight, clause_word, not_outside}
use Rattle.cnf_text_laws.proofs.HeaderTokens.{Headed, max_variable}

-- each token has this property of the tokens before it
abbrev pub Each : (List Token → Token → Type 0) → List Token → Type 0
Each P ts = (before : List Token) (t : Token) (after : List Token) → ts ≡ before ++ (t ∷ after) → P before t

-- no token fails it
pub each_nil : (P : List Token → Token → Type 0) → Each P []
each_nil P [] t after e = absurd (cc)
each_nil P (u ∷ us) t after e = absurd (cc)

-- the first token has it
pub each_head : (P : List Token → Token → Type 0) (t : Token) (ts : List Token) → Each P (t ∷ ts) → P [] t
each_head P t ts h = h [] t ts refl

-- the tokens behind the first one have it
pub each_tail : (P : List Token → Token → Type 0) (t : Token) (ts : List Token) → Each P (t ∷ ts) → Each (λ before. P (t ∷ before)) ts
each_tail P t ts h before u after e = h (t ∷ before) u after (ap (λ (us : List Token). t ∷ us) e)

-- a first token and those behind it have it
pub each_cons : (P : List Token → Token → Type 0) (t : Token) (ts : List Token) → P [] t → Each (λ before. P (t ∷ before)) ts → Each P (t ∷ ts)
each_cons P t ts a b [] u after e = let same : t ≡ u = cc in subst (λ (x : Token). P [] x) same a
each_cons P t ts a b (x ∷ before) u after e =
    let same : t ≡ x = cc in
    let rest : ts ≡ before ++ (u ∷ after) = cc in
    subst (λ (y : Token). P (y ∷ before) u) same (b before u after rest)

-- ---- the header

-- a right first token and right ones behind it
pub right_with_first : (line : ℕ) (p : Token) (ts : List Token) → CanStand line [] p → Each (λ us. IsRight line (p ∷ us)) ts → EachRight line (p ∷ ts)
right_with_first line p ts h k = each_cons (IsRight line) p ts (h, λ o. o) k

-- two right tokens and right ones behind them
pub right_with_second : (line : ℕ) (p c : Token) (ts : List Token) → CanStand line [] p → CanStand line (p ∷ []) c → Each (λ us. IsRight line (p ∷ c ∷ us)) ts
    → EachRight line (p ∷ c ∷ ts)
right_with_second line p c ts h i k = right_with_first line p (c ∷ ts) h (each_cons (λ us. IsRight line (p ∷ us)) c ts (i, λ o. o) k)

-- three right tokens and right ones behind them
pub right_with_third : (line : ℕ) (p c d : Token) (ts : List Token) → CanStand line [] p → CanStand line (p ∷ []) c → CanStand line (p ∷ c ∷ []) d
    → Each (λ us. IsRight line (p ∷ c ∷ d ∷ us)) ts → EachRight line (p ∷ c ∷ d ∷ ts)
right_with_third line p c d ts h i j k = right_with_second line p c (d ∷ ts) h i (each_cons (λ us. IsRight line (p ∷ c ∷ us)) d ts (j, λ o. o) k)

-- a header and right tokens behind it
pub right_with_header : (line : ℕ) (p c d n : Token) (ts : List Token) (v k : ℕ) → Headed line p c d n v k → Each (λ us. IsRight line (p ∷ c ∷ d ∷ n ∷ us)) ts
    → EachRight line (p ∷ c ∷ d ∷ n ∷ ts)
right_with_header line p c d n ts v k h e =
    right_with_third line p c d (n ∷ ts) h.first h.second (h.third.0, (v, h.third.1))
    (each_cons (λ us. IsRight line (p ∷ c ∷ d ∷ us)) n ts ((h.fourth.0, (k, h.fourth.1)), λ o. o) e)

-- the tokens behind the first one are right
pub behind_first : (line : ℕ) (p : Token) (ts : List Token) → EachRight line (p ∷ ts) → Each (λ us. IsRight line (p ∷ us)) ts
behind_first line p ts h = each_tail (IsRight line) p ts h

-- the tokens behind the second one are right
pub behind_second : (line : ℕ) (p c : Token) (ts : List Token) → EachRight line (p ∷ c ∷ ts) → Each (λ us. IsRight line (p ∷ c ∷ us)) ts
behind_second line p c ts h = each_tail (λ us. IsRight line (p ∷ us)) c ts (behind_first line p (c ∷ ts) h)

-- the tokens behind the third one are right
pub behind_third : (line : ℕ) (p c d : Token) (ts : List Token) → EachRight line (p ∷ c ∷ d ∷ ts) → Each (λ us. IsRight line (p ∷ c ∷ d ∷ us)) ts
behind_third line p c d ts h = each_tail (λ us. IsRight line (p ∷ c ∷ us)) d ts (behind_second line p c (d ∷ ts) h)

-- the tokens behind the header are right
pub behind_header_right : (line : ℕ) (p c d n : Token) (ts : List Token) → EachRight line (p ∷ c ∷ d ∷ n ∷ ts) → Each (λ us. IsRight line (p ∷ c ∷ d ∷ n ∷ us)) ts
behind_header_right line p c d n ts h = each_tail (λ us. IsRight line (p ∷ c ∷ d ∷ us)) n ts (behind_third line p c d (n ∷ ts) h)

-- the first one of right tokens can stand
pub first_stands : (line : ℕ) (p : Token) (ts : List Token) → EachRight line (p ∷ ts) → CanStand line [] p
first_stands line p ts h = (each_head (IsRight line) p ts h).0

-- the second one of right tokens can stand
pub second_stands : (line : ℕ) (p c : Token) (ts : List Token) → EachRight line (p ∷ c ∷ ts) → CanStand line (p ∷ []) c
second_stands line p c ts h = (each_head (λ us. IsRight line (p ∷ us)) c ts (behind_first line p (c ∷ ts) h)).0

-- the third one of right tokens can stand
pub third_stands : (line : ℕ) (p c d : Token) (ts : List Token) → EachRight line (p ∷ c ∷ d ∷ ts) → CanStand line (p ∷ c ∷ []) d
third_stands line p c d ts h = (each_head (λ us. IsRight line (p ∷ c ∷ us)) d ts (behind_second line p c (d ∷ ts) h)).0

-- the fourth one of right tokens can stand
pub fourth_stands : (line : ℕ) (p c d n : Token) (ts : List Token) → EachRight line (p ∷ c ∷ d ∷ n ∷ ts) → CanStand line (p ∷ c ∷ d ∷ []) n
fourth_stands line p c d n ts h = (each_head (λ us. IsRight line (p ∷ c ∷ d ∷ us)) n ts (behind_third line p c d (n ∷ ts) h)).0

-- right tokens that are four or more begin with a header
pub headed_of_each : (line : ℕ) (p c d n : Token) (ts : List Token) → EachRight line (p ∷ c ∷ d ∷ n ∷ ts) → (v : ℕ) × (k : ℕ) × Headed line p c d n v k
headed_of_each line p c d n ts h =
    let third = third_stands line p c d (n ∷ ts) h in
    let fourth = fourth_stands line p c d n ts h in (
      third.1.0,
      fourth.1.0,
      record {
        first = first_stands line p (c ∷ d ∷ n ∷ ts) h;
        second = second_stands line p c (d ∷ n ∷ ts) h;
        third = (third.0, third.1.1);
        fourth = (fourth.0, fourth.1.1);
      },
    )

-- the header of right tokens is alone on its line
pub alone_of_each : (line : ℕ) (p c d n : Token) (ts : List Token) → EachRight line (p ∷ c ∷ d ∷ n ∷ ts) → BeginsBehind line ts
alone_of_each line p c d n [] h = tt
alone_of_each line p c d n (t ∷ ts) h =
    (each_head (λ us. IsRight line (p ∷ c ∷ d ∷ n ∷ us)) t ts (behind_header_right line p c d n (t ∷ ts) h)).0.0

-- ---- the clauses

-- a literal or 0 that is over the variables is right
word_right : (v : ℕ) (w : List ℕ) → IsClauseWord w → (Outside v w → ⊥) → RightWord v w
word_right v w (inl z) h = inl z
word_right v w (inr k) h = elim (cases_lt v k.0.variable) [ inl lt ↦ absurd (h (k.0, k.1, lt)) | inr le ↦ inr (k.0, k.1, le) ]

-- a token that is right behind the header and others is 0 or a literal over its variables
right_word : (line : ℕ) (p c d n : Token) (v : ℕ) → SpellsNumber MAX_VARIABLE d.bytes v → (before : List Token) (t : Token)
    → IsRight line (p ∷ c ∷ d ∷ n ∷ before) t → RightWord v t.bytes
right_word line p c d n v num before t h = word_right v t.bytes h.0.1 (λ o. h.1 (v, num, o))

-- tokens each of which passes a test that only right ones pass are all right
all_of : (P : List Token → Token → Type 0) (v : ℕ) → ((before : List Token) (t : Token) → P before t → RightWord v t.bytes) → (ts : List Token) → Each P ts → AllRight v ts
all_of P v f [] h = tt
all_of P v f (t ∷ ts) h =
    (f [] t (each_head P t ts h), all_of (λ before. P (t ∷ before)) v (λ before u k. f (t ∷ before) u k) ts (each_tail P t ts h))

-- the tokens behind the header of right tokens are right words
pub all_of_each : (line : ℕ) (p c d n : Token) (ts : List Token) (v : ℕ) → SpellsNumber MAX_VARIABLE d.bytes v → EachRight line (p ∷ c ∷ d ∷ n ∷ ts) → AllRight v ts
all_of_each line p c d n ts v num h =
    all_of (λ us. IsRight line (p ∷ c ∷ d ∷ n ∷ us)) v (right_word line p c d n v num) ts (behind_header_right line p c d n ts h)

-- what is outside the header's variables
pub outside_of : (p c d n : Token) (us : List Token) (t : Token) (v : ℕ) → SpellsNumber MAX_VARIABLE d.bytes v → IsOutOfRange (p ∷ c ∷ d ∷ n ∷ us) t → Outside v t.bytes
outside_of p c d n us t v num o =
    let same : o.0 ≡ v = one_number MAX_VARIABLE d.bytes o.0 v max_variable o.1 num in
    let lt : o.0 < o.2.0.variable = o.2.2 in
    (o.2.0, o.2.1, (let more : v < o.2.0.variable = omega arith in more))

-- where right tokens behind the line pass a test, each of tokens that are all right passes it
each_of_all : (P : List Token → Token → Type 0) (line v : ℕ) → ((before : List Token) (t : Token) → line ≤ t.at → RightWord v t.bytes → P before t) → (ts : List Token)
    → AllBehind line ts → AllRight v ts → Each P ts
each_of_all P line v f [] b h = each_nil P
each_of_all P line v f (t ∷ ts) b h =
    each_cons P t ts (f [] t b.0 h.0) (each_of_all (λ before. P (t ∷ before)) line v (λ before u i k. f (t ∷ before) u i k) ts b.1 h.1)

-- a header alone on its line and right words behind it
pub each_of_parts : (line : ℕ) (p c d n : Token) (ts : List Token) (v k : ℕ) → Headed line p c d n v k → AllBehind line ts → AllRight v ts
    → EachRight line (p ∷ c ∷ d ∷ n ∷ ts)
each_of_parts line p c d n ts v k h b a =
    right_with_header line p c d n ts v k h
    (each_of_all (λ us. IsRight line (p ∷ c ∷ d ∷ n ∷ us)) line v
    (λ us u i w. ((i, clause_word v u.bytes w), λ o. not_outside v u.bytes w (outside_of p c d n us u v h.third.1 o))) ts b a)
