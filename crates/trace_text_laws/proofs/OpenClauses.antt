-- The words of a clause that isn't whole yet, and what one more word makes of them.
use Rattle.std.proofs.Common.{◌≡◌, ◌≢◌, ℕ, ◌≤◌, ◌⊎◌, inl, inr, List, [], ◌∷◌, ◌++◌, map, decimal, Option, Some, None, refl, sym, ap, subst, ◌∙◌}
use Rattle.std.proofs.lemmas.List.{append-nil, append_assoc, map-append}
use Rattle.clause_defs.specs.declared.verdict.TheConstants.{MAX_INDEX}
use Rattle.clause_defs.specs.Literals.{Literal, IsLiteral}
use Rattle.clause_defs.specs.Clauses.{Lits, Has}
use Rattle.clause_laws.proofs.TraceLemmas.{Has-snoc}
use Rattle.sat_text_defs.specs.Words.{zero_word, sign_word, literal_word, SpellsLiteral}
use Rattle.sat_text_defs.specs.TraceText.{Spelled, stated_words, clause_words, Role, index, first, literal, behind_sign, antecedent, role_after, role_behind, AreWhole, IsSpelledClause}
use Rattle.sat_text_defs.specs.TraceReading.{Part, start, behind_index, among_lits, among_antecedents, Next, goes_on, is_whole}
use Rattle.sat_text_defs.specs.TraceReading as reading
use Rattle.sat_text_defs.proofs.WordLemmas.{word_zero, word_sign, index_nonzero, literal_nonzero, literal_unsigned, zero_unsigned}
use Rattle.trace_text_laws.proofs.TokenSteps.{StepsTo, role_of}

-- ---- what was read of a clause

-- its words
abbrev pub open_words : Part → List (List ℕ)
open_words start = []
open_words (behind_index i) = decimal i ∷ []
open_words (among_lits i ls) = decimal i ∷ map literal_word ls
open_words (reading.behind_sign i) = decimal i ∷ sign_word ∷ []
open_words (among_antecedents i stated xs) = decimal i ∷ (stated_words stated ++ map decimal xs)

-- a number that can be an index
abbrev pub IsIndex : ℕ → Type 0
IsIndex i = (1 ≤ i) × (i ≤ MAX_INDEX)

-- literals within the limits
abbrev pub AreLiterals : Lits → Type 0
AreLiterals ls = (l : Literal) → Has ls l → IsLiteral l

-- numbers that can be indices
abbrev pub AreIndices : List ℕ → Type 0
AreIndices xs = (x : ℕ) → Has xs x → IsIndex x

-- its numbers are within their limits, and it may have the sign where it has it
abbrev pub IsPart : ℕ → Part → Type 0
IsPart v start = Unit {0}
IsPart v (behind_index i) = IsIndex i
IsPart v (among_lits i ls) = IsIndex i × AreLiterals ls
IsPart v (reading.behind_sign i) = IsIndex i × (v ≢ 1)
IsPart v (among_antecedents i stated xs) = IsSpelledClause v (record { index = i; stated = stated; antecedents = xs })

-- ---- one word more

-- the clause goes on with the word, which is no end of it
pub record Extends (v : ℕ) (p : Part) (w : List ℕ) (q : Part) : Type 0 where
  pub words : open_words q ≡ open_words p ++ w ∷ []
  pub role : role_after (role_of p) w ≡ role_of q
  pub inside : role_of q ≢ index
  pub part : IsPart v p → IsPart v q

-- the clause is whole with the word
pub record Closes (v : ℕ) (p : Part) (w : List ℕ) (s : Spelled) : Type 0 where
  pub words : clause_words s ≡ open_words p ++ w ∷ []
  pub role : role_after (role_of p) w ≡ index
  pub clause : IsPart v p → IsSpelledClause v s

-- the word does that
abbrev pub Does : ℕ → Part → List ℕ → Next → Type 0
Does v p w (goes_on q) = Extends v p w q
Does v p w (is_whole s) = Closes v p w s

-- literals within the limits with one more are within them
literals-snoc : (ls : Lits) (l : Literal) → AreLiterals ls → IsLiteral l → AreLiterals (ls ++ l ∷ [])
literals-snoc ls l h k m i = elim (Has-snoc ls l m i) [ inl j ↦ h m j | inr e ↦ subst IsLiteral e k ]

-- indices within the limits with one more are within them
indices-snoc : (xs : List ℕ) (x : ℕ) → AreIndices xs → IsIndex x → AreIndices (xs ++ x ∷ [])
indices-snoc xs x h k y i = elim (Has-snoc xs x y i) [ inl j ↦ h y j | inr e ↦ subst IsIndex e k ]

-- a list with one more at its end isn't empty
longer : (xs : List ℕ) (x : ℕ) → xs ++ x ∷ [] ≢ []
longer [] x e = cc
longer (y ∷ xs) x e = cc

-- the words of a clause's beginning with one more literal are one word more
one_literal : (i : ℕ) (ls : Lits) (w : List ℕ) (l : Literal) → w ≡ literal_word l
    → decimal i ∷ map literal_word (ls ++ l ∷ []) ≡ (decimal i ∷ map literal_word ls) ++ w ∷ []
one_literal i ls w l e =
    ap (λ (ws : List (List ℕ)). decimal i ∷ ws)
    (map-append literal_word ls (l ∷ []) ∙ ap (λ (u : List ℕ). map literal_word ls ++ u ∷ []) (sym e))

-- the words of a clause's beginning with the 0 behind its literals are one word more
literals_end : (i : ℕ) (ls : Lits) (w : List ℕ) → w ≡ zero_word
    → decimal i ∷ ((map literal_word ls ++ (zero_word ∷ [])) ++ []) ≡ (decimal i ∷ map literal_word ls) ++ w ∷ []
literals_end i ls w e =
    ap (λ (ws : List (List ℕ)). decimal i ∷ ws)
    (append-nil (map literal_word ls ++ (zero_word ∷ [])) ∙ ap (λ (u : List ℕ). map literal_word ls ++ u ∷ []) (sym e))

-- the words of a clause's beginning with one more antecedent are one word more
one_antecedent : (i : ℕ) (front : List (List ℕ)) (xs : List ℕ) (w : List ℕ) (x : ℕ) → w ≡ decimal x
    → decimal i ∷ (front ++ map decimal (xs ++ x ∷ [])) ≡ (decimal i ∷ (front ++ map decimal xs)) ++ w ∷ []
one_antecedent i front xs w x e =
    ap (λ (ws : List (List ℕ)). decimal i ∷ ws)
    (ap (λ (ws : List (List ℕ)). front ++ ws) (map-append decimal xs (x ∷ []))
    ∙ sym (append_assoc front (map decimal xs) (decimal x ∷ []))
    ∙ ap (λ (u : List ℕ). (front ++ map decimal xs) ++ u ∷ []) (sym e))

-- the words of a clause with the 0 at its end are one word more
antecedents_end : (i : ℕ) (front : List (List ℕ)) (xs : List ℕ) (w : List ℕ) → w ≡ zero_word
    → decimal i ∷ (front ++ (map decimal xs ++ (zero_word ∷ []))) ≡ (decimal i ∷ (front ++ map decimal xs)) ++ w ∷ []
antecedents_end i front xs w e =
    ap (λ (ws : List (List ℕ)). decimal i ∷ ws)
    (sym (append_assoc front (map decimal xs) (zero_word ∷ []))
    ∙ ap (λ (u : List ℕ). (front ++ map decimal xs) ++ u ∷ []) (sym e))

-- a clause's index and its literals with 0 are the beginning of a clause
stated_clause : (v i : ℕ) (ls : Lits) → IsIndex i → AreLiterals ls → IsPart v (among_antecedents i (Some ls) [])
stated_clause v i ls h k = record {
  low = h.0;
  high = h.1;
  lits = k;
  antecedents = λ x none. absurd none;
  sign = λ e. absurd (cc);
}

-- a clause's index, the sign and an antecedent are the beginning of a clause, in versions but 1
sign_clause : (v i x : ℕ) → IsIndex i → v ≢ 1 → IsIndex x → IsPart v (among_antecedents i None (x ∷ []))
sign_clause v i x h other k = record {
  low = h.0;
  high = h.1;
  lits = λ l none. absurd none;
  antecedents = λ y j. indices-snoc [] x (λ z none. absurd none) k y j;
  sign = λ e. (other, longer [] x);
}

-- the beginning of a clause with one more antecedent is one too
longer_clause : (v i : ℕ) (stated : Option Lits) (xs : List ℕ) (x : ℕ) → IsPart v (among_antecedents i stated xs) → IsIndex x
    → IsPart v (among_antecedents i stated (xs ++ x ∷ []))
longer_clause v i stated xs x h k = record {
  low = h.low;
  high = h.high;
  lits = h.lits;
  antecedents = indices-snoc xs x h.antecedents k;
  sign = λ e. ((h.sign e).0, longer xs x);
}

-- behind the 0 that ends the literals antecedents stand
role_zero : (w : List ℕ) → w ≡ zero_word → role_after literal w ≡ antecedent
role_zero w e = rw (word_zero w e) refl

-- behind a literal another literal or 0 stands
role_literal : (w : List ℕ) (l : Literal) → SpellsLiteral w l → role_after literal w ≡ literal
role_literal w l h = rw (literal_nonzero w l h) refl

-- behind an index and 0 antecedents stand
first_zero : (w : List ℕ) → w ≡ zero_word → role_after first w ≡ antecedent
first_zero w e = rw (zero_unsigned w e, word_zero w e) refl

-- behind an index and a literal another literal or 0 stands
first_literal : (w : List ℕ) (l : Literal) → SpellsLiteral w l → role_after first w ≡ literal
first_literal w l h = rw (literal_unsigned w l h, literal_nonzero w l h) refl

-- behind an index and the sign an antecedent stands
first_sign : (w : List ℕ) → w ≡ sign_word → role_after first w ≡ behind_sign
first_sign w e = rw (word_sign w e) refl

-- what a word makes of a clause, by what was read of the clause
pub steps-do : (v : ℕ) (p : Part) (w : List ℕ) (n : Next) → StepsTo v p w n → Does v p w n
steps-do v start w n h = subst (Does v start w) (sym h.2) (record {
  words = ap (λ (u : List ℕ). u ∷ []) (sym h.1.0);
  role = refl;
  inside = λ e. cc;
  part = λ k. (h.1.1, h.1.2);
})
steps-do v (behind_index i) w n (inl h) = subst (Does v (behind_index i) w) (sym h.2) (record {
  words = ap (λ (u : List ℕ). decimal i ∷ u ∷ []) (sym h.1);
  role = first_sign w h.1;
  inside = λ e. cc;
  part = λ k. (k, h.0);
})
steps-do v (behind_index i) w n (inr (inl h)) = subst (Does v (behind_index i) w) (sym h.1) (record {
  words = literals_end i [] w h.0;
  role = first_zero w h.0;
  inside = λ e. cc;
  part = λ k. stated_clause v i [] k (λ l none. absurd none);
})
steps-do v (behind_index i) w n (inr (inr h)) = subst (Does v (behind_index i) w) (sym h.2) (record {
  words = one_literal i [] w h.0 h.1.1;
  role = first_literal w h.0 h.1;
  inside = λ e. cc;
  part = λ k. (k, literals-snoc [] h.0 (λ l none. absurd none) h.1.0);
})
steps-do v (among_lits i ls) w n (inl h) = subst (Does v (among_lits i ls) w) (sym h.1) (record {
  words = literals_end i ls w h.0;
  role = role_zero w h.0;
  inside = λ e. cc;
  part = λ k. stated_clause v i ls k.0 k.1;
})
steps-do v (among_lits i ls) w n (inr h) = subst (Does v (among_lits i ls) w) (sym h.2) (record {
  words = one_literal i ls w h.0 h.1.1;
  role = role_literal w h.0 h.1;
  inside = λ e. cc;
  part = λ k. (k.0, literals-snoc ls h.0 k.1 h.1.0);
})
steps-do v (reading.behind_sign i) w n h = subst (Does v (reading.behind_sign i) w) (sym h.2) (record {
  words = ap (λ (u : List ℕ). decimal i ∷ sign_word ∷ u ∷ []) (sym h.1.0);
  role = refl;
  inside = λ e. cc;
  part = λ k. sign_clause v i h.0 k.0 k.1 (h.1.1, h.1.2);
})
steps-do v (among_antecedents i stated xs) w n (inl h) = subst (Does v (among_antecedents i stated xs) w) (sym h.1) (record {
  words = antecedents_end i (stated_words stated) xs w h.0;
  role = rw (word_zero w h.0) refl;
  clause = λ k. k;
})
steps-do v (among_antecedents i stated xs) w n (inr h) = subst (Does v (among_antecedents i stated xs) w) (sym h.2) (record {
  words = one_antecedent i (stated_words stated) xs w h.0 h.1.0;
  role = rw (index_nonzero w h.0 h.1) refl;
  inside = λ e. cc;
  part = λ k. longer_clause v i stated xs h.0 k (h.1.1, h.1.2);
})

-- ---- no part of an open clause is whole

-- the role behind one more word
pub role_behind-snoc : (r : Role) (ws : List (List ℕ)) (w : List ℕ) → role_behind r (ws ++ w ∷ []) ≡ role_after (role_behind r ws) w
role_behind-snoc r [] w = refl
role_behind-snoc r (u ∷ ws) w = role_behind-snoc (role_after r u) ws w

-- words behind which a word has this role, and of which no part is a whole clause
pub record IsOpen (ws : List (List ℕ)) (r : Role) : Type 0 where
  pub role : role_behind index ws ≡ r
  pub inside : (front back : List (List ℕ)) → ws ≡ front ++ back → AreWhole front → front ≡ []

-- no words have only no words as a beginning
nothing_split : (front back : List (List ℕ)) → [] ≡ front ++ back → front ≡ []
nothing_split [] back e = refl
nothing_split (f ∷ front) back e = absurd (cc)

-- no words are open
pub IsOpen-empty : IsOpen [] index
IsOpen-empty = record { role = refl; inside = λ front back e whole. nothing_split front back e }

-- a beginning of words with one more is all of them or one of those before it
front_split : (ws : List (List ℕ)) (w : List ℕ) (front back : List (List ℕ)) → ws ++ w ∷ [] ≡ front ++ back
    → (front ≡ ws ++ w ∷ []) ⊎ ((rest : List (List ℕ)) × (ws ≡ front ++ rest))
front_split ws w [] back e = inr (ws, refl)
front_split [] w (f ∷ front) back e =
    let rest : [] ≡ front ++ back = cc in
    let none : front ≡ [] = nothing_split front back rest in
    let one : w ≡ f = cc in
    inl (ap (λ (us : List (List ℕ)). f ∷ us) none ∙ ap (λ (u : List ℕ). u ∷ []) (sym one))
front_split (x ∷ xs) w (f ∷ front) back e =
    let one : x ≡ f = cc in
    let rest : xs ++ w ∷ [] ≡ front ++ back = cc in
    elim (front_split xs w front back rest) [
      | inl all ↦ inl (ap (λ (us : List (List ℕ)). f ∷ us) all ∙ ap (λ (u : List ℕ). u ∷ (xs ++ w ∷ [])) (sym one))
      | inr some ↦ inr (some.0, ap (λ (u : List ℕ). u ∷ xs) one ∙ ap (λ (us : List (List ℕ)). f ∷ us) some.1)
    ]

-- open words with one more word that isn't their end are open
pub IsOpen-snoc : (ws : List (List ℕ)) (w : List ℕ) (r q : Role) → IsOpen ws r → role_after r w ≡ q → q ≢ index → IsOpen (ws ++ w ∷ []) q
IsOpen-snoc ws w r q h next other =
    let role : role_behind index (ws ++ w ∷ []) ≡ q = role_behind-snoc index ws w ∙ ap (λ (x : Role). role_after x w) h.role ∙ next in
    record {
      role = role;
      inside = λ front back e whole. elim (front_split ws w front back e) [
        | inl all ↦ absurd (other (sym role ∙ ap (role_behind index) (sym all) ∙ whole))
        | inr some ↦ h.inside front some.0 some.1 whole
      ];
    }
