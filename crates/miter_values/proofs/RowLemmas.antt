-- What a row asks, and the clause that gives it its value.
use Rattle.std.proofs.Common.{◌≡◌, ◌≢◌, ℕ, zero, suc, ◌+◌, ◌<◌, ◌≤◌, inl, inr, Bool, true, false, not, List, [], ◌∷◌, ◌++◌, length, map, get_or, take, refl, sym, ◌∙◌, ap, subst, arith, length-append}
use Rattle.std.proofs.Math.Bool.{beq}
use Rattle.std.proofs.lemmas.List.{length-map, get_or-map, get_or_append_left, get_or-append-add, append-nil, take_all}
use Rattle.std.proofs.Math.Seq.{get_or-append_seam}
use Rattle.blif_defs.specs.declared.mark.Mark.{Mark}
use Rattle.blif_defs.specs.declared.mark.Mark.TheVariants.{Zero, One, Any}
use Rattle.clause_defs.specs.Literals.{Literal, negation}
use Rattle.clause_defs.specs.Clauses.{Lits, Has}
use Rattle.chain_check.proofs.ClauseLists.{Has-snoc}
use Rattle.log_laws.proofs.TraceOfLemmas.{Has-get_or}
use Rattle.miter_cnf.proofs.RowLemmas.{row_literals-more}
use Rattle.miter_defs.specs.Numberings.{signal_variable}
use Rattle.miter_defs.specs.Miters.{literal, positive, negative, mark_literals, row_literals, hit_clauses}
use Rattle.leaf_defs.specs.Evaluated.{Evaluated, value_of}
use Rattle.miter_values.specs.Growing.{IsTrueIn, IsFalseIn, IsForced}
use Rattle.miter_values.specs.Parts.{AreKnown, IsRowValue}

-- what a mark asks is of the signal under it
pub mark_variable : (m : Mark) (s : ℕ) (l : Literal) → mark_literals m s ≡ l ∷ [] → l.variable ≡ signal_variable s
mark_variable Zero s l e = sym (ap (λ (ls : Lits). (get_or ls 0 l).variable) e)
mark_variable One s l e = sym (ap (λ (ls : Lits). (get_or ls 0 l).variable) e)
mark_variable Any s l e = let none = ap (λ (ls : Lits). length ls) e in absurd (omega arith)

-- the literal that a mark asks stands behind those of the marks before it
pub asked_place : (row : List Mark) (ss : List ℕ) (i : ℕ) (d : Mark) (l : Literal) → i < length row → i < length ss
    → mark_literals (get_or row i d) (get_or ss i 0) ≡ l ∷ []
    → (length (row_literals (take i row) ss) < length (row_literals row ss))
    × ((e : Literal) → get_or (row_literals row ss) (length (row_literals (take i row) ss)) e ≡ l)
asked_place [] ss i d l lt within h = absurd (omega arith)
asked_place (m ∷ ms) [] i d l lt within h = absurd (omega arith)
asked_place (m ∷ ms) (s ∷ ss) zero d l lt within h = (
  (let all = length-append (mark_literals m s) (row_literals ms ss) in
      let one = ap (λ (ls : Lits). length ls) h in omega arith),
  λ e. ap (λ (ls : Lits). get_or (ls ++ row_literals ms ss) 0 e) h,
)
asked_place (m ∷ ms) (s ∷ ss) (suc i) d l lt within h =
    let rest = asked_place ms ss i d l (omega arith) (omega arith) h in
    let less = rest.0 in
    let long = length-append (mark_literals m s) (row_literals ms ss) in
    let first = length-append (mark_literals m s) (row_literals (take i ms) ss) in (
      omega arith,
      λ e. ap (λ n. get_or (mark_literals m s ++ row_literals ms ss) n e) first
          ∙ behind (mark_literals m s) (row_literals ms ss) (length (row_literals (take i ms) ss)) e
          ∙ rest.1 e,
    )
  where
    behind : (xs ys : Lits) (n : ℕ) (e : Literal) → get_or (xs ++ ys) (length xs + n) e ≡ get_or ys n e
    behind xs ys n e = get_or-append-add xs ys n e

-- the first i marks ask n literals, and all of them are true
pub record IsSoFar (e : Evaluated) (row : List Mark) (ss : List ℕ) (i n : ℕ) : Type 0 where
  pub counted : n ≡ length (row_literals (take i row) ss)
  pub all_true : (m : Literal) → Has (row_literals (take i row) ss) m → IsTrueIn e m
  pub few : n ≤ i

-- no mark was read yet
pub row_begins : (e : Evaluated) (row : List Mark) (ss : List ℕ) → IsSoFar e row ss 0 0
row_begins e row ss = record { counted = refl; all_true = λ m h. absurd h; few = omega arith }

-- a mark that asks nothing was read
pub row_passes : (e : Evaluated) (row : List Mark) (ss : List ℕ) (i n : ℕ) (d : Mark) → i < length row → i < length ss → IsSoFar e row ss i n
    → mark_literals (get_or row i d) (get_or ss i 0) ≡ [] → IsSoFar e row ss (i + 1) n
row_passes e row ss i n d lt within h none =
    let same : row_literals (take (i + 1) row) ss ≡ row_literals (take i row) ss =
    row_literals-more row ss i d lt within ∙ ap (λ ls. row_literals (take i row) ss ++ ls) none ∙ append-nil (row_literals (take i row) ss) in
    record {
      counted = h.counted ∙ sym (ap (λ (ls : Lits). length ls) same);
      all_true = λ m here. h.all_true m (subst (λ (ls : Lits). Has ls m) same here);
      few = let few = h.few in omega arith;
    }

-- a mark was read whose literal is true
pub row_goes_on : (e : Evaluated) (row : List Mark) (ss : List ℕ) (i n : ℕ) (d : Mark) (l : Literal) → i < length row → i < length ss → IsSoFar e row ss i n
    → mark_literals (get_or row i d) (get_or ss i 0) ≡ l ∷ [] → IsTrueIn e l → IsSoFar e row ss (i + 1) (n + 1)
row_goes_on e row ss i n d l lt within h one is_true =
    let same : row_literals (take (i + 1) row) ss ≡ row_literals (take i row) ss ++ l ∷ [] =
    row_literals-more row ss i d lt within ∙ ap (λ ls. row_literals (take i row) ss ++ ls) one in
    record {
      counted = let many = ap (λ (ls : Lits). length ls) same in let before = h.counted in omega (arith, length-append (row_literals (take i row) ss) (l ∷ []));
      all_true = λ m here. elim ((Has-snoc (row_literals (take i row) ss) l m).0 (subst (λ (ls : Lits). Has ls m) same here)) [
        | inl old ↦ h.all_true m old
        | inr new ↦ subst (IsTrueIn e) new is_true
      ];
      few = let few = h.few in omega arith;
    }

-- a mark was read whose literal is false: the row misses there
pub row_misses : (e : Evaluated) (row : List Mark) (ss : List ℕ) (i n : ℕ) (d : Mark) (l : Literal) → i < length row → i < length ss → IsSoFar e row ss i n
    → mark_literals (get_or row i d) (get_or ss i 0) ≡ l ∷ [] → IsFalseIn e l → IsRowValue e (row_literals row ss) false n
row_misses e row ss i n d l lt within h one is_false =
    let at = asked_place row ss i d l lt within one in
    let less = at.0 in
    let counted = h.counted in (
      omega arith,
      λ x. subst (IsFalseIn e) (sym (ap (λ k. get_or (row_literals row ss) k x) counted ∙ at.1 x)) is_false,
    )

-- all marks were read: the row hits
pub row_hits : (e : Evaluated) (row : List Mark) (ss : List ℕ) (i n : ℕ) → i ≡ length row → IsSoFar e row ss i n
    → IsRowValue e (row_literals row ss) true n
row_hits e row ss i n end h =
    let all : row_literals (take i row) ss ≡ row_literals row ss = ap (λ r. row_literals r ss) (take_all i row (omega arith)) in (
      h.counted ∙ ap (λ (ls : Lits). length ls) all,
      λ m here. h.all_true m (subst (λ (ls : Lits). Has ls m) (sym all) here),
    )

-- ---- the clause that gives a row its value

-- a member of the negations
negated_in : (asked : Lits) (m : Literal) → Has (map negation asked) m → (l : Literal) × Has asked l × (m ≡ negation l)
negated_in [] m h = absurd h
negated_in (l ∷ ls) m (inl e) = (l, inl refl, sym e)
negated_in (l ∷ ls) m (inr h) = let rest = negated_in ls m h in (rest.0, inr rest.1, rest.2)

-- two negations cancel out
not_not : (b : Bool) → b ≡ not (not b)
not_not true = refl
not_not false = refl

-- the negation of a true literal is false
negation_false : (e : Evaluated) (l : Literal) → IsTrueIn e l → IsFalseIn e (negation l)
negation_false e l h = record { known = h.known; value = h.value ∙ not_not l.positive }

-- The row's clause for its first false literal, or for none, leaves one value: whether it hits.
pub forced_row : (e : Evaluated) (hit : ℕ) (asked : Lits) (hits : Bool) (n : ℕ) → IsRowValue e asked hits n
    → (n < length (hit_clauses hit asked)) × IsForced e (literal hit hits) (get_or (hit_clauses hit asked) n [])
forced_row e hit asked true n h =
    let pairs : List Lits = map (λ l. negative hit ∷ l ∷ []) asked in
    let last : Lits = positive hit ∷ map negation asked in
    let many = length-map asked (λ l. negative hit ∷ l ∷ []) in
    let all = length-append pairs (last ∷ []) in
    let count = h.0 in
    let there : get_or (hit_clauses hit asked) n [] ≡ last =
    ap (λ k. get_or (hit_clauses hit asked) k []) (let same : n ≡ length pairs = omega arith in same) ∙ get_or-append_seam pairs last [] [] in
    let forced : IsForced e (literal hit true) last = record {
      implied = inl refl;
      others = λ m here. elim here [
        | inl same ↦ inl (sym same)
        | inr other ↦ let own = negated_in asked m other in inr (subst (IsFalseIn e) (sym own.2) (negation_false e own.0 (h.1 own.0 own.1)))
      ];
    } in
    (omega arith, subst (IsForced e (literal hit true)) (sym there) forced)
forced_row e hit asked false n h =
    let pair = λ (l : Literal). negative hit ∷ l ∷ [] in
    let pairs : List Lits = map pair asked in
    let last : Lits = positive hit ∷ map negation asked in
    let many = length-map asked pair in
    let all = length-append pairs (last ∷ []) in
    let less = h.0 in
    let d : Literal = positive hit in
    let l : Literal = get_or asked n d in
    let there : get_or (hit_clauses hit asked) n [] ≡ negative hit ∷ l ∷ [] =
    get_or_append_left pairs (last ∷ []) [] n (omega arith) ∙ get_or-map pair asked n d [] less in
    let forced : IsForced e (literal hit false) (negative hit ∷ l ∷ []) = record {
      implied = inl refl;
      others = λ m here. elim here [
        | inl same ↦ inl (sym same)
        | inr other ↦ elim other [ inl same ↦ inr (subst (IsFalseIn e) same (h.1 d)) | inr none ↦ absurd none ]
      ];
    } in
    (omega arith, subst (IsForced e (literal hit false)) (sym there) forced)

-- ---- one literal that a mark asks

-- a bit that differs from another is its negation
differs : (a b : Bool) → a ≢ b → a ≡ not b
differs true true h = absurd (h refl)
differs true false h = refl
differs false true h = refl
differs false false h = absurd (h refl)

-- its variable has a value where that of the signal has
asked_known : (e : Evaluated) (ss : List ℕ) (i : ℕ) (m : Mark) (l : Literal) → i < length ss → AreKnown e ss
    → mark_literals m (get_or ss i 0) ≡ l ∷ [] → Has e.order l.variable
asked_known e ss i m l lt known one =
    subst (Has e.order) (sym (mark_variable m (get_or ss i 0) l one)) (known (get_or ss i 0) (Has-get_or ss i 0 lt))

-- where the signal's value is the sign of the literal, the literal is true
pub asked_true : (e : Evaluated) (ss : List ℕ) (i : ℕ) (m : Mark) (l : Literal) (value : Bool) → i < length ss → AreKnown e ss
    → mark_literals m (get_or ss i 0) ≡ l ∷ [] → value ≡ value_of e.values l.variable → value ≡ l.positive → IsTrueIn e l
asked_true e ss i m l value lt known one read same = record { known = asked_known e ss i m l lt known one; value = sym read ∙ same }

-- where it is the other, the literal is false
pub asked_false : (e : Evaluated) (ss : List ℕ) (i : ℕ) (m : Mark) (l : Literal) (value : Bool) → i < length ss → AreKnown e ss
    → mark_literals m (get_or ss i 0) ≡ l ∷ [] → value ≡ value_of e.values l.variable → value ≢ l.positive → IsFalseIn e l
asked_false e ss i m l value lt known one read other = record {
  known = asked_known e ss i m l lt known one;
  value = sym read ∙ differs value l.positive other;
}

-- what the test of a value against a sign says
pub not_equal : (a b : Bool) → not (beq a b) ≡ true → a ≢ b
not_equal true true e h = cc
not_equal true false e h = cc
not_equal false true e h = cc
not_equal false false e h = cc

-- and what the same test says where it fails
pub equal : (a b : Bool) → not (beq a b) ≡ false → a ≡ b
equal true true e = refl
equal true false e = absurd (cc)
equal false true e = absurd (cc)
equal false false e = refl
