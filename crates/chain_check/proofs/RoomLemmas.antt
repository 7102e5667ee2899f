-- What a room knows of the clauses before a place, one clause after another.
use Rattle.std.proofs.Common.{◌≡◌, ◌≢◌, ℕ, zero, suc, ◌+◌, ◌-◌, ◌*◌, ◌<◌, ◌≤◌, ◌↔◌, ◌⊎◌, inl, inr, List, [], ◌∷◌, length, get_or, set, take, min, Option, Some, None, IfNone, IfSome, refl, sym, ◌∙◌, subst, arith, add-one, get_or-set_other}
use Rattle.std.proofs.lemmas.Bool.{cases_lt}
use Rattle.std.proofs.Math.Nat.{mul-le-mul_left, le-min}
use Rattle.clause_defs.specs.Literals.{Literal}
use Rattle.clause_defs.specs.Clauses.{Lits, Has, SameSet, IsOrdered, WithinVariables}
use Rattle.clause_defs.specs.Resolution.{Resolves}
use Rattle.clause_defs.specs.Traces.{Entry, IsTrace, IsCompactAt, literals_in, stated_at, lits_at, antecedents_at, index_at, AntecedentsAreEarlier}
use Rattle.clause_defs.specs.TraceClauses.{LitsOf, computed_before}
use Rattle.clause_defs.specs.Verdicts.{ClauseFault, EndsEmpty}
use Rattle.clause_defs.specs.declared.verdict.ChainError.{ChainError}
use Rattle.clause_defs.specs.declared.verdict.Verdict.{Verdict}
use Rattle.chain_check.specs.Known.{literals_at, antecedents_known, AreLiteralsOf, AreOver, IsKnownBefore, signs_before}
use Rattle.chain_check.specs.Rooms.{IsRoomFor, KnowsBefore}
use Rattle.chain_check.specs.declared.room.Room.{Room}
use Rattle.chain_check.proofs.ClauseLists.{Has-take_more, has_cases}
use Rattle.chain_check.proofs.EndLemmas.{place_from}
use Rattle.chain_check.proofs.KnownLemmas.{known_stated, known_computed, over_length, lits_computed, computed_more, computed_stated, signs_stated, signs_sign, signs-mono, there, stated_right, stated_other}

-- what holds in each case holds where there is no fault
pub if_none : {V X : Type 0} (r : Option V) → X → IfNone r X
if_none None x = x
if_none (Some v) x = tt

-- what a room knows doesn't depend on its marks, nor on its room for a clause
pub knows_same : (t : List Entry) (k : ℕ) (room other : Room) → other.limit ≡ room.limit → other.marks.variables ≡ room.marks.variables
    → other.computed ≡ room.computed → KnowsBefore t room k → KnowsBefore t other k
knows_same t k room other limit variables computed knows = record {
  known = subst (λ v. IsKnownBefore t v other.computed.clauses k) (sym variables) (subst (λ c. IsKnownBefore t room.marks.variables c.clauses k) (sym computed) knows.known);
  later = subst (λ c. (p : ℕ) → k ≤ p → get_or c.clauses p [] ≡ []) (sym computed) knows.later;
  total = subst (λ c. c.total ≡ computed_before t k) (sym computed) knows.total;
  within = subst (λ l. other.computed.total ≤ l) (sym limit) (subst (λ c. c.total ≤ room.limit) (sym computed) knows.within);
  narrow = subst (λ v. other.computed.total ≤ 2 * v * signs_before t k) (sym variables) (subst (λ c. c.total ≤ 2 * room.marks.variables * signs_before t k) (sym computed) knows.narrow);
}

-- one more clause with stated literals
pub knows_stated : (t : List Entry) (k : ℕ) (room : Room) (c : Lits) → stated_at t k ≡ Some c → KnowsBefore t room k → KnowsBefore t room (k + 1)
knows_stated t k room c e knows = rw add-one (record {
  known = known_stated t room.marks.variables room.computed.clauses k knows.known c e (knows.later k (omega arith));
  later = λ p le. knows.later p (omega arith);
  total = knows.total ∙ sym (computed_stated t k c e);
  within = knows.within;
  narrow = subst (λ s. room.computed.total ≤ 2 * room.marks.variables * s) (sym (signs_stated t k c e)) knows.narrow;
})

-- an original has stated literals
pub original_stated : (t : List Entry) (k : ℕ) → IsTrace t → k < length t → antecedents_at t k ≡ [] → stated_at t k ≡ Some (lits_at t k)
original_stated t k is within none = there (stated_at t k) (λ sign. is.derived k within sign none)

-- a clause over v variables with s others of them has room for 2 v (s + 1) literals
narrow_more : (v s a b : ℕ) → a ≤ 2 * v * s → b ≤ 2 * v → a + b ≤ 2 * v * (s + 1)
narrow_more v s a b h k = let more : 2 * v * (s + 1) ≡ 2 * v * s + 2 * v = omega arith in omega arith

-- ---- the clause of a chain, where the room knows the clauses before

module _ (t : List Entry) (k : ℕ) (room : Room) (is : IsTrace t) (within : k < length t) (for : IsRoomFor t room) (knows : KnowsBefore t room k)
    (s : Lits) (chain : Resolves (antecedents_known t room.computed.clauses k) s) (ordered : IsOrdered s) where
  -- each literal that the chain came to is of an antecedent
  pub chain_place : (l : Literal) → Has s l → (p : ℕ) × Has (antecedents_at t k) p × Has (literals_at t room.computed.clauses p) l
  chain_place l h = place_from (literals_at t room.computed.clauses) (antecedents_at t k) s l chain h

  -- what the chain came to is over the variables of the marks
  pub chain_over : AreOver room.marks.variables s
  chain_over l h = let p = chain_place l h in knows.known.over p.0 l p.2

  -- so it has at most two literals for each of them
  pub chain_length : length s ≤ 2 * room.marks.variables
  chain_length = over_length s room.marks.variables ordered chain_over

  module _ (sign : IsCompactAt t k) where
    -- with it the computed clauses have at most two literals for each variable and each of them
    total_narrow : room.computed.total + length s ≤ 2 * room.marks.variables * signs_before t (suc k)
    total_narrow =
        subst (λ n. room.computed.total + length s ≤ 2 * room.marks.variables * n) (sym (signs_sign t k sign))
        (narrow_more room.marks.variables (signs_before t k) room.computed.total (length s) knows.narrow chain_length)

    -- there is room for it
    pub chain_fits : room.computed.total + length s ≤ room.limit → room.computed.total + length s ≤ room.computed.room
    chain_fits few =
        let all = signs-mono t (suc k) (length t) (omega arith) in
        let most : 2 * room.marks.variables * signs_before t (suc k) ≤ 2 * room.marks.variables * signs_before t (length t) = mul-le-mul_left (2 * room.marks.variables) all in
        let one = total_narrow in
        let small : room.computed.total + length s ≤ 2 * room.marks.variables * signs_before t (length t) = omega arith in
        let least : room.computed.total + length s ≤ min room.limit (2 * room.marks.variables * signs_before t (length t)) = le-min few small in
        let there = for.computed in omega arith

    -- then one more clause is known
    pub knows_computed : (ls : Lits) (other : Room) → other.limit ≡ room.limit → other.marks.variables ≡ room.marks.variables
        → other.computed.clauses ≡ set room.computed.clauses k ls → other.computed.total ≡ room.computed.total + length s
        → SameSet ls s → length ls ≡ length s → room.computed.total + length s ≤ room.limit → KnowsBefore t other (k + 1)
    knows_computed ls other limit variables clauses total same long few = rw add-one (record {
      known = subst (λ v. IsKnownBefore t v other.computed.clauses (suc k)) (sym variables)
          (subst (λ c. IsKnownBefore t room.marks.variables c (suc k)) (sym clauses)
          (known_computed t room.marks.variables room.computed.clauses k knows.known ls s
          (lits_computed [] t 0 k room.marks.variables room.computed.clauses is.earlier knows.known (is.derived k within sign) s chain ordered sign)
          same long (λ l h. chain_over l ((same l).0 h)) sign (for.places k sign)));
      later = subst (λ c. (p : ℕ) → suc k ≤ p → get_or c p [] ≡ []) (sym clauses)
          (λ p le. get_or-set_other room.computed.clauses k p ls [] (λ e. omega arith) ∙ knows.later p (omega arith));
      total = total ∙ (let more = computed_more [] t 0 k room.marks.variables room.computed.clauses is.earlier knows.known (is.derived k within sign) s chain ordered sign in let before = knows.total in omega arith);
      within = omega arith;
      narrow = subst (λ n. n ≤ 2 * other.marks.variables * signs_before t (suc k)) (sym total) (subst (λ v. room.computed.total + length s ≤ 2 * v * signs_before t (suc k)) (sym variables) total_narrow);
    })

-- ---- the clause of a chain, over literals within the variables

module _ (t : List Entry) (k variables : ℕ) (computed : List Lits) (over : (p : ℕ) → AreOver variables (literals_at t computed p))
    (s : Lits) (chain : Resolves (antecedents_known t computed k) s) where
  -- each literal that the chain came to is of an antecedent
  pub aside_place : (l : Literal) → Has s l → (p : ℕ) × Has (antecedents_at t k) p × Has (literals_at t computed p) l
  aside_place l h = place_from (literals_at t computed) (antecedents_at t k) s l chain h

  -- what the chain came to is over the variables
  pub aside_over : AreOver variables s
  aside_over l h = let p = aside_place l h in over p.0 l p.2

  -- so it has at most two literals for each of them
  pub aside_length : IsOrdered s → length s ≤ 2 * variables
  aside_length ordered = over_length s variables ordered aside_over

-- ---- the last clause

-- the literals known of a clause are none just where the clause is empty
ends_with : (o : Option Lits) (ls : Lits) → AreLiteralsOf o ls → (ls ≡ [] → o ≡ Some []) × (o ≡ Some [] → ls ≡ [])
ends_with None ls are = absurd are
ends_with (Some []) [] are = (λ e. refl, λ e. refl)
ends_with (Some []) (l ∷ ls) are = absurd ((are.0 l).0 (inl refl))
ends_with (Some (m ∷ ms)) [] are = absurd ((are.0 m).1 (inl refl))
ends_with (Some (m ∷ ms)) (l ∷ ls) are = (λ e. absurd cc, λ e. absurd cc)

-- the last clause's known literals are none just where the trace ends with the empty clause
pub last_empty : (t : List Entry) (room : Room) → KnowsBefore t room (length t) → 0 < length t
    → (literals_at t room.computed.clauses (length t - 1) ≡ [] → EndsEmpty t) × (EndsEmpty t → literals_at t room.computed.clauses (length t - 1) ≡ [])
last_empty t room knows some =
    let last = ends_with (LitsOf t (length t - 1)) (literals_at t room.computed.clauses (length t - 1)) (knows.known.literals (length t - 1) (omega arith)) in
    (λ e. (some, last.0 e), λ h. last.1 h.1)

-- ---- a clause moved out of the marks

module _ (s o r o2 r2 c : Lits) where
  -- what was moved and what is left are, behind one more antecedent, still the running clause
  pub split_more : ((x : Literal) → Has s x ↔ (Has o x ⊎ Has r x)) → ((x : Literal) → Has r2 x ↔ (Has r x × (Has c x → ⊥)))
      → ((x : Literal) → Has o2 x ↔ (Has o x ⊎ (Has r x × Has c x))) → (x : Literal) → Has s x ↔ (Has o2 x ⊎ Has r2 x)
  split_more split left moved x = (
    λ h. elim ((split x).0 h) [
      | inl k ↦ inl ((moved x).1 (inl k))
      | inr k ↦ elim (has_cases c x) [ inl here ↦ inl ((moved x).1 (inr (k, here))) | inr gone ↦ inr ((left x).1 (k, gone)) ]
    ],
    λ h. elim h [
      | inl k ↦ elim ((moved x).0 k) [ inl j ↦ (split x).1 (inl j) | inr j ↦ (split x).1 (inr j.0) ]
      | inr k ↦ (split x).1 (inr ((left x).0 k).0)
    ],
  )

-- what is left of the running clause behind one more antecedent is in none of those gone through
pub gone_more : (g : ℕ → Lits) (r r2 : Lits) (ps : List ℕ) (i p : ℕ) → i < length ps → p ≡ get_or ps i p
    → ((x : Literal) → Has r2 x ↔ (Has r x × (Has (g p) x → ⊥)))
    → ((x : Literal) → Has r x → (q : ℕ) → Has (take i ps) q → Has (g q) x → ⊥)
    → (x : Literal) → Has r2 x → (q : ℕ) → Has (take (i + 1) ps) q → Has (g q) x → ⊥
gone_more g r r2 ps i p lt read left gone x h q in_ps there =
    let k = (left x).0 h in
    elim ((Has-take_more ps i p q lt read).0 in_ps) [
      | inl before ↦ gone x k.0 q before there
      | inr own ↦ k.1 (let G : ℕ → Type 0 = λ n. Has (g n) x in subst G (sym own) there)
    ]

-- where nothing is left, all was moved
pub all_moved : (s o r : Lits) → ((x : Literal) → Has s x ↔ (Has o x ⊎ Has r x)) → r ≡ [] → SameSet o s
all_moved s o r split none x = (
  λ h. (split x).1 (inl h),
  λ h. elim ((split x).0 h) [ inl k ↦ k | inr k ↦ absurd (let nothing : Has [] x = subst (λ c. Has c x) none k in nothing) ],
)

-- what a clause with stated literals differs in, if it does, is its fault
module _ (f : List Lits) (t : List Entry) (k w variables : ℕ) (computed : List Lits) (earlier : AntecedentsAreEarlier t)
    (known : IsKnownBefore t variables computed k) (derived : antecedents_at t k ≢ []) (s : Lits) (chain : Resolves (antecedents_known t computed k) s)
    (stated : stated_at t k ≡ Some (lits_at t k)) where
  -- a chain that comes to the stated set or another one gives the clause no fault or that one
  pub differs_fault : (r : Option Verdict) → IfNone r (SameSet s (lits_at t k))
      → IfSome r (λ v. (v ≡ Verdict.Chain (ChainError.Other (index_at t k))) × (SameSet s (lits_at t k) → ⊥)) → ClauseFault f t w k r
  differs_fault None same other = stated_right f t w k variables computed earlier known derived s chain (lits_at t k) stated same
  differs_fault (Some v) same other =
      subst (λ u. ClauseFault f t w k (Some u)) (sym other.0)
      (stated_other f t w k variables computed earlier known derived s chain (lits_at t k) stated other.1)

-- ---- a new room

-- behind its end a trace states no literals
pub past_end : (t : List Entry) (p : ℕ) → length t ≤ p → stated_at t p ≡ Some []
past_end [] p le = refl
past_end (e ∷ es) zero le = absurd (omega arith)
past_end (e ∷ es) (suc p) le = past_end es p (omega arith)

-- each clause of a trace is over the variables that bound its literals
pub over_all : (t : List Entry) (variables : ℕ) → IsTrace t → ((p : ℕ) → WithinVariables variables (lits_at t p)) → (p : ℕ) → AreOver variables (lits_at t p)
over_all t variables is within p l h = elim (cases_lt p (length t)) [
  | inl lt ↦ (((is.clauses p lt).literals l h).0, within p l h)
  | inr past ↦ absurd (let none : Has [] l = subst (λ o. Has (literals_in o) l) (past_end t p past) h in none)
]

-- a clause with the sign stands in the trace, and is counted
pub sign_within : (t : List Entry) (p : ℕ) → IsCompactAt t p → p < length t
sign_within t p sign = elim (cases_lt p (length t)) [ inl lt ↦ lt | inr past ↦ absurd (let e = past_end t p past in cc) ]

-- a trace in which a clause has the sign counts one at least
pub sign_counted : (t : List Entry) (p : ℕ) → IsCompactAt t p → 1 ≤ signs_before t (length t)
sign_counted t p sign =
    let within = sign_within t p sign in
    let own = signs_sign t p sign in
    let all = signs-mono t (suc p) (length t) (omega arith) in omega arith
