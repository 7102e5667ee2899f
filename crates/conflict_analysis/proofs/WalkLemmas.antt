-- One place further down the trail.
use Rattle.std.proofs.Common.{◌≡◌, ◌≢◌, ℕ, zero, suc, ◌+◌, ◌-◌, ◌<◌, ◌≤◌, inl, inr, List, [], ◌∷◌, length, take, get_or, refl, sym, ◌∙◌, ap, subst, arith}
use Rattle.std.proofs.lemmas.List.{get_or_default}
use Rattle.clause_defs.specs.Literals.{Literal, negation, code}
use Rattle.clause_defs.specs.Clauses.{Lits, Has, IsOrdered, WithinVariables}
use Rattle.clause_laws.proofs.LiteralLemmas.{literal_cases}
use Rattle.chain_check.proofs.ClauseLists.{Has-take, Has-take_more, negation_swap}
use Rattle.log_defs.specs.Logs.{LogValue}
use Rattle.trail_defs.specs.Assignments.{IsAt, Implies, IsAssignmentOf}
use Rattle.conflict_chain.specs.Conflicts.{Chained, IsChainAt, IsSplit, AreOthersOf}
use Rattle.conflict_chain.proofs.StepLemmas.{at_has}
use Rattle.conflict_analysis.specs.Analyses.{level_in, reason_in, IsReasonAt, IsReasoned}
use Rattle.conflict_analysis.specs.Walks.{IsToOne, IsToFew}

-- a list with a member isn't empty
pub some_length : (c : Lits) (x : Literal) → Has c x → 1 ≤ length c
some_length [] x h = absurd h
some_length (l ∷ ls) x h = omega arith

-- a list that isn't empty has a member
pub some_member : (c : Lits) → 1 ≤ length c → (x : Literal) × Has c x
some_member [] h = absurd (omega arith)
some_member (l ∷ ls) h = (l, inl refl)

-- two literals in their order aren't both x
pub other_than : (c : Lits) (x : Literal) → IsOrdered c → 1 < length c → (y : Literal) × Has c y × (y ≢ x)
other_than [] x ordered two = absurd (omega arith)
other_than (l ∷ []) x ordered two = absurd (omega arith)
other_than (l ∷ m ∷ ls) x ordered two =
    elim (literal_cases l x) [
      | inl same ↦ (m, inr (inl refl), λ e. (let less = ordered.0 m (inl refl) in let equal = ap code (same ∙ sym e) in absurd (omega arith)))
      | inr other ↦ (l, inl refl, other)
    ]

-- one literal alone
pub alone : (c : Lits) → length c ≡ 1 → (x y : Literal) → Has c x → Has c y → x ≡ y
alone [] one x y h k = absurd h
alone (l ∷ []) one x y (inl e) (inl f) = sym e ∙ f
alone (l ∷ []) one x y (inl e) (inr k) = absurd k
alone (l ∷ []) one x y (inr h) k = absurd h
alone (l ∷ m ∷ ls) one x y h k = absurd (omega arith)

-- a member of the first i shows that there is one
pub place_above : (t : Lits) (i : ℕ) (x : Literal) → Has (take i t) x → 0 < i
place_above t zero x h = absurd h
place_above t (suc i) x h = omega arith

-- while some are left, there is a place below
pub to_one_positive : (log : LogValue) (level : ℕ) (trail : Lits) (levels : List ℕ) (i : ℕ) (r : Chained) → IsToOne log level trail levels i r → 0 < i
to_one_positive log level trail levels i r h =
    let some = some_member r.present h.some in place_above trail i (negation some.0) (h.below some.0 some.1)

-- one literal stands at a place
pub at_same : (t : Lits) (i : ℕ) (l m : Literal) → IsAt t i l → IsAt t i m → m ≡ l
at_same t i l m at also = also.read ∙ sym (get_or_default t i l m also.within) ∙ get_or_self t i l at
  where
    get_or_self : (t : Lits) (i : ℕ) (l : Literal) → IsAt t i l → get_or t i l ≡ l
    get_or_self t i l at = sym at.read

-- the variables of an implied clause have values
pub reason_within : (variables : ℕ) (trail : Lits) (i : ℕ) (l : Literal) (c : Lits) → IsAssignmentOf variables trail → IsAt trail i l
    → Implies (take i trail) c l → WithinVariables variables c
reason_within variables trail i l c known at reason m h =
    elim (literal_cases m l) [
      | inl same ↦ subst (λ (x : Literal). x.variable ≤ variables) (sym same) (known.literals l (at_has trail i l at)).1
      | inr other ↦ (known.literals (negation m) (Has-take trail i (negation m) (reason.others m h other))).1
    ]

module _ (log : LogValue) (present : ℕ) (trail : Lits) (levels reasons indices : List ℕ) (reasoned : IsReasoned log present trail levels reasons indices) (i : ℕ) (l : Literal) (at : IsAt trail i l) where
  -- what stands before the next place, and isn't l
  before : (x : Literal) → Has (take (i + 1) trail) x → x ≢ l → Has (take i trail) x
  before x h other = elim ((Has-take_more trail i l x at.within at.read).0 h) [ inl k ↦ k | inr e ↦ absurd (other (sym e)) ]

  module _ (level : ℕ) (r : Chained) (split : IsSplit levels level r) where
    -- the level of a present literal, and of its negation
    own_level : (x : Literal) → Has r.present x → level_in levels (negation x) ≡ level
    own_level x h = (split.by_level x (split.running x h)).0 h

    -- where another one is left, l was implied
    pub was_implied : ((x : Literal) → Has r.present x → Has (take (i + 1) trail) (negation x)) → IsOrdered r.present → 1 < length r.present
        → Has r.present (negation l) → reason_in reasons l ≢ 0
    was_implied below ordered two there none =
        let other = other_than r.present (negation l) ordered two in
        let x = other.0 in
        let earlier = before (negation x) (below x other.1) (λ e. other.2 (negation_swap x l e)) in
        reasoned.decided i l (negation x) at none earlier (own_level x other.1 ∙ sym (own_level (negation l) there))

    -- and its reason is a clause of the log
    pub one_reason : ((x : Literal) → Has r.present x → Has (take (i + 1) trail) (negation x)) → IsOrdered r.present → 1 < length r.present
        → Has r.present (negation l) → (index : ℕ) → index ≡ get_or indices (reason_in reasons l) 0 → IsReasonAt log trail i index
    one_reason below ordered two there index e =
        subst (IsReasonAt log trail i) (sym e) (reasoned.implied i l at (was_implied below ordered two there))

  -- a place that the running clause doesn't meet
  pub to_one_pass : (level : ℕ) (r : Chained) → IsToOne log level trail levels (i + 1) r → (Has r.present (negation l) → ⊥)
      → IsToOne log level trail levels i r
  to_one_pass level r h none = record {
    within = let w = h.within in omega arith;
    chain = record { chain = h.chain.chain; all_false = h.chain.all_false; few = let few = h.chain.few in omega arith };
    split = h.split;
    some = h.some;
    below = λ x k. before (negation x) (h.below x k) (λ e. none (subst (Has r.present) (negation_swap x l e) k));
  }

  -- one that it meets
  pub to_one_more : (level : ℕ) (r s : Chained) (c : Lits) → IsToOne log level trail levels (i + 1) r → IsOrdered r.present → 1 < length r.present
      → Has r.present (negation l) → Implies (take i trail) c l → IsChainAt log trail i s → IsSplit levels level s → AreOthersOf r.lits c l s.lits
      → IsToOne log level trail levels i s
  to_one_more level r s c h ordered two there reason chain split others =
      let other = other_than r.present (negation l) ordered two in
      let x = other.0 in
      let stays = (others x).1 (inl (h.split.running x other.1, other.2)) in
      record {
        within = let w = h.within in omega arith;
        chain = chain;
        split = split;
        some = some_length s.present x ((split.by_level x stays).1 ((h.split.by_level x (h.split.running x other.1)).0 other.1));
        below = λ y k.
            let here = split.running y k in
            elim ((others y).0 here) [
              | inl old ↦
                  let was = (h.split.by_level y old.0).1 ((split.by_level y here).0 k) in
                  before (negation y) (h.below y was) (λ e. old.1 (negation_swap y l e))
              | inr new ↦ reason.others y new.0 new.1
            ];
      }

  -- a place that the second walk leaves as it is
  pub to_few_pass : (level : ℕ) (r : Chained) (p : Lits) → IsToFew log level trail levels p (i + 1) r
      → (Has r.lits (negation l) → level_in levels l ≢ 0) → IsToFew log level trail levels p i r
  to_few_pass level r p h high = record {
    within = let w = h.within in omega arith;
    chain = record { chain = h.chain.chain; all_false = h.chain.all_false; few = let few = h.chain.few in omega arith };
    split = h.split;
    roots = λ x k root.
        before (negation x) (h.roots x k root)
        (λ e. high (subst (Has r.lits) (negation_swap x l e) k) (sym (ap (level_in levels) e) ∙ root));
    same = h.same;
  }

  -- one whose literal it resolves away
  pub to_few_more : (level : ℕ) (r s : Chained) (c p : Lits) → present ≤ level → IsToFew log level trail levels p (i + 1) r
      → Has r.lits (negation l) → (Has r.present (negation l) → ⊥) → Implies (take i trail) c l
      → IsChainAt log trail i s → IsSplit levels level s → AreOthersOf r.lits c l s.lits → IsToFew log level trail levels p i s
  to_few_more level r s c p high h there lower reason chain split others =
      let below_level : level_in levels l < level =
      let top = reasoned.top l (at_has trail i l at) in
      let differs : level_in levels l ≢ level = λ e. lower ((h.split.by_level (negation l) there).1 e) in
      omega arith in
      record {
        within = let w = h.within in omega arith;
        chain = chain;
        split = split;
        roots = λ x k root. elim ((others x).0 k) [
          | inl old ↦ before (negation x) (h.roots x old.0 root) (λ e. old.1 (negation_swap x l e))
          | inr new ↦ reason.others x new.0 new.1
        ];
        same = λ x. (
          λ k.
              let here = split.running x k in
              let own = (split.by_level x here).0 k in
              elim ((others x).0 here) [
                | inl old ↦ (h.same x).0 ((h.split.by_level x old.0).1 own)
                | inr new ↦
                    let rising = reasoned.rising i l (negation x) at (reason.others x new.0 new.1) in
                    absurd (let e : level_in levels x ≡ level = own in omega arith)
              ],
          λ k.
              let was = (h.same x).1 k in
              let old = h.split.running x was in
              let own = (h.split.by_level x old).0 was in
              let stays = (others x).1 (inl (old, λ e. lower (subst (Has r.present) e was))) in
              (split.by_level x stays).1 own,
        );
      }

-- where the running clause meets the literal at the next place, and another one, its reason is a clause of the log
pub next_reason : (log : LogValue) (present : ℕ) (trail : Lits) (levels reasons indices : List ℕ) → IsReasoned log present trail levels reasons indices
    → (i : ℕ) (r : Chained) → IsToOne log present trail levels i r → (l : Literal) → IsAt trail (i - 1) l → IsOrdered r.present → 1 < length r.present
    → Has r.present (negation l) → (index : ℕ) → index ≡ get_or indices (reason_in reasons l) 0 → IsReasonAt log trail (i - 1) index
next_reason log present trail levels reasons indices reasoned i r walk l at ordered two there index e =
    let low = to_one_positive log present trail levels i r walk in
    let here : IsToOne log present trail levels (i - 1 + 1) r = subst (λ n. IsToOne log present trail levels n r) (omega arith) walk in
    one_reason log present trail levels reasons indices reasoned (i - 1) l at present r here.split here.below ordered two there index e

-- the second walk is one place above the next one
pub few_next : (log : LogValue) (level : ℕ) (trail : Lits) (levels : List ℕ) (p : Lits) (i : ℕ) (r : Chained) → 0 < i
    → IsToFew log level trail levels p i r → IsToFew log level trail levels p (i - 1 + 1) r
few_next log level trail levels p i r low walk = subst (λ n. IsToFew log level trail levels p n r) (omega arith) walk
