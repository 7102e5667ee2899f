-- Branches of the search.
use Rattle.std.proofs.Common.{◌≡◌, ℕ, zero, suc, ◌+◌, ◌-◌, ◌*◌, ◌^◌, ◌==◌, ◌<◌, ◌≤◌, ◌⊎◌, inl, inr, Bool, true, false, not, Result, Ok, Err, List, [], ◌∷◌, ◌++◌, length, get_or, set, map, take, refl, sym, ◌∙◌, ap, subst, arith, pow-suc, length-append, length-set}
use Rattle.std.proofs.lemmas.Bool.{cases_lt}
use Rattle.log_laws.proofs.TraceOfLemmas.{Has-get_or}
use Rattle.leaf_chain.specs.Growing.{IsWithout, with_implied}
use Rattle.miter_values.specs.Growing.{IsFalseIn, IsForced, Grows}
use Rattle.std.proofs.lemmas.List.{get_or-set_same, get_or-set_other, append-nil, map-append, append_assoc, get_or_append_left}
use Rattle.clause_defs.specs.Literals.{Literal}
use Rattle.clause_defs.specs.Clauses.{Lits, Has, clause_of}
use Rattle.log_defs.specs.Logs.{lits_of, all_clauses, clause_of_log, LogValue, Words, IsIndexOf, HasDerived, Extends}
use Rattle.log_laws.proofs.LogLemmas.{clause_with-original}
use Rattle.chain_check.proofs.ClauseLists.{Has-take_more}
use Rattle.leaf_defs.specs.Evaluated.{Evaluated, value_of, variable_at, false_literal, IsFalseAmong, IsReason, IsEvaluated, clause_numbered}
use Rattle.leaf_chain.specs.Leaves.{IsEvaluatedIn, IsLeaf, IsLeafSpent, LeafEnds, leaf_words}
use Rattle.log_defs.specs.declared.log_end.LogEnd.{LogEnd}
use Rattle.log_defs.specs.declared.log_end.LogEnd.TheVariants.{Kept, Spent as OverBudget}
use Rattle.leaf_chain.proofs.RunningLemmas.{place_in_take}
use Rattle.miter_cnf.specs.Circuits.{Circuits}
use Rattle.miter_defs.specs.Numberings.{signal_variable, variable_count}
use Rattle.miter_defs.specs.Miters.{literal, Miter, circuit_clauses, some_difference}
use Rattle.miter_places.specs.Places.{number_of_last}
use Rattle.miter_places.proofs.NumberLaws.{length-Miter, last_clause}
use Rattle.miter_values.specs.Parts.{circuits_of, bit_of, AreChosen}
use Rattle.miter_values.proofs.ClauseNumbers.{circuits-count}
use Rattle.tree_defs.specs.Trees.{HasNoEmpty, IsRefuted, TreeEnds}
use Rattle.clause_defs.specs.Formulas.{Formula}
use Rattle.fabric_defs.specs.Configurations.{ConfigValue, IsConfig}
use Rattle.cell_defs.specs.Sources.{AreCellsOf}
use Rattle.pch_base.specs.BitLists.{bits_of}
use Rattle.pch_base.specs.BitWords.{length-bits_of}
use Rattle.pch_base.proofs.BitLemmas.{bits_of-small}
use Rattle.tree_refute.specs.Branches.{most_words, branch_words, IsUnder, IsBranch, IsCut, IsOfMiter, HasVariable, BranchEnds, ended, room_below}
use Rattle.fabric_defs.specs.Bits.{IsBits}
use Rattle.std.proofs.Math.Nat.{add-mul}
use Rattle.tree_defs.specs.Budgets.{Enough}
use Rattle.tree_defs.specs.declared.tree_end.TreeEnd.{TreeEnd}
use Rattle.tree_defs.specs.declared.tree_end.TreeEnd.TheVariants.{Empty, Differs, Spent}

-- an evaluation by the first clauses of a list is one by all of them
pub evaluated_more : (f g : List Lits) (e : Evaluated) → IsEvaluated f e → IsEvaluated (f ++ g) e
evaluated_more f g e h = record {
  within = h.within;
  distinct = h.distinct;
  chosen_first = h.chosen_first;
  chosen_ordered = h.chosen_ordered;
  as_many = h.as_many;
  numbers = λ i le lt. let range = h.numbers i le lt in let high = range.1 in (range.0, omega (arith, length-append f g));
  reasons = λ i le lt.
      let range = h.numbers i le lt in
      let low = range.0 in
      let high = range.1 in
      subst (IsReason e.values (take i e.order) (variable_at e.order i))
      (sym (get_or_append_left f g [] (get_or e.reasons i 0 - 1) (omega arith))) (h.reasons i le lt);
}

-- so it is one by the clauses of a log of the miter
pub evaluated_in : (c : Circuits) (log : LogValue) (e : Evaluated) → IsOfMiter c log → IsEvaluated (circuits_of c.net c.cells) e → IsEvaluatedIn log e
evaluated_in c log e of h =
    let last : List Lits = map clause_of (some_difference c.net c.cells ∷ []) in
    let all : all_clauses log.originals.clauses log.derived ≡ circuits_of c.net c.cells ++ (last ++ map lits_of log.derived) =
    ap (λ (fs : List Lits). fs ++ map lits_of log.derived) (ap (λ f. f.clauses) of.originals ∙ map-append clause_of (circuit_clauses c.net c.cells) (some_difference c.net c.cells ∷ []))
    ∙ append_assoc (circuits_of c.net c.cells) last (map lits_of log.derived) in
    subst (λ fs. IsEvaluated fs e) (sym all) (evaluated_more (circuits_of c.net c.cells) (last ++ map lits_of log.derived) e h)

-- the last clause of the miter in its log
pub last_in : (c : Circuits) (log : LogValue) (last : ℕ) → IsOfMiter c log → last ≡ number_of_last c.net c.cells
    → IsIndexOf log last × (clause_of_log log last ≡ clause_of (some_difference c.net c.cells))
last_in c log last of at =
    let many = ap (λ (fs : List Lits). length fs) (ap (λ f. f.clauses) of.originals) in
    let count = length-Miter c.net c.cells in
    let some = circuits-count c.net c.cells in
    let index : IsIndexOf log last = record { low = omega arith; high = omega arith } in (
      index,
      clause_with-original log.originals.clauses log.derived last (omega arith) (omega arith)
          ∙ ap (λ (fs : List Lits). clause_numbered fs last) (ap (λ f. f.clauses) of.originals)
          ∙ ap (clause_numbered (Miter c.net c.cells).clauses) at
          ∙ last_clause c.net c.cells,
    )

-- two negations cancel out
not_not : (b : Bool) → not (not b) ≡ b
not_not true = refl
not_not false = refl

-- a value is whether its bit is 1
one_is : (b : Bool) (n : ℕ) → bit_of b ≡ n → b ≡ (n == 1)
one_is true n e = rw (sym e) refl
one_is false n e = rw (sym e) refl

-- false literals of the first i inputs, which have the bits x
pub under_from : (x : List ℕ) (i : ℕ) (e : Evaluated) (k : Lits) → ((j : ℕ) → j < i → variable_at e.order j ≡ signal_variable j)
    → ((j : ℕ) → j < i → bit_of (value_of e.values (signal_variable j)) ≡ get_or x j 0) → IsFalseAmong e.values (take i e.order) k → IsUnder x i k
under_from x i e k order bits all_false l here =
    let own = all_false l here in
    let at = place_in_take e.order i l.variable own.1 in
    let variable : l.variable ≡ signal_variable at.0 = sym at.3 ∙ order at.0 at.1 in (
      at.0,
      at.1,
      own.0 ∙ ap (λ v. record { variable = v; positive = not (value_of e.values v) }) variable
          ∙ ap (λ b. record { variable = signal_variable at.0; positive = not b }) (one_is (value_of e.values (signal_variable at.0)) (get_or x at.0 0) (bits at.0 at.1)),
    )

-- a chain that ends in a clause of the first i inputs is a branch
pub leaf_branch : (c : Circuits) (x : List ℕ) (i : ℕ) (e : Evaluated) (before after : LogValue) (index : ℕ) → e.chosen ≡ i
    → ((j : ℕ) → j < i → variable_at e.order j ≡ signal_variable j) → ((j : ℕ) → j < i → bit_of (value_of e.values (signal_variable j)) ≡ get_or x j 0)
    → leaf_words e ≤ most_words c → IsLeaf e before after index → IsBranch c x i (most_words c) before after index
leaf_branch c x i e before after index chosen order bits few h = record {
  log_is = h.log_is;
  behind_originals = h.behind_originals;
  within = h.within;
  under = under_from x i e (clause_of_log after index) order bits (subst (λ n. IsFalseAmong e.values (take n e.order) (clause_of_log after index)) chosen h.chosen_alone);
  first_empty = λ none k derived. elim (h.old_or_last [] k derived) [ inl old ↦ absurd (none k old) | inr both ↦ both ];
  words = let words = h.words in omega arith;
}

-- so is one that is cut
pub leaf_cut : (c : Circuits) (e : Evaluated) (before after : LogValue) (used need : ℕ) → leaf_words e ≤ variable_count c.net c.cells + 4
    → IsLeafSpent e before after used need → IsCut c (most_words c) before after used need
leaf_cut c e before after used need few h =
    let budget = ap (λ (l : LogValue). l.budget) h.log_is in
    let derived = ap (λ (l : LogValue). Words l.derived) h.log_is in
    let is = h.used_is in
    let high = h.need_high in
    let over = h.over in
    record {
      log_is = record {
        originals = ap (λ (l : LogValue). l.originals) h.log_is;
        budget = budget;
        more = [];
        derived = ap (λ (l : LogValue). l.derived) h.log_is ∙ sym (append-nil before.derived);
      };
      used_is = is ∙ sym derived;
      need_low = h.need_low;
      need_high = omega arith;
      over = omega arith;
      scarce = omega arith;
    }

-- ---- one branch after the other

-- a later log of a later log is one
pub extends_both : (a b c : LogValue) → Extends a b → Extends b c → Extends a c
extends_both a b c p q = record {
  originals = q.originals ∙ p.originals;
  budget = q.budget ∙ p.budget;
  more = p.more ++ q.more;
  derived = q.derived ∙ ap (λ ds. ds ++ q.more) p.derived ∙ append_assoc a.derived p.more q.more;
}

-- ---- two clauses resolved on their input

-- the negation of a value by its bit
bit_back : (b : Bool) (n : ℕ) → bit_of b ≡ n → not b ≡ not (n == 1)
bit_back b n e = ap not (one_is b n e)

module _ (x : List ℕ) (i first : ℕ) (f : List Lits) (e : Evaluated) (chosen : AreChosen f x i e) (within : i < length x) (places : i + 2 < length e.values) where
  -- the evaluation in which the first clause gave input i the value 1
  abbrev pub after : Evaluated
  after = with_implied e (signal_variable i) true first

  -- input i has a place and no value yet
  pub join_without : IsWithout e (signal_variable i)
  join_without = record { low = omega arith; high = omega arith; fresh = λ h. let high = (chosen.known (signal_variable i) h).1 in absurd (omega arith) }

  -- the inputs before it have values
  join_known : (j : ℕ) → j < i → Has e.order (signal_variable j)
  join_known j lt = subst (Has e.order) (chosen.order j lt) (Has-get_or e.order j 0 (let count = chosen.count in omega arith))

  -- the first clause leaves the value 1 of the input
  pub join_forced : (k : Lits) → IsUnder (set x i 0) (i + 1) k → HasVariable k (signal_variable i) → IsForced e (literal (signal_variable i) true) k
  join_forced k under has =
      let own : (l : Literal) → Has k l → (l ≡ literal (signal_variable i) true) ⊎ IsFalseIn e l =
      λ l here.
      let at = under l here in
      elim (cases_lt at.0 i) [
        | inl below ↦ inr (subst (IsFalseIn e) (sym at.2) (record {
          known = join_known at.0 below;
          value = value_of_input at.0 below;
        }))
        | inr past ↦
            let same : at.0 ≡ i = (let lt = at.1 in omega arith) in
            inl (at.2 ∙ ap (λ j. literal (signal_variable j) (not (get_or (set x i 0) j 0 == 1))) same
            ∙ ap (λ n. literal (signal_variable i) (not (n == 1))) (get_or-set_same x i 0 0 within))
      ] in
      record {
        implied = elim (own has.0 has.1) [
          | inl same ↦ subst (Has k) same has.1
          | inr is_false ↦ (let fresh = join_without.fresh in absurd (fresh (subst (Has e.order) has.2 is_false.known)))
        ];
        others = own;
      }
    where
      value_of_input : (j : ℕ) → j < i → value_of e.values (signal_variable j) ≡ not (not (get_or (set x i 0) j 0 == 1))
      value_of_input j lt =
          one_is (value_of e.values (signal_variable j)) (get_or (set x i 0) j 0)
          (chosen.bits j lt ∙ sym (get_or-set_other x i j 0 0 (λ same. absurd (omega arith))))
          ∙ sym (not_not (get_or (set x i 0) j 0 == 1))

  -- the second clause is false then
  pub join_false : (k : Lits) → IsUnder (set x i 1) (i + 1) k → (grows : Grows f e after (λ u. u ≡ signal_variable i)) → value_of after.values (signal_variable i) ≡ true
      → IsFalseAmong after.values after.order k
  join_false k under grows value l here =
      let at = under l here in
      elim (cases_lt at.0 i) [
        | inl below ↦
            let known = join_known at.0 below in
            let same = grows.values (signal_variable at.0) known in
            let bit = one_is (value_of e.values (signal_variable at.0)) (get_or (set x i 1) at.0 0)
            (chosen.bits at.0 below ∙ sym (get_or-set_other x i at.0 1 0 (λ eq. absurd (omega arith)))) in
            let own : literal (signal_variable at.0) (not (get_or (set x i 1) at.0 0 == 1)) ≡ false_literal after.values (signal_variable at.0) =
            ap (λ b. literal (signal_variable at.0) (not b)) (sym bit ∙ sym same) in
            subst (λ (m : Literal). (m ≡ false_literal after.values m.variable) × Has after.order m.variable) (sym at.2)
            (own, (grows.known (signal_variable at.0)).1 (inl known))
        | inr past ↦
            let is : at.0 ≡ i = (let lt = at.1 in omega arith) in
            let whole : l ≡ literal (signal_variable i) false =
            at.2 ∙ ap (λ j. literal (signal_variable j) (not (get_or (set x i 1) j 0 == 1))) is
            ∙ ap (λ n. literal (signal_variable i) (not (n == 1))) (get_or-set_same x i 1 0 within) in
            let own : literal (signal_variable i) false ≡ false_literal after.values (signal_variable i) = ap (λ b. literal (signal_variable i) (not b)) (sym value) in
            subst (λ (m : Literal). (m ≡ false_literal after.values m.variable) × Has after.order m.variable) (sym whole)
            (own, (grows.known (signal_variable i)).1 (inr refl))
      ]

-- ---- one half after the other

-- what half of the first inputs' bits doesn't change
half_bit : (x y : List ℕ) (i b j : ℕ) → y ≡ set x i b → j < i → get_or y j 0 ≡ get_or x j 0
half_bit x y i b j e lt = ap (λ (ys : List ℕ). get_or ys j 0) e ∙ get_or-set_other x i j b 0 (λ same. absurd (omega arith))

-- a clause without input i is one of the inputs below
under_without : (x y : List ℕ) (i b : ℕ) (k : Lits) → y ≡ set x i b → IsUnder y (i + 1) k → (HasVariable k (signal_variable i) → ⊥) → IsUnder x i k
under_without x y i b k e under none l here =
    let at = under l here in
    elim (cases_lt at.0 i) [
      | inl below ↦ (at.0, below, at.2 ∙ ap (λ n. literal (signal_variable at.0) (not (n == 1))) (half_bit x y i b at.0 e below))
      | inr past ↦
          let same : at.0 ≡ i = (let lt = at.1 in omega arith) in
          absurd (none (l, here, ap (λ (m : Literal). m.variable) at.2 ∙ ap signal_variable same))
    ]

-- the words of a half and those above
pub room_up : (c : Circuits) (i : ℕ) → i < length c.net.inputs → room_below c i ≡ room_below c (i + 1) + room_below c (i + 1) + most_words c
room_up c i lt = ap (λ m. branch_words m (most_words c)) (let e : length c.net.inputs - i ≡ suc (length c.net.inputs - (i + 1)) = omega arith in e)

-- a branch below the last input has the room of one clause
room_end : (c : Circuits) → most_words c ≡ room_below c (length c.net.inputs)
room_end c = ap (λ m. branch_words m (most_words c)) (let e : 0 ≡ length c.net.inputs - length c.net.inputs = omega arith in e)

-- a log whose last clause isn't empty had none that is
none_after : (c : Circuits) (y : List ℕ) (i room v : ℕ) (before after : LogValue) (index : ℕ) → IsBranch c y i room before after index
    → HasVariable (clause_of_log after index) v → HasNoEmpty before → HasNoEmpty after
none_after c y i room v before after index h has none k derived =
    let at = h.first_empty none k derived in
    (derived.same has.0).0 (subst (λ n. Has (clause_of_log after n) has.0) (sym at.0) has.1)

-- the first half lacks the input
pub first_lacks : (c : Circuits) (x y : List ℕ) (i b : ℕ) (before after : LogValue) (index : ℕ) → i < length c.net.inputs → y ≡ set x i b
    → IsBranch c y (i + 1) (room_below c (i + 1)) before after index → (HasVariable (clause_of_log after index) (signal_variable i) → ⊥)
    → IsBranch c x i (room_below c i) before after index
first_lacks c x y i b before after index lt e h none = record {
  log_is = h.log_is;
  behind_originals = h.behind_originals;
  within = h.within;
  under = under_without x y i b (clause_of_log after index) e h.under none;
  first_empty = h.first_empty;
  words = let words = h.words in let room = room_up c i lt in omega arith;
}

-- the second half lacks it
pub second_lacks : (c : Circuits) (x y z : List ℕ) (i b : ℕ) (before mid after : LogValue) (first index : ℕ) → i < length c.net.inputs → z ≡ set x i b
    → IsBranch c y (i + 1) (room_below c (i + 1)) before mid first → HasVariable (clause_of_log mid first) (signal_variable i)
    → IsBranch c z (i + 1) (room_below c (i + 1)) mid after index → (HasVariable (clause_of_log after index) (signal_variable i) → ⊥)
    → IsBranch c x i (room_below c i) before after index
second_lacks c x y z i b before mid after first index lt e p has q none = record {
  log_is = extends_both before mid after p.log_is q.log_is;
  behind_originals = q.behind_originals;
  within = q.within;
  under = under_without x z i b (clause_of_log after index) e q.under none;
  first_empty = λ no. q.first_empty (none_after c y (i + 1) (room_below c (i + 1)) (signal_variable i) before mid first p has no);
  words = let first_words = p.words in let words = q.words in let room = room_up c i lt in omega arith;
}

-- an end of a half is one of the whole, where there is room for more
pub ends_later : (c : Circuits) (x y : List ℕ) (i j small room : ℕ) (before mid after : LogValue) (end : TreeEnd) → Extends before mid
    → Words mid.derived + small ≤ Words before.derived + room → BranchEnds c y j small mid (Err end) after → BranchEnds c x i room before (Err end) after
ends_later c x y i j small room before mid after (Empty index) ext le h = absurd h
ends_later c x y i j small room before mid after (Differs z) ext le h = (extends_both before mid after ext h.0, h.1)
ends_later c x y i j small room before mid after (Spent used need) ext le h = record {
  log_is = extends_both before mid after ext h.log_is;
  used_is = h.used_is;
  need_low = h.need_low;
  need_high = h.need_high;
  over = h.over;
  scarce = let scarce = h.scarce in omega arith;
}

-- both halves and the clause above them
pub join_ends : (c : Circuits) (x y z : List ℕ) (i : ℕ) (before mid both after : LogValue) (first second : ℕ) (r : Result ℕ TreeEnd) → i < length c.net.inputs
    → IsBranch c y (i + 1) (room_below c (i + 1)) before mid first → HasVariable (clause_of_log mid first) (signal_variable i)
    → IsBranch c z (i + 1) (room_below c (i + 1)) mid both second → HasVariable (clause_of_log both second) (signal_variable i)
    → BranchEnds c x i (most_words c) both r after → BranchEnds c x i (room_below c i) before r after
join_ends c x y z i before mid both after first second (Ok index) lt p has q has_too h = record {
  log_is = extends_both before both after (extends_both before mid both p.log_is q.log_is) h.log_is;
  behind_originals = h.behind_originals;
  within = h.within;
  under = h.under;
  first_empty = λ no.
      h.first_empty (none_after c z (i + 1) (room_below c (i + 1)) (signal_variable i) mid both second q has_too
      (none_after c y (i + 1) (room_below c (i + 1)) (signal_variable i) before mid first p has no));
  words = let first_words = p.words in let second_words = q.words in let words = h.words in let room = room_up c i lt in omega arith;
}
join_ends c x y z i before mid both after first second (Err end) lt p has q has_too h =
    ends_later c x x i i (most_words c) (room_below c i) before both after end (extends_both before mid both p.log_is q.log_is)
    (let first_words = p.words in let second_words = q.words in let room = room_up c i lt in omega arith) h

-- a leaf is a branch below the last input
pub leaf_whole : (c : Circuits) (x : List ℕ) (i : ℕ) (before after : LogValue) (r : Result ℕ TreeEnd) → i ≡ length c.net.inputs
    → BranchEnds c x (length c.net.inputs) (most_words c) before r after → BranchEnds c x i (room_below c i) before r after
leaf_whole c x i before after r e h =
    subst (λ n. BranchEnds c x n (room_below c n) before r after) (sym e)
    (subst (λ m. BranchEnds c x (length c.net.inputs) m before r after) (room_end c) h)

-- a member of a list with one element changed
member : (xs : List ℕ) (i b v : ℕ) → Has (set xs i b) v → Has xs v ⊎ (v ≡ b)
member [] i b v h = absurd h
member (y ∷ ys) zero b v (inl e) = inr (sym e)
member (y ∷ ys) zero b v (inr h) = inl (inr h)
member (y ∷ ys) (suc i) b v (inl e) = inl (inl e)
member (y ∷ ys) (suc i) b v (inr h) = elim (member ys i b v h) [ inl old ↦ inl (inr old) | inr same ↦ inr same ]

-- the bits of a half are bits
pub half_bits : (n : ℕ) (x y : List ℕ) (i b : ℕ) → y ≡ set x i b → b ≤ 1 → IsBits n x → IsBits n y
half_bits n x y i b e small h = subst (IsBits n) (sym e) (record {
  count = length-set x i b ∙ h.count;
  bits = λ v here. elim (member x i b v here) [ inl old ↦ h.bits v old | inr same ↦ omega arith ];
})

-- ---- words enough

-- with the words of one clause more, a branch with m inputs below it has those of 2 ^ (m + 1) clauses
branch_total : (m w : ℕ) → branch_words m w + w ≡ 2 ^ (m + 1) * w
branch_total zero w = omega arith
branch_total (suc m) w =
    let rest = branch_total m w in
    let power : 2 ^ (suc m + 1) * w ≡ 2 ^ (m + 1) * w + 2 ^ (m + 1) * w =
    ap (λ n. n * w) (let e : suc m + 1 ≡ suc (m + 1) = omega arith in ap (λ n. 2 ^ n) e ∙ pow-suc 2 (m + 1) ∙ two (2 ^ (m + 1)))
    ∙ add-mul (2 ^ (m + 1)) (2 ^ (m + 1)) w in
    omega arith
  where
    two : (n : ℕ) → n * 2 ≡ n + n
    two n = omega arith

-- the room of the whole search is at most what is enough
pub room-le-Enough : (c : Circuits) → room_below c 0 ≤ Enough (length c.net.inputs) (variable_count c.net c.cells)
room-le-Enough c =
    let total = branch_total (length c.net.inputs) (most_words c) in
    let same = ap (λ m. branch_words m (most_words c)) (let e : length c.net.inputs - 0 ≡ length c.net.inputs = omega arith in e) in
    omega arith

-- the clause has the variable or not, one literal later
pub none_more : (k : Lits) (i v : ℕ) (l : Literal) → i < length k → l ≡ get_or k i l → (HasVariable (take i k) v → ⊥) → (l.variable ≡ v → ⊥)
    → HasVariable (take (i + 1) k) v → ⊥
none_more k i v l lt read none other h = elim ((Has-take_more k i l h.0 lt read).0 h.1) [
  | inl old ↦ none (h.0, old, h.2)
  | inr same ↦ other (ap (λ (m : Literal). m.variable) same ∙ h.2)
]

-- deriving the clause of a leaf ends the branch
pub leaf_ends : (c : Circuits) (x : List ℕ) (i : ℕ) (e : Evaluated) (before after : LogValue) (r : Result ℕ LogEnd) → e.chosen ≡ i
    → ((j : ℕ) → j < i → variable_at e.order j ≡ signal_variable j) → ((j : ℕ) → j < i → bit_of (value_of e.values (signal_variable j)) ≡ get_or x j 0)
    → leaf_words e ≤ variable_count c.net c.cells + 4 → LeafEnds e before r after → BranchEnds c x i (most_words c) before (ended r) after
leaf_ends c x i e before after (Ok index) chosen order bits few h = leaf_branch c x i e before after index chosen order bits (omega arith) h
leaf_ends c x i e before after (Err (Kept index)) chosen order bits few h = absurd h
leaf_ends c x i e before after (Err (OverBudget used need)) chosen order bits few h = leaf_cut c e before after used need few h

-- ---- the whole search

-- a branch below no input is an empty clause
pub root_refuted : (c : Circuits) (x : List ℕ) (before after : LogValue) (index : ℕ) → IsBranch c x 0 (room_below c 0) before after index → IsRefuted before after index
root_refuted c x before after index h =
    let empty : HasDerived after [] index = record {
      behind_originals = h.behind_originals;
      within = h.within;
      same = λ l. (λ here. let at = h.under l here in let less = at.1 in absurd (omega arith), λ none. absurd none);
    } in
    record { empty = empty; last = λ none. (h.first_empty none index empty).1 }

-- the other ends
pub root_ends : (c : Circuits) (config : ConfigValue) (x : List ℕ) (before after : LogValue) (end : TreeEnd) → IsConfig config → AreCellsOf config c.cells → IsOfMiter c before
    → BranchEnds c x 0 (room_below c 0) before (Err end) after → TreeEnds c.net config before end after
root_ends c config x before after (Empty index) is_config of miter h = absurd h
root_ends c config x before after (Differs y) is_config of miter h = h.1 config is_config of
root_ends c config x before after (Spent used need) is_config of miter h =
    let variables : after.originals.variables ≡ variable_count c.net c.cells = ap (λ (f : Formula). f.variables) (h.log_is.originals ∙ miter.originals) in
    let enough = ap (Enough (length c.net.inputs)) variables in
    let room = room-le-Enough c in
    record {
      used_is = h.used_is;
      need_low = h.need_low;
      need_high = let high = h.need_high in omega arith;
      over = h.over;
      scarce = let scarce = h.scarce in omega arith;
    }

-- whatever the end, the log has what it had
pub ends_extend : (c : Circuits) (x : List ℕ) (i room : ℕ) (before after : LogValue) (r : Result ℕ TreeEnd) → BranchEnds c x i room before r after → Extends before after
ends_extend c x i room before after (Ok index) h = h.log_is
ends_extend c x i room before after (Err (Empty index)) h = absurd h
ends_extend c x i room before after (Err (Differs y)) h = h.0
ends_extend c x i room before after (Err (Spent used need)) h = h.log_is

-- no bits are bits
pub zero_bits : (n : ℕ) → IsBits n (bits_of n 0)
zero_bits n = record { count = length-bits_of n 0; bits = λ b here. bits_of-small n 0 b here }
