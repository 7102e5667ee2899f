-- What is known between the two halves of a branch, and when their clauses are resolved.
use Rattle.std.proofs.Common.{◌≡◌, ◌≢◌, ℕ, ◌+◌, ◌<◌, ◌≤◌, true, Result, Err, List, length, set, sym, ◌∙◌, ap, subst, arith}
use Rattle.clause_defs.specs.Clauses.{Lits}
use Rattle.fabric_defs.specs.Bits.{IsBits}
use Rattle.log_defs.specs.Logs.{LogValue, IsIndexOf, all_clauses, clause_of_log}
use Rattle.log_laws.proofs.LogLemmas.{clause_stays, length-all_clauses}
use Rattle.leaf_defs.specs.Evaluated.{Evaluated, value_of}
use Rattle.leaf_chain.specs.Growing.{with_implied}
use Rattle.miter_cnf.specs.Circuits.{Circuits, AreCircuits}
use Rattle.miter_defs.specs.Numberings.{signal_variable, variable_count}
use Rattle.miter_values.specs.Growing.{Grows}
use Rattle.miter_values.specs.Parts.{AreChosen}
use Rattle.miter_values.proofs.GrowLemmas.{grows_implied, implied_value}
use Rattle.tree_defs.specs.declared.tree_end.TreeEnd.{TreeEnd}
use Rattle.tree_refute.specs.Branches.{BranchEnds, IsBranch, IsUnder, IsOfMiter, HasVariable, room_below, most_words}
use Rattle.tree_refute.proofs.BranchLemmas.{join_without, join_forced, join_ends, half_bits, ends_later, room_up}

-- ---- the first half

-- where input i isn't behind the last one of the circuits that are held, it is one of theirs
pub input_left : (t held : Circuits) (i inputs : ℕ) → i ≤ length t.net.inputs → inputs ≡ length held.net.inputs → held ≡ t
    → i ≢ inputs → i < length t.net.inputs
input_left t held i inputs le count same other = let own = ap (λ (u : Circuits). length u.net.inputs) same in omega arith

-- Input i is one of the circuits', and the branch where it is 0 gave a clause. The circuits u are still these.
pub record HasFirst (t u : Circuits) (x y : List ℕ) (i : ℕ) (before mid : LogValue) (first : ℕ) : Type 0 where
  pub left : i < length t.net.inputs
  pub half : y ≡ set x i 0
  pub branch : IsBranch t y (i + 1) (room_below t (i + 1)) before mid first
  pub same : u ≡ t

-- what a branch knows after its first half
pub has_first : (t held u : Circuits) (x y : List ℕ) (i inputs : ℕ) (before mid : LogValue) (first : ℕ)
    → i ≤ length t.net.inputs → inputs ≡ length held.net.inputs → held ≡ t → i ≢ inputs
    → y ≡ set x i 0 → IsBranch t y (i + 1) (room_below t (i + 1)) before mid first → u ≡ t → HasFirst t u x y i before mid first
has_first t held u x y i inputs before mid first le count kept other half branch same = record {
  left = input_left t held i inputs le count kept other;
  half = half;
  branch = branch;
  same = same;
}

-- the second half may be searched
pub second_begins : (t u : Circuits) (x y z : List ℕ) (i : ℕ) (before mid : LogValue) (first : ℕ) → HasFirst t u x y i before mid first
    → IsBits (length t.net.inputs) x → IsOfMiter t before → z ≡ set x i 1 → IsBits (length u.net.inputs) z × IsOfMiter u mid
second_begins t u x y z i before mid first h bits miter half =
    let own = ap (λ (v : Circuits). length v.net.inputs) h.same in
    let mid_miter : IsOfMiter t mid = record { originals = h.branch.log_is.originals ∙ miter.originals } in (
      subst (λ n. IsBits n z) (sym own) (half_bits (length t.net.inputs) x z i 1 half (omega arith) bits),
      subst (λ (v : Circuits). IsOfMiter v mid) (sym h.same) mid_miter,
    )

-- an end of the second half is one of the branch
pub second_ends : (t u : Circuits) (x y z : List ℕ) (i : ℕ) (before mid after : LogValue) (first : ℕ) (end : TreeEnd) → HasFirst t u x y i before mid first
    → BranchEnds u z (i + 1) (room_below u (i + 1)) mid (Err end) after → BranchEnds t x i (room_below t i) before (Err end) after
second_ends t u x y z i before mid after first end h ends =
    ends_later t x z i (i + 1) (room_below t (i + 1)) (room_below t i) before mid after end h.branch.log_is
    (let words = h.branch.words in let room = room_up t i h.left in omega arith)
    (subst (λ (v : Circuits). BranchEnds v z (i + 1) (room_below v (i + 1)) mid (Err end) after) h.same ends)

-- ---- both halves

-- The clause of the first half has input i, and the branch where it is 1 gave a clause too. The circuits w are still
-- the same.
pub record HasBoth (t u w : Circuits) (x y z : List ℕ) (i : ℕ) (before mid both : LogValue) (first second : ℕ) : Type 0 where
  pub one : HasFirst t u x y i before mid first
  pub has : HasVariable (clause_of_log mid first) (signal_variable i)
  pub half : z ≡ set x i 1
  pub branch : IsBranch t z (i + 1) (room_below t (i + 1)) mid both second
  pub same : w ≡ t

-- what a branch knows after both halves
pub has_both : (t u w : Circuits) (x y z : List ℕ) (i : ℕ) (before mid both : LogValue) (first second : ℕ) → HasFirst t u x y i before mid first
    → HasVariable (clause_of_log mid first) (signal_variable i) → z ≡ set x i 1
    → IsBranch u z (i + 1) (room_below u (i + 1)) mid both second → w ≡ u → HasBoth t u w x y z i before mid both first second
has_both t u w x y z i before mid both first second one has half branch same = record {
  one = one;
  has = has;
  half = half;
  branch = subst (λ (v : Circuits). IsBranch v z (i + 1) (room_below v (i + 1)) mid both second) one.same branch;
  same = same ∙ one.same;
}

module _ (t u w : Circuits) (x y z : List ℕ) (i : ℕ) (before mid both : LogValue) (first second : ℕ) (h : HasBoth t u w x y z i before mid both first second) where
  -- the clause of the first half stays what it was
  first_kept : clause_of_log both first ≡ clause_of_log mid first
  first_kept =
      let branch = h.one.branch in
      let index : IsIndexOf mid first = record { low = (let behind = branch.behind_originals in omega arith); high = branch.within } in
      clause_stays mid both first h.branch.log_is index

  -- it is false where input i is 0
  pub first_under : IsUnder (set x i 0) (i + 1) (clause_of_log both first)
  first_under =
      subst (λ (k : Lits). IsUnder (set x i 0) (i + 1) k) (sym first_kept)
      (subst (λ (ys : List ℕ). IsUnder ys (i + 1) (clause_of_log mid first)) h.one.half h.one.branch.under)

  -- and has input i
  pub first_has : HasVariable (clause_of_log both first) (signal_variable i)
  first_has = subst (λ (k : Lits). HasVariable k (signal_variable i)) (sym first_kept) h.has

  -- an end of what follows both halves is one of the branch
  pub both_end : (after : LogValue) (r : Result ℕ TreeEnd) → HasVariable (clause_of_log both second) (signal_variable i)
      → BranchEnds w x i (most_words w) both r after → BranchEnds t x i (room_below t i) before r after
  both_end after r has_too ends =
      join_ends t x y z i before mid both after first second r h.one.left h.one.branch h.has h.branch has_too
      (subst (λ (v : Circuits). BranchEnds v x i (most_words v) both r after) h.same ends)

-- ---- their clauses resolved

-- the bits x of the first i inputs are chosen, and input i has a place but no value
pub record CanJoin (t : Circuits) (f : List Lits) (x : List ℕ) (i : ℕ) (e : Evaluated) : Type 0 where
  pub chosen : AreChosen f x i e
  pub total : length e.values ≡ variable_count t.net t.cells + 1
  pub within : i < length x
  pub places : i + 2 < length e.values

-- the first i of more inputs are chosen in the room of the circuits that are held
pub can_join : (t held : Circuits) (f : List Lits) (x : List ℕ) (i old : ℕ) (e : Evaluated) → i < length t.net.inputs → IsBits (length t.net.inputs) x
    → AreCircuits held.net held.cells → old ≡ variable_count held.net held.cells + 1 → held ≡ t → length e.values ≡ old → AreChosen f x i e → CanJoin t f x i e
can_join t held f x i old e input bits are room same places chosen =
    let total : length e.values ≡ variable_count t.net t.cells + 1 = places ∙ room ∙ ap (λ (u : Circuits). variable_count u.net u.cells + 1) same in
    record {
      chosen = chosen;
      total = total;
      within = let count = bits.count in omega arith;
      places = let some = are.is_net.outputs_some in let own = ap (λ (u : Circuits). length u.net.outputs) same in omega arith;
    }

-- the clause of the first half leaves the value 1 of input i alone
pub record Implies (f : List Lits) (i first : ℕ) (e : Evaluated) : Type 0 where
  pub grows : Grows f e (with_implied e (signal_variable i) true first) (λ u. u ≡ signal_variable i)
  pub value : value_of (with_implied e (signal_variable i) true first).values (signal_variable i) ≡ true

-- so it does where it is false under the bits with a 0 there, and has input i
pub first_implies : (t : Circuits) (log : LogValue) (x : List ℕ) (i first : ℕ) (e : Evaluated)
    → CanJoin t (all_clauses log.originals.clauses log.derived) x i e → IsIndexOf log first
    → IsUnder (set x i 0) (i + 1) (clause_of_log log first) → HasVariable (clause_of_log log first) (signal_variable i)
    → Implies (all_clauses log.originals.clauses log.derived) i first e
first_implies t log x i first e can index under has =
    let f = all_clauses log.originals.clauses log.derived in
    let without = join_without x i first f e can.chosen can.within can.places in
    let high : first ≤ length f = omega (arith, index.high, length-all_clauses log.originals.clauses log.derived) in
    let forced = join_forced x i first f e can.chosen can.within can.places (clause_of_log log first) under has in
    record {
      grows = grows_implied f e (signal_variable i) first true can.chosen.evaluated without index.low high forced;
      value = implied_value f e (signal_variable i) first true can.chosen.evaluated without index.low high forced;
    }
