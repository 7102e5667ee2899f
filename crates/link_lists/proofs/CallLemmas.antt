-- The lists after a call, by what it read of the arrays.
use Rattle.std.proofs.Common.{◌≡◌, ℕ, ◌+◌, ◌-◌, ◌<◌, List, ◌∷◌, length, set, get_or, refl, arith}
use Rattle.std.proofs.lemmas.List.{get_or_read}
use Rattle.clause_defs.specs.Clauses.{Has}
use Rattle.link_lists.specs.Linked.{list_at}
use Rattle.link_lists.specs.Chains.{IsLinkedBy}
use Rattle.link_lists.proofs.LinkLemmas.{AreNow, IsPopped, popped, pushed}

module _ (next heads : List ℕ) (lists : List (List ℕ)) (linked : IsLinkedBy next heads lists) where
  -- the head of a list that isn't empty is one more than its first number
  module _ (l head : ℕ) (lt : l < length lists) (read : head ≡ get_or heads l head) (some : 0 < head) where
    list_is_there : l < length heads
    list_is_there = let a : length lists ≡ length heads = linked.count in omega arith

    first_is : get_or heads l 0 ≡ head - 1 + 1
    first_is = let a = get_or_read heads l head list_is_there read 0 in omega arith

    -- the first number is one of those that there are
    pub pop_inside : head - 1 < length next
    pop_inside = (popped next heads lists linked l (head - 1) (get_or next (head - 1) 0) list_is_there first_is refl).inside

    -- the first number was taken, where this follows it
    pub pop_gives : (follows : ℕ) → follows ≡ get_or next (head - 1) follows
        → IsPopped next (set heads l follows) lists l (head - 1)
    pop_gives follows behind = popped next heads lists linked l (head - 1) follows list_is_there first_is
        (get_or_read next (head - 1) follows pop_inside behind 0)

  -- a number that is in no list came in front of a list, whose head was this
  pub push_gives : (l w head : ℕ) → l < length lists → w < length next → ((k : ℕ) → Has (list_at lists k) w → ⊥)
      → head ≡ get_or heads l head → AreNow (set next w head) (set heads l (w + 1)) (set lists l (w ∷ list_at lists l))
  push_gives l w head lt inside out read =
      let many : length lists ≡ length heads = linked.count in
      let there : l < length heads = omega arith in
      pushed next heads lists linked l w head there inside out (get_or_read heads l head there read 0)
