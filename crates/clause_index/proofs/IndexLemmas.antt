-- An index with one more clause.
use Rattle.std.proofs.Common.{◌≡◌, ℕ, zero, suc, ◌+◌, ◌<◌, ◌≤◌, inl, inr, List, [], ◌∷◌, length, slice_get, Option, Some, None, IfNone, subst, arith}
use Rattle.clause_index.proofs.RunLemmas.{clause_at_is, stands_within}
use Rattle.std.proofs.lemmas.Bool.{cases_lt}
use Rattle.clause_defs.specs.Clauses.{Lits}
use Rattle.flat_lists.specs.Flat.{Flat, total}
use Rattle.clause_index.specs.Runs.{clause_at, AreRuns, AnyHas, HaveRoom}
use Rattle.clause_index.specs.Slots.{AreSlots, StandsInSlot}
use Rattle.clause_index.specs.Index.{Stands, IsIndex}
use Rattle.clause_index.specs.declared.runs.TheConstants.{MOST_RUNS}

-- what becomes of the slots with clause k
pub record SlotsAfter (groups : ℕ) (tags numbers : List ℕ) (new_groups : ℕ) (new_tags new_numbers : List ℕ) (k : ℕ) : Type 0 where
  pub slots : AreSlots new_groups new_tags new_numbers (k + 1)
  pub kept : (c : Lits) (j : ℕ) → StandsInSlot groups tags numbers c j → StandsInSlot new_groups new_tags new_numbers c j

-- each clause up to the new one stands where it can be found, where slots and runs kept the earlier ones
each-after : (f : List Lits) (groups : ℕ) (tags numbers : List ℕ) (new_groups : ℕ) (new_tags new_numbers : List ℕ) (runs new_runs : List (List ℕ)) (k : ℕ)
    → SlotsAfter groups tags numbers new_groups new_tags new_numbers k → ((j : ℕ) → AnyHas runs j → AnyHas new_runs j)
    → ((j : ℕ) → j < k → Stands f groups tags numbers runs j) → Stands f new_groups new_tags new_numbers new_runs k
    → (j : ℕ) → j < k + 1 → Stands f new_groups new_tags new_numbers new_runs j
each-after f groups tags numbers new_groups new_tags new_numbers runs new_runs k after kept each here j lt = elim (cases_lt j k) [
  | inl before ↦ elim (each j before) [
    | inl slot ↦ inl (after.kept (clause_at f j) j slot)
    | inr run ↦ inr (kept j run)
  ]
  | inr last ↦
      let at : k ≡ j = omega arith in
      subst (Stands f new_groups new_tags new_numbers new_runs) at here
]

-- clause k is in a slot
pub IsIndex-slot : (f : List Lits) (groups : ℕ) (tags numbers : List ℕ) (new_groups : ℕ) (new_tags new_numbers : List ℕ) (runs : Flat ℕ) (first second room k : ℕ)
    → IsIndex f groups tags numbers runs first second room k → k < room → SlotsAfter groups tags numbers new_groups new_tags new_numbers k
    → StandsInSlot new_groups new_tags new_numbers (clause_at f k) k → IsIndex f new_groups new_tags new_numbers runs first second room (k + 1)
IsIndex-slot f groups tags numbers new_groups new_tags new_numbers runs first second room k h lt after here = record {
  slots = after.slots;
  sorted = h.sorted;
  few_runs = h.few_runs;
  few_numbers = let few = h.few_numbers in omega arith;
  within = omega arith;
  has_room = h.has_room;
  each = each-after f groups tags numbers new_groups new_tags new_numbers runs.lists runs.lists k after (λ j any. any) h.each (inl here);
}

-- what becomes of the runs
pub record RunsAfter (f : List Lits) (runs new_runs : Flat ℕ) (first second new_first new_second more : ℕ) : Type 0 where
  pub runs_are : AreRuns f new_runs.lists
  pub few : length new_runs.lists ≤ MOST_RUNS
  pub numbers : total new_runs.lists ≡ total runs.lists + more
  pub room : (n : ℕ) → HaveRoom n runs first second → HaveRoom n new_runs new_first new_second
  pub kept : (j : ℕ) → AnyHas runs.lists j → AnyHas new_runs.lists j

-- clause k is in a run
pub IsIndex-run : (f : List Lits) (groups : ℕ) (tags numbers : List ℕ) (new_groups : ℕ) (new_tags new_numbers : List ℕ)
    (runs new_runs : Flat ℕ) (first second new_first new_second room k : ℕ)
    → IsIndex f groups tags numbers runs first second room k → k < room → SlotsAfter groups tags numbers new_groups new_tags new_numbers k
    → RunsAfter f runs new_runs first second new_first new_second 1 → AnyHas new_runs.lists k
    → IsIndex f new_groups new_tags new_numbers new_runs new_first new_second room (k + 1)
IsIndex-run f groups tags numbers new_groups new_tags new_numbers runs new_runs first second new_first new_second room k h lt after more here = record {
  slots = after.slots;
  sorted = more.runs_are;
  few_runs = more.few;
  few_numbers = let few = h.few_numbers in let e = more.numbers in omega arith;
  within = omega arith;
  has_room = more.room room h.has_room;
  each = each-after f groups tags numbers new_groups new_tags new_numbers runs.lists new_runs.lists k after more.kept h.each (inr here);
}

-- the runs change and have the same numbers
pub IsIndex-settled : (f : List Lits) (groups : ℕ) (tags numbers : List ℕ) (runs new_runs : Flat ℕ) (first second new_first new_second room n : ℕ)
    → IsIndex f groups tags numbers runs first second room n → RunsAfter f runs new_runs first second new_first new_second 0
    → IsIndex f groups tags numbers new_runs new_first new_second room n
IsIndex-settled f groups tags numbers runs new_runs first second new_first new_second room n h more = record {
  slots = h.slots;
  sorted = more.runs_are;
  few_runs = more.few;
  few_numbers = let few = h.few_numbers in let e = more.numbers in omega arith;
  within = h.within;
  has_room = more.room room h.has_room;
  each = λ k lt. elim (h.each k lt) [ inl slot ↦ inl slot | inr run ↦ inr (more.kept k run) ];
}

-- where no number in the slots and in the runs is that of c, no clause is c
pub not_there : (f : List Lits) (groups : ℕ) (tags numbers : List ℕ) (runs : Flat ℕ) (first second room n : ℕ) (c : Lits)
    → IsIndex f groups tags numbers runs first second room n → n ≡ length f
    → ((k : ℕ) → StandsInSlot groups tags numbers c k → clause_at f k ≡ c → ⊥) → ((k : ℕ) → AnyHas runs.lists k → clause_at f k ≡ c → ⊥)
    → (k : ℕ) → slice_get f k ≡ Some c → ⊥
not_there f groups tags numbers runs first second room n c h all no_slot no_run k here =
    let lt = stands_within f k c here in
    let is = clause_at_is f k c here in
    elim (h.each k (omega arith)) [
      | inl slot ↦ no_slot k (subst (λ d. StandsInSlot groups tags numbers d k) is slot) is
      | inr run ↦ no_run k run is
    ]

-- a clause that stands at a place of the list
pub found_there : (f : List Lits) (k : ℕ) (c : Lits) → k < length f → clause_at f k ≡ c → slice_get f k ≡ Some c
found_there [] k c lt e = absurd (omega arith)
found_there (d ∷ ds) zero c lt e = cc
found_there (d ∷ ds) (suc k) c lt e = found_there ds k c (omega arith) e

-- what follows where there is no value
pub none_then : {A : Type 0} (o : Option A) (P Q : Type 0) → (P → Q) → IfNone o P → IfNone o Q
none_then None P Q f h = f h
none_then (Some x) P Q f h = h
