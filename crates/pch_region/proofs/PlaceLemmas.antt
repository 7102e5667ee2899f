-- Blocks in a run of which a part changes.
use Rattle.std.proofs.Common.{◌≡◌, ◌≢◌, ◌⊎◌, ℕ, zero, suc, ◌+◌, ◌-◌, ◌<◌, ◌≤◌, if◌then◌else◌, List, [], ◌∷◌, length, set, take, drop, Option, Some, None, inl, inr, refl, sym, ap, ◌∙◌, arith, take-take, drop-drop, length-set, get_or-set_same, get_or-set_other, ext_get_or}
use Rattle.std.proofs.Math.Nat.{eq-zero-or-pos}
use Rattle.std.proofs.lemmas.Bool.{cases_eq, cases_lt, lt-ltb, le-ltb}
use Rattle.std.proofs.lemmas.List.{drop-take, length-map, get_or_past}
use Rattle.clause_defs.specs.Clauses.{Lits}
use Rattle.pch_region.specs.Blocks.{held_at}
use Rattle.pch_region.specs.Places.{place_of, block_in, blocks_in, EndsBy, own_place}
use Rattle.pch_region.specs.Kept.{kept_words}
use Rattle.pch_region.specs.declared.places.Place.{Place}

-- a name that has a place is in range
pub place_within : (slots : List (Option Place)) (n : ℕ) (p : Place) → place_of slots n ≡ Some p → n < length slots
place_within slots n p e =
    elim (cases_lt n (length slots)) [
      | inl lt ↦ lt
      | inr past ↦ let none : place_of slots n ≡ None = get_or_past slots n None past in absurd (cc)
    ]

-- the place that is there, or another one
abbrev place_in : Place → Option Place → Place
place_in p None = p
place_in p (Some q) = q

-- a place of the changed list is what was written, or was there before
set_cases : (slots : List (Option Place)) (n m : ℕ) (o : Option Place) (q : Place) → place_of (set slots n o) m ≡ Some q
    → ((m ≡ n) × (o ≡ Some q)) ⊎ ((m ≢ n) × (place_of slots m ≡ Some q))
set_cases slots n m o q e =
    elim (cases_eq m n) [
      | inl same ↦ let within = place_within (set slots n o) m q e in let len = length-set slots n o in
          inl (same, sym (get_or-set_same slots n o None (omega arith)) ∙ ap (place_of (set slots n o)) (sym same) ∙ e)
      | inr ne ↦ inr (ne, sym (get_or-set_other slots n m o None ne) ∙ e)
    ]

-- a place of the changed list is the new one, or the place of another name as it was
pub set_some : (slots : List (Option Place)) (n m : ℕ) (p q : Place) → place_of (set slots n (Some p)) m ≡ Some q
    → ((m ≡ n) × (q ≡ p)) ⊎ ((m ≢ n) × (place_of slots m ≡ Some q))
set_some slots n m p q e =
    elim (set_cases slots n m (Some p) q e) [
      | inl w ↦ inl (w.0, sym (ap (place_in q) w.1))
      | inr w ↦ inr w
    ]

-- where a place is taken away, the others stay
pub set_none : (slots : List (Option Place)) (n m : ℕ) (q : Place) → place_of (set slots n None) m ≡ Some q → place_of slots m ≡ Some q
set_none slots n m q e =
    elim (set_cases slots n m None q e) [
      | inl w ↦ let none : None ≡ Some q = w.1 in absurd (cc)
      | inr w ↦ w.1
    ]

-- the blocks by name are what the run has at their places
pub held_is : (run : Lits) (slots : List (Option Place)) (n : ℕ) → held_at (blocks_in run slots) n ≡ block_in run (place_of slots n)
held_is run [] n = refl
held_is run (s ∷ ss) zero = refl
held_is run (s ∷ ss) (suc n) = held_is run ss n

-- blocks are the same where each is the same by its name
pub blocks_changed : (run later : Lits) (slots changed : List (Option Place)) → length changed ≡ length slots
    → ((n : ℕ) → block_in later (place_of changed n) ≡ block_in run (place_of slots n)) → blocks_in later changed ≡ blocks_in run slots
blocks_changed run later slots changed len same =
    ext_get_or None (blocks_in later changed) (blocks_in run slots)
    (length-map changed (block_in later) ∙ len ∙ sym (length-map slots (block_in run)))
    (λ n lt. held_is later changed n ∙ same n ∙ sym (held_is run slots n))

-- a block without words is the empty one
pub block_empty : (run : Lits) (p : Place) → p.len ≡ 0 → block_in run (Some p) ≡ Some []
block_empty run p e = ap (λ k. Some (take k (drop p.start run))) e

-- a block that ends by n is the same in the first n words
pub block_kept : (n : ℕ) (run : Lits) (s : Option Place) → EndsBy n s → block_in (take n run) s ≡ block_in run s
block_kept n run None ends = refl
block_kept n run (Some p) ends =
    elim (eq-zero-or-pos p.len) [
      | inl none ↦ block_empty (take n run) p none ∙ sym (block_empty run p none)
      | inr some ↦
          let e = ends some in
          let split : n ≡ p.start + (n - p.start) = omega arith in
          ap (λ k. Some (take p.len (drop p.start (take k run)))) split
          ∙ ap (λ r. Some (take p.len r)) (drop-take p.start (n - p.start) run)
          ∙ ap Some (take-take p.len (n - p.start) (drop p.start run) (omega arith))
    ]

-- a block that ends by n is the same in runs with the same first n words
pub same_front : (n : ℕ) (run later : Lits) (s : Option Place) → take n later ≡ take n run → EndsBy n s → block_in later s ≡ block_in run s
same_front n run later s e ends = sym (block_kept n later s ends) ∙ ap (λ r. block_in r s) e ∙ block_kept n run s ends

-- a block that starts behind n words is the same in runs that are the same from there on
pub same_back : (n : ℕ) (run later : Lits) (p : Place) → drop n later ≡ drop n run → n ≤ p.start → block_in later (Some p) ≡ block_in run (Some p)
same_back n run later p e behind =
    let split : p.start ≡ n + (p.start - n) = omega arith in
    ap (λ k. Some (take p.len (drop k later))) split
    ∙ ap (λ r. Some (take p.len r)) (sym (drop-drop (p.start - n) n later) ∙ ap (drop (p.start - n)) e ∙ drop-drop (p.start - n) n run)
    ∙ ap (λ k. Some (take p.len (drop k run))) (sym split)

-- a place that is an entry's own
pub own_some : (at : ℕ) (s : Option Place) (p : Place) → own_place at s ≡ Some p → (s ≡ Some p) × (p.at ≡ at) × (0 < p.len)
own_some at None p e = absurd (cc)
own_some at (Some q) p e = grind arith

-- a place that isn't the entry's own has no words, or another entry
pub own_none : (at : ℕ) (s : Option Place) (p : Place) → own_place at s ≡ None → s ≡ Some p → 0 < p.len → p.at ≢ at
own_none at None p e is some = absurd (cc)
own_none at (Some q) p e is some = grind arith

-- a block whose entry comes earlier counts
pub kept_words-in : (kept : ℕ) (p : Place) → p.at < kept → kept_words kept (Some p) ≡ p.len
kept_words-in kept p lt = ap (λ b. if b then p.len else 0) (lt-ltb p.at kept lt)

-- one whose entry comes later doesn't
pub kept_words-out : (kept : ℕ) (p : Place) → kept ≤ p.at → kept_words kept (Some p) ≡ 0
kept_words-out kept p le = ap (λ b. if b then p.len else 0) (le-ltb p.at kept le)

-- a block without words counts nothing
pub kept_words-none : (kept : ℕ) (p : Place) → p.len ≡ 0 → kept_words kept (Some p) ≡ 0
kept_words-none kept p none =
    elim (cases_lt p.at kept) [
      | inl lt ↦ kept_words-in kept p lt ∙ none
      | inr le ↦ kept_words-out kept p le
    ]
