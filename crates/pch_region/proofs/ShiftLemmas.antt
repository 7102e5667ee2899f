-- One block is moved to the front.
use Rattle.std.proofs.Common.{◌≡◌, ◌≢◌, ◌⊎◌, ℕ, ◌+◌, ◌-◌, ◌<◌, ◌≤◌, List, ◌++◌, length, set, get_or, take, drop, sum_by, Option, Some, None, inl, inr, refl, sym, ap, ◌∙◌, subst, arith, length-drop, length-take-le, length-set, get_or-set_same, get_or-set_other, take-take}
use Rattle.std.proofs.Math.Nat.{eq-zero-or-pos}
use Rattle.std.proofs.Math.Seq.{paste}
use Rattle.std.specs.List.{copy_within}
use Rattle.std.proofs.lemmas.Bool.{cases_eq}
use Rattle.std.proofs.lemmas.List.{drop-take, drop_at, take_at}
use Rattle.std.proofs.lemmas.List.Edits.{length-paste, take-paste, drop-paste}
use Rattle.clause_defs.specs.Clauses.{Lits}
use Rattle.pch_region.specs.Places.{place_of, block_in, blocks_in, EndsBy, EachEndsBy, own_place}
use Rattle.pch_region.specs.Kept.{IsClosing, kept_words}
use Rattle.pch_region.specs.declared.places.Place.{Place}
use Rattle.pch_region.proofs.ListSums.{sum_changed}
use Rattle.pch_region.proofs.PlaceLemmas.{place_within, set_some, blocks_changed, block_empty, same_front, same_back, own_some, own_none, kept_words-in, kept_words-out, kept_words-none}

-- ---- what a move leaves of the run

module _ (run : Lits) (p : Place) (to : ℕ) (within : p.start + p.len ≤ length run) (down : to ≤ p.start) where
  -- the run after the move
  abbrev pub moved : Lits
  moved = paste run to (drop p.start run) p.len

  -- from the start of the block on there are all its words
  long : p.len ≤ length (drop p.start run)
  long = let e = length-drop p.start run in omega arith

  -- then the run begins with the words before `to`, and has those of the block next
  front_is : take (to + p.len) moved ≡ take to run ++ take p.len (drop p.start run)
  front_is = take-paste run to (drop p.start run) p.len (omega arith) long

  -- and there are `to` words before them
  to_long : length (take to run) ≡ to
  to_long = length-take-le to run (omega arith)

  -- the run keeps its length
  pub moved_length : length moved ≡ length run
  moved_length = length-paste run to (drop p.start run) p.len (omega arith) long

  -- the words before it stay
  pub moved_front : take to moved ≡ take to run
  moved_front =
      sym (take-take to (to + p.len) moved (omega arith)) ∙ ap (take to) front_is
      ∙ take_at (take to run) (take p.len (drop p.start run)) to to_long

  -- and those behind it
  pub moved_back : drop (to + p.len) moved ≡ drop (to + p.len) run
  moved_back = drop-paste run to (drop p.start run) p.len (omega arith) long

  -- its own words are now at the front
  pub moved_block : take p.len (drop to moved) ≡ take p.len (drop p.start run)
  moved_block =
      sym (drop-take to p.len moved) ∙ ap (drop to) front_is
      ∙ drop_at (take to run) (take p.len (drop p.start run)) to to_long

-- `copy_within` of the words of a place is this move
pub copied_is : (run : Lits) (p : Place) (to : ℕ) → copy_within run p.start (p.start + p.len) to ≡ paste run to (drop p.start run) p.len
copied_is run p to = let e : p.start + p.len - p.start ≡ p.len = omega arith in ap (paste run to (drop p.start run)) e

-- ---- what is known after the step of entry i

module _ (order : List ℕ) (slots : List (Option Place)) (end i to kept name : ℕ) (closing : IsClosing order slots end i to kept)
    (there : i < length order) (read : name ≡ get_or order i 0) where
  -- an entry that is no block's own is passed over
  pub shifted_none : own_place i (place_of slots name) ≡ None → IsClosing order slots end (i + 1) to kept
  shifted_none none = record {
    ends = closing.ends;
    in_order = closing.in_order;
    inside = closing.inside;
    fewer = let le : kept ≤ i = closing.fewer in omega arith;
    packed = closing.packed;
    split = λ n p is some. elim (closing.split n p is some) [
      | inl low ↦ inl low
      | inr high ↦ elim (cases_eq p.at i) [
        | inl e ↦
            let named : name ≡ n = read ∙ ap (λ k. get_or order k 0) (sym e) ∙ (closing.in_order.entry n p is some).1 in
            absurd (own_none i (place_of slots name) p none (ap (place_of slots) named ∙ is) some e)
        | inr ne ↦ inr (let le = high.0 in omega arith, high.1)
      ]
    ];
    filled = closing.filled;
  }

  module _ (p : Place) (own : own_place i (place_of slots name) ≡ Some p) where
    -- the block with the name lies at this place
    placed : place_of slots name ≡ Some p
    placed = (own_some i (place_of slots name) p own).0

    -- its entry is this one
    at_i : p.at ≡ i
    at_i = (own_some i (place_of slots name) p own).1

    -- it has words
    some : 0 < p.len
    some = (own_some i (place_of slots name) p own).2

    -- the block lies behind those that were moved
    pub down : to ≤ p.start
    down = elim (closing.split name p placed some) [
      | inl low ↦ let a = low.0 in let b : kept ≤ i = closing.fewer in let c = at_i in absurd (omega arith)
      | inr high ↦ high.1
    ]

    -- and ends within the run
    pub within : p.start + p.len ≤ end
    within = subst (EndsBy end) placed (closing.ends name) some

    -- any other block was moved already, or lies behind this one
    other_split : (m : ℕ) (q : Place) → m ≢ name → place_of slots m ≡ Some q → 0 < q.len
        → ((q.at < kept) × (q.start + q.len ≤ to)) ⊎ ((i + 1 ≤ q.at) × (to + p.len ≤ q.start))
    other_split m q ne is has =
        elim (closing.split m q is has) [
          | inl low ↦ inl low
          | inr high ↦ elim (cases_eq q.at i) [
            | inl e ↦ absurd (ne (sym (closing.in_order.entry m q is has).1 ∙ ap (λ k. get_or order k 0) e ∙ sym read))
            | inr apart ↦
                let le = high.0 in
                let same = at_i in
                let behind = closing.in_order.sorted name m p q placed is some has (omega arith) in
                let low = down in
                inr (omega arith, omega arith)
          ]
        ]

    -- where the block lies then
    abbrev pub moved_place : Place
    moved_place = record { start = to; len = p.len; at = kept }

    -- all places then
    abbrev pub changed : List (Option Place)
    changed = set slots name (Some moved_place)

    -- the order with the name at the front
    abbrev pub order2 : List ℕ
    order2 = set order kept name

    -- the entry that its name gets is there
    kept_there : kept < length order
    kept_there = let a : kept ≤ i = closing.fewer in omega (arith, there)

    -- the block lies at its new place then
    changed_at : place_of changed name ≡ Some moved_place
    changed_at = get_or-set_same slots name (Some moved_place) None (place_within slots name p placed)

    -- and each other block where it lay
    changed_other : (m : ℕ) → m ≢ name → place_of changed m ≡ place_of slots m
    changed_other m ne = get_or-set_other slots name m (Some moved_place) None ne

    -- any other block has its words, whether it was moved already or lies behind this one
    other_kept : (run later : Lits) → take to later ≡ take to run → drop (to + p.len) later ≡ drop (to + p.len) run → (s : Option Place)
        → ((q : Place) → s ≡ Some q → 0 < q.len → ((q.at < kept) × (q.start + q.len ≤ to)) ⊎ ((i + 1 ≤ q.at) × (to + p.len ≤ q.start)))
        → block_in later s ≡ block_in run s
    other_kept run later front back None apart = refl
    other_kept run later front back (Some q) apart =
        elim (eq-zero-or-pos q.len) [
          | inl none ↦ block_empty later q none ∙ sym (block_empty run q none)
          | inr has ↦ elim (apart q refl has) [
            | inl low ↦ same_front to run later (Some q) front (λ _. low.1)
            | inr high ↦ same_back (to + p.len) run later q back high.1
          ]
        ]

    -- each block has its words
    pub shifted_blocks : (run : Lits) → length run ≡ end → blocks_in (paste run to (drop p.start run) p.len) changed ≡ blocks_in run slots
    shifted_blocks run len =
        let inside : p.start + p.len ≤ length run = let w = within in omega arith in
        let later : Lits = paste run to (drop p.start run) p.len in
        blocks_changed run later slots changed (length-set slots name (Some moved_place)) (λ m.
        elim (cases_eq m name) [
          | inl e ↦
              ap (λ k. block_in later (place_of changed k)) e ∙ ap (block_in later) changed_at
              ∙ ap Some (moved_block run p to inside down)
              ∙ sym (ap (λ k. block_in run (place_of slots k)) e ∙ ap (block_in run) placed)
          | inr ne ↦ ap (block_in later) (changed_other m ne) ∙ other_kept run later (moved_front run p to inside down) (moved_back run p to inside down) (place_of slots m) (λ q is has. other_split m q ne is has)
        ])

    -- each block ends within the run still
    shifted_ends : EachEndsBy end changed
    shifted_ends m =
        elim (cases_eq m name) [
          | inl e ↦ subst (EndsBy end) (sym (ap (place_of changed) e ∙ changed_at)) (λ has. let d = down in let w = within in omega arith)
          | inr ne ↦ subst (EndsBy end) (sym (changed_other m ne)) (closing.ends m)
        ]

    -- the order keeps its length
    len2 : length order2 ≡ length order
    len2 = length-set order kept name

    -- each block with words has its name at its own entry
    shifted_entry : (n : ℕ) (q : Place) → place_of changed n ≡ Some q → 0 < q.len → (q.at < length order2) × (get_or order2 q.at 0 ≡ n)
    shifted_entry n q is has =
        let len = len2 in
        let room = kept_there in
        elim (set_some slots name n moved_place q is) [
          | inl w ↦
              let at : q.at ≡ kept = ap (λ (r : Place). r.at) w.1 in
              (omega arith, ap (λ k. get_or order2 k 0) at ∙ get_or-set_same order kept name 0 room ∙ sym w.0)
          | inr w ↦
              let old = closing.in_order.entry n q w.1 has in
              let lt = old.0 in
              let fewer : kept ≤ i = closing.fewer in
              let ne : q.at ≢ kept = elim (other_split n q w.0 w.1 has) [
                | inl low ↦ λ e. let a = low.0 in absurd (omega arith)
                | inr high ↦ λ e. let a = high.0 in absurd (omega arith)
              ] in
              (omega arith, get_or-set_other order kept q.at name 0 ne ∙ old.1)
        ]

    -- and the words of blocks come in that order
    shifted_sorted : (n m : ℕ) (q r : Place) → place_of changed n ≡ Some q → place_of changed m ≡ Some r → 0 < q.len → 0 < r.len
        → q.at < r.at → q.start + q.len ≤ r.start
    shifted_sorted n m q r is is2 has has2 lt =
        let fewer : kept ≤ i = closing.fewer in
        elim (set_some slots name n moved_place q is) [
          | inl w ↦
              let at : q.at ≡ kept = ap (λ (s : Place). s.at) w.1 in
              let start : q.start ≡ to = ap (λ (s : Place). s.start) w.1 in
              let len : q.len ≡ p.len = ap (λ (s : Place). s.len) w.1 in
              elim (set_some slots name m moved_place r is2) [
                | inl v ↦ let at2 : r.at ≡ kept = ap (λ (s : Place). s.at) v.1 in absurd (omega arith)
                | inr v ↦ elim (other_split m r v.0 v.1 has2) [
                  | inl low ↦ let a = low.0 in absurd (omega arith)
                  | inr high ↦ let a = high.1 in omega arith
                ]
              ]
          | inr w ↦ elim (set_some slots name m moved_place r is2) [
            | inl v ↦
                let at2 : r.at ≡ kept = ap (λ (s : Place). s.at) v.1 in
                let start2 : r.start ≡ to = ap (λ (s : Place). s.start) v.1 in
                elim (other_split n q w.0 w.1 has) [
                  | inl low ↦ let a = low.1 in omega arith
                  | inr high ↦ let a = high.0 in absurd (omega arith)
                ]
            | inr v ↦ closing.in_order.sorted n m q r w.1 v.1 has has2 lt
          ]
        ]

    -- each block was moved, this one with them, or lies behind those that were
    shifted_split : (n : ℕ) (q : Place) → place_of changed n ≡ Some q → 0 < q.len
        → ((q.at < kept + 1) × (q.start + q.len ≤ to + p.len)) ⊎ ((i + 1 ≤ q.at) × (to + p.len ≤ q.start))
    shifted_split n q is has =
        elim (set_some slots name n moved_place q is) [
          | inl w ↦
              let at : q.at ≡ kept = ap (λ (s : Place). s.at) w.1 in
              let start : q.start ≡ to = ap (λ (s : Place). s.start) w.1 in
              let len : q.len ≡ p.len = ap (λ (s : Place). s.len) w.1 in
              inl (omega arith, omega arith)
          | inr w ↦ elim (other_split n q w.0 w.1 has) [
            | inl low ↦ let a = low.0 in let b = low.1 in inl (omega arith, omega arith)
            | inr high ↦ inr high
          ]
        ]

    -- any other block counts with as many words as before
    weight_kept : (s : Option Place)
        → ((q : Place) → s ≡ Some q → 0 < q.len → ((q.at < kept) × (q.start + q.len ≤ to)) ⊎ ((i + 1 ≤ q.at) × (to + p.len ≤ q.start)))
        → kept_words (kept + 1) s ≡ kept_words kept s
    weight_kept None apart = refl
    weight_kept (Some q) apart =
        let fewer : kept ≤ i = closing.fewer in
        elim (eq-zero-or-pos q.len) [
          | inl none ↦ kept_words-none (kept + 1) q none ∙ sym (kept_words-none kept q none)
          | inr has ↦ elim (apart q refl has) [
            | inl low ↦ let a = low.0 in kept_words-in (kept + 1) q (omega arith) ∙ sym (kept_words-in kept q a)
            | inr high ↦ let a = high.0 in kept_words-out (kept + 1) q (omega arith) ∙ sym (kept_words-out kept q (omega arith))
          ]
        ]

    -- so the blocks that were moved have as many words as there are before the new front
    shifted_filled : sum_by (kept_words (kept + 1)) changed ≡ to + p.len
    shifted_filled =
        let fewer : kept ≤ i = closing.fewer in
        let same_at = at_i in
        let old : kept_words kept (place_of slots name) ≡ 0 = ap (kept_words kept) placed ∙ kept_words-out kept p (omega arith) in
        let new : kept_words (kept + 1) (place_of changed name) ≡ p.len =
        ap (kept_words (kept + 1)) changed_at ∙ kept_words-in (kept + 1) moved_place (omega arith) in
        let filled : sum_by (kept_words kept) slots ≡ to = closing.filled in
        let sums = sum_changed (kept_words kept) (kept_words (kept + 1)) slots changed name None (length-set slots name (Some moved_place))
        (place_within slots name p placed)
        (λ m ne. ap (kept_words (kept + 1)) (changed_other m ne) ∙ weight_kept (place_of slots m) (λ q is has. other_split m q ne is has)) in
        omega arith

    -- the block is at the front
    pub shifted_some : IsClosing order2 changed end (i + 1) (to + p.len) (kept + 1)
    shifted_some = record {
      ends = shifted_ends;
      in_order = record { entry = shifted_entry; sorted = shifted_sorted };
      inside = let a = down in let b = within in omega arith;
      fewer = let a : kept ≤ i = closing.fewer in omega arith;
      packed = let a : kept ≤ to = closing.packed in let b = some in omega arith;
      split = shifted_split;
      filled = shifted_filled;
    }

    module _ (run run2 : Lits) (len : length run ≡ end) (is : run2 ≡ copy_within run p.start (p.start + p.len) to) where
      -- the move writes the words of the block behind those that were moved
      pasted : run2 ≡ paste run to (drop p.start run) p.len
      pasted = is ∙ copied_is run p to

      -- the run keeps its length
      pub shifted_length : length run2 ≡ length run
      shifted_length = ap length pasted ∙ moved_length run p to (let w = within in omega arith) down

      -- the block is at the front
      pub shifted_closing : IsClosing order2 changed (length run2) (i + 1) (to + p.len) (kept + 1)
      shifted_closing = subst (λ n. IsClosing order2 changed n (i + 1) (to + p.len) (kept + 1)) (sym (shifted_length ∙ len)) shifted_some

      -- each block has its words
      pub shifted_same : blocks_in run2 changed ≡ blocks_in run slots
      shifted_same = ap (λ r. blocks_in r changed) pasted ∙ shifted_blocks run len
