-- A block comes, or goes.
use Rattle.std.proofs.Common.{◌≡◌, ◌≢◌, ℕ, zero, suc, ◌+◌, ◌-◌, ◌^◌, ◌<◌, ◌≤◌, ◌==◌, Bool, false, List, [], ◌∷◌, ◌++◌, length, map, set, replicate, get_or, take, drop, Option, Some, None, inl, inr, refl, sym, ap, ◌∙◌, subst, arith, length-append, length-take-le, length-set, get_or-set_same, get_or-set_other, get_or-take, take_all}
use Rattle.std.proofs.lemmas.Bool.{cases_eq, cases_lt}
use Rattle.std.proofs.lemmas.List.{drop_at, take_at, length_push, get_or_push, get_or_append_left, map-set, length-map, length-replicate, get_or_past}
use Rattle.std.proofs.lemmas.List.Sums.{sum_by-set, get_or-le-sum_by}
use Rattle.clause_defs.specs.Clauses.{Lits}
use Rattle.pch_region.specs.Blocks.{held_at, IsLive, size, one, words_of, blocks_of, AreAllNames}
use Rattle.pch_region.specs.Places.{place_of, block_in, blocks_in, EndsBy, EachEndsBy, listed}
use Rattle.pch_region.specs.Kept.{AreNamed, AreLaid}
use Rattle.pch_region.specs.declared.places.Place.{Place}
use Rattle.pch_region.proofs.ListSums.{sum-replicate, map-replicate, get_or-copies}
use Rattle.pch_region.proofs.PlaceLemmas.{set_some, set_none, same_front, blocks_changed}

-- a list that isn't empty has an element
pub filled : (n : ℕ) (empty : Bool) → empty ≡ (n == 0) → empty ≡ false → 0 < n
filled zero empty is e = absurd (cc)
filled (suc n) empty is e = omega arith

-- a block that is live has a name in range
pub live_within : (held : List (Option Lits)) (n : ℕ) → IsLive held n → n < length held
live_within held n live =
    elim (cases_lt n (length held)) [
      | inl lt ↦ lt
      | inr past ↦ absurd (live (get_or_past held n None past))
    ]

-- ---- names

module _ (held : List (Option Lits)) (unused : List ℕ) (words live : ℕ) (named : AreNamed held unused words live) where
  -- the last unused name goes to a block with these literals
  module _ (c : Lits) (some : 0 < length unused) (fits : live + length c ≤ words) where
    -- the last entry of the unused names
    abbrev pub last : ℕ
    last = length unused - 1

    -- the name that stands there
    abbrev pub name : ℕ
    name = get_or unused last 0

    -- no block has it
    pub fresh : held_at held name ≡ None
    fresh = (named.dead last (omega arith)).1

    -- it is one of the names
    pub in_range : name < length held
    in_range = (named.dead last (omega arith)).0

    -- one name fewer is unused
    shorter : length (take last unused) ≡ last
    shorter = length-take-le last unused (omega arith)

    -- the others stay at their entries
    kept_name : (k : ℕ) → k < last → get_or (take last unused) k 0 ≡ get_or unused k 0
    kept_name k lt = get_or-take last unused k 0 lt

    -- so the names are told apart as before
    pub named_put : AreNamed (set held name (Some c)) (take last unused) words (live + length c)
    named_put =
        let len = shorter in
        let held_len = length-set held name (Some c) in
        record {
          live_is =
              let w : words_of held ≡ live = named.live_is in
              let s : words_of (set held name (Some c)) + size (held_at held name) ≡ words_of held + length c = sum_by-set size held name (Some c) None in_range in
              let z : size (held_at held name) ≡ 0 = ap size fresh in
              omega arith;
          fits = fits;
          dead = λ k lt.
              let below : k < last = omega arith in
              let old = named.dead k (omega arith) in
              let e = kept_name k below in
              let ne : get_or unused k 0 ≢ name = named.once k last below (omega arith) in (
                subst (λ n. n < length (set held name (Some c))) (sym e) (let a = old.0 in omega arith),
                ap (held_at (set held name (Some c))) e ∙ get_or-set_other held name (get_or unused k 0) (Some c) None ne ∙ old.1,
              );
          once = λ j k lt below e. named.once j k lt (omega arith) (sym (kept_name j (omega arith)) ∙ e ∙ kept_name k (omega arith));
          counted =
              let a : length unused + blocks_of held ≡ length held = named.counted in
              let s : blocks_of (set held name (Some c)) + one (held_at held name) ≡ blocks_of held + 1 = sum_by-set one held name (Some c) None in_range in
              let z : one (held_at held name) ≡ 0 = ap one fresh in
              omega arith;
          few = let a : length held < 2 ^ 32 = named.few in omega arith;
        }

  -- the name of a live block becomes unused
  module _ (n : ℕ) (c : Lits) (is : held_at held n ≡ Some c) where
    -- its name is one of the names
    inside : n < length held
    inside = live_within held n (λ e. let h = is in absurd (cc))

    -- there is a live block
    counted_block : 1 ≤ blocks_of held
    counted_block =
        let a : one (held_at held n) ≡ 1 = ap one is in
        let b : one (held_at held n) ≤ blocks_of held = get_or-le-sum_by one held n None inside in omega arith

    -- there is room for the name, and the block's words are counted
    pub freed_room : length unused < length held
    freed_room = let a : length unused + blocks_of held ≡ length held = named.counted in let b = counted_block in omega arith

    -- the block's words are among the live ones
    pub freed_words : length c ≤ live
    freed_words =
        let w : words_of held ≡ live = named.live_is in
        let a : size (held_at held n) ≡ length c = ap size is in
        let b : size (held_at held n) ≤ words_of held = get_or-le-sum_by size held n None inside in omega arith

    -- none of the unused names is this one
    other : (k : ℕ) → k < length unused → get_or unused k 0 ≢ n
    other k lt e =
        let none : held_at held n ≡ None = ap (held_at held) (sym e) ∙ (named.dead k lt).1 in
        let h = is in absurd (cc)

    -- the unused names, with this one
    abbrev pub unused2 : List ℕ
    unused2 = unused ++ n ∷ []

    -- the names that were unused stay at their entries
    old_name : (k : ℕ) → k < length unused → get_or unused2 k 0 ≡ get_or unused k 0
    old_name k lt = get_or_append_left unused (n ∷ []) 0 k lt

    -- and this one has the entry behind them
    new_name : (k : ℕ) → k ≡ length unused → get_or unused2 k 0 ≡ n
    new_name k e = get_or_push unused n 0 k (sym e)

    -- the blocks without this one
    abbrev pub held2 : List (Option Lits)
    held2 = set held n None

    -- no block has the name then
    none_there : held_at held2 n ≡ None
    none_there = get_or-set_same held n None None inside

    -- each unused name, with this one, is one of the names, and no live block has it
    freed_dead : (k : ℕ) → k < length unused2 → (get_or unused2 k 0 < length held2) × (held_at held2 (get_or unused2 k 0) ≡ None)
    freed_dead k lt =
        let len = length_push unused n in
        let held_len = length-set held n None in
        elim (cases_lt k (length unused)) [
          | inl low ↦
              let e = old_name k low in
              let old = named.dead k low in (
                subst (λ m. m < length held2) (sym e) (let a = old.0 in omega arith),
                ap (held_at held2) e ∙ get_or-set_other held n (get_or unused k 0) None None (other k low) ∙ old.1,
              )
          | inr high ↦
              let e = new_name k (omega arith) in
              (subst (λ m. m < length held2) (sym e) (let a = inside in omega arith), ap (held_at held2) e ∙ none_there)
        ]

    -- and each of them is there once
    freed_once : (j k : ℕ) → j < k → k < length unused2 → get_or unused2 j 0 ≢ get_or unused2 k 0
    freed_once j k lt below e =
        let len = length_push unused n in
        let first = old_name j (omega arith) in
        elim (cases_lt k (length unused)) [
          | inl low ↦ named.once j k lt low (sym first ∙ e ∙ old_name k low)
          | inr high ↦ other j (omega arith) (sym first ∙ e ∙ new_name k (omega arith))
        ]

    -- so the names are told apart as before
    pub named_free : AreNamed held2 unused2 words (live - length c)
    named_free =
        let held_len = length-set held n None in
        let len = length_push unused n in
        let some = freed_words in
        record {
          live_is =
              let w : words_of held ≡ live = named.live_is in
              let s : words_of held2 + size (held_at held n) ≡ words_of held + 0 = sum_by-set size held n None None inside in
              let z : size (held_at held n) ≡ length c = ap size is in
              omega arith;
          fits = let a : live ≤ words = named.fits in omega arith;
          dead = freed_dead;
          once = freed_once;
          counted =
              let a : length unused + blocks_of held ≡ length held = named.counted in
              let s : blocks_of held2 + one (held_at held n) ≡ blocks_of held + 0 = sum_by-set one held n None None inside in
              let z : one (held_at held n) ≡ 1 = ap one is in
              omega arith;
          few = let a : length held < 2 ^ 32 = named.few in omega arith;
        }

-- ---- places

-- names in the order stay where one comes behind them
listed_old : (order : List ℕ) (n len k : ℕ) → k < length order → (k < length (listed order n len)) × (get_or (listed order n len) k 0 ≡ get_or order k 0)
listed_old order n zero k lt = (lt, refl)
listed_old order n (suc len) k lt = (let e = length_push order n in omega arith, get_or_append_left order (n ∷ []) 0 k lt)

-- a name that comes has the entry behind the others
listed_new : (order : List ℕ) (n len : ℕ) → 0 < len → (length order < length (listed order n len)) × (get_or (listed order n len) (length order) 0 ≡ n)
listed_new order n zero some = absurd (omega arith)
listed_new order n (suc len) some = (let e = length_push order n in omega arith, get_or_push order n 0 (length order) refl)

-- the order grows by no more names than words
listed_length : (order : List ℕ) (n len : ℕ) → length (listed order n len) ≤ length order + len
listed_length order n zero = omega arith
listed_length order n (suc len) = let e = length_push order n in omega arith

module _ (run : Lits) (order : List ℕ) (slots : List (Option Place)) (words : ℕ) (laid : AreLaid run order slots words) where
  -- without a block the others lie as before
  pub laid_free : (n : ℕ) → AreLaid run order (set slots n None) words
  laid_free n = record {
    ends = λ m. elim (cases_eq m n) [
      | inl e ↦ elim (cases_lt n (length slots)) [
        | inl lt ↦ subst (EndsBy (length run)) (sym (ap (place_of (set slots n None)) e ∙ get_or-set_same slots n None None lt)) tt
        | inr past ↦ subst (EndsBy (length run)) (sym (get_or_past (set slots n None) m None (let len = length-set slots n None in omega arith))) tt
      ]
      | inr ne ↦ subst (EndsBy (length run)) (sym (get_or-set_other slots n m None None ne)) (laid.ends m)
    ];
    in_order = record {
      entry = λ m p is. laid.in_order.entry m p (set_none slots n m p is);
      sorted = λ m k p q is is2. laid.in_order.sorted m k p q (set_none slots n m p is) (set_none slots n k q is2);
    };
    within = laid.within;
    few_names = laid.few_names;
  }

  -- nor do they change
  pub blocks_free : (n : ℕ) → blocks_in run (set slots n None) ≡ set (blocks_in run slots) n None
  blocks_free n = map-set (block_in run) slots n None

  -- a block at the end of the run
  module _ (c : Lits) (n : ℕ) (p : Place) (start : p.start ≡ length run) (len : p.len ≡ length c) (at : p.at ≡ length order) (inside : n < length slots) where
    -- the run with the block
    abbrev pub later : Lits
    later = run ++ c

    -- the places with its own
    abbrev pub slots2 : List (Option Place)
    slots2 = set slots n (Some p)

    -- the order with its name
    abbrev pub order2 : List ℕ
    order2 = listed order n (length c)

    -- the run grows by the words of the block
    longer : length later ≡ length run + length c
    longer = length-append run c

    -- a block that was in the run has its words in the longer one
    kept_block : (s : Option Place) → EndsBy (length run) s → block_in later s ≡ block_in run s
    kept_block s ends = same_front (length run) run later s (take_at run c (length run) refl ∙ sym (take_all (length run) run (omega arith))) ends

    -- and the new block has its own
    own_block : block_in later (Some p) ≡ Some c
    own_block =
        ap (λ k. Some (take p.len (drop k later))) start
        ∙ ap (λ r. Some (take p.len r)) (drop_at run c (length run) refl)
        ∙ ap Some (take_all p.len c (omega arith))

    -- the block is there, and the others are as before
    pub blocks_put : blocks_in later slots2 ≡ set (blocks_in run slots) n (Some c)
    blocks_put =
        map-set (block_in later) slots n (Some p)
        ∙ ap (λ b. set (map (block_in later) slots) n b) own_block
        ∙ ap (λ bs. set bs n (Some c)) (blocks_changed run later slots slots refl (λ m. kept_block (place_of slots m) (laid.ends m)))

    -- a block that ends within the run ends within the longer one
    longer_ends : (s : Option Place) → EndsBy (length run) s → EndsBy (length later) s
    longer_ends None ends = tt
    longer_ends (Some q) ends = λ some. let a = ends some in let b = longer in omega arith

    -- so each block ends within the longer run, and so does the new one
    put_ends : EachEndsBy (length later) slots2
    put_ends m =
        elim (cases_eq m n) [
          | inl e ↦ subst (EndsBy (length later)) (sym (ap (place_of slots2) e ∙ get_or-set_same slots n (Some p) None inside)) (λ some. let b = longer in omega arith)
          | inr ne ↦ subst (EndsBy (length later)) (sym (get_or-set_other slots n m (Some p) None ne)) (longer_ends (place_of slots m) (laid.ends m))
        ]

    -- each block with words has its name at its own entry, the new one behind the others
    put_entry : (m : ℕ) (q : Place) → place_of slots2 m ≡ Some q → 0 < q.len → (q.at < length order2) × (get_or order2 q.at 0 ≡ m)
    put_entry m q is some =
        elim (set_some slots n m p q is) [
          | inl w ↦
              let same_at : q.at ≡ length order = ap (λ (s : Place). s.at) w.1 ∙ at in
              let same_len : q.len ≡ length c = ap (λ (s : Place). s.len) w.1 ∙ len in
              let new = listed_new order n (length c) (omega arith) in
              (let a = new.0 in omega arith, ap (λ k. get_or order2 k 0) same_at ∙ new.1 ∙ sym w.0)
          | inr w ↦
              let old = laid.in_order.entry m q w.1 some in
              let stays = listed_old order n (length c) q.at old.0 in
              (stays.0, stays.1 ∙ old.1)
        ]

    -- and the words of blocks come in that order
    put_sorted : (m k : ℕ) (q r : Place) → place_of slots2 m ≡ Some q → place_of slots2 k ≡ Some r → 0 < q.len → 0 < r.len
        → q.at < r.at → q.start + q.len ≤ r.start
    put_sorted m k q r is is2 some some2 lt =
        elim (set_some slots n m p q is) [
          | inl w ↦
              let same_at : q.at ≡ length order = ap (λ (s : Place). s.at) w.1 ∙ at in
              elim (set_some slots n k p r is2) [
                | inl v ↦ let same_at2 : r.at ≡ length order = ap (λ (s : Place). s.at) v.1 ∙ at in absurd (omega arith)
                | inr v ↦ let b = (laid.in_order.entry k r v.1 some2).0 in absurd (omega arith)
              ]
          | inr w ↦ elim (set_some slots n k p r is2) [
            | inl v ↦
                let same_start : r.start ≡ length run = ap (λ (s : Place). s.start) v.1 ∙ start in
                let a : q.start + q.len ≤ length run = subst (EndsBy (length run)) w.1 (laid.ends m) some in omega arith
            | inr v ↦ laid.in_order.sorted m k q r w.1 v.1 some some2 lt
          ]
        ]

    -- the blocks lie behind one another, the new one last
    pub laid_put : length run + length c ≤ words → AreLaid later order2 slots2 words
    laid_put fits = record {
      ends = put_ends;
      in_order = record { entry = put_entry; sorted = put_sorted };
      within = let b = longer in omega arith;
      few_names = let a = listed_length order n (length c) in let b = longer in let d : length order ≤ length run = laid.few_names in omega arith;
    }

-- ---- the empty region

-- blocks that no slot has
pub blocks_new : (run : Lits) (blocks : ℕ) → blocks_in run (replicate blocks None) ≡ replicate blocks None
blocks_new run blocks = map-replicate (block_in run) blocks None

-- n copies are n
pub copies_length : {X : Type 0} (xs : List X) (n : ℕ) (x : X) → xs ≡ replicate n x → length xs ≡ n
copies_length xs n x e = ap length e ∙ length-replicate n x

-- all names are unused
pub named_new : (names : List ℕ) (words blocks : ℕ) → blocks < 2 ^ 32 → AreAllNames blocks names
    → (held : List (Option Lits)) → held ≡ replicate blocks None → AreNamed held names words 0
named_new names words blocks few all held e =
    let len = copies_length held blocks None e in
    let many = all.many in
    record {
      live_is = ap words_of e ∙ sum-replicate size blocks None refl;
      fits = omega arith;
      dead = λ k lt. (let a = all.falling k (omega arith) in omega arith, ap (λ h. held_at h (get_or names k 0)) e ∙ get_or-copies blocks None (get_or names k 0));
      once = λ j k lt below same. let a = all.falling j (omega arith) in let b = all.falling k (omega arith) in absurd (omega arith);
      counted = let a : blocks_of held ≡ 0 = ap blocks_of e ∙ sum-replicate one blocks None refl in omega arith;
      few = omega arith;
    }

-- no block lies anywhere
pub laid_new : (run : Lits) (order : List ℕ) (slots : List (Option Place)) (words blocks : ℕ) → run ≡ [] → order ≡ [] → slots ≡ replicate blocks None
    → AreLaid run order slots words
laid_new run order slots words blocks no_words no_names e =
    let none : (m : ℕ) → place_of slots m ≡ None = λ m. ap (λ s. place_of s m) e ∙ get_or-copies blocks None m in
    let run_len : length run ≡ 0 = ap length no_words in
    let order_len : length order ≡ 0 = ap length no_names in
    record {
      ends = λ m. subst (EndsBy (length run)) (sym (none m)) tt;
      in_order = record {
        entry = λ m p is some. let a = none m in absurd (cc);
        sorted = λ m k p q is is2 some some2 lt. let a = none m in absurd (cc);
      };
      within = omega arith;
      few_names = omega arith;
    }

-- ---- the whole of a put, where the blocks may have been moved before

module _ (run : Lits) (slots : List (Option Place)) (unused : List ℕ) (words live : ℕ) (named : AreNamed (blocks_in run slots) unused words live)
    (run1 : Lits) (order1 : List ℕ) (slots1 : List (Option Place)) (laid : AreLaid run1 order1 slots1 words)
    (same : blocks_in run1 slots1 ≡ blocks_in run slots) (slots_len : length slots1 ≡ length slots)
    (c : Lits) (room : length run1 + length c ≤ words) (fits : live + length c ≤ words) (some : 0 < length unused)
    (n : ℕ) (n_is : n ≡ get_or unused (length unused - 1) 0)
    (p : Place) (start : p.start ≡ length run1) (len : p.len ≡ length c) (at : p.at ≡ length order1)
    (run2 : Lits) (run2_is : run2 ≡ run1 ++ c) where
  -- the name of the new block is one of the names
  there : n < length slots1
  there =
      let a = in_range (blocks_in run slots) unused words live named c some fits in
      let b = length-map slots (block_in run) in
      omega arith

  -- the new block is there, and the others are as before
  pub put_blocks : blocks_in run2 (set slots1 n (Some p)) ≡ set (blocks_in run slots) n (Some c)
  put_blocks =
      ap (λ r. blocks_in r (set slots1 n (Some p))) run2_is
      ∙ blocks_put run1 order1 slots1 words laid c n p start len at there
      ∙ ap (λ b. set b n (Some c)) same

  -- its name is no longer unused
  pub put_named : (unused2 : List ℕ) → unused2 ≡ take (length unused - 1) unused → AreNamed (blocks_in run2 (set slots1 n (Some p))) unused2 words (live + p.len)
  put_named unused2 u =
      let held : List (Option Lits) = blocks_in run slots in
      let first : AreNamed (set held n (Some c)) (take (length unused - 1) unused) words (live + length c) =
      subst (λ m. AreNamed (set held m (Some c)) (take (length unused - 1) unused) words (live + length c)) (sym n_is) (named_put held unused words live named c some fits) in
      let second : AreNamed (set held n (Some c)) unused2 words (live + length c) = subst (λ us. AreNamed (set held n (Some c)) us words (live + length c)) (sym u) first in
      let third : AreNamed (set held n (Some c)) unused2 words (live + p.len) = subst (λ k. AreNamed (set held n (Some c)) unused2 words (live + k)) (sym len) second in
      subst (λ h. AreNamed h unused2 words (live + p.len)) (sym put_blocks) third

  -- it lies behind the others
  pub put_laid : (order2 : List ℕ) → order2 ≡ listed order1 n (length c) → AreLaid run2 order2 (set slots1 n (Some p)) words
  put_laid order2 o =
      subst (λ r. AreLaid r order2 (set slots1 n (Some p)) words) (sym run2_is)
      (subst (λ ns. AreLaid (run1 ++ c) ns (set slots1 n (Some p)) words) (sym o) (laid_put run1 order1 slots1 words laid c n p start len at there room))

-- ---- the whole of a free

module _ (run : Lits) (order : List ℕ) (slots : List (Option Place)) (unused : List ℕ) (words live : ℕ) (named : AreNamed (blocks_in run slots) unused words live)
    (laid : AreLaid run order slots words) (n : ℕ) (c : Lits) (is : held_at (blocks_in run slots) n ≡ Some c) where
  -- the name of the block is unused
  pub free_named : (unused2 : List ℕ) → unused2 ≡ unused ++ n ∷ [] → AreNamed (blocks_in run (set slots n None)) unused2 words (live - length c)
  free_named unused2 u =
      let first = named_free (blocks_in run slots) unused words live named n c is in
      subst (λ h. AreNamed h unused2 words (live - length c)) (sym (blocks_free run order slots words laid n))
      (subst (λ us. AreNamed (set (blocks_in run slots) n None) us words (live - length c)) (sym u) first)
