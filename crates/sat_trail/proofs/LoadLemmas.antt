-- One more clause is put into a region, and at the end the trail is kept.
use Rattle.std.proofs.Common.{◌≡◌, ◌≢◌, ℕ, zero, suc, ◌+◌, ◌-◌, ◌*◌, ◌/◌, ◌<◌, ◌≤◌, List, [], ◌∷◌, ◌++◌, length, map, replicate, set, get_or, take, Option, Some, None, inl, inr, refl, sym, ap, ◌∙◌, subst, arith, length-set, length-append, length-take-le, get_or-take, get_or-set_same, get_or-set_other}
use Rattle.std.proofs.lemmas.Bool.{cases_eq, cases_lt}
use Rattle.std.proofs.lemmas.List.{same_lists, get_or_append_left, get_or-append_right, get_or-map, get_or-replicate, get_or_past, length-map, length-replicate}
use Rattle.std.proofs.lemmas.List.Sums.{sum_by_more, sum_by-set}
use Rattle.clause_defs.specs.Literals.{Literal}
use Rattle.clause_defs.specs.Clauses.{Lits, Has, IsClause, WithinVariables}
use Rattle.pch_region.specs.Blocks.{held_at, size, one, words_of, blocks_of}
use Rattle.sat_values.specs.ClauseLists.{AreClausesOver}
use Rattle.link_lists.specs.Linked.{Linked, list_at}
use Rattle.trail_defs.specs.Assignments.{IsAt}
use Rattle.sat_trail.specs.Watching.{IsBound, HasSizes}
use Rattle.sat_trail.specs.Kept.{IsKept}
use Rattle.sat_trail.specs.Loading.{IsLoading, AreLoadedLists}
use Rattle.sat_trail.specs.declared.levels.Stage.{Stage}
use Rattle.sat_trail.proofs.PushLemmas.{push_in, push_still, push_came, push_other}

-- no block is there yet
pub loading_none : (cs : List Lits) (blocks : ℕ) (held : List (Option Lits)) → held ≡ replicate blocks None → words_of held ≡ 0 → blocks_of held ≡ 0 → IsLoading cs blocks 0 held
loading_none cs blocks held e words count = record {
  many = ap length e ∙ length-replicate blocks None;
  there = λ b lt. absurd (omega arith);
  rest = λ b le. elim (cases_lt b blocks) [
    | inl lt ↦ ap (λ h. get_or h b None) e ∙ get_or-replicate blocks b None None lt
    | inr past ↦ get_or_past held b None (let a = ap length e ∙ length-replicate blocks None in omega arith)
  ];
  words = words;
  counted = count;
}

module _ (cs : List Lits) (blocks k : ℕ) (held : List (Option Lits)) (loading : IsLoading cs blocks k held) (below : k < length cs) (room : k < blocks) where
  -- one more block
  pub loading_more : (c : Lits) → c ≡ get_or cs k [] → (later : List (Option Lits)) → later ≡ set held k (Some c) → IsLoading cs blocks (k + 1) later
  loading_more c is later e = record {
    many = ap length e ∙ length-set held k (Some c) ∙ loading.many;
    there = λ b lt. elim (cases_eq b k) [
      | inl same ↦ ap (λ h. get_or h b None) e ∙ ap (λ j. get_or (set held k (Some c)) j None) same
          ∙ get_or-set_same held k (Some c) None (let a = loading.many in omega arith) ∙ ap Some (is ∙ ap (λ j. get_or cs j []) (sym same))
      | inr ne ↦ ap (λ h. get_or h b None) e ∙ get_or-set_other held k b (Some c) None ne ∙ loading.there b (omega arith)
    ];
    rest = λ b le. ap (λ h. get_or h b None) e ∙ get_or-set_other held k b (Some c) None (λ same. absurd (omega arith)) ∙ loading.rest b (omega arith);
    words =
        let a = ap words_of e in
        let b = sum_by-set size held k (Some c) None (let m = loading.many in omega arith) in
        let d = ap size (loading.rest k (omega arith)) in
        let f = sum_by_more length cs k [] below in
        let g = loading.words in
        let i = ap length is in
        omega arith;
    counted =
        let a = ap blocks_of e in
        let b = sum_by-set one held k (Some c) None (let m = loading.many in omega arith) in
        let d = ap one (loading.rest k (omega arith)) in
        let g = loading.counted in
        omega arith;
  }

-- its even watch comes to list 1
pub lists_more : (k p : ℕ) (lists pushed : List (List ℕ)) → AreLoadedLists k lists → p ≡ 2 * k → pushed ≡ set lists 1 (p ∷ list_at lists 1) → AreLoadedLists (k + 1) pushed
lists_more k p lists pushed loaded is put =
    let inside : 1 < length lists = let a = loaded.some in omega arith in
    record {
      some = let a = ap length put ∙ length-set lists 1 (p ∷ list_at lists 1) in let b = loaded.some in omega arith;
      loose = λ w. (
        λ h. elim (push_came lists pushed 1 p inside put 1 w h) [
          | inl now ↦ (k, omega arith, sym now.1 ∙ is)
          | inr old ↦ let was = (loaded.loose w).0 old in (was.0, let a = was.1 in omega arith, was.2)
        ],
        λ h. elim (cases_eq h.0 k) [
          | inl same ↦ subst (Has (list_at pushed 1)) (is ∙ ap (λ b. 2 * b) (sym same) ∙ sym h.2) (push_in lists pushed 1 p inside put)
          | inr ne ↦ push_still lists pushed 1 p inside put 1 w ((loaded.loose w).1 (h.0, let a = h.1 in omega arith, h.2))
        ],
      );
      others = λ j ne. push_other lists pushed 1 p inside put j ne ∙ loaded.others j ne;
    }

-- and was in no list
pub lists_out : (k p : ℕ) (lists : List (List ℕ)) → AreLoadedLists k lists → p ≡ 2 * k → (j : ℕ) → Has (list_at lists j) p → ⊥
lists_out k p lists loaded is j h = elim (cases_eq j 1) [
  | inl e ↦ let was = (loaded.loose p).0 (subst (λ i. Has (list_at lists i) p) e h) in let a = was.1 in let b = was.2 in omega arith
  | inr ne ↦ let none : Has [] p = subst (λ ws. Has ws p) (loaded.others j ne) h in none
]

-- empty lists are loaded with nothing
pub lists_none : (n : ℕ) (lists : List (List ℕ)) → lists ≡ replicate n [] → 2 ≤ n → AreLoadedLists 0 lists
lists_none n lists e two =
    let all : (j : ℕ) → list_at lists j ≡ [] = λ j. elim (cases_lt j n) [
      | inl lt ↦ ap (λ ls. list_at ls j) e ∙ get_or-replicate n j [] [] lt
      | inr past ↦ get_or_past lists j [] (let a = ap length e ∙ length-replicate n [] in omega arith)
    ] in
    record {
      some = let a = ap length e ∙ length-replicate n [] in omega arith;
      loose = λ w. (λ h. let none : Has [] w = subst (λ ws. Has ws w) (all 1) h in absurd none, λ h. let a = h.1 in absurd (omega arith));
      others = λ j ne. all j;
    }

-- within a list any default reads the same
get_or_none : {X : Type 0} (xs : List (Option X)) (b : ℕ) (d : Option X) → b < length xs → get_or xs b d ≡ get_or xs b None
get_or_none [] b d lt = absurd (omega arith)
get_or_none (x ∷ xs) zero d lt = refl
get_or_none (x ∷ xs) (suc b) d lt = get_or_none xs b d (omega arith)

-- a clause at a place is one of them
has_at : (cs : List Lits) (b : ℕ) → b < length cs → Has cs (get_or cs b [])
has_at [] b lt = absurd (omega arith)
has_at (d ∷ cs) zero lt = inl refl
has_at (d ∷ cs) (suc b) lt = inr (has_at cs b (omega arith))

module _ (variables : ℕ) (cs : List Lits) (blocks k : ℕ) (held : List (Option Lits)) (loading : IsLoading cs blocks k held)
    (over : AreClausesOver variables cs) (few : k ≤ length cs) where
  inside : (b : ℕ) → held_at held b ≢ None → b < k
  inside b some = elim (cases_lt b k) [
    | inl lt ↦ lt
    | inr past ↦ absurd (some (loading.rest b past))
  ]

  clause_some : (b : ℕ) (c : Lits) → get_or held b None ≡ Some c → (b < k) × (c ≡ get_or cs b [])
  clause_some b c e = elim (cases_lt b k) [
    | inl lt ↦ (lt, let a = loading.there b lt in cc)
    | inr past ↦ absurd (let a = loading.rest b past in cc)
  ]

  -- no clause is watched yet
  unbound : (lists : List (List ℕ)) → AreLoadedLists k lists → (w : ℕ) → IsBound held (list_at lists 1) w → ⊥
  unbound lists loaded w bound = bound.tied ((loaded.loose (2 * (w / 2))).1 (w / 2, inside (w / 2) bound.live, refl))

  pub loaded_kept : (watch : Lits) (links : Linked) (levels reasons : List ℕ) (t : Lits) (stages : List Stage) → AreLoadedLists k links.lists → HasSizes held variables links
      → length watch ≡ 2 * length held → length levels ≡ variables + 1 → length reasons ≡ variables + 1 → t ≡ [] → stages ≡ []
      → IsKept variables k held t levels reasons stages 0 watch links
  loaded_kept watch links levels reasons t stages loaded sizes size level_size reason_size no_literals no_stages =
      let no_place : (i : ℕ) (l : Literal) → IsAt t i l → ⊥ = λ i l at. let a = at.within in let b = ap length no_literals in absurd (omega arith) in
      let no_stage : (j : ℕ) → j < length stages → ⊥ = λ j lt. let b = ap length no_stages in absurd (omega arith) in
      record {
        over = λ b c e.
            let is = clause_some b c e in
            let there = has_at cs b (let a = is.0 in omega arith) in
            subst (λ d. IsClause d × WithinVariables variables d) (sym is.1) (over.clauses.clauses (get_or cs b []) there, over.within (get_or cs b []) there);
        live = λ b lt none. absurd (let a = loading.there b lt in cc);
        sizes = sizes;
        watches = record {
          size = size;
          members = λ w bound. absurd (unbound links.lists loaded w bound);
          two = λ w bound. absurd (unbound links.lists loaded w bound);
        };
        listed = record {
          there = λ w bound. absurd (unbound links.lists loaded w bound);
          only = λ j w two h. let none : Has [] w = subst (λ ws. Has ws w) (loaded.others j (λ e. absurd (omega arith))) h in absurd none;
          loose_are = λ w. (λ h. h, λ h. h);
          even = λ w h.
              let was = (loaded.loose w).0 h in
              let e = was.2 in
              let half : w / 2 ≡ was.0 = omega arith in
              (omega arith, λ none. absurd (let a = loading.there was.0 was.1 in let n : get_or held was.0 None ≡ None = ap (λ j. get_or held j None) (sym half) ∙ none in cc));
          left = loaded.others 0 (λ e. absurd (omega arith));
        };
        stages_are = record {
          passed = omega arith;
          now = λ w bound h. absurd (unbound links.lists loaded w bound);
          each = λ j lt. absurd (no_stage j lt);
          rising = λ i j up lt. absurd (no_stage j lt);
        };
        marked = record {
          level_size = level_size;
          reason_size = reason_size;
          levels_are = λ i l at. absurd (no_place i l at);
          top = λ i l at. absurd (no_place i l at);
          implied = λ i l at. absurd (no_place i l at);
          decided = λ i l at. absurd (no_place i l at);
        };
      }

  -- the blocks are the clauses, and then none
  pub loaded_held : (extra : ℕ) → blocks ≡ k + extra → held ≡ map Some (take k cs) ++ replicate extra None
  loaded_held extra sum =
      let cut = length-take-le k cs few in
      let front = length-map (take k cs) Some in
      let long = length-append (map Some (take k cs)) (replicate extra None) in
      let rest = length-replicate {A = Option Lits} extra None in
      same_lists held (map Some (take k cs) ++ replicate extra None) (let a = loading.many in omega arith) (λ b d lt. elim (cases_lt b k) [
        | inl low ↦
            get_or_none held b d lt ∙ loading.there b low
            ∙ sym (get_or_append_left (map Some (take k cs)) (replicate extra None) d b (omega arith)
            ∙ get_or-map Some (take k cs) b [] d (omega arith) ∙ ap Some (get_or-take k cs b [] low))
        | inr past ↦
            get_or_none held b d lt ∙ loading.rest b past
            ∙ sym (get_or-append_right (map Some (take k cs)) (replicate extra None) k b d (omega arith) past
            ∙ get_or-replicate extra (b - k) None d (let a = loading.many in omega arith))
      ])
