-- One loose clause is looked at: it is taken from list 0, and stays loose or is bound.
use Rattle.std.proofs.Common.{◌≡◌, ◌≢◌, ◌⊎◌, ◌↔◌, ℕ, ◌+◌, ◌*◌, ◌/◌, ◌<◌, ◌≤◌, List, [], ◌∷◌, ◌++◌, length, set, get_or, take, Option, None, inl, inr, refl, sym, ap, ◌∙◌, subst, arith, length-set, get_or-set_same, get_or-set_other}
use Rattle.std.proofs.lemmas.Bool.{cases_eq}
use Rattle.clause_defs.specs.Literals.{Literal, code}
use Rattle.clause_defs.specs.Clauses.{Lits, Has}
use Rattle.pch_base.proofs.SetLemmas.{Has-append}
use Rattle.link_lists.specs.Linked.{Linked, list_at}
use Rattle.trail_defs.specs.Assignments.{IsSatisfied}
use Rattle.sat_trail.specs.Watching.{no_literal, lit_at, other, lits_at, IsBound}
use Rattle.sat_trail.specs.Looks.{Keeps}
use Rattle.sat_trail.specs.Loosening.{loose_in, IsSettling, AreSettledIn, AreBound}
use Rattle.sat_trail.proofs.OtherLemmas.{other_half, other_of_even, other_of_odd}
use Rattle.sat_trail.proofs.BoundLemmas.{SameNumbers, bound_same, watched_same, stages_same, bound_cases}
use Rattle.sat_trail.proofs.PushLemmas.{push_at, push_other, push_in, push_still, push_came}
use Rattle.sat_trail.proofs.VisitCases.{code_high}
use Rattle.sat_trail.proofs.LookLemmas.{grows_none}

module _ (clauses : List (Option Lits)) (variables : ℕ) (watch : Lits) (links : Linked) (settling : IsSettling clauses variables watch links)
    (popped : List (List ℕ)) (w : ℕ) (first : list_at links.lists 0 ≡ w ∷ list_at popped 0) (rest : popped ≡ set links.lists 0 (list_at popped 0))
    (out : (k : ℕ) → Has (list_at popped k) w → ⊥) (below : w < links.size) where
  hand : Has (loose_in links.lists) w
  hand = (Has-append (list_at links.lists 0) (list_at links.lists 1) w).1 (inl (subst (λ ws. Has ws w) (sym first) (inl refl)))

  pub w_even : w ≡ 2 * (w / 2)
  w_even = (settling.even w hand).0

  pub w_live : get_or clauses (w / 2) None ≢ None
  w_live = (settling.even w hand).1

  -- there are two watches of the clause
  pub w_inside : w + 1 < length watch
  w_inside = let a = w_even in let b = settling.sizes.size in let c = settling.watches.size in omega arith

  popped_other : (k : ℕ) → k ≢ 0 → list_at popped k ≡ list_at links.lists k
  popped_other k ne = ap (λ ls. list_at ls k) rest ∙ get_or-set_other links.lists 0 k (list_at popped 0) [] ne

  popped_one : list_at popped 1 ≡ list_at links.lists 1
  popped_one = popped_other 1 (λ e. absurd (omega arith))

  pub popped_length : length popped ≡ 2 * variables + 4
  popped_length = ap length rest ∙ length-set links.lists 0 (list_at popped 0) ∙ settling.sizes.lists

  -- what is loose but for this one was loose
  was_loose : (v : ℕ) → Has (loose_in popped) v → Has (loose_in links.lists) v
  was_loose v h = elim ((Has-append (list_at popped 0) (list_at popped 1) v).0 h) [
    | inl a ↦ (Has-append (list_at links.lists 0) (list_at links.lists 1) v).1 (inl (subst (λ ws. Has ws v) (sym first) (inr a)))
    | inr b ↦ (Has-append (list_at links.lists 0) (list_at links.lists 1) v).1 (inr (subst (λ ws. Has ws v) popped_one b))
  ]

  loose_cases : (v : ℕ) → Has (loose_in links.lists) v → (w ≡ v) ⊎ Has (loose_in popped) v
  loose_cases v h = elim ((Has-append (list_at links.lists 0) (list_at links.lists 1) v).0 h) [
    | inl a ↦ elim (subst (λ ws. Has ws v) first a) [
      | inl e ↦ inl e
      | inr b ↦ inr ((Has-append (list_at popped 0) (list_at popped 1) v).1 (inl b))
    ]
    | inr b ↦ inr ((Has-append (list_at popped 0) (list_at popped 1) v).1 (inr (subst (λ ws. Has ws v) (sym popped_one) b)))
  ]

  odd_loose : Has (loose_in links.lists) (w + 1) → ⊥
  odd_loose h = let e = w_even in let f = (settling.even (w + 1) h).0 in absurd (omega arith)

  -- the odd watch of the clause is in no list
  pub other_out : (k : ℕ) → Has (list_at popped k) (w + 1) → ⊥
  other_out k has = elim (cases_eq k 0) [
    | inl e ↦ odd_loose (was_loose (w + 1) ((Has-append (list_at popped 0) (list_at popped 1) (w + 1)).1 (inl (subst (λ j. Has (list_at popped j) (w + 1)) e has))))
    | inr n0 ↦ elim (cases_eq k 1) [
      | inl e ↦ odd_loose (was_loose (w + 1) ((Has-append (list_at popped 0) (list_at popped 1) (w + 1)).1 (inr (subst (λ j. Has (list_at popped j) (w + 1)) e has))))
      | inr n1 ↦
          let was = settling.only k (w + 1) (omega arith) (subst (λ ws. Has ws (w + 1)) (popped_other k n0) has) in
          let e = w_even in
          let same : w ≡ 2 * ((w + 1) / 2) = omega arith in
          was.0.tied (subst (Has (loose_in links.lists)) same hand)
    ]
  ]

  codes : (v : ℕ) → IsBound clauses (loose_in links.lists) v → 2 ≤ code (lit_at watch v)
  codes v bound = code_high variables clauses settling.over (v / 2) (lit_at watch v) (settling.watches.members v bound)

  -- ---- it stays loose

  module _ (links2 : Linked) (size : links2.size ≡ links.size) (put : links2.lists ≡ set popped 1 (w ∷ list_at popped 1)) where
    one_inside : 1 < length popped
    one_inside = let a = popped_length in omega arith

    at_one : list_at links2.lists 1 ≡ w ∷ list_at popped 1
    at_one = push_at popped links2.lists 1 w one_inside put

    at_rest : (k : ℕ) → k ≢ 1 → list_at links2.lists k ≡ list_at popped k
    at_rest k ne = push_other popped links2.lists 1 w one_inside put k ne

    at_zero : list_at links2.lists 0 ≡ list_at popped 0
    at_zero = at_rest 0 (λ e. absurd (omega arith))

    at_high : (k : ℕ) → 2 ≤ k → list_at links2.lists k ≡ list_at links.lists k
    at_high k two = at_rest k (λ e. absurd (omega arith)) ∙ popped_other k (λ e. absurd (omega arith))

    -- the same clauses are loose
    pub stays_same : SameNumbers (loose_in links.lists) (loose_in links2.lists)
    stays_same v = (
      λ h. elim (loose_cases v h) [
        | inl e ↦ (Has-append (list_at links2.lists 0) (list_at links2.lists 1) v).1 (inr (subst (λ ws. Has ws v) (sym at_one) (inl e)))
        | inr p ↦ elim ((Has-append (list_at popped 0) (list_at popped 1) v).0 p) [
          | inl a ↦ (Has-append (list_at links2.lists 0) (list_at links2.lists 1) v).1 (inl (subst (λ ws. Has ws v) (sym at_zero) a))
          | inr b ↦ (Has-append (list_at links2.lists 0) (list_at links2.lists 1) v).1 (inr (subst (λ ws. Has ws v) (sym at_one) (inr b)))
        ]
      ],
      λ h. elim ((Has-append (list_at links2.lists 0) (list_at links2.lists 1) v).0 h) [
        | inl a ↦ was_loose v ((Has-append (list_at popped 0) (list_at popped 1) v).1 (inl (subst (λ ws. Has ws v) at_zero a)))
        | inr b ↦ elim (subst (λ ws. Has ws v) at_one b) [
          | inl e ↦ subst (Has (loose_in links.lists)) e hand
          | inr d ↦ was_loose v ((Has-append (list_at popped 0) (list_at popped 1) v).1 (inr d))
        ]
      ],
    )

    back : (v : ℕ) → IsBound clauses (loose_in links2.lists) v → IsBound clauses (loose_in links.lists) v
    back v bound = bound_same clauses (loose_in links.lists) (loose_in links2.lists) stays_same v bound

    forth : (v : ℕ) → IsBound clauses (loose_in links.lists) v → IsBound clauses (loose_in links2.lists) v
    forth v bound = bound_same clauses (loose_in links2.lists) (loose_in links.lists) (λ u. ((stays_same u).1, (stays_same u).0)) v bound

    pub stays_settling : IsSettling clauses variables watch links2
    stays_settling = record {
      over = settling.over;
      sizes = record {
        size = size ∙ settling.sizes.size;
        few = let a = settling.sizes.few in omega arith;
        lists = ap length put ∙ length-set popped 1 (w ∷ list_at popped 1) ∙ popped_length;
      };
      watches = record {
        size = settling.watches.size;
        members = λ v bound. settling.watches.members v (back v bound);
        two = λ v bound. settling.watches.two v (back v bound);
      };
      there = λ v bound. subst (λ ws. Has ws v) (sym (at_high (code (lit_at watch v)) (codes v (back v bound)))) (settling.there v (back v bound));
      only = λ k v two h. let was = settling.only k v two (subst (λ ws. Has ws v) (at_high k two) h) in (forth v was.0, was.1);
      even = λ v h. settling.even v ((stays_same v).1 h);
    }

    pub stays_keeps : (level : ℕ) (t : Lits) (levels reasons : List ℕ)
        → Keeps clauses variables level (loose_in links.lists) (loose_in links2.lists) watch t levels reasons watch t levels reasons
    stays_keeps level t levels reasons = record {
      grows = grows_none t levels reasons level;
      watched = λ done le was. watched_same clauses (loose_in links.lists) (loose_in links2.lists) watch t (take done t) stays_same was;
      stages = λ done stages len marked are. stages_same clauses (loose_in links.lists) (loose_in links2.lists) watch t done stages stays_same are;
      marked = λ stages len within marked. marked;
    }

    pub stays_fewer : length (list_at links2.lists 0) < length (list_at links.lists 0)
    stays_fewer = let a = ap length first in let b = ap length at_zero in omega arith

    pub stays_settled : (t u : Lits) → ((l : Literal) → Has t l → Has u l) → IsSatisfied u (lits_at clauses (w / 2))
        → AreSettledIn clauses links.lists t → AreSettledIn clauses links2.lists u
    stays_settled t u more here old v h = elim (subst (λ ws. Has ws v) at_one h) [
      | inl e ↦ subst (λ k. IsSatisfied u (lits_at clauses (k / 2))) e here
      | inr b ↦ let s = old v (subst (λ ws. Has ws v) popped_one b) in (s.0, s.1, more s.0 s.2)
    ]

  -- ---- it is bound by two literals

  module _ (links2 : Linked) (size : links2.size ≡ links.size) (later : Lits) (a b : Literal) (binds : AreBound w a b watch popped later links2.lists)
      (a_in : Has (lits_at clauses (w / 2)) a) (b_in : Has (lits_at clauses (w / 2)) b) (apart : b ≢ a)
      (a_inside : code a < length popped) (b_inside : code b < length popped) where
    a_high : 2 ≤ code a
    a_high = code_high variables clauses settling.over (w / 2) a a_in

    b_high : 2 ≤ code b
    b_high = code_high variables clauses settling.over (w / 2) b b_in

    front_length : length binds.front ≡ length popped
    front_length = ap length binds.in_front ∙ length-set popped (code a) (w ∷ list_at popped (code a))

    b_front : code b < length binds.front
    b_front = subst (λ n. code b < n) (sym front_length) b_inside

    at_low : (k : ℕ) → k < 2 → list_at links2.lists k ≡ list_at popped k
    at_low k low =
        push_other binds.front links2.lists (code b) (w + 1) b_front binds.behind k (λ e. let h = b_high in absurd (omega arith))
        ∙ push_other popped binds.front (code a) w a_inside binds.in_front k (λ e. let h = a_high in absurd (omega arith))

    loose_is : loose_in links2.lists ≡ loose_in popped
    loose_is = ap (λ xs. xs ++ list_at links2.lists 1) (at_low 0 (omega arith)) ∙ ap (λ ys. list_at popped 0 ++ ys) (at_low 1 (omega arith))

    pub bind_was : (v : ℕ) → Has (loose_in links.lists) v ↔ ((v ≡ 2 * (w / 2)) ⊎ Has (loose_in links2.lists) v)
    bind_was v = (
      λ h. elim (loose_cases v h) [
        | inl e ↦ inl (sym e ∙ w_even)
        | inr p ↦ inr (subst (λ ws. Has ws v) (sym loose_is) p)
      ],
      λ h. elim h [
        | inl e ↦ subst (Has (loose_in links.lists)) (w_even ∙ sym e) hand
        | inr p ↦ was_loose v (subst (λ ws. Has ws v) loose_is p)
      ],
    )

    pub bind_gone : Has (loose_in links2.lists) (2 * (w / 2)) → ⊥
    bind_gone h = elim ((Has-append (list_at popped 0) (list_at popped 1) (2 * (w / 2))).0 (subst (λ ws. Has ws (2 * (w / 2))) loose_is h)) [
      | inl x ↦ out 0 (subst (Has (list_at popped 0)) (sym w_even) x)
      | inr y ↦ out 1 (subst (Has (list_at popped 1)) (sym w_even) y)
    ]

    half : (w + 1) / 2 ≡ w / 2
    half = let e = w_even in omega arith

    at_w : lit_at later w ≡ a
    at_w = ap (λ ls. lit_at ls w) binds.written ∙ get_or-set_other (set watch w a) (w + 1) w b no_literal (λ e. absurd (omega arith))
        ∙ get_or-set_same watch w a no_literal (let i = w_inside in omega arith)

    at_next : lit_at later (w + 1) ≡ b
    at_next = ap (λ ls. lit_at ls (w + 1)) binds.written
        ∙ get_or-set_same (set watch w a) (w + 1) b no_literal (let i = w_inside in let l = length-set watch w a in omega arith)

    pub bind_first : lit_at later (2 * (w / 2)) ≡ a
    bind_first = ap (lit_at later) (sym w_even) ∙ at_w

    pub bind_second : lit_at later (2 * (w / 2) + 1) ≡ b
    bind_second = ap (λ k. lit_at later (k + 1)) (sym w_even) ∙ at_next

    pub bind_others : (v : ℕ) → v / 2 ≢ w / 2 → lit_at later v ≡ lit_at watch v
    bind_others v ne = ap (λ ls. lit_at ls v) binds.written
        ∙ get_or-set_other (set watch w a) (w + 1) v b no_literal (λ e. ne (ap (λ k. k / 2) e ∙ half))
        ∙ get_or-set_other watch w v a no_literal (λ e. ne (ap (λ k. k / 2) e))

    pub bind_size : length later ≡ length watch
    bind_size = ap length binds.written ∙ length-set (set watch w a) (w + 1) b ∙ length-set watch w a

    -- a watch of this clause is one of the two
    mine : (v : ℕ) → v / 2 ≡ w / 2 → (v ≡ w) ⊎ (v ≡ w + 1)
    mine v e = elim (cases_eq v w) [
      | inl f ↦ inl f
      | inr nf ↦ let g = w_even in inr (omega arith)
    ]

    -- and the others were bound before
    old : (v : ℕ) → v / 2 ≢ w / 2 → IsBound clauses (loose_in links2.lists) v → IsBound clauses (loose_in links.lists) v
    old v ne bound = elim (bound_cases clauses (loose_in links.lists) (loose_in links2.lists) watch (w / 2) a b bind_was bind_gone v bound) [
      | inl was ↦ was
      | inr e ↦ absurd (ne e)
    ]

    members : (v : ℕ) → IsBound clauses (loose_in links2.lists) v → Has (lits_at clauses (v / 2)) (lit_at later v)
    members v bound = elim (cases_eq (v / 2) (w / 2)) [
      | inl e ↦ elim (mine v e) [
        | inl f ↦ subst (λ u. Has (lits_at clauses (u / 2)) (lit_at later u)) (sym f) (subst (Has (lits_at clauses (w / 2))) (sym at_w) a_in)
        | inr f ↦ subst (λ u. Has (lits_at clauses (u / 2)) (lit_at later u)) (sym f)
            (subst (λ h. Has (lits_at clauses h) (lit_at later (w + 1))) (sym half) (subst (Has (lits_at clauses (w / 2))) (sym at_next) b_in))
      ]
      | inr ne ↦ subst (Has (lits_at clauses (v / 2))) (sym (bind_others v ne)) (settling.watches.members v (old v ne bound))
    ]

    two : (v : ℕ) → IsBound clauses (loose_in links2.lists) v → lit_at later v ≢ lit_at later (other v)
    two v bound = elim (cases_eq (v / 2) (w / 2)) [
      | inl e ↦ elim (mine v e) [
        | inl f ↦ λ q. apart (sym (ap (lit_at later) (ap other f ∙ other_of_even w w_even) ∙ at_next) ∙ sym q ∙ ap (lit_at later) f ∙ at_w)
        | inr f ↦ λ q. apart (sym (ap (lit_at later) f ∙ at_next) ∙ q ∙ ap (lit_at later) (ap other f ∙ other_of_odd w w_even) ∙ at_w)
      ]
      | inr ne ↦ λ q. settling.watches.two v (old v ne bound)
          (sym (bind_others v ne) ∙ q ∙ bind_others (other v) (λ e. ne (sym (other_half v) ∙ e)))
    ]

    there : (v : ℕ) → IsBound clauses (loose_in links2.lists) v → Has (list_at links2.lists (code (lit_at later v))) v
    there v bound = elim (cases_eq (v / 2) (w / 2)) [
      | inl e ↦ elim (mine v e) [
        | inl f ↦ subst (λ u. Has (list_at links2.lists (code (lit_at later u))) u) (sym f)
            (subst (λ l. Has (list_at links2.lists (code l)) w) (sym at_w)
            (push_still binds.front links2.lists (code b) (w + 1) b_front binds.behind (code a) w (push_in popped binds.front (code a) w a_inside binds.in_front)))
        | inr f ↦ subst (λ u. Has (list_at links2.lists (code (lit_at later u))) u) (sym f)
            (subst (λ l. Has (list_at links2.lists (code l)) (w + 1)) (sym at_next) (push_in binds.front links2.lists (code b) (w + 1) b_front binds.behind))
      ]
      | inr ne ↦
          let was = old v ne bound in
          let high = codes v was in
          subst (λ l. Has (list_at links2.lists (code l)) v) (sym (bind_others v ne))
          (push_still binds.front links2.lists (code b) (w + 1) b_front binds.behind (code (lit_at watch v)) v
          (push_still popped binds.front (code a) w a_inside binds.in_front (code (lit_at watch v)) v
          (subst (λ ws. Has ws v) (sym (popped_other (code (lit_at watch v)) (λ e. absurd (omega arith)))) (settling.there v was))))
    ]

    both_bound : (v : ℕ) → v / 2 ≡ w / 2 → IsBound clauses (loose_in links2.lists) v
    both_bound v e = record {
      live = subst (λ k. get_or clauses k None ≢ None) (sym e) w_live;
      tied = subst (λ k. Has (loose_in links2.lists) (2 * k) → ⊥) (sym e) bind_gone;
    }

    only : (k v : ℕ) → 2 ≤ k → Has (list_at links2.lists k) v → IsBound clauses (loose_in links2.lists) v × (code (lit_at later v) ≡ k)
    only k v high has = elim (push_came binds.front links2.lists (code b) (w + 1) b_front binds.behind k v has) [
      | inl now ↦ subst (λ u. IsBound clauses (loose_in links2.lists) u × (code (lit_at later u) ≡ k)) now.1 (both_bound (w + 1) half, ap code at_next ∙ sym now.0)
      | inr before ↦ elim (push_came popped binds.front (code a) w a_inside binds.in_front k v before) [
        | inl now ↦ subst (λ u. IsBound clauses (loose_in links2.lists) u × (code (lit_at later u) ≡ k)) now.1 (both_bound w refl, ap code at_w ∙ sym now.0)
        | inr was ↦
            let listed = settling.only k v high (subst (λ ws. Has ws v) (popped_other k (λ e. absurd (omega arith))) was) in
            let ne : v / 2 ≢ w / 2 = λ e. listed.0.tied (subst (Has (loose_in links.lists)) (w_even ∙ ap (λ h. 2 * h) (sym e)) hand) in (
              record { live = listed.0.live; tied = λ h. listed.0.tied ((bind_was (2 * (v / 2))).1 (inr h)) },
              ap code (bind_others v ne) ∙ listed.1,
            )
      ]
    ]

    pub bind_settling : IsSettling clauses variables later links2
    bind_settling = record {
      over = settling.over;
      sizes = record {
        size = size ∙ settling.sizes.size;
        few = let f = settling.sizes.few in omega arith;
        lists = ap length binds.behind ∙ length-set binds.front (code b) ((w + 1) ∷ list_at binds.front (code b)) ∙ front_length ∙ popped_length;
      };
      watches = record { size = bind_size ∙ settling.watches.size; members = members; two = two };
      there = there;
      only = only;
      even = λ v h. settling.even v ((bind_was v).1 (inr h));
    }

    pub bind_fewer : length (list_at links2.lists 0) < length (list_at links.lists 0)
    bind_fewer = let f = ap length first in let z = ap length (at_low 0 (omega arith)) in omega arith

    pub bind_settled : (t u : Lits) → ((l : Literal) → Has t l → Has u l) → AreSettledIn clauses links.lists t → AreSettledIn clauses links2.lists u
    bind_settled t u more was v h =
        let s = was v (subst (λ ws. Has ws v) (at_low 1 (omega arith) ∙ popped_one) h) in (s.0, s.1, more s.0 s.2)
