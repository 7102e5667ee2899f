-- The calls of a trail keep the levels settled.
use Rattle.std.proofs.Common.{◌≡◌, ℕ, zero, suc, ◌+◌, ◌<◌, ◌≤◌, inl, inr, [], ◌∷◌, ◌++◌, length, take, get_or, set, Some, None, refl, sym, ◌∙◌, ap, subst, arith, length-append, length-take, get_or-set_same, get_or-set_other}
use Rattle.std.proofs.lemmas.Bool.{cases_lt, cases_eq}
use Rattle.std.proofs.lemmas.List.{take-take, take-append-le, take_all, get_or_append_left}
use Rattle.clause_defs.specs.Literals.{Literal}
use Rattle.clause_defs.specs.Clauses.{Lits, Has}
use Rattle.trail_defs.specs.Assignments.{IsAt, IsSettled}
use Rattle.trail_defs.specs.Trails.{Assigned, clause_at, level_of, IsTrail, IsUpTo, IsGrown, HasSameValues}
use Rattle.settled_levels.specs.Levels.{IsFront, IsOpenBelow, IsSettledBelow}
use Rattle.settled_levels.proofs.FrontLemmas.{open_back}

-- a place of a list stays one with more behind
at_longer : (xs ys : Lits) (i : ℕ) (l : Literal) → IsAt xs i l → IsAt (xs ++ ys) i l
at_longer xs ys i l at = record {
  within = let w = at.within in omega (arith, length-append xs ys);
  read = at.read ∙ sym (get_or_append_left xs ys l i at.within);
}

-- what stands behind a list is among more of the first
first_behind : (xs ys : Lits) (n : ℕ) → length xs < n → 1 ≤ length ys → (l : Literal) × Has ys l × Has (take n (xs ++ ys)) l
first_behind xs [] n lt some = absurd (omega arith)
first_behind [] (y ∷ ys) zero lt some = absurd (omega arith)
first_behind [] (y ∷ ys) (suc n) lt some = (y, inl refl, inl refl)
first_behind (x ∷ xs) (y ∷ ys) zero lt some = absurd (omega arith)
first_behind (x ∷ xs) (y ∷ ys) (suc n) lt some =
    let rest = first_behind xs (y ∷ ys) n (omega arith) some in (rest.0, rest.1, inr rest.2)

-- going back
pub settled_back : (t s : Assigned) (b : ℕ) → IsUpTo b t s → s.levels ≡ t.levels → s.present ≡ b → s.clauses ≡ t.clauses → b ≤ t.present
    → IsSettledBelow t → IsSettledBelow s
settled_back t s b up levels present clauses low settled k c live =
    open_back t s b up levels c present
    (λ a n less front. settled k c (subst (λ cs. clause_at cs k ≡ Some c) clauses live) a n (omega arith) front)

-- a front of a longer trail whose new literals are of higher levels
front_shorter : (t s : Assigned) (more : Lits) (a n : ℕ) → s.lits ≡ t.lits ++ more → ((l : Literal) → Has t.lits l → level_of s l ≡ level_of t l)
    → ((l : Literal) → Has more l → a < level_of s l) → IsFront s a n → IsFront t a n × (take n s.lits ≡ take n t.lits)
front_shorter t s more a n lits levels high front =
    let longer = ap length lits in
    let total = length-append t.lits more in
    let end = front.within in
    let within : n ≤ length t.lits = elim (cases_lt (length t.lits) n) [
      | inl past ↦
          let behind = first_behind t.lits more n past (omega arith) in
          let low = front.left behind.0 (subst (λ (ls : Lits). Has (take n ls) behind.0) (sym lits) behind.2) in
          let above = high behind.0 behind.1 in absurd (omega arith)
      | inr le ↦ le
    ] in
    let takes : take n s.lits ≡ take n t.lits = ap (take n) lits ∙ take-append-le n t.lits more within in (
      record {
        within = within;
        left = λ l h. subst (λ k. k ≤ a) (levels l (has_take n t.lits l h)) (front.left l (subst (λ (ls : Lits). Has ls l) (sym takes) h));
        gone = λ i l at past.
            subst (λ k. a < k) (levels l (at_in t.lits i l at))
            (front.gone i l (subst (λ (ls : Lits). IsAt ls i l) (sym lits) (at_longer t.lits more i l at)) past);
      },
      takes,
    )
  where
    has_take : (n : ℕ) (xs : Lits) (l : Literal) → Has (take n xs) l → Has xs l
    has_take zero xs l h = absurd h
    has_take (suc n) [] l h = absurd h
    has_take (suc n) (x ∷ xs) l (inl e) = inl e
    has_take (suc n) (x ∷ xs) l (inr h) = inr (has_take n xs l h)

    at_in : (xs : Lits) (i : ℕ) (l : Literal) → IsAt xs i l → Has xs l
    at_in [] i l at = absurd (let w = at.within in omega arith)
    at_in (x ∷ xs) zero l at = inl (sym at.read)
    at_in (x ∷ xs) (suc i) l at = inr (at_in xs i l (record { within = let w = at.within in omega arith; read = at.read }))

-- propagating
pub settled_grown : (t s : Assigned) → IsGrown t s → s.present ≡ t.present → s.clauses ≡ t.clauses → IsSettledBelow t → IsSettledBelow s
settled_grown t s grown present clauses settled k c live a n less front =
    let same = front_shorter t s grown.more a n grown.lits grown.levels (λ l h. let own = grown.present l h in omega arith) front in
    subst (λ (ls : Lits). IsSettled ls c) (sym same.1)
    (settled k c (subst (λ cs. clause_at cs k ≡ Some c) clauses live) a n (omega arith) same.0)

-- opening a level where every live clause is settled
pub settled_assigned : (t s : Assigned) (l : Literal) → IsTrail t → s.lits ≡ t.lits ++ l ∷ []
    → ((m : Literal) → Has t.lits m → level_of s m ≡ level_of t m) → level_of s l ≡ t.present + 1 → s.present ≡ t.present + 1 → s.clauses ≡ t.clauses
    → ((k : ℕ) (c : Lits) → clause_at t.clauses k ≡ Some c → IsSettled t.lits c) → IsSettledBelow t → IsSettledBelow s
settled_assigned t s l known lits levels own present clauses now settled k c live a n less front =
    let high : (m : Literal) → Has (l ∷ []) m → a < level_of s m = λ m h. elim h [
      | inl e ↦ subst (λ (x : Literal). a < level_of s x) e (omega arith)
      | inr none ↦ absurd none
    ] in
    let same = front_shorter t s (l ∷ []) a n lits levels high front in
    let here = subst (λ cs. clause_at cs k ≡ Some c) clauses live in
    subst (λ (ls : Lits). IsSettled ls c) (sym same.1)
    (elim (cases_lt a t.present) [
      | inl lower ↦ settled k c here a n lower same.0
      | inr top ↦ elim (cases_lt n (length t.lits)) [
        | inl inside ↦
            let m = get_or t.lits n l in
            let at : IsAt t.lits n m = record { within = inside; read = default_in t.lits n l inside } in
            let gone = same.0.gone n m at (omega arith) in
            let most = known.top m (member t.lits n l inside) in absurd (omega arith)
        | inr all ↦ subst (λ (ls : Lits). IsSettled ls c) (sym (take_all n t.lits all)) (now k c here)
      ]
    ])
  where
    default_in : (xs : Lits) (n : ℕ) (l : Literal) → n < length xs → get_or xs n l ≡ get_or xs n (get_or xs n l)
    default_in [] n l lt = absurd (omega arith)
    default_in (x ∷ xs) zero l lt = refl
    default_in (x ∷ xs) (suc n) l lt = default_in xs n l (omega arith)

    member : (xs : Lits) (n : ℕ) (l : Literal) → n < length xs → Has xs (get_or xs n l)
    member [] n l lt = absurd (omega arith)
    member (x ∷ xs) zero l lt = inl refl
    member (x ∷ xs) (suc n) l lt = inr (member xs n l (omega arith))

-- a front of a trail with the same values
front_before : (t s : Assigned) → HasSameValues t s → (a n : ℕ) → IsFront s a n → IsFront t a n
front_before t s same a n front = record {
  within = subst (λ (ls : Lits). n ≤ length ls) same.lits front.within;
  left = λ l h. subst (λ ls. get_or ls l.variable 0 ≤ a) same.levels (front.left l (subst (λ (ls : Lits). Has (take n ls) l) (sym same.lits) h));
  gone = λ i l at past. subst (λ ls. a < get_or ls l.variable 0) same.levels (front.gone i l (subst (λ (ls : Lits). IsAt ls i l) (sym same.lits) at) past);
}

-- one more live clause that is open below
pub settled_learned : (t s : Assigned) (j : ℕ) (d : Lits) → HasSameValues t s → s.clauses ≡ set t.clauses j (Some d) → j < length t.clauses
    → IsOpenBelow t d → IsSettledBelow t → IsSettledBelow s
settled_learned t s j d same clauses within below settled k c live a n less front =
    let lower : a < t.present = let e = same.present in omega arith in
    subst (λ (ls : Lits). IsSettled (take n ls) c) (sym same.lits)
    (at_number k (subst (λ cs. clause_at cs k ≡ Some c) clauses live) lower (front_before t s same a n front))
  where
    at_number : (k : ℕ) → clause_at (set t.clauses j (Some d)) k ≡ Some c → a < t.present → IsFront t a n → IsSettled (take n t.lits) c
    at_number zero none lower before = absurd (cc)
    at_number (suc i) here lower before = elim (cases_eq i j) [
      | inl e ↦
          let own : Some c ≡ Some d = sym here ∙ ap (λ q. get_or (set t.clauses j (Some d)) q None) e ∙ get_or-set_same t.clauses j (Some d) None within in
          let is : d ≡ c = cc in subst (IsSettled (take n t.lits)) is (below a n lower before)
      | inr ne ↦ settled (suc i) c (sym (get_or-set_other t.clauses j i (Some d) None ne) ∙ here) a n lower before
    ]

-- fewer live clauses
pub settled_fewer : (t s : Assigned) → HasSameValues t s → ((k : ℕ) (c : Lits) → clause_at s.clauses k ≡ Some c → clause_at t.clauses k ≡ Some c)
    → IsSettledBelow t → IsSettledBelow s
settled_fewer t s same was settled k c live a n less front =
    subst (λ (ls : Lits). IsSettled (take n ls) c) (sym same.lits)
    (settled k c (was k c live) a n (let e = same.present in omega arith) (front_before t s same a n front))
