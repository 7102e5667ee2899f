-- Each level has a front, and going back keeps those of lower levels.
use Rattle.std.proofs.Common.{◌≡◌, ℕ, zero, suc, ◌<◌, ◌≤◌, inl, inr, List, [], ◌∷◌, length, take, get_or, refl, sym, ◌∙◌, ap, subst, arith, length-take}
use Rattle.std.proofs.lemmas.Bool.{cases_lt}
use Rattle.std.proofs.lemmas.List.{take-take}
use Rattle.clause_defs.specs.Literals.{Literal}
use Rattle.clause_defs.specs.Clauses.{Lits, Has}
use Rattle.trail_defs.specs.Assignments.{IsAt, IsSettled}
use Rattle.trail_defs.specs.Trails.{Assigned, IsTrail, IsUpTo}
use Rattle.settled_levels.specs.Levels.{IsFront, IsOpenBelow}

-- how many literals a list begins with that are of levels up to b
record HasFront (levels : List ℕ) (b : ℕ) (xs : Lits) : Type 0 where
  size : ℕ
  within : size ≤ length xs
  left : (l : Literal) → Has (take size xs) l → get_or levels l.variable 0 ≤ b
  gone : (i : ℕ) (l : Literal) → IsAt xs i l → size ≤ i → b < get_or levels l.variable 0

-- levels rise along the list
abbrev AreRising : List ℕ → Lits → Type 0
AreRising levels xs =
    (i : ℕ) (l m : Literal) → IsAt xs i l → Has (take i xs) m → get_or levels m.variable 0 ≤ get_or levels l.variable 0

-- a place behind the first one
behind : (x : Literal) (xs : Lits) (i : ℕ) (l : Literal) → IsAt (x ∷ xs) (suc i) l → IsAt xs i l
behind x xs i l at = record { within = let w = at.within in omega arith; read = at.read }

-- where the first literal is of a higher level, so are all
all_gone : (levels : List ℕ) (b : ℕ) (x : Literal) (xs : Lits) → AreRising levels (x ∷ xs) → b < get_or levels x.variable 0
    → (i : ℕ) (l : Literal) → IsAt (x ∷ xs) i l → b < get_or levels l.variable 0
all_gone levels b x xs rising high zero l at = subst (λ (y : Literal). b < get_or levels y.variable 0) (sym at.read) high
all_gone levels b x xs rising high (suc i) l at = let up = rising (suc i) l x at (inl refl) in omega arith

-- where it isn't, the others are left
rest_gone : (levels : List ℕ) (b : ℕ) (x : Literal) (xs : Lits) (n : ℕ)
    → ((i : ℕ) (l : Literal) → IsAt xs i l → n ≤ i → b < get_or levels l.variable 0)
    → (i : ℕ) (l : Literal) → IsAt (x ∷ xs) i l → suc n ≤ i → b < get_or levels l.variable 0
rest_gone levels b x xs n gone zero l at past = absurd (omega arith)
rest_gone levels b x xs n gone (suc i) l at past = gone i l (behind x xs i l at) (omega arith)

front_of : (levels : List ℕ) (b : ℕ) (xs : Lits) → AreRising levels xs → HasFront levels b xs
front_of levels b [] rising = record {
  size = 0;
  within = omega arith;
  left = λ l h. absurd h;
  gone = λ i l at. absurd (let w = at.within in omega arith);
}
front_of levels b (x ∷ xs) rising = elim (cases_lt b (get_or levels x.variable 0)) [
  | inl high ↦ record {
    size = 0;
    within = omega arith;
    left = λ l h. absurd h;
    gone = λ i l at past. all_gone levels b x xs rising high i l at;
  }
  | inr low ↦
      let tail : AreRising levels xs =
      λ i l m at h. rising (suc i) l m (record { within = let w = at.within in omega arith; read = at.read }) (inr h) in
      let rest = front_of levels b xs tail in
      record {
        size = suc rest.size;
        within = let w = rest.within in omega arith;
        left = λ l h. elim h [
          | inl e ↦ subst (λ (y : Literal). get_or levels y.variable 0 ≤ b) e low
          | inr k ↦ rest.left l k
        ];
        gone = λ i l at past. rest_gone levels b x xs rest.size rest.gone i l at past;
      }
]

-- the front of the levels up to b
pub front_at : (t : Assigned) → IsTrail t → (b : ℕ) → (n : ℕ) × IsFront t b n
front_at t known b =
    let front = front_of t.levels b t.lits (λ i l m at h. known.rising i l m at h) in
    (front.size, record { within = front.within; left = front.left; gone = front.gone })

-- a place among the first m
at_front : (xs : Lits) (m i : ℕ) (l : Literal) → i < m → IsAt xs i l → IsAt (take m xs) i l
at_front [] m i l lt at = absurd (let w = at.within in omega arith)
at_front (x ∷ xs) zero i l lt at = absurd (omega arith)
at_front (x ∷ xs) (suc m) zero l lt at = record { within = omega arith; read = at.read }
at_front (x ∷ xs) (suc m) (suc i) l lt at =
    let rest = at_front xs m i l (omega arith) (behind x xs i l at) in
    record { within = let w = rest.within in omega arith; read = rest.read }

module _ (t s : Assigned) (b : ℕ) (up : IsUpTo b t s) (levels : s.levels ≡ t.levels) where
  -- a front of what is left was one before
  pub front_back : (a n : ℕ) → a ≤ b → IsFront s a n → IsFront t a n × (take n s.lits ≡ take n t.lits)
  front_back a n low front =
      let m = length s.lits in
      let shorter : m ≤ length t.lits = let same = ap length up.front in omega (arith, length-take m t.lits) in
      let within = front.within in
      let takes : take n s.lits ≡ take n t.lits = ap (take n) up.front ∙ take-take n m t.lits within in (
        record {
          within = omega arith;
          left = λ l h. subst (λ ls. get_or ls l.variable 0 ≤ a) levels (front.left l (subst (λ (ls : Lits). Has ls l) (sym takes) h));
          gone = λ i l at past. elim (cases_lt i m) [
            | inl lt ↦
                let here = subst (λ (ls : Lits). IsAt ls i l) (sym up.front) (at_front t.lits m i l lt at) in
                subst (λ ls. a < get_or ls l.variable 0) levels (front.gone i l here past)
            | inr later ↦ let high = up.gone i l at later in omega arith
          ];
        },
        takes,
      )

  -- what was open below a level is so when the search went back to it
  pub open_back : (c : Lits) → s.present ≡ b → ((a n : ℕ) → a < b → IsFront t a n → IsSettled (take n t.lits) c) → IsOpenBelow s c
  open_back c present before a n less front =
      let lower : a < b = omega arith in
      let was = front_back a n (omega arith) front in
      subst (λ (ls : Lits). IsSettled ls c) (sym was.1) (before a n lower was.0)
