-- The three ways of a visit: the other watch is true, the watch moves, or no other literal is open.
use Rattle.std.proofs.Common.{◌≡◌, ◌≢◌, ℕ, ◌+◌, ◌/◌, ◌<◌, ◌≤◌, List, [], ◌∷◌, length, set, get_or, Option, Some, None, inl, inr, refl, sym, ap, ◌∙◌, subst, arith, add-one, get_or-set_other}
use Rattle.std.proofs.lemmas.Bool.{cases_eq}
use Rattle.clause_defs.specs.Literals.{Literal, negation, code}
use Rattle.clause_defs.specs.Clauses.{Lits, Has}
use Rattle.pch_base.specs.LitCodes.{code_injective}
use Rattle.link_lists.specs.Linked.{Linked, list_at}
use Rattle.trail_defs.specs.Trails.{clause_at}
use Rattle.sat_trail.specs.Watching.{lit_at, other, lits_in, lits_at, IsBound, AreOver, AreVisited, AreAnswered}
use Rattle.sat_trail.specs.Visits.{IsVisit}
use Rattle.sat_trail.specs.Looks.{IsVisiting}
use Rattle.sat_trail.specs.declared.visit.Step.TheVariants.{Answered, Forces, Conflict}
use Rattle.sat_trail.proofs.OtherLemmas.{other_half, bound_other}
use Rattle.sat_trail.proofs.MoveLemmas.{moved_set, moved_same, moved_watches, moved_stages}
use Rattle.sat_trail.proofs.VisitLemmas.{visited_on, answered_on, one_same}

-- the clause of number b + 1 is the one at place b
pub clause_behind : (clauses : List (Option Lits)) (b : ℕ) → clause_at clauses (b + 1) ≡ get_or clauses b None
clause_behind clauses b = ap (clause_at clauses) (add-one b)

-- a place that isn't empty has a clause
pub live_clause : (o : Option Lits) → o ≢ None → (c : Lits) × (o ≡ Some c)
live_clause None some = absurd (some refl)
live_clause (Some c) some = (c, refl)

high_in : (variables : ℕ) (clauses : List (Option Lits)) → AreOver variables clauses → (b : ℕ) (l : Literal) → (o : Option Lits)
    → get_or clauses b None ≡ o → Has (lits_in o) l → 2 ≤ code l
high_in variables clauses over b l None e none = absurd none
high_in variables clauses over b l (Some c) e has = let low = ((over b c e).0.literals l has).0 in omega arith

-- a literal of a clause has no code below 2
pub code_high : (variables : ℕ) (clauses : List (Option Lits)) → AreOver variables clauses → (b : ℕ) (l : Literal) → Has (lits_at clauses b) l → 2 ≤ code l
code_high variables clauses over b l has = high_in variables clauses over b l (get_or clauses b None) refl has

module _ (clauses : List (Option Lits)) (variables : ℕ) (watch t : Lits) (links : Linked) (x : Literal) (visiting : IsVisiting clauses variables watch links x)
    (is_false : Has t (negation x)) (consistent : (l : Literal) → Has t l → Has t (negation l) → ⊥)
    (popped pushed : List (List ℕ)) (w p : ℕ)
    (first : list_at links.lists 0 ≡ w ∷ list_at popped 0) (rest : popped ≡ set links.lists 0 (list_at popped 0))
    (out : (k : ℕ) → Has (list_at popped k) w → ⊥) (inside : p < length popped) (put : pushed ≡ set popped p (w ∷ list_at popped p)) where
  codes : (v : ℕ) → IsBound clauses (list_at links.lists 1) v → 2 ≤ code (lit_at watch v)
  codes v bound = code_high variables clauses visiting.over (v / 2) (lit_at watch v) (visiting.watches.members v bound)

  bound : IsBound clauses (list_at links.lists 1) w
  bound = (visiting.visited.left w (subst (λ ws. Has ws w) (sym first) (inl refl))).0

  is_x : lit_at watch w ≡ x
  is_x = (visiting.visited.left w (subst (λ ws. Has ws w) (sym first) (inl refl))).1

  not_true : Has t (lit_at watch w) → ⊥
  not_true h = consistent x (subst (Has t) is_x h) is_false

  x_high : 2 ≤ code x
  x_high = subst (λ l. 2 ≤ code l) is_x (codes w bound)

  fewer_by_one : p ≢ 0 → length (list_at pushed 0) < length (list_at links.lists 0)
  fewer_by_one ne =
      let a = ap length first in
      let b = ap length (ap (λ ls. list_at ls 0) put ∙ get_or-set_other popped p 0 (w ∷ list_at popped p) [] (λ e. ne (sym e))) in
      omega arith

  -- the watch comes back to x
  module _ (p_is : p ≡ code x) where
    back_visited : AreVisited clauses (list_at links.lists 1) watch pushed x
    back_visited = visited_on clauses (list_at links.lists 1) watch watch x x links.lists popped pushed w p visiting.visited first rest out p_is
        (subst (λ k. 2 ≤ k) (sym p_is) x_high) inside put (moved_same watch w x is_x) codes

    back_one : list_at pushed 1 ≡ list_at links.lists 1
    back_one = one_same clauses (list_at links.lists 1) watch watch x x links.lists popped pushed w p visiting.visited first rest out p_is
        (subst (λ k. 2 ≤ k) (sym p_is) x_high) inside put (moved_same watch w x is_x) codes

    back_answered : (longer : Lits) → ((l : Literal) → Has t l → Has longer l) → Has longer (lit_at watch (other w))
        → AreAnswered watch links.lists t x → AreAnswered watch pushed longer x
    back_answered longer grows beside answered =
        answered_on clauses (list_at links.lists 1) watch watch x x links.lists popped pushed w p visiting.visited first rest out p_is
        (subst (λ k. 2 ≤ k) (sym p_is) x_high) inside put (moved_same watch w x is_x) codes visiting.watches t longer grows x_high answered (λ _. beside)

    not_zero : p ≢ 0
    not_zero e = let a = x_high in absurd (omega arith)

    -- its other watch is true
    pub visit_answered : Has t (lit_at watch (other w)) → IsVisit clauses t x watch links.lists watch pushed Answered
    visit_answered beside = record {
      loose = back_one;
      watches = visiting.watches;
      visited = back_visited;
      stages = λ n done watched. watched;
      fewer = fewer_by_one not_zero;
      leaves = back_answered t (λ l h. h) beside;
    }

    -- no literal of the clause but the other watch's is open
    module _ (others : (m : Literal) → Has (lits_at clauses (w / 2)) m → m ≢ lit_at watch (other w) → Has t (negation m)) where
      clause : (c : Lits) × (get_or clauses (w / 2) None ≡ Some c)
      clause = live_clause (get_or clauses (w / 2) None) bound.live

      number_is : clause_at clauses (w / 2 + 1) ≡ Some clause.0
      number_is = clause_behind clauses (w / 2) ∙ clause.1

      in_clause : (m : Literal) → Has clause.0 m → Has (lits_at clauses (w / 2)) m
      in_clause m h = subst (λ o. Has (lits_in o) m) (sym clause.1) h

      from_clause : (m : Literal) → Has (lits_at clauses (w / 2)) m → Has clause.0 m
      from_clause m h = subst (λ o. Has (lits_in o) m) clause.1 h

      beside_in : Has clause.0 (lit_at watch (other w))
      beside_in = from_clause (lit_at watch (other w)) (subst (λ b. Has (lits_at clauses b) (lit_at watch (other w))) (other_half w)
          (visiting.watches.members (other w) (bound_other clauses (list_at links.lists 1) w bound)))

      pub visit_forces : (number : ℕ) → number ≡ w / 2 + 1 → (Has t (lit_at watch (other w)) → ⊥) → (Has t (negation (lit_at watch (other w))) → ⊥)
          → IsVisit clauses t x watch links.lists watch pushed (Forces number (lit_at watch (other w)))
      visit_forces number e not_beside open_beside = record {
        loose = back_one;
        watches = visiting.watches;
        visited = back_visited;
        stages = λ n done watched. watched;
        fewer = fewer_by_one not_zero;
        leaves = (
          (clause.0, ap (clause_at clauses) e ∙ number_is, record { implied = beside_in; others = λ m h ne. others m (in_clause m h) ne }),
          (not_beside, open_beside),
          λ longer grows beside answered. back_answered longer grows beside answered,
        );
      }

      pub visit_conflict : (number : ℕ) → number ≡ w / 2 + 1 → Has t (negation (lit_at watch (other w)))
          → IsVisit clauses t x watch links.lists watch pushed (Conflict number)
      visit_conflict number e beside_false = record {
        loose = back_one;
        watches = visiting.watches;
        visited = back_visited;
        stages = λ n done watched. watched;
        fewer = fewer_by_one not_zero;
        leaves = (
          clause.0,
          ap (clause_at clauses) e ∙ number_is,
          λ m h. elim (cases_eq (code m) (code (lit_at watch (other w)))) [
            | inl same ↦ subst (λ l. Has t (negation l)) (sym (code_injective m (lit_at watch (other w)) same)) beside_false
            | inr ne ↦ others m (in_clause m h) (λ f. ne (ap code f))
          ],
        );
      }

  -- the watch moves to another literal that isn't false
  module _ (m : Literal) (p_is : p ≡ code m) (member : Has (lits_at clauses (w / 2)) m) (apart : m ≢ lit_at watch (other w))
      (still_open : Has t (negation m) → ⊥) (w_inside : w < length watch) where
    m_high : 2 ≤ p
    m_high = subst (λ k. 2 ≤ k) (sym p_is) (code_high variables clauses visiting.over (w / 2) m member)

    pub visit_moved : IsVisit clauses t x watch links.lists (set watch w m) pushed Answered
    visit_moved = record {
      loose = one_same clauses (list_at links.lists 1) watch (set watch w m) x m links.lists popped pushed w p visiting.visited first rest out p_is m_high inside put
          (moved_set watch w m w_inside) codes;
      watches = moved_watches clauses (list_at links.lists 1) watch (set watch w m) w m (moved_set watch w m w_inside) visiting.watches member apart;
      visited = visited_on clauses (list_at links.lists 1) watch (set watch w m) x m links.lists popped pushed w p visiting.visited first rest out p_is m_high inside put
          (moved_set watch w m w_inside) codes;
      stages = moved_stages clauses (list_at links.lists 1) watch (set watch w m) w m (moved_set watch w m w_inside) t still_open not_true;
      fewer = fewer_by_one (λ e. let a = m_high in absurd (omega arith));
      leaves = λ answered. answered_on clauses (list_at links.lists 1) watch (set watch w m) x m links.lists popped pushed w p visiting.visited first rest out p_is m_high inside put
          (moved_set watch w m w_inside) codes visiting.watches t t (λ l h. h) x_high answered
          (λ same. absurd (still_open (subst (λ l. Has t (negation l)) (sym same) is_false)));
    }
