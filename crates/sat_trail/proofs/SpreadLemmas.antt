-- The beginning and the end of the visits of a literal's watches.
use Rattle.std.proofs.Common.{◌≡◌, ℕ, ◌<◌, ◌≤◌, List, [], length, set, Option, sym, ap, ◌∙◌, subst, arith, length-set}
use Rattle.clause_defs.specs.Literals.{Literal, code, IsLiteral}
use Rattle.clause_defs.specs.Clauses.{Lits}
use Rattle.link_lists.specs.Linked.{Linked, list_at}
use Rattle.sat_trail.specs.Watching.{lit_at, IsBound, AreWatches, AreVisited, AreAnswered}
use Rattle.sat_trail.specs.Looks.{IsVisiting, IsResting, Keeps}
use Rattle.sat_trail.proofs.TurnLemmas.{turned_visited, turned_answered, turned_one, visited_end}
use Rattle.sat_trail.proofs.VisitCases.{code_high}
use Rattle.sat_trail.proofs.VisitSteps.{code_listed}
use Rattle.sat_trail.proofs.LookLemmas.{keeps_same}

-- a literal's code is 2 at least
pub code_low : (l : Literal) → IsLiteral l → 2 ≤ code l
code_low l is = let a = is.0 in omega arith

module _ (clauses : List (Option Lits)) (variables : ℕ) (watch t : Lits) (links links2 : Linked) (x : Literal) (p : ℕ)
    (resting : IsResting clauses variables watch links) (literal : IsLiteral x) (within : x.variable ≤ variables) (p_is : p ≡ code x)
    (size : links2.size ≡ links.size) (turned : links2.lists ≡ set (set links.lists 0 (list_at links.lists p)) p []) where
  inside : code x < length links.lists
  inside = code_listed variables (length links.lists) x within resting.sizes.lists

  turned_is : links2.lists ≡ set (set links.lists 0 (list_at links.lists (code x))) (code x) []
  turned_is = subst (λ k. links2.lists ≡ set (set links.lists 0 (list_at links.lists k)) k []) p_is turned

  codes : (v : ℕ) → IsBound clauses (list_at links.lists 1) v → 2 ≤ code (lit_at watch v)
  codes v bound = code_high variables clauses resting.over _ (lit_at watch v) (resting.watches.members v bound)

  pub spread_one : list_at links2.lists 1 ≡ list_at links.lists 1
  spread_one = turned_one clauses (list_at links.lists 1) watch t links.lists links2.lists x resting.listed (code_low x literal) inside turned_is

  pub spread_visiting : IsVisiting clauses variables watch links2 x
  spread_visiting = record {
    over = resting.over;
    sizes = record {
      size = size ∙ resting.sizes.size;
      few = let a = resting.sizes.few in omega arith;
      lists = ap length turned ∙ length-set (set links.lists 0 (list_at links.lists p)) p [] ∙ length-set links.lists 0 (list_at links.lists p) ∙ resting.sizes.lists;
    };
    watches = subst (λ loose. AreWatches clauses loose watch) (sym spread_one) resting.watches;
    visited = subst (λ loose. AreVisited clauses loose watch links2.lists x) (sym spread_one)
        (turned_visited clauses (list_at links.lists 1) watch t links.lists links2.lists x resting.listed (code_low x literal) inside turned_is codes);
  }

  pub spread_answered : AreAnswered watch links2.lists t x
  spread_answered = turned_answered clauses (list_at links.lists 1) watch t links.lists links2.lists x resting.listed (code_low x literal) inside turned_is

  pub spread_keeps : (level : ℕ) (levels reasons : List ℕ)
      → Keeps clauses variables level (list_at links.lists 1) (list_at links2.lists 1) watch t levels reasons watch t levels reasons
  spread_keeps level levels reasons = subst (λ loose. Keeps clauses variables level (list_at links.lists 1) loose watch t levels reasons watch t levels reasons) (sym spread_one)
      (keeps_same clauses variables level (list_at links.lists 1) (list_at links.lists 1) (list_at links.lists 1) watch t levels reasons)

-- where no watch is left to visit, none is being visited
pub spread_resting : (clauses : List (Option Lits)) (variables : ℕ) (watch : Lits) (links : Linked) (x : Literal) → IsVisiting clauses variables watch links x
    → list_at links.lists 0 ≡ [] → IsResting clauses variables watch links
spread_resting clauses variables watch links x visiting empty = record {
  over = visiting.over;
  sizes = visiting.sizes;
  watches = visiting.watches;
  listed = visited_end clauses (list_at links.lists 1) watch links.lists x visiting.visited empty;
}
