-- The beginning and the end of the looks at the loose clauses.
use Rattle.std.proofs.Common.{◌≡◌, ℕ, ◌+◌, ◌*◌, ◌≤◌, List, [], ◌++◌, length, set, Option, sym, ap, ◌∙◌, subst, arith, append-nil, length-set, get_or-set_same, get_or-set_other}
use Rattle.clause_defs.specs.Literals.{code}
use Rattle.clause_defs.specs.Clauses.{Lits, Has}
use Rattle.link_lists.specs.Linked.{Linked, list_at}
use Rattle.sat_trail.specs.Watching.{lit_at, IsBound, AreWatches}
use Rattle.sat_trail.specs.Looks.{IsResting, Keeps}
use Rattle.sat_trail.specs.Loosening.{loose_in, IsSettling, AreSettledIn}
use Rattle.sat_trail.proofs.VisitCases.{code_high}
use Rattle.sat_trail.proofs.LookLemmas.{keeps_same}

module _ (clauses : List (Option Lits)) (variables : ℕ) (watch : Lits) (links links2 : Linked) (resting : IsResting clauses variables watch links)
    (size : links2.size ≡ links.size) (turned : links2.lists ≡ set (set links.lists 0 (list_at links.lists 1)) 1 []) where
  long : length (set links.lists 0 (list_at links.lists 1)) ≡ 2 * variables + 4
  long = length-set links.lists 0 (list_at links.lists 1) ∙ resting.sizes.lists

  pub begin_one : list_at links2.lists 1 ≡ []
  begin_one = ap (λ ls. list_at ls 1) turned ∙ get_or-set_same (set links.lists 0 (list_at links.lists 1)) 1 [] [] (let a = long in omega arith)

  begin_zero : list_at links2.lists 0 ≡ list_at links.lists 1
  begin_zero = ap (λ ls. list_at ls 0) turned ∙ get_or-set_other (set links.lists 0 (list_at links.lists 1)) 1 0 [] [] (λ e. absurd (omega arith))
      ∙ get_or-set_same links.lists 0 (list_at links.lists 1) [] (let a = resting.sizes.lists in omega arith)

  begin_high : (k : ℕ) → 2 ≤ k → list_at links2.lists k ≡ list_at links.lists k
  begin_high k two = ap (λ ls. list_at ls k) turned ∙ get_or-set_other (set links.lists 0 (list_at links.lists 1)) 1 k [] [] (λ e. absurd (omega arith))
      ∙ get_or-set_other links.lists 0 k (list_at links.lists 1) [] (λ e. absurd (omega arith))

  pub begin_loose : loose_in links2.lists ≡ list_at links.lists 1
  begin_loose = ap (λ ys. list_at links2.lists 0 ++ ys) begin_one ∙ append-nil (list_at links2.lists 0) ∙ begin_zero

  codes : (v : ℕ) → IsBound clauses (list_at links.lists 1) v → 2 ≤ code (lit_at watch v)
  codes v bound = code_high variables clauses resting.over _ (lit_at watch v) (resting.watches.members v bound)

  back : (v : ℕ) → IsBound clauses (loose_in links2.lists) v → IsBound clauses (list_at links.lists 1) v
  back v = subst (λ loose. IsBound clauses loose v) begin_loose

  -- all loose clauses are to be looked at
  pub begin_settling : IsSettling clauses variables watch links2
  begin_settling = record {
    over = resting.over;
    sizes = record {
      size = size ∙ resting.sizes.size;
      few = let a = resting.sizes.few in omega arith;
      lists = ap length turned ∙ length-set (set links.lists 0 (list_at links.lists 1)) 1 [] ∙ long;
    };
    watches = subst (λ loose. AreWatches clauses loose watch) (sym begin_loose) resting.watches;
    there = λ v bound. subst (λ ws. Has ws v) (sym (begin_high (code (lit_at watch v)) (codes v (back v bound)))) (resting.listed.there v (back v bound));
    only = λ k v two h.
        let was = resting.listed.only k v two (subst (λ ws. Has ws v) (begin_high k two) h) in
        (subst (λ loose. IsBound clauses loose v) (sym begin_loose) was.0, was.1);
    even = λ v h. resting.listed.even v (subst (λ ws. Has ws v) begin_loose h);
  }

  pub begin_settled : (t : Lits) → AreSettledIn clauses links2.lists t
  begin_settled t v h = let none : Has [] v = subst (λ ws. Has ws v) begin_one h in absurd none

  pub begin_keeps : (level : ℕ) (t : Lits) (levels reasons : List ℕ)
      → Keeps clauses variables level (list_at links.lists 1) (loose_in links2.lists) watch t levels reasons watch t levels reasons
  begin_keeps level t levels reasons = subst (λ loose. Keeps clauses variables level (list_at links.lists 1) loose watch t levels reasons watch t levels reasons) (sym begin_loose)
      (keeps_same clauses variables level (list_at links.lists 1) (list_at links.lists 1) (list_at links.lists 1) watch t levels reasons)

-- where none is left, those in list 1 are loose
pub end_loose : (lists : List (List ℕ)) → list_at lists 0 ≡ [] → loose_in lists ≡ list_at lists 1
end_loose lists empty = ap (λ xs. xs ++ list_at lists 1) empty

pub end_resting : (clauses : List (Option Lits)) (variables : ℕ) (watch : Lits) (links : Linked) → IsSettling clauses variables watch links
    → list_at links.lists 0 ≡ [] → IsResting clauses variables watch links
end_resting clauses variables watch links settling empty =
    let same = end_loose links.lists empty in
    record {
      over = settling.over;
      sizes = settling.sizes;
      watches = subst (λ loose. AreWatches clauses loose watch) same settling.watches;
      listed = record {
        there = λ v bound. settling.there v (subst (λ loose. IsBound clauses loose v) (sym same) bound);
        only = λ k v two h. let was = settling.only k v two h in (subst (λ loose. IsBound clauses loose v) same was.0, was.1);
        loose_are = λ v. (λ h. h, λ h. h);
        even = λ v h. settling.even v (subst (λ ws. Has ws v) (sym same) h);
        left = empty;
      };
    }
