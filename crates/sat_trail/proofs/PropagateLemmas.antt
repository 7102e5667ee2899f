-- What a trail keeps when literals were implied.
use Rattle.std.proofs.Common.{◌≡◌, ℕ, zero, suc, ◌≤◌, List, length, get_or, take, Option, Some, None, sym, subst, arith}
use Rattle.clause_defs.specs.Clauses.{Lits}
use Rattle.link_lists.specs.Linked.{Linked, list_at}
use Rattle.trail_defs.specs.Assignments.{IsSettled}
use Rattle.trail_defs.specs.Trails.{clause_at}
use Rattle.sat_trail.specs.Watching.{IsWatched}
use Rattle.sat_trail.specs.Looks.{IsResting, Keeps}
use Rattle.sat_trail.specs.Kept.{IsKept}
use Rattle.sat_trail.specs.declared.levels.Stage.{Stage}
use Rattle.sat_trail.proofs.TrailLemmas.{stages_passed}

pub kept_propagated : (variables originals : ℕ) (clauses : List (Option Lits)) (t : Lits) (levels reasons : List ℕ) (stages : List Stage) (done : ℕ) (watch : Lits) (links : Linked)
    → IsKept variables originals clauses t levels reasons stages done watch links
    → (n level : ℕ) → n ≡ variables → level ≡ length stages → (u : Lits) (levels2 reasons2 : List ℕ) (done2 : ℕ) (watch2 : Lits) (links2 : Linked)
    → IsResting clauses n watch2 links2 → done2 ≤ length u → IsWatched clauses (list_at links2.lists 1) watch2 u (take done2 u)
    → Keeps clauses variables level (list_at links.lists 1) (list_at links2.lists 1) watch t levels reasons watch2 u levels2 reasons2
    → IsKept n originals clauses u levels2 reasons2 stages done2 watch2 links2
kept_propagated variables originals clauses t levels reasons stages done watch links kept n level same len u levels2 reasons2 done2 watch2 links2 resting passed watched keeps =
    let at_variables = subst (λ k. IsResting clauses k watch2 links2) same resting in
    subst (λ k. IsKept k originals clauses u levels2 reasons2 stages done2 watch2 links2) (sym same) (record {
      over = kept.over;
      live = kept.live;
      sizes = at_variables.sizes;
      watches = at_variables.watches;
      listed = at_variables.listed;
      stages_are = stages_passed clauses (list_at links2.lists 1) watch2 u done stages (keeps.stages done stages (sym len) kept.marked kept.stages_are) done2 passed watched;
      marked = keeps.marked stages (sym len) (λ j lt. let a = (kept.stages_are.each j lt).0.within in omega arith) kept.marked;
    })

-- clauses by their numbers are clauses by their places
pub numbers_settled : (clauses : List (Option Lits)) (u : Lits) → ((b : ℕ) (c : Lits) → get_or clauses b None ≡ Some c → IsSettled u c)
    → (k : ℕ) (c : Lits) → clause_at clauses k ≡ Some c → IsSettled u c
numbers_settled clauses u settled zero c e = absurd (cc)
numbers_settled clauses u settled (suc b) c e = settled b c e
