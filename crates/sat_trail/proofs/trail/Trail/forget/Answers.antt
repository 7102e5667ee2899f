use Rattle.std.proofs.Common.{◌≡◌, ◌≢◌, ◌-◌, suc, None, get_or, set, sym, ap, ◌∙◌, subst, arith}
use Rattle.clause_defs.specs.Literals.{Literal}
use Rattle.clause_defs.specs.Clauses.{Has}
use Rattle.trail_defs.specs.Trails.{Assigned, clause_at}
use Rattle.sat_trail.specs.Kept.{IsKept}
use Rattle.sat_trail.proofs.ForgetLemmas.{place_of_live, kept_forgotten}
use Rattle.sat_trail.proofs.trail.Trail.forget.Goals as goal

pub invariant_of-self : goal.invariant_of-self
invariant_of-self c =
    let n = c.args.c - 1 in
    let low = c.requires.learned in
    let is : c.args.c ≡ suc n = omega arith in
    let first = ap (λ (a : Assigned). a.originals) c.self.view_is in
    let live = subst (λ (a : Assigned). clause_at a.clauses c.args.c ≢ None) (sym c.self.view_is) c.requires.live in
    let no_reason : (l : Literal) → Has c.self.inside.values.assignment.lits l → get_or c.self.inside.values.reasons.items l.variable 0 ≢ suc n =
    λ l h e. c.requires.no_reason l (subst (λ (a : Assigned). Has a.lits l) c.self.view_is h)
    (ap (λ (a : Assigned). get_or a.reasons l.variable 0) (sym c.self.view_is) ∙ e ∙ sym is) in (
      subst (λ w. IsKept c.self.inside.values.assignment.variables c.self.inside.originals c.free.new.self.held c.self.inside.values.assignment.lits c.self.inside.values.levels.items c.self.inside.values.reasons.items
          c.self.inside.stages.items c.self.inside.done w.items c.release.new.self.links) (sym c.release.ensures.watch)
          (kept_forgotten c.self.inside.values.assignment.variables c.self.inside.originals c.self.inside.region.held c.self.inside.values.assignment.lits c.self.inside.values.levels.items c.self.inside.values.reasons.items
          c.self.inside.stages.items c.self.inside.done c.self.inside.watches.watch.items c.self.inside.watches.links c.self.invariant.0
          n (place_of_live c.self.inside.region.held c.args.c n is live) (omega arith) no_reason
          c.free.new.self.held (c.free.ensures.held ∙ ap (λ k. set c.self.inside.region.held k None) c.from_name.ensures)
          c.release.new.self.links c.release.ensures.size c.release.ensures.lists),
      c.self.invariant.1,
      c.self.invariant.2,
    )
