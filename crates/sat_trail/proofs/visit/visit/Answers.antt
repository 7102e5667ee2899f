use Rattle.std.proofs.Common.{◌≢◌, ◌<◌, ◌≤◌, ◌+◌, ◌/◌, true≢false, length, refl, sym, ap, ◌∙◌, subst, arith}
use Rattle.clause_defs.specs.Literals.{Literal, negation}
use Rattle.clause_defs.specs.Clauses.{Has}
use Rattle.sat_trail.specs.Watching.{lit_at, other, lits_at}
use Rattle.sat_trail.specs.Visits.{IsVisit}
use Rattle.sat_trail.specs.declared.visit.Step.{Step}
use Rattle.sat_trail.specs.declared.visit.Step.TheVariants.{Forces}
use Rattle.sat_trail.proofs.VisitSteps.{consistent, clause_is, lit_within, visited_inside, beside_is, beside_within, x_within, list_inside}
use Rattle.sat_trail.proofs.VisitCases.{visit_answered, visit_forces, visit_conflict, visit_moved}
use Rattle.sat_trail.proofs.visit.visit.Goals as goal
use Rattle.sat_trail.proofs.visit.visit.Goals.{then-holds-2, else-holds-2}

-- the watch beside is over the variables
pub holds-requires : goal.holds-requires
holds-requires c =
    let beside = beside_is c.args.region.now.held c.args.values.now.variables c.args.watches.now.watch.items c.args.watches.now.links c.args.x c.requires.visiting
    c.pop.new.self.lists c.in_ok-w.w c.in_ok-w.ensures.first c.in_ok-w.ensures.rest c.in_ok-w.ensures.within c.other_watch.result c.index-beside.result.now c.other_watch.ensures c.index-beside.ensures in
    subst (λ (l : Literal). l.variable ≤ c.args.values.now.variables) (sym beside) (beside_within c.args.region.now.held c.args.values.now.variables c.args.watches.now.watch.items c.args.watches.now.links c.args.x c.requires.visiting
    c.pop.new.self.lists c.in_ok-w.w c.in_ok-w.ensures.first c.in_ok-w.ensures.rest c.in_ok-w.ensures.within)

pub push-requires-clause-list : goal.push-requires-clause-list
push-requires-clause-list c =
    let inside : c.code.result < length c.pop.new.self.lists = subst (λ k. k < length c.pop.new.self.lists) (sym c.code.ensures.code) (list_inside c.args.region.now.held c.args.values.now.variables c.args.watches.now.watch.items c.args.watches.now.links c.args.x c.requires.visiting
    c.pop.new.self.lists c.in_ok-w.w c.in_ok-w.ensures.first c.in_ok-w.ensures.rest c.in_ok-w.ensures.within c.args.x (x_within c.args.region.now.held c.args.values.now.variables c.args.watches.now.watch.items c.args.watches.now.links c.args.x c.requires.visiting
    c.pop.new.self.lists c.in_ok-w.w c.in_ok-w.ensures.first c.in_ok-w.ensures.rest c.in_ok-w.ensures.within)) in
    inside

-- the other watch is true
pub returns-then-holds-clause-step : goal.returns-then-holds-clause-step
returns-then-holds-clause-step c =
    let beside = beside_is c.args.region.now.held c.args.values.now.variables c.args.watches.now.watch.items c.args.watches.now.links c.args.x c.requires.visiting
    c.pop.new.self.lists c.in_ok-w.w c.in_ok-w.ensures.first c.in_ok-w.ensures.rest c.in_ok-w.ensures.within c.other_watch.result c.index-beside.result.now c.other_watch.ensures c.index-beside.ensures in
    let inside : c.code.result < length c.pop.new.self.lists = subst (λ k. k < length c.pop.new.self.lists) (sym c.code.ensures.code) (list_inside c.args.region.now.held c.args.values.now.variables c.args.watches.now.watch.items c.args.watches.now.links c.args.x c.requires.visiting
    c.pop.new.self.lists c.in_ok-w.w c.in_ok-w.ensures.first c.in_ok-w.ensures.rest c.in_ok-w.ensures.within c.args.x (x_within c.args.region.now.held c.args.values.now.variables c.args.watches.now.watch.items c.args.watches.now.links c.args.x c.requires.visiting
    c.pop.new.self.lists c.in_ok-w.w c.in_ok-w.ensures.first c.in_ok-w.ensures.rest c.in_ok-w.ensures.within)) in
    visit_answered c.args.region.now.held c.args.values.now.variables c.args.watches.now.watch.items c.args.values.now.lits c.args.watches.now.links c.args.x
    c.requires.visiting c.requires.is_false (consistent c.args.values.now.variables c.args.values.now.lits (c.if-holds.ensures {u = tt}).known) c.pop.new.self.lists c.push.new.self.lists c.in_ok-w.w c.code.result
    c.in_ok-w.ensures.first c.in_ok-w.ensures.rest c.in_ok-w.ensures.out inside c.push.ensures.lists
    c.code.ensures.code (subst (Has c.args.values.now.lits) beside ((c.if-holds.ensures {u = tt}).holds.0 refl))

pub open_literal-requires : goal.open_literal-requires
open_literal-requires c l has =
    lit_within c.args.values.now.variables c.args.region.now.held c.requires.visiting.over (c.in_ok-w.w / 2) l
    (subst (λ ls. Has ls l) (sym (clause_is c.args.region.now.held c.from_name.result.name (c.in_ok-w.w / 2) c.get.result.now c.from_name.ensures c.get.ensures)) has)

pub push-requires-in-Some-clause-list : goal.push-requires-in-Some-clause-list
push-requires-in-Some-clause-list c =
    let is = clause_is c.args.region.now.held c.from_name.result.name (c.in_ok-w.w / 2) c.get.result.now c.from_name.ensures c.get.ensures in
    let within = lit_within c.args.values.now.variables c.args.region.now.held c.requires.visiting.over (c.in_ok-w.w / 2) c.in-Some.m
    (subst (λ ls. Has ls c.in-Some.m) (sym is) c.in-Some.ensures.member) in
    subst (λ k. k < length c.pop.new.self.lists) (sym c.code-in-Some.ensures.code) (list_inside c.args.region.now.held c.args.values.now.variables c.args.watches.now.watch.items c.args.watches.now.links c.args.x c.requires.visiting
    c.pop.new.self.lists c.in_ok-w.w c.in_ok-w.ensures.first c.in_ok-w.ensures.rest c.in_ok-w.ensures.within c.in-Some.m within)

pub push-requires-in-None-clause-list : goal.push-requires-in-None-clause-list
push-requires-in-None-clause-list c =
    let inside : c.code-in-None.result < length c.pop.new.self.lists = subst (λ k. k < length c.pop.new.self.lists) (sym c.code-in-None.ensures.code) (list_inside c.args.region.now.held c.args.values.now.variables c.args.watches.now.watch.items c.args.watches.now.links c.args.x c.requires.visiting
    c.pop.new.self.lists c.in_ok-w.w c.in_ok-w.ensures.first c.in_ok-w.ensures.rest c.in_ok-w.ensures.within c.args.x (x_within c.args.region.now.held c.args.values.now.variables c.args.watches.now.watch.items c.args.watches.now.links c.args.x c.requires.visiting
    c.pop.new.self.lists c.in_ok-w.w c.in_ok-w.ensures.first c.in_ok-w.ensures.rest c.in_ok-w.ensures.within)) in
    inside

pub holds-requires-in-None : goal.holds-requires-in-None
holds-requires-in-None c =
    let beside = beside_is c.args.region.now.held c.args.values.now.variables c.args.watches.now.watch.items c.args.watches.now.links c.args.x c.requires.visiting
    c.pop.new.self.lists c.in_ok-w.w c.in_ok-w.ensures.first c.in_ok-w.ensures.rest c.in_ok-w.ensures.within c.other_watch.result c.index-beside.result.now c.other_watch.ensures c.index-beside.ensures in
    let within = beside_within c.args.region.now.held c.args.values.now.variables c.args.watches.now.watch.items c.args.watches.now.links c.args.x c.requires.visiting
    c.pop.new.self.lists c.in_ok-w.w c.in_ok-w.ensures.first c.in_ok-w.ensures.rest c.in_ok-w.ensures.within in
    let same = ap (λ (l : Literal). l.variable) c.negated.ensures in
    let there = ap (λ (l : Literal). l.variable) beside in
    omega arith

-- the watch moves
pub returns-in-Some-clause-step : goal.returns-in-Some-clause-step
returns-in-Some-clause-step c =
    let beside = beside_is c.args.region.now.held c.args.values.now.variables c.args.watches.now.watch.items c.args.watches.now.links c.args.x c.requires.visiting
    c.pop.new.self.lists c.in_ok-w.w c.in_ok-w.ensures.first c.in_ok-w.ensures.rest c.in_ok-w.ensures.within c.other_watch.result c.index-beside.result.now c.other_watch.ensures c.index-beside.ensures in
    let is = clause_is c.args.region.now.held c.from_name.result.name (c.in_ok-w.w / 2) c.get.result.now c.from_name.ensures c.get.ensures in
    let member = subst (λ ls. Has ls c.in-Some.m) (sym is) c.in-Some.ensures.member in
    let within = lit_within c.args.values.now.variables c.args.region.now.held c.requires.visiting.over (c.in_ok-w.w / 2) c.in-Some.m member in
    let inside : c.code-in-Some.result < length c.pop.new.self.lists = subst (λ k. k < length c.pop.new.self.lists) (sym c.code-in-Some.ensures.code) (list_inside c.args.region.now.held c.args.values.now.variables c.args.watches.now.watch.items c.args.watches.now.links c.args.x c.requires.visiting
    c.pop.new.self.lists c.in_ok-w.w c.in_ok-w.ensures.first c.in_ok-w.ensures.rest c.in_ok-w.ensures.within c.in-Some.m within) in
    visit_moved c.args.region.now.held c.args.values.now.variables c.args.watches.now.watch.items c.args.values.now.lits c.args.watches.now.links c.args.x
    c.requires.visiting c.requires.is_false (consistent c.args.values.now.variables c.args.values.now.lits (c.if-holds.ensures {u = tt}).known) c.pop.new.self.lists c.push-in-Some.new.self.lists c.in_ok-w.w c.code-in-Some.result
    c.in_ok-w.ensures.first c.in_ok-w.ensures.rest c.in_ok-w.ensures.out inside c.push-in-Some.ensures.lists
    c.in-Some.m c.code-in-Some.ensures.code member (λ e. c.in-Some.ensures.apart (e ∙ sym beside)) c.in-Some.ensures.open (visited_inside c.args.region.now.held c.args.values.now.variables c.args.watches.now.watch.items c.args.watches.now.links c.args.x c.requires.visiting
    c.pop.new.self.lists c.in_ok-w.w c.in_ok-w.ensures.first c.in_ok-w.ensures.rest c.in_ok-w.ensures.within)

-- no other literal is open
pub returns-after-holds-2-clause-step : goal.returns-after-holds-2-clause-step
returns-after-holds-2-clause-step c =
    let beside = beside_is c.args.region.now.held c.args.values.now.variables c.args.watches.now.watch.items c.args.watches.now.links c.args.x c.requires.visiting
    c.pop.new.self.lists c.in_ok-w.w c.in_ok-w.ensures.first c.in_ok-w.ensures.rest c.in_ok-w.ensures.within c.other_watch.result c.index-beside.result.now c.other_watch.ensures c.index-beside.ensures in
    let inside : c.code-in-None.result < length c.pop.new.self.lists = subst (λ k. k < length c.pop.new.self.lists) (sym c.code-in-None.ensures.code) (list_inside c.args.region.now.held c.args.values.now.variables c.args.watches.now.watch.items c.args.watches.now.links c.args.x c.requires.visiting
    c.pop.new.self.lists c.in_ok-w.w c.in_ok-w.ensures.first c.in_ok-w.ensures.rest c.in_ok-w.ensures.within c.args.x (x_within c.args.region.now.held c.args.values.now.variables c.args.watches.now.watch.items c.args.watches.now.links c.args.x c.requires.visiting
    c.pop.new.self.lists c.in_ok-w.w c.in_ok-w.ensures.first c.in_ok-w.ensures.rest c.in_ok-w.ensures.within)) in
    let is = clause_is c.args.region.now.held c.from_name.result.name (c.in_ok-w.w / 2) c.get.result.now c.from_name.ensures c.get.ensures in
    let others : (m : Literal) → Has (lits_at c.args.region.now.held (c.in_ok-w.w / 2)) m → m ≢ lit_at c.args.watches.now.watch.items (other c.in_ok-w.w)
    → Has c.args.values.now.lits (negation m) = λ m h ne. c.in-None.ensures.none m (subst (λ ls. Has ls m) is h) (λ e. ne (e ∙ beside)) in
    let Left : Step → Type 0 = IsVisit c.args.region.now.held c.args.values.now.lits c.args.x c.args.watches.now.watch.items c.args.watches.now.links.lists
    c.args.watches.now.watch.items c.push-in-None.new.self.lists in
    elim c.if-holds-2.branch [
      | then-holds-2 b ↦ subst Left (sym b.result-is)
          (visit_conflict c.args.region.now.held c.args.values.now.variables c.args.watches.now.watch.items c.args.values.now.lits c.args.watches.now.links c.args.x
          c.requires.visiting c.requires.is_false (consistent c.args.values.now.variables c.args.values.now.lits (c.if-holds.ensures {u = tt}).known) c.pop.new.self.lists c.push-in-None.new.self.lists c.in_ok-w.w c.code-in-None.result
          c.in_ok-w.ensures.first c.in_ok-w.ensures.rest c.in_ok-w.ensures.out inside c.push-in-None.ensures.lists
          c.code-in-None.ensures.code others (c.in_ok-w.w / 2 + 1) refl
          (subst (λ l. Has c.args.values.now.lits (negation l)) beside (subst (Has c.args.values.now.lits) c.negated.ensures ((b.if-holds-2.ensures {u = tt}).holds.0 refl))))
      | else-holds-2 b ↦ subst Left (sym (b.result-is ∙ ap (Forces (c.in_ok-w.w / 2 + 1)) beside))
          (visit_forces c.args.region.now.held c.args.values.now.variables c.args.watches.now.watch.items c.args.values.now.lits c.args.watches.now.links c.args.x
          c.requires.visiting c.requires.is_false (consistent c.args.values.now.variables c.args.values.now.lits (c.if-holds.ensures {u = tt}).known) c.pop.new.self.lists c.push-in-None.new.self.lists c.in_ok-w.w c.code-in-None.result
          c.in_ok-w.ensures.first c.in_ok-w.ensures.rest c.in_ok-w.ensures.out inside c.push-in-None.ensures.lists
          c.code-in-None.ensures.code others (c.in_ok-w.w / 2 + 1) refl
          (λ h. true≢false (sym ((c.if-holds.ensures {u = tt}).holds.1 (subst (Has c.args.values.now.lits) (sym beside) h))))
          (λ h. true≢false (sym ((b.if-holds-2.ensures {u = tt}).holds.1 (subst (Has c.args.values.now.lits) (sym (c.negated.ensures ∙ ap negation beside)) h)))))
    ]
