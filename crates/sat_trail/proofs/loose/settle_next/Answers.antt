use Rattle.std.proofs.Common.{◌≡◌, ◌+◌, ◌/◌, length, get_or, Some, None, refl, sym, ap, ◌∙◌, subst, arith}
use Rattle.clause_defs.specs.Clauses.{Has}
use Rattle.trail_defs.specs.Trails.{clause_at, IsReason}
use Rattle.sat_trail.specs.Loosening.{loose_in, IsSettling}
use Rattle.sat_trail.proofs.VisitCases.{clause_behind}
use Rattle.sat_trail.proofs.VisitSteps.{clause_is, lit_within, code_listed}
use Rattle.sat_trail.proofs.NextLemmas.{keeps_then}
use Rattle.sat_trail.proofs.SettleLemmas.{popped_length, other_out, stays_settling, stays_keeps, stays_fewer, stays_settled, bind_was, bind_gone, bind_size, bind_first, bind_second, bind_others, bind_settling, bind_fewer, bind_settled}
use Rattle.sat_trail.proofs.BindLemmas.{open_keeps, late_keeps, forced_true, forced_more, forced_open, forced_keeps}
use Rattle.sat_trail.proofs.loose.settle_next.Goals as goal

-- the literals of the clause are over the variables
pub first_open-requires : goal.first_open-requires
first_open-requires c l has =
    let is = clause_is c.args.region.now.held c.from_name.result.name (c.in-Some.w / 2) c.get-lits.result.now c.from_name.ensures c.get-lits.ensures in
    lit_within c.args.values.now.assignment.variables c.args.region.now.held c.requires.settling.over (c.in-Some.w / 2) l (subst (λ ls. Has ls l) (sym is) has)

pub open_literal-requires : goal.open_literal-requires
open_literal-requires c l has =
    let is = clause_is c.args.region.now.held c.from_name.result.name (c.in-Some.w / 2) c.get-lits.result.now c.from_name.ensures c.get-lits.ensures in
    lit_within c.args.values.now.assignment.variables c.args.region.now.held c.requires.settling.over (c.in-Some.w / 2) l (subst (λ ls. Has ls l) (sym is) has)

pub late_literal-requires-clause-within : goal.late_literal-requires-clause-within
late_literal-requires-clause-within c l has =
    let is = clause_is c.args.region.now.held c.from_name.result.name (c.in-Some.w / 2) c.get-lits.result.now c.from_name.ensures c.get-lits.ensures in
    let within = lit_within c.args.values.now.assignment.variables c.args.region.now.held c.requires.settling.over (c.in-Some.w / 2) l (subst (λ ls. Has ls l) (sym is) has) in
    let same = c.force.ensures.variables in
    omega arith

pub force-requires-clause-within : goal.force-requires-clause-within
force-requires-clause-within c =
    let is = clause_is c.args.region.now.held c.from_name.result.name (c.in-Some.w / 2) c.get-lits.result.now c.from_name.ensures c.get-lits.ensures in
    lit_within c.args.values.now.assignment.variables c.args.region.now.held c.requires.settling.over (c.in-Some.w / 2) c.in-Some-first_open.first (subst (λ ls. Has ls c.in-Some-first_open.first) (sym is) c.in-Some-first_open.ensures.member)

-- its watches have lists, and stand in none
pub bind-requires-clause-first_list : goal.bind-requires-clause-first_list
bind-requires-clause-first_list c =
    let is = clause_is c.args.region.now.held c.from_name.result.name (c.in-Some.w / 2) c.get-lits.result.now c.from_name.ensures c.get-lits.ensures in
    let a_within = lit_within c.args.values.now.assignment.variables c.args.region.now.held c.requires.settling.over (c.in-Some.w / 2) c.in-Some-first_open.first (subst (λ ls. Has ls c.in-Some-first_open.first) (sym is) c.in-Some-first_open.ensures.member) in
    let a_inside = code_listed c.args.values.now.assignment.variables (length c.pop.new.self.lists) c.in-Some-first_open.first a_within (popped_length c.args.region.now.held c.args.values.now.assignment.variables c.args.watches.now.watch.items c.args.watches.now.links c.requires.settling c.pop.new.self.lists c.in-Some.w
    c.in-Some.ensures.first c.in-Some.ensures.rest c.in-Some.ensures.out c.in-Some.ensures.within) in
    a_inside

pub bind-requires-clause-second_list : goal.bind-requires-clause-second_list
bind-requires-clause-second_list c =
    let is = clause_is c.args.region.now.held c.from_name.result.name (c.in-Some.w / 2) c.get-lits.result.now c.from_name.ensures c.get-lits.ensures in
    let b_in = subst (λ ls. Has ls c.in-Some-open_literal.second) (sym is) c.in-Some-open_literal.ensures.member in
    let b_within = lit_within c.args.values.now.assignment.variables c.args.region.now.held c.requires.settling.over (c.in-Some.w / 2) c.in-Some-open_literal.second (subst (λ ls. Has ls c.in-Some-open_literal.second) (sym is) c.in-Some-open_literal.ensures.member) in
    let b_inside = code_listed c.args.values.now.assignment.variables (length c.pop.new.self.lists) c.in-Some-open_literal.second b_within (popped_length c.args.region.now.held c.args.values.now.assignment.variables c.args.watches.now.watch.items c.args.watches.now.links c.requires.settling c.pop.new.self.lists c.in-Some.w
    c.in-Some.ensures.first c.in-Some.ensures.rest c.in-Some.ensures.out c.in-Some.ensures.within) in
    b_inside

pub bind-requires-clause-other_out : goal.bind-requires-clause-other_out
bind-requires-clause-other_out c = other_out c.args.region.now.held c.args.values.now.assignment.variables c.args.watches.now.watch.items c.args.watches.now.links c.requires.settling c.pop.new.self.lists c.in-Some.w
    c.in-Some.ensures.first c.in-Some.ensures.rest c.in-Some.ensures.out c.in-Some.ensures.within

pub bind-requires-in-Some-late_literal-clause-first_list : goal.bind-requires-in-Some-late_literal-clause-first_list
bind-requires-in-Some-late_literal-clause-first_list c =
    let is = clause_is c.args.region.now.held c.from_name.result.name (c.in-Some.w / 2) c.get-lits.result.now c.from_name.ensures c.get-lits.ensures in
    let a_within = lit_within c.args.values.now.assignment.variables c.args.region.now.held c.requires.settling.over (c.in-Some.w / 2) c.in-Some-first_open.first (subst (λ ls. Has ls c.in-Some-first_open.first) (sym is) c.in-Some-first_open.ensures.member) in
    let a_inside = code_listed c.args.values.now.assignment.variables (length c.pop.new.self.lists) c.in-Some-first_open.first a_within (popped_length c.args.region.now.held c.args.values.now.assignment.variables c.args.watches.now.watch.items c.args.watches.now.links c.requires.settling c.pop.new.self.lists c.in-Some.w
    c.in-Some.ensures.first c.in-Some.ensures.rest c.in-Some.ensures.out c.in-Some.ensures.within) in
    a_inside

pub bind-requires-in-Some-late_literal-clause-second_list : goal.bind-requires-in-Some-late_literal-clause-second_list
bind-requires-in-Some-late_literal-clause-second_list c =
    let is = clause_is c.args.region.now.held c.from_name.result.name (c.in-Some.w / 2) c.get-lits.result.now c.from_name.ensures c.get-lits.ensures in
    let b_in = subst (λ ls. Has ls c.in-Some-late_literal.second) (sym is) c.in-Some-late_literal.ensures.member in
    let b_within = lit_within c.args.values.now.assignment.variables c.args.region.now.held c.requires.settling.over (c.in-Some.w / 2) c.in-Some-late_literal.second (subst (λ ls. Has ls c.in-Some-late_literal.second) (sym is) c.in-Some-late_literal.ensures.member) in
    let b_inside = code_listed c.args.values.now.assignment.variables (length c.pop.new.self.lists) c.in-Some-late_literal.second b_within (popped_length c.args.region.now.held c.args.values.now.assignment.variables c.args.watches.now.watch.items c.args.watches.now.links c.requires.settling c.pop.new.self.lists c.in-Some.w
    c.in-Some.ensures.first c.in-Some.ensures.rest c.in-Some.ensures.out c.in-Some.ensures.within) in
    b_inside

pub bind-requires-in-Some-late_literal-clause-other_out : goal.bind-requires-in-Some-late_literal-clause-other_out
bind-requires-in-Some-late_literal-clause-other_out c = other_out c.args.region.now.held c.args.values.now.assignment.variables c.args.watches.now.watch.items c.args.watches.now.links c.requires.settling c.pop.new.self.lists c.in-Some.w
    c.in-Some.ensures.first c.in-Some.ensures.rest c.in-Some.ensures.out c.in-Some.ensures.within

-- all of its literals are false
pub returns-in-None-first_open-clause-settling : goal.returns-in-None-first_open-clause-settling
returns-in-None-first_open-clause-settling c = stays_settling c.args.region.now.held c.args.values.now.assignment.variables c.args.watches.now.watch.items c.args.watches.now.links c.requires.settling c.pop.new.self.lists c.in-Some.w
    c.in-Some.ensures.first c.in-Some.ensures.rest c.in-Some.ensures.out c.in-Some.ensures.within
    c.push.new.self (c.push.ensures.size ∙ c.in-Some.ensures.size) c.push.ensures.lists

pub returns-in-None-first_open-clause-keeps : goal.returns-in-None-first_open-clause-keeps
returns-in-None-first_open-clause-keeps c = stays_keeps c.args.region.now.held c.args.values.now.assignment.variables c.args.watches.now.watch.items c.args.watches.now.links c.requires.settling c.pop.new.self.lists c.in-Some.w
    c.in-Some.ensures.first c.in-Some.ensures.rest c.in-Some.ensures.out c.in-Some.ensures.within
    c.push.new.self (c.push.ensures.size ∙ c.in-Some.ensures.size) c.push.ensures.lists
    c.args.level c.args.values.now.assignment.lits c.args.values.now.levels.items c.args.values.now.reasons.items

pub returns-in-None-first_open-clause-outcome : goal.returns-in-None-first_open-clause-outcome
returns-in-None-first_open-clause-outcome c =
    let number_is : clause_at c.args.region.now.held (c.in-Some.w / 2 + 1) ≡ Some c.get-lits.result.now =
    clause_behind c.args.region.now.held (c.in-Some.w / 2) ∙ ap (λ k. get_or c.args.region.now.held k None) (sym c.from_name.ensures) ∙ c.get-lits.ensures in (
      stays_fewer c.args.region.now.held c.args.values.now.assignment.variables c.args.watches.now.watch.items c.args.watches.now.links c.requires.settling c.pop.new.self.lists c.in-Some.w
          c.in-Some.ensures.first c.in-Some.ensures.rest c.in-Some.ensures.out c.in-Some.ensures.within
          c.push.new.self (c.push.ensures.size ∙ c.in-Some.ensures.size) c.push.ensures.lists,
      (c.get-lits.result.now, number_is, c.in-None-first_open.ensures.none),
    )

-- two of its literals aren't false
pub returns-in-Some-open_literal-clause-settling : goal.returns-in-Some-open_literal-clause-settling
returns-in-Some-open_literal-clause-settling c =
    let is = clause_is c.args.region.now.held c.from_name.result.name (c.in-Some.w / 2) c.get-lits.result.now c.from_name.ensures c.get-lits.ensures in
    let a_in = subst (λ ls. Has ls c.in-Some-first_open.first) (sym is) c.in-Some-first_open.ensures.member in
    let a_within = lit_within c.args.values.now.assignment.variables c.args.region.now.held c.requires.settling.over (c.in-Some.w / 2) c.in-Some-first_open.first (subst (λ ls. Has ls c.in-Some-first_open.first) (sym is) c.in-Some-first_open.ensures.member) in
    let a_inside = code_listed c.args.values.now.assignment.variables (length c.pop.new.self.lists) c.in-Some-first_open.first a_within (popped_length c.args.region.now.held c.args.values.now.assignment.variables c.args.watches.now.watch.items c.args.watches.now.links c.requires.settling c.pop.new.self.lists c.in-Some.w
    c.in-Some.ensures.first c.in-Some.ensures.rest c.in-Some.ensures.out c.in-Some.ensures.within) in
    let b_in = subst (λ ls. Has ls c.in-Some-open_literal.second) (sym is) c.in-Some-open_literal.ensures.member in
    let b_within = lit_within c.args.values.now.assignment.variables c.args.region.now.held c.requires.settling.over (c.in-Some.w / 2) c.in-Some-open_literal.second (subst (λ ls. Has ls c.in-Some-open_literal.second) (sym is) c.in-Some-open_literal.ensures.member) in
    let b_inside = code_listed c.args.values.now.assignment.variables (length c.pop.new.self.lists) c.in-Some-open_literal.second b_within (popped_length c.args.region.now.held c.args.values.now.assignment.variables c.args.watches.now.watch.items c.args.watches.now.links c.requires.settling c.pop.new.self.lists c.in-Some.w
    c.in-Some.ensures.first c.in-Some.ensures.rest c.in-Some.ensures.out c.in-Some.ensures.within) in
    bind_settling c.args.region.now.held c.args.values.now.assignment.variables c.args.watches.now.watch.items c.args.watches.now.links c.requires.settling c.pop.new.self.lists c.in-Some.w
    c.in-Some.ensures.first c.in-Some.ensures.rest c.in-Some.ensures.out c.in-Some.ensures.within
    c.bind.new.watches.links (c.bind.ensures.size ∙ c.in-Some.ensures.size) c.bind.new.watches.watch.items c.in-Some-first_open.first c.in-Some-open_literal.second c.bind.ensures.bound a_in b_in c.in-Some-open_literal.ensures.apart a_inside b_inside

pub returns-in-Some-open_literal-clause-keeps : goal.returns-in-Some-open_literal-clause-keeps
returns-in-Some-open_literal-clause-keeps c =
    let is = clause_is c.args.region.now.held c.from_name.result.name (c.in-Some.w / 2) c.get-lits.result.now c.from_name.ensures c.get-lits.ensures in
    let a_in = subst (λ ls. Has ls c.in-Some-first_open.first) (sym is) c.in-Some-first_open.ensures.member in
    let a_within = lit_within c.args.values.now.assignment.variables c.args.region.now.held c.requires.settling.over (c.in-Some.w / 2) c.in-Some-first_open.first (subst (λ ls. Has ls c.in-Some-first_open.first) (sym is) c.in-Some-first_open.ensures.member) in
    let a_inside = code_listed c.args.values.now.assignment.variables (length c.pop.new.self.lists) c.in-Some-first_open.first a_within (popped_length c.args.region.now.held c.args.values.now.assignment.variables c.args.watches.now.watch.items c.args.watches.now.links c.requires.settling c.pop.new.self.lists c.in-Some.w
    c.in-Some.ensures.first c.in-Some.ensures.rest c.in-Some.ensures.out c.in-Some.ensures.within) in
    let b_in = subst (λ ls. Has ls c.in-Some-open_literal.second) (sym is) c.in-Some-open_literal.ensures.member in
    let b_within = lit_within c.args.values.now.assignment.variables c.args.region.now.held c.requires.settling.over (c.in-Some.w / 2) c.in-Some-open_literal.second (subst (λ ls. Has ls c.in-Some-open_literal.second) (sym is) c.in-Some-open_literal.ensures.member) in
    let b_inside = code_listed c.args.values.now.assignment.variables (length c.pop.new.self.lists) c.in-Some-open_literal.second b_within (popped_length c.args.region.now.held c.args.values.now.assignment.variables c.args.watches.now.watch.items c.args.watches.now.links c.requires.settling c.pop.new.self.lists c.in-Some.w
    c.in-Some.ensures.first c.in-Some.ensures.rest c.in-Some.ensures.out c.in-Some.ensures.within) in
    open_keeps c.args.region.now.held c.args.values.now.assignment.variables (loose_in c.args.watches.now.links.lists) (loose_in c.bind.new.watches.links.lists) c.args.watches.now.watch.items c.bind.new.watches.watch.items (c.in-Some.w / 2) c.in-Some-first_open.first c.in-Some-open_literal.second
    (bind_was c.args.region.now.held c.args.values.now.assignment.variables c.args.watches.now.watch.items c.args.watches.now.links c.requires.settling c.pop.new.self.lists c.in-Some.w
    c.in-Some.ensures.first c.in-Some.ensures.rest c.in-Some.ensures.out c.in-Some.ensures.within
    c.bind.new.watches.links (c.bind.ensures.size ∙ c.in-Some.ensures.size) c.bind.new.watches.watch.items c.in-Some-first_open.first c.in-Some-open_literal.second c.bind.ensures.bound a_in b_in c.in-Some-open_literal.ensures.apart a_inside b_inside)
    (bind_gone c.args.region.now.held c.args.values.now.assignment.variables c.args.watches.now.watch.items c.args.watches.now.links c.requires.settling c.pop.new.self.lists c.in-Some.w
    c.in-Some.ensures.first c.in-Some.ensures.rest c.in-Some.ensures.out c.in-Some.ensures.within
    c.bind.new.watches.links (c.bind.ensures.size ∙ c.in-Some.ensures.size) c.bind.new.watches.watch.items c.in-Some-first_open.first c.in-Some-open_literal.second c.bind.ensures.bound a_in b_in c.in-Some-open_literal.ensures.apart a_inside b_inside)
    (bind_size c.args.region.now.held c.args.values.now.assignment.variables c.args.watches.now.watch.items c.args.watches.now.links c.requires.settling c.pop.new.self.lists c.in-Some.w
    c.in-Some.ensures.first c.in-Some.ensures.rest c.in-Some.ensures.out c.in-Some.ensures.within
    c.bind.new.watches.links (c.bind.ensures.size ∙ c.in-Some.ensures.size) c.bind.new.watches.watch.items c.in-Some-first_open.first c.in-Some-open_literal.second c.bind.ensures.bound a_in b_in c.in-Some-open_literal.ensures.apart a_inside b_inside)
    (bind_first c.args.region.now.held c.args.values.now.assignment.variables c.args.watches.now.watch.items c.args.watches.now.links c.requires.settling c.pop.new.self.lists c.in-Some.w
    c.in-Some.ensures.first c.in-Some.ensures.rest c.in-Some.ensures.out c.in-Some.ensures.within
    c.bind.new.watches.links (c.bind.ensures.size ∙ c.in-Some.ensures.size) c.bind.new.watches.watch.items c.in-Some-first_open.first c.in-Some-open_literal.second c.bind.ensures.bound a_in b_in c.in-Some-open_literal.ensures.apart a_inside b_inside)
    (bind_second c.args.region.now.held c.args.values.now.assignment.variables c.args.watches.now.watch.items c.args.watches.now.links c.requires.settling c.pop.new.self.lists c.in-Some.w
    c.in-Some.ensures.first c.in-Some.ensures.rest c.in-Some.ensures.out c.in-Some.ensures.within
    c.bind.new.watches.links (c.bind.ensures.size ∙ c.in-Some.ensures.size) c.bind.new.watches.watch.items c.in-Some-first_open.first c.in-Some-open_literal.second c.bind.ensures.bound a_in b_in c.in-Some-open_literal.ensures.apart a_inside b_inside)
    (bind_others c.args.region.now.held c.args.values.now.assignment.variables c.args.watches.now.watch.items c.args.watches.now.links c.requires.settling c.pop.new.self.lists c.in-Some.w
    c.in-Some.ensures.first c.in-Some.ensures.rest c.in-Some.ensures.out c.in-Some.ensures.within
    c.bind.new.watches.links (c.bind.ensures.size ∙ c.in-Some.ensures.size) c.bind.new.watches.watch.items c.in-Some-first_open.first c.in-Some-open_literal.second c.bind.ensures.bound a_in b_in c.in-Some-open_literal.ensures.apart a_inside b_inside)
    c.args.level c.args.values.now.assignment.lits c.args.values.now.levels.items c.args.values.now.reasons.items c.in-Some-first_open.ensures.open c.in-Some-open_literal.ensures.open

pub returns-in-Some-open_literal-clause-outcome : goal.returns-in-Some-open_literal-clause-outcome
returns-in-Some-open_literal-clause-outcome c =
    let is = clause_is c.args.region.now.held c.from_name.result.name (c.in-Some.w / 2) c.get-lits.result.now c.from_name.ensures c.get-lits.ensures in
    let a_in = subst (λ ls. Has ls c.in-Some-first_open.first) (sym is) c.in-Some-first_open.ensures.member in
    let a_within = lit_within c.args.values.now.assignment.variables c.args.region.now.held c.requires.settling.over (c.in-Some.w / 2) c.in-Some-first_open.first (subst (λ ls. Has ls c.in-Some-first_open.first) (sym is) c.in-Some-first_open.ensures.member) in
    let a_inside = code_listed c.args.values.now.assignment.variables (length c.pop.new.self.lists) c.in-Some-first_open.first a_within (popped_length c.args.region.now.held c.args.values.now.assignment.variables c.args.watches.now.watch.items c.args.watches.now.links c.requires.settling c.pop.new.self.lists c.in-Some.w
    c.in-Some.ensures.first c.in-Some.ensures.rest c.in-Some.ensures.out c.in-Some.ensures.within) in
    let b_in = subst (λ ls. Has ls c.in-Some-open_literal.second) (sym is) c.in-Some-open_literal.ensures.member in
    let b_within = lit_within c.args.values.now.assignment.variables c.args.region.now.held c.requires.settling.over (c.in-Some.w / 2) c.in-Some-open_literal.second (subst (λ ls. Has ls c.in-Some-open_literal.second) (sym is) c.in-Some-open_literal.ensures.member) in
    let b_inside = code_listed c.args.values.now.assignment.variables (length c.pop.new.self.lists) c.in-Some-open_literal.second b_within (popped_length c.args.region.now.held c.args.values.now.assignment.variables c.args.watches.now.watch.items c.args.watches.now.links c.requires.settling c.pop.new.self.lists c.in-Some.w
    c.in-Some.ensures.first c.in-Some.ensures.rest c.in-Some.ensures.out c.in-Some.ensures.within) in (
      bind_fewer c.args.region.now.held c.args.values.now.assignment.variables c.args.watches.now.watch.items c.args.watches.now.links c.requires.settling c.pop.new.self.lists c.in-Some.w
          c.in-Some.ensures.first c.in-Some.ensures.rest c.in-Some.ensures.out c.in-Some.ensures.within
          c.bind.new.watches.links (c.bind.ensures.size ∙ c.in-Some.ensures.size) c.bind.new.watches.watch.items c.in-Some-first_open.first c.in-Some-open_literal.second c.bind.ensures.bound a_in b_in c.in-Some-open_literal.ensures.apart a_inside b_inside,
      bind_settled c.args.region.now.held c.args.values.now.assignment.variables c.args.watches.now.watch.items c.args.watches.now.links c.requires.settling c.pop.new.self.lists c.in-Some.w
          c.in-Some.ensures.first c.in-Some.ensures.rest c.in-Some.ensures.out c.in-Some.ensures.within
          c.bind.new.watches.links (c.bind.ensures.size ∙ c.in-Some.ensures.size) c.bind.new.watches.watch.items c.in-Some-first_open.first c.in-Some-open_literal.second c.bind.ensures.bound a_in b_in c.in-Some-open_literal.ensures.apart a_inside b_inside
          c.args.values.now.assignment.lits c.args.values.now.assignment.lits (λ l h. h),
    )

-- one is true, and another one became false on this level
pub returns-in-Some-late_literal-clause-settling : goal.returns-in-Some-late_literal-clause-settling
returns-in-Some-late_literal-clause-settling c =
    let is = clause_is c.args.region.now.held c.from_name.result.name (c.in-Some.w / 2) c.get-lits.result.now c.from_name.ensures c.get-lits.ensures in
    let a_in = subst (λ ls. Has ls c.in-Some-first_open.first) (sym is) c.in-Some-first_open.ensures.member in
    let a_within = lit_within c.args.values.now.assignment.variables c.args.region.now.held c.requires.settling.over (c.in-Some.w / 2) c.in-Some-first_open.first (subst (λ ls. Has ls c.in-Some-first_open.first) (sym is) c.in-Some-first_open.ensures.member) in
    let a_inside = code_listed c.args.values.now.assignment.variables (length c.pop.new.self.lists) c.in-Some-first_open.first a_within (popped_length c.args.region.now.held c.args.values.now.assignment.variables c.args.watches.now.watch.items c.args.watches.now.links c.requires.settling c.pop.new.self.lists c.in-Some.w
    c.in-Some.ensures.first c.in-Some.ensures.rest c.in-Some.ensures.out c.in-Some.ensures.within) in
    let b_in = subst (λ ls. Has ls c.in-Some-late_literal.second) (sym is) c.in-Some-late_literal.ensures.member in
    let b_within = lit_within c.args.values.now.assignment.variables c.args.region.now.held c.requires.settling.over (c.in-Some.w / 2) c.in-Some-late_literal.second (subst (λ ls. Has ls c.in-Some-late_literal.second) (sym is) c.in-Some-late_literal.ensures.member) in
    let b_inside = code_listed c.args.values.now.assignment.variables (length c.pop.new.self.lists) c.in-Some-late_literal.second b_within (popped_length c.args.region.now.held c.args.values.now.assignment.variables c.args.watches.now.watch.items c.args.watches.now.links c.requires.settling c.pop.new.self.lists c.in-Some.w
    c.in-Some.ensures.first c.in-Some.ensures.rest c.in-Some.ensures.out c.in-Some.ensures.within) in
    subst (λ n. IsSettling c.args.region.now.held n c.bind-in-Some-late_literal.new.watches.watch.items c.bind-in-Some-late_literal.new.watches.links) (sym c.force.ensures.variables)
    (bind_settling c.args.region.now.held c.args.values.now.assignment.variables c.args.watches.now.watch.items c.args.watches.now.links c.requires.settling c.pop.new.self.lists c.in-Some.w
    c.in-Some.ensures.first c.in-Some.ensures.rest c.in-Some.ensures.out c.in-Some.ensures.within
    c.bind-in-Some-late_literal.new.watches.links (c.bind-in-Some-late_literal.ensures.size ∙ c.in-Some.ensures.size) c.bind-in-Some-late_literal.new.watches.watch.items c.in-Some-first_open.first c.in-Some-late_literal.second c.bind-in-Some-late_literal.ensures.bound a_in b_in c.in-Some-late_literal.ensures.apart a_inside b_inside)

pub returns-in-Some-late_literal-clause-keeps : goal.returns-in-Some-late_literal-clause-keeps
returns-in-Some-late_literal-clause-keeps c =
    let is = clause_is c.args.region.now.held c.from_name.result.name (c.in-Some.w / 2) c.get-lits.result.now c.from_name.ensures c.get-lits.ensures in
    let a_in = subst (λ ls. Has ls c.in-Some-first_open.first) (sym is) c.in-Some-first_open.ensures.member in
    let a_within = lit_within c.args.values.now.assignment.variables c.args.region.now.held c.requires.settling.over (c.in-Some.w / 2) c.in-Some-first_open.first (subst (λ ls. Has ls c.in-Some-first_open.first) (sym is) c.in-Some-first_open.ensures.member) in
    let a_inside = code_listed c.args.values.now.assignment.variables (length c.pop.new.self.lists) c.in-Some-first_open.first a_within (popped_length c.args.region.now.held c.args.values.now.assignment.variables c.args.watches.now.watch.items c.args.watches.now.links c.requires.settling c.pop.new.self.lists c.in-Some.w
    c.in-Some.ensures.first c.in-Some.ensures.rest c.in-Some.ensures.out c.in-Some.ensures.within) in
    let b_in = subst (λ ls. Has ls c.in-Some-late_literal.second) (sym is) c.in-Some-late_literal.ensures.member in
    let b_within = lit_within c.args.values.now.assignment.variables c.args.region.now.held c.requires.settling.over (c.in-Some.w / 2) c.in-Some-late_literal.second (subst (λ ls. Has ls c.in-Some-late_literal.second) (sym is) c.in-Some-late_literal.ensures.member) in
    let b_inside = code_listed c.args.values.now.assignment.variables (length c.pop.new.self.lists) c.in-Some-late_literal.second b_within (popped_length c.args.region.now.held c.args.values.now.assignment.variables c.args.watches.now.watch.items c.args.watches.now.links c.requires.settling c.pop.new.self.lists c.in-Some.w
    c.in-Some.ensures.first c.in-Some.ensures.rest c.in-Some.ensures.out c.in-Some.ensures.within) in
    let number_is : clause_at c.args.region.now.held (c.in-Some.w / 2 + 1) ≡ Some c.get-lits.result.now =
    clause_behind c.args.region.now.held (c.in-Some.w / 2) ∙ ap (λ k. get_or c.args.region.now.held k None) (sym c.from_name.ensures) ∙ c.get-lits.ensures in
    let reason : IsReason c.args.region.now.held c.args.values.now.assignment.lits (c.in-Some.w / 2 + 1) c.in-Some-first_open.first =
    (c.get-lits.result.now, number_is, record { implied = c.in-Some-first_open.ensures.member; others = λ m h ne. c.in-None-open_literal.ensures.none m h ne }) in
    let forced = forced_keeps c.args.level c.in-Some-first_open.first (c.in-Some.w / 2 + 1) c.args.values.now.assignment.lits c.args.values.now.levels.items c.args.values.now.reasons.items c.force.new.values.assignment.lits c.force.new.values.levels.items c.force.new.values.reasons.items c.force.ensures.forced
    c.args.region.now.held c.args.values.now.assignment.variables (loose_in c.args.watches.now.links.lists) c.args.watches.now.watch.items c.requires.marks a_within reason in
    let open_still = forced_open c.args.level c.in-Some-first_open.first (c.in-Some.w / 2 + 1) c.args.values.now.assignment.lits c.args.values.now.levels.items c.args.values.now.reasons.items c.force.new.values.assignment.lits c.force.new.values.levels.items c.force.new.values.reasons.items c.force.ensures.forced
    c.in-Some-first_open.ensures.open in
    keeps_then refl forced
    (late_keeps c.args.region.now.held c.args.values.now.assignment.variables (loose_in c.args.watches.now.links.lists) (loose_in c.bind-in-Some-late_literal.new.watches.links.lists) c.args.watches.now.watch.items c.bind-in-Some-late_literal.new.watches.watch.items (c.in-Some.w / 2) c.in-Some-first_open.first c.in-Some-late_literal.second
    (bind_was c.args.region.now.held c.args.values.now.assignment.variables c.args.watches.now.watch.items c.args.watches.now.links c.requires.settling c.pop.new.self.lists c.in-Some.w
    c.in-Some.ensures.first c.in-Some.ensures.rest c.in-Some.ensures.out c.in-Some.ensures.within
    c.bind-in-Some-late_literal.new.watches.links (c.bind-in-Some-late_literal.ensures.size ∙ c.in-Some.ensures.size) c.bind-in-Some-late_literal.new.watches.watch.items c.in-Some-first_open.first c.in-Some-late_literal.second c.bind-in-Some-late_literal.ensures.bound a_in b_in c.in-Some-late_literal.ensures.apart a_inside b_inside)
    (bind_gone c.args.region.now.held c.args.values.now.assignment.variables c.args.watches.now.watch.items c.args.watches.now.links c.requires.settling c.pop.new.self.lists c.in-Some.w
    c.in-Some.ensures.first c.in-Some.ensures.rest c.in-Some.ensures.out c.in-Some.ensures.within
    c.bind-in-Some-late_literal.new.watches.links (c.bind-in-Some-late_literal.ensures.size ∙ c.in-Some.ensures.size) c.bind-in-Some-late_literal.new.watches.watch.items c.in-Some-first_open.first c.in-Some-late_literal.second c.bind-in-Some-late_literal.ensures.bound a_in b_in c.in-Some-late_literal.ensures.apart a_inside b_inside)
    (bind_size c.args.region.now.held c.args.values.now.assignment.variables c.args.watches.now.watch.items c.args.watches.now.links c.requires.settling c.pop.new.self.lists c.in-Some.w
    c.in-Some.ensures.first c.in-Some.ensures.rest c.in-Some.ensures.out c.in-Some.ensures.within
    c.bind-in-Some-late_literal.new.watches.links (c.bind-in-Some-late_literal.ensures.size ∙ c.in-Some.ensures.size) c.bind-in-Some-late_literal.new.watches.watch.items c.in-Some-first_open.first c.in-Some-late_literal.second c.bind-in-Some-late_literal.ensures.bound a_in b_in c.in-Some-late_literal.ensures.apart a_inside b_inside)
    (bind_first c.args.region.now.held c.args.values.now.assignment.variables c.args.watches.now.watch.items c.args.watches.now.links c.requires.settling c.pop.new.self.lists c.in-Some.w
    c.in-Some.ensures.first c.in-Some.ensures.rest c.in-Some.ensures.out c.in-Some.ensures.within
    c.bind-in-Some-late_literal.new.watches.links (c.bind-in-Some-late_literal.ensures.size ∙ c.in-Some.ensures.size) c.bind-in-Some-late_literal.new.watches.watch.items c.in-Some-first_open.first c.in-Some-late_literal.second c.bind-in-Some-late_literal.ensures.bound a_in b_in c.in-Some-late_literal.ensures.apart a_inside b_inside)
    (bind_second c.args.region.now.held c.args.values.now.assignment.variables c.args.watches.now.watch.items c.args.watches.now.links c.requires.settling c.pop.new.self.lists c.in-Some.w
    c.in-Some.ensures.first c.in-Some.ensures.rest c.in-Some.ensures.out c.in-Some.ensures.within
    c.bind-in-Some-late_literal.new.watches.links (c.bind-in-Some-late_literal.ensures.size ∙ c.in-Some.ensures.size) c.bind-in-Some-late_literal.new.watches.watch.items c.in-Some-first_open.first c.in-Some-late_literal.second c.bind-in-Some-late_literal.ensures.bound a_in b_in c.in-Some-late_literal.ensures.apart a_inside b_inside)
    (bind_others c.args.region.now.held c.args.values.now.assignment.variables c.args.watches.now.watch.items c.args.watches.now.links c.requires.settling c.pop.new.self.lists c.in-Some.w
    c.in-Some.ensures.first c.in-Some.ensures.rest c.in-Some.ensures.out c.in-Some.ensures.within
    c.bind-in-Some-late_literal.new.watches.links (c.bind-in-Some-late_literal.ensures.size ∙ c.in-Some.ensures.size) c.bind-in-Some-late_literal.new.watches.watch.items c.in-Some-first_open.first c.in-Some-late_literal.second c.bind-in-Some-late_literal.ensures.bound a_in b_in c.in-Some-late_literal.ensures.apart a_inside b_inside)
    c.args.level c.force.new.values.assignment.lits c.force.new.values.levels.items c.force.new.values.reasons.items open_still
    (forced_true c.args.level c.in-Some-first_open.first (c.in-Some.w / 2 + 1) c.args.values.now.assignment.lits c.args.values.now.levels.items c.args.values.now.reasons.items c.force.new.values.assignment.lits c.force.new.values.levels.items c.force.new.values.reasons.items c.force.ensures.forced)
    c.in-Some-late_literal.ensures.late)

pub returns-in-Some-late_literal-clause-outcome : goal.returns-in-Some-late_literal-clause-outcome
returns-in-Some-late_literal-clause-outcome c =
    let is = clause_is c.args.region.now.held c.from_name.result.name (c.in-Some.w / 2) c.get-lits.result.now c.from_name.ensures c.get-lits.ensures in
    let a_in = subst (λ ls. Has ls c.in-Some-first_open.first) (sym is) c.in-Some-first_open.ensures.member in
    let a_within = lit_within c.args.values.now.assignment.variables c.args.region.now.held c.requires.settling.over (c.in-Some.w / 2) c.in-Some-first_open.first (subst (λ ls. Has ls c.in-Some-first_open.first) (sym is) c.in-Some-first_open.ensures.member) in
    let a_inside = code_listed c.args.values.now.assignment.variables (length c.pop.new.self.lists) c.in-Some-first_open.first a_within (popped_length c.args.region.now.held c.args.values.now.assignment.variables c.args.watches.now.watch.items c.args.watches.now.links c.requires.settling c.pop.new.self.lists c.in-Some.w
    c.in-Some.ensures.first c.in-Some.ensures.rest c.in-Some.ensures.out c.in-Some.ensures.within) in
    let b_in = subst (λ ls. Has ls c.in-Some-late_literal.second) (sym is) c.in-Some-late_literal.ensures.member in
    let b_within = lit_within c.args.values.now.assignment.variables c.args.region.now.held c.requires.settling.over (c.in-Some.w / 2) c.in-Some-late_literal.second (subst (λ ls. Has ls c.in-Some-late_literal.second) (sym is) c.in-Some-late_literal.ensures.member) in
    let b_inside = code_listed c.args.values.now.assignment.variables (length c.pop.new.self.lists) c.in-Some-late_literal.second b_within (popped_length c.args.region.now.held c.args.values.now.assignment.variables c.args.watches.now.watch.items c.args.watches.now.links c.requires.settling c.pop.new.self.lists c.in-Some.w
    c.in-Some.ensures.first c.in-Some.ensures.rest c.in-Some.ensures.out c.in-Some.ensures.within) in (
      bind_fewer c.args.region.now.held c.args.values.now.assignment.variables c.args.watches.now.watch.items c.args.watches.now.links c.requires.settling c.pop.new.self.lists c.in-Some.w
          c.in-Some.ensures.first c.in-Some.ensures.rest c.in-Some.ensures.out c.in-Some.ensures.within
          c.bind-in-Some-late_literal.new.watches.links (c.bind-in-Some-late_literal.ensures.size ∙ c.in-Some.ensures.size) c.bind-in-Some-late_literal.new.watches.watch.items c.in-Some-first_open.first c.in-Some-late_literal.second c.bind-in-Some-late_literal.ensures.bound a_in b_in c.in-Some-late_literal.ensures.apart a_inside b_inside,
      bind_settled c.args.region.now.held c.args.values.now.assignment.variables c.args.watches.now.watch.items c.args.watches.now.links c.requires.settling c.pop.new.self.lists c.in-Some.w
          c.in-Some.ensures.first c.in-Some.ensures.rest c.in-Some.ensures.out c.in-Some.ensures.within
          c.bind-in-Some-late_literal.new.watches.links (c.bind-in-Some-late_literal.ensures.size ∙ c.in-Some.ensures.size) c.bind-in-Some-late_literal.new.watches.watch.items c.in-Some-first_open.first c.in-Some-late_literal.second c.bind-in-Some-late_literal.ensures.bound a_in b_in c.in-Some-late_literal.ensures.apart a_inside b_inside
          c.args.values.now.assignment.lits c.force.new.values.assignment.lits (forced_more c.args.level c.in-Some-first_open.first (c.in-Some.w / 2 + 1) c.args.values.now.assignment.lits c.args.values.now.levels.items c.args.values.now.reasons.items c.force.new.values.assignment.lits c.force.new.values.levels.items c.force.new.values.reasons.items c.force.ensures.forced),
    )

-- one is true, and the others were false before
pub returns-in-None-late_literal-clause-settling : goal.returns-in-None-late_literal-clause-settling
returns-in-None-late_literal-clause-settling c =
    subst (λ n. IsSettling c.args.region.now.held n c.args.watches.now.watch.items c.push-in-None-late_literal.new.self) (sym c.force.ensures.variables)
    (stays_settling c.args.region.now.held c.args.values.now.assignment.variables c.args.watches.now.watch.items c.args.watches.now.links c.requires.settling c.pop.new.self.lists c.in-Some.w
    c.in-Some.ensures.first c.in-Some.ensures.rest c.in-Some.ensures.out c.in-Some.ensures.within
    c.push-in-None-late_literal.new.self (c.push-in-None-late_literal.ensures.size ∙ c.in-Some.ensures.size) c.push-in-None-late_literal.ensures.lists)

pub returns-in-None-late_literal-clause-keeps : goal.returns-in-None-late_literal-clause-keeps
returns-in-None-late_literal-clause-keeps c =
    let is = clause_is c.args.region.now.held c.from_name.result.name (c.in-Some.w / 2) c.get-lits.result.now c.from_name.ensures c.get-lits.ensures in
    let a_within = lit_within c.args.values.now.assignment.variables c.args.region.now.held c.requires.settling.over (c.in-Some.w / 2) c.in-Some-first_open.first (subst (λ ls. Has ls c.in-Some-first_open.first) (sym is) c.in-Some-first_open.ensures.member) in
    let a_inside = code_listed c.args.values.now.assignment.variables (length c.pop.new.self.lists) c.in-Some-first_open.first a_within (popped_length c.args.region.now.held c.args.values.now.assignment.variables c.args.watches.now.watch.items c.args.watches.now.links c.requires.settling c.pop.new.self.lists c.in-Some.w
    c.in-Some.ensures.first c.in-Some.ensures.rest c.in-Some.ensures.out c.in-Some.ensures.within) in
    let number_is : clause_at c.args.region.now.held (c.in-Some.w / 2 + 1) ≡ Some c.get-lits.result.now =
    clause_behind c.args.region.now.held (c.in-Some.w / 2) ∙ ap (λ k. get_or c.args.region.now.held k None) (sym c.from_name.ensures) ∙ c.get-lits.ensures in
    let reason : IsReason c.args.region.now.held c.args.values.now.assignment.lits (c.in-Some.w / 2 + 1) c.in-Some-first_open.first =
    (c.get-lits.result.now, number_is, record { implied = c.in-Some-first_open.ensures.member; others = λ m h ne. c.in-None-open_literal.ensures.none m h ne }) in
    let forced = forced_keeps c.args.level c.in-Some-first_open.first (c.in-Some.w / 2 + 1) c.args.values.now.assignment.lits c.args.values.now.levels.items c.args.values.now.reasons.items c.force.new.values.assignment.lits c.force.new.values.levels.items c.force.new.values.reasons.items c.force.ensures.forced
    c.args.region.now.held c.args.values.now.assignment.variables (loose_in c.args.watches.now.links.lists) c.args.watches.now.watch.items c.requires.marks a_within reason in
    keeps_then refl forced
    (stays_keeps c.args.region.now.held c.args.values.now.assignment.variables c.args.watches.now.watch.items c.args.watches.now.links c.requires.settling c.pop.new.self.lists c.in-Some.w
    c.in-Some.ensures.first c.in-Some.ensures.rest c.in-Some.ensures.out c.in-Some.ensures.within
    c.push-in-None-late_literal.new.self (c.push-in-None-late_literal.ensures.size ∙ c.in-Some.ensures.size) c.push-in-None-late_literal.ensures.lists
    c.args.level c.force.new.values.assignment.lits c.force.new.values.levels.items c.force.new.values.reasons.items)

pub returns-in-None-late_literal-clause-outcome : goal.returns-in-None-late_literal-clause-outcome
returns-in-None-late_literal-clause-outcome c =
    let is = clause_is c.args.region.now.held c.from_name.result.name (c.in-Some.w / 2) c.get-lits.result.now c.from_name.ensures c.get-lits.ensures in
    let a_in = subst (λ ls. Has ls c.in-Some-first_open.first) (sym is) c.in-Some-first_open.ensures.member in (
      stays_fewer c.args.region.now.held c.args.values.now.assignment.variables c.args.watches.now.watch.items c.args.watches.now.links c.requires.settling c.pop.new.self.lists c.in-Some.w
          c.in-Some.ensures.first c.in-Some.ensures.rest c.in-Some.ensures.out c.in-Some.ensures.within
          c.push-in-None-late_literal.new.self (c.push-in-None-late_literal.ensures.size ∙ c.in-Some.ensures.size) c.push-in-None-late_literal.ensures.lists,
      stays_settled c.args.region.now.held c.args.values.now.assignment.variables c.args.watches.now.watch.items c.args.watches.now.links c.requires.settling c.pop.new.self.lists c.in-Some.w
          c.in-Some.ensures.first c.in-Some.ensures.rest c.in-Some.ensures.out c.in-Some.ensures.within
          c.push-in-None-late_literal.new.self (c.push-in-None-late_literal.ensures.size ∙ c.in-Some.ensures.size) c.push-in-None-late_literal.ensures.lists
          c.args.values.now.assignment.lits c.force.new.values.assignment.lits (forced_more c.args.level c.in-Some-first_open.first (c.in-Some.w / 2 + 1) c.args.values.now.assignment.lits c.args.values.now.levels.items c.args.values.now.reasons.items c.force.new.values.assignment.lits c.force.new.values.levels.items c.force.new.values.reasons.items c.force.ensures.forced)
          (c.in-Some-first_open.first, a_in, forced_true c.args.level c.in-Some-first_open.first (c.in-Some.w / 2 + 1) c.args.values.now.assignment.lits c.args.values.now.levels.items c.args.values.now.reasons.items c.force.new.values.assignment.lits c.force.new.values.levels.items c.force.new.values.reasons.items c.force.ensures.forced),
    )
