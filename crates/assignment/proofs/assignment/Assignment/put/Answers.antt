use Rattle.std.proofs.lemmas.List.{length_push}
use Rattle.clause_defs.specs.Literals.{code}
use Rattle.std.proofs.Common.{◌≤◌, ◌∷◌, ◌++◌, [], true, length, set, sym, ap, subst, arith}
use Rattle.trail_defs.specs.Assignments.{IsFree}
use Rattle.assignment.specs.Values.{Values, AreTruths}
use Rattle.assignment.proofs.ApartLemmas.{few_literals}
use Rattle.assignment.proofs.TruthLemmas.{truths_put}
use Rattle.assignment.proofs.assignment.Assignment.put.Goals as goal

-- with the new literal there are no more literals than variables
pub push_reserved-requires : goal.push_reserved-requires
push_reserved-requires c =
    let lits = c.self.inside.lits.items in
    let seen = ap (λ (v : Values). v.variables) c.self.view_is in
    let within : c.args.l.variable ≤ c.self.inside.variables = let a = c.requires.within in omega arith in
    let free = subst (λ t. IsFree t c.args.l) (sym (ap (λ (v : Values). v.lits) c.self.view_is)) c.requires.free in
    let more = truths_put c.self.inside.variables c.self.inside.truths.items lits c.self.invariant.0 c.args.l within c.code.ensures.within_limits free in
    let few = few_literals c.self.inside.variables (lits ++ c.args.l ∷ []) more.known in
    let len = length_push lits c.args.l in
    let room = c.self.invariant.1 in
    omega arith

pub invariant_of-self : goal.invariant_of-self
invariant_of-self c =
    let lits = c.self.inside.lits.items in
    let seen = ap (λ (v : Values). v.variables) c.self.view_is in
    let within : c.args.l.variable ≤ c.self.inside.variables = let a = c.requires.within in omega arith in
    let free = subst (λ t. IsFree t c.args.l) (sym (ap (λ (v : Values). v.lits) c.self.view_is)) c.requires.free in
    let more = truths_put c.self.inside.variables c.self.inside.truths.items lits c.self.invariant.0 c.args.l within c.code.ensures.within_limits free in
    let room = c.self.invariant.1 in
    let capacity = c.push_reserved.ensures.capacity in (
      subst (λ k. AreTruths c.self.inside.variables (set c.self.inside.truths.items k true) c.push_reserved.new.self.items) (sym c.code.ensures.code)
          (subst (AreTruths c.self.inside.variables (set c.self.inside.truths.items (code c.args.l) true)) (sym c.push_reserved.ensures.items) more),
      omega arith,
    )

pub returns-clause-few : goal.returns-clause-few
returns-clause-few c =
    let lits = c.self.inside.lits.items in
    let seen = ap (λ (v : Values). v.variables) c.self.view_is in
    let within : c.args.l.variable ≤ c.self.inside.variables = let a = c.requires.within in omega arith in
    let free = subst (λ t. IsFree t c.args.l) (sym (ap (λ (v : Values). v.lits) c.self.view_is)) c.requires.free in
    let more = truths_put c.self.inside.variables c.self.inside.truths.items lits c.self.invariant.0 c.args.l within c.code.ensures.within_limits free in
    subst (λ t. length t ≤ c.self.inside.variables) (sym c.push_reserved.ensures.items) (few_literals c.self.inside.variables (lits ++ c.args.l ∷ []) more.known)
