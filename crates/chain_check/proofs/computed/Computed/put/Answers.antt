use Rattle.std.proofs.Common.{◌+◌, ◌≤◌, length, set, ap, ◌∙◌, arith, vec_len, vec_capacity}
use Rattle.chain_check.specs.ByPlace.{ClausesByPlace}
use Rattle.chain_check.proofs.PartLemmas.{after_ok, parts_put}
use Rattle.chain_check.proofs.computed.Computed.put.Goals as goal

-- the new part is the clause, and the others are as they were
pub returns-clause-clauses : goal.returns-clause-clauses
returns-clause-clauses c =
    let counted = c.self.inside.lits.ok.0 in
    let total = ap (λ (v : ClausesByPlace). v.total) c.self.view_is in
    let room_is = ap (λ (v : ClausesByPlace). v.room) c.self.view_is in
    let room = c.requires.room in
    let fits : vec_len c.self.inside.lits + length c.args.lits.now ≤ vec_capacity c.self.inside.lits = omega arith in
    parts_put c.self.inside.lits.items c.args.lits.now c.extend_from_slice.new.self.items c.self.inside.spans.items c.args.p c.len.result
    c.self.invariant.within
    (after_ok c.extend_from_slice.result _ _ _ (c.extend_from_slice.ensures.succeeds fits) c.extend_from_slice.ensures.items)
    (let e = c.len.ensures in omega arith)
    ∙ ap (λ (v : ClausesByPlace). set v.clauses c.args.p c.args.lits.now) c.self.view_is
