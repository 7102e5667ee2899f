use Rattle.std.proofs.Common.{ℕ, List, sym, subst, arith}
use Rattle.clause_defs.specs.Clauses.{Lits, Has}
use Rattle.clause_defs.specs.Resolution.{Resolves}
use Rattle.clause_defs.specs.Traces.{antecedents_at}
use Rattle.chain_check.specs.Known.{literals_at, antecedents_known}
use Rattle.chain_check.proofs.RoomLemmas.{aside_place, aside_length}
use Rattle.chain_check.proofs.room.Room.compute_aside.Goals as goal

-- each literal of the running clause is of an antecedent
pub gather-requires-clause-antecedents : goal.gather-requires-clause-antecedents
gather-requires-clause-antecedents c l h =
    let t = c.args.t.now in
    let k = c.args.k in
    let computed = c.args.self.now.computed.clauses in
    subst (λ (cs : List Lits). (p : ℕ) × Has (antecedents_at t k) p × Has (literals_at t cs p) l) (sym c.parts.ensures.clauses)
    (aside_place t k c.args.m.now.variables computed c.requires.over c.follow.new.m.running
    (subst (λ (cs : List Lits). Resolves (antecedents_known t cs k) c.follow.new.m.running) c.parts.ensures.clauses c.in-Ok.ensures.clause) l h)

-- the list has room for the running clause
pub gather-requires-clause-room : goal.gather-requires-clause-room
gather-requires-clause-room c =
    let t = c.args.t.now in
    let k = c.args.k in
    let computed = c.args.self.now.computed.clauses in
    let short = aside_length t k c.args.m.now.variables computed c.requires.over c.follow.new.m.running
    (subst (λ (cs : List Lits). Resolves (antecedents_known t cs k) c.follow.new.m.running) c.parts.ensures.clauses c.in-Ok.ensures.clause) c.len.ensures.ordered in
    let room = c.requires.room in
    let same = c.clear.ensures.capacity in omega arith
