use Rattle.std.proofs.Common.{ℕ, List, length, Some, refl, sym, subst, ◌∙◌, ap, arith}
use Rattle.clause_defs.specs.Clauses.{Lits, Has, SameSet}
use Rattle.clause_defs.specs.Traces.{antecedents_at}
use Rattle.clause_defs.specs.Verdicts.{ClauseFault}
use Rattle.clause_defs.specs.declared.verdict.Verdict.{Verdict}
use Rattle.chain_check.specs.Known.{literals_at}
use Rattle.chain_check.proofs.KnownLemmas.{sign_right, sign_wide}
use Rattle.chain_check.proofs.RoomLemmas.{chain_place, chain_length, chain_fits, knows_computed}
use Rattle.chain_check.proofs.room.Room.keep.Goals as goal

-- the literals of the chain are few enough to be added
pub overflow_add-literals : goal.overflow_add-literals
overflow_add-literals c =
    let short = chain_length c.args.t.now c.args.k c.args.self.now c.requires.trace c.requires.within c.requires.room c.requires.knows c.args.self.now.marks.running c.requires.clause c.len.ensures.ordered in
    let room = c.requires.room.clause in
    let small = c.args.self.now.clause.small in
    let ok = c.args.self.now.clause.ok in
    let len = c.len.ensures.len in omega arith

-- where there is no leave for the literals, the clause is one too wide
pub returns-then-literals-from-clause-fault : goal.returns-then-literals-from-clause-fault
returns-then-literals-from-clause-fault c f =
    let t = c.args.t.now in
    let k = c.args.k in
    let room = c.args.self.now in
    subst (λ i. ClauseFault f t room.limit k (Some (Verdict.TooWide i))) (sym c.index.ensures.index)
    (sign_wide f t room.limit k room.marks.variables room.computed.clauses c.requires.trace.earlier c.requires.knows.known c.requires.derived
    room.marks.running c.requires.clause c.len.ensures.ordered c.requires.sign c.requires.end
    (let total = c.requires.knows.total in let len = c.len.ensures.len in omega arith))

-- each literal of the running clause is of an antecedent
pub gather-requires-clause-antecedents : goal.gather-requires-clause-antecedents
gather-requires-clause-antecedents c l h =
    let t = c.args.t.now in
    let k = c.args.k in
    let room = c.args.self.now in
    subst (λ (cs : List Lits). (p : ℕ) × Has (antecedents_at t k) p × Has (literals_at t cs p) l) (sym c.parts.ensures.clauses)
    (chain_place t k room c.requires.trace c.requires.within c.requires.room c.requires.knows room.marks.running c.requires.clause c.len.ensures.ordered l h)

-- the clause has room for the running clause
pub gather-requires-clause-room : goal.gather-requires-clause-room
gather-requires-clause-room c =
    let short = chain_length c.args.t.now c.args.k c.args.self.now c.requires.trace c.requires.within c.requires.room c.requires.knows c.args.self.now.marks.running c.requires.clause c.len.ensures.ordered in
    let room = c.requires.room.clause in
    let same = c.clear.ensures.capacity in omega arith

-- the computed literals are few enough with the new ones
pub put-requires-clause-few : goal.put-requires-clause-few
put-requires-clause-few c =
    let moved = c.gather.ensures.all in
    let lent = ap length c.deref.ensures.value in
    let len = c.len.ensures.len in omega arith

-- there is room for them
pub put-requires-clause-room : goal.put-requires-clause-room
put-requires-clause-room c =
    let moved = c.gather.ensures.all in
    let lent = ap length c.deref.ensures.value in
    let len = c.len.ensures.len in
    let fits = chain_fits c.args.t.now c.args.k c.args.self.now c.requires.trace c.requires.within c.requires.room c.requires.knows
    c.args.self.now.marks.running c.requires.clause c.len.ensures.ordered c.requires.sign (omega arith) in omega arith

-- a clause that has room has no fault
pub returns-clause-fault : goal.returns-clause-fault
returns-clause-fault c f =
    let t = c.args.t.now in
    let k = c.args.k in
    let room = c.args.self.now in
    sign_right f t room.limit k room.marks.variables room.computed.clauses c.requires.trace.earlier c.requires.knows.known c.requires.derived
    room.marks.running c.requires.clause c.len.ensures.ordered c.requires.sign c.requires.end
    (let total = c.requires.knows.total in let len = c.len.ensures.len in omega arith)

-- one clause more is known
pub returns-clause-knows : goal.returns-clause-knows
returns-clause-knows c =
    let t = c.args.t.now in
    let k = c.args.k in
    let room = c.args.self.now in
    let lent = c.deref.ensures.value in
    let len = c.len.ensures.len in
    knows_computed t k room c.requires.trace c.requires.within c.requires.room c.requires.knows room.marks.running c.requires.clause c.len.ensures.ordered c.requires.sign
    c.deref.result.now _ refl c.gather.ensures.variables c.put.ensures.clauses
    (c.put.ensures.total ∙ (let moved = c.gather.ensures.all in let long = ap length lent in omega arith))
    (subst (λ (d : Lits). SameSet d room.marks.running) (sym lent) c.gather.ensures.same)
    (ap length lent ∙ c.gather.ensures.all)
    (omega arith)
