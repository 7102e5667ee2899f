use Rattle.std.proofs.Common.{ℕ, ◌<◌, Option, Some, IfSome, subst}
use Rattle.clause_defs.specs.Verdicts.{ClauseFault}
use Rattle.clause_defs.specs.declared.verdict.Verdict.{Verdict}
use Rattle.par_check.proofs.PieceLemmas.{piece_joined}
use Rattle.par_check.proofs.pieces.check_piece.Goals as goal

-- the first faulty original is the first faulty clause
pub returns-in-Some : goal.returns-in-Some
returns-in-Some c =
    let stop = c.originals-stop.result in
    let own = subst (λ (o : Option Verdict). IfSome o (λ v. (stop.place < c.args.to) × ((w : ℕ) → ClauseFault c.args.f.now.clauses c.args.t.now w stop.place (Some v))))
    c.in-Some.is c.originals-stop.ensures.fault in
    (stop.place, c.originals-stop.ensures.order, own.0, c.originals-stop.ensures.right c.args.room.now.limit c.requires.right, own.1 c.args.room.now.limit)

-- behind right originals, the first fault of the other clauses is the first of all
pub returns : goal.returns
returns c =
    piece_joined c.args.f.now.clauses c.args.t.now c.args.room.now.limit c.args.from c.originals-stop.result.place c.args.to c.first_fault.result
    c.originals-stop.ensures.order (c.originals-stop.ensures.right c.args.room.now.limit c.requires.right) c.first_fault.ensures.fault
