use Rattle.std.proofs.Common.{◌∙◌, subst}
use Rattle.clause_defs.specs.Verdicts.{VerdictOf}
use Rattle.par_check.proofs.pieces.check_pieces.Goals as goal

-- the verdict is that for the room's limit, which is the caller's
pub returns-clause-verdict : goal.returns-clause-verdict
returns-clause-verdict g c =
    subst (λ w. VerdictOf c.args.f.now.clauses c.args.t.now w c.verdict.result) ((c.in_ok-stop.ensures {u = tt}).limit ∙ (c.in_ok-room.ensures {u = tt}).limit) c.verdict.ensures

-- a trace that refutes the list shows that it is unsatisfiable
pub returns-clause-sound : goal.returns-clause-sound
returns-clause-sound g c same =
    c.refutation_is_sound.ensures c.args.f.now.variables c.args.f.now.clauses c.args.t.now _ (c.in_ok-stop.ensures {u = tt}).trace.earlier (subst (VerdictOf c.args.f.now.clauses c.args.t.now _) same c.verdict.ensures)
