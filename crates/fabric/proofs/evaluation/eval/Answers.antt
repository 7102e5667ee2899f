use Rattle.fabric_laws.proofs.LimitLemmas.{track_word-le}
use Rattle.fabric_laws.proofs.WiringLemmas.{wiring, wiring_is_wired}
use Rattle.fabric.proofs.evaluation.eval.Goals as goal

-- the sweep gives the output pads the bits of the wiring
pub returns-clause-outputs : goal.returns-clause-outputs
returns-clause-outputs c =
    let config = c.args.config.now in
    let wired = wiring_is_wired config c.args.x (λ column t lt within. track_word-le config column t c.sweep.ensures.known lt within) in
    (wiring config c.args.x, wired, c.sweep.ensures.outputs _ wired)

-- and each cell its bit
pub returns-clause-cells : goal.returns-clause-cells
returns-clause-cells c = λ n lt.
    let config = c.args.config.now in
    let wired = wiring_is_wired config c.args.x (λ column t lt within. track_word-le config column t c.sweep.ensures.known lt within) in
    (wiring config c.args.x, wired, c.sweep.ensures.cells _ wired n lt)
