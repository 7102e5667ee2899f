use Rattle.std.proofs.Common.{◌≡◌, take}
use Rattle.miter_cnf.specs.Tables.{source_literals}
use Rattle.miter_cnf.proofs.circuits.Circuits.put_pins.Given as goal

-- the pins so far have the literals of their sources
abbrev pub invariant-loop-source : goal.invariant-loop-source
invariant-loop-source l = l.pins.items ≡ source_literals l.self.net l.self.cells (take l.source-index l.sources)
