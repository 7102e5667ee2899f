use Rattle.std.proofs.Common.{◌≡◌, map, take}
use Rattle.map_defs.specs.declared.term.Term.{Term}
use Rattle.lut_map.proofs.made.put_pins.Given as goal

abbrev pub invariant-loop-term : goal.invariant-loop-term
invariant-loop-term l = l.pins.items ≡ map (λ (term : Term). term.source) (take l.term-index l.terms)
