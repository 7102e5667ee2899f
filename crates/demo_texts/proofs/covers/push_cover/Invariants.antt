use Rattle.std.proofs.Common.{◌≡◌, map, take}
use Rattle.demo_texts.specs.Signals.{signal_name}
use Rattle.demo_texts.proofs.covers.push_cover.Given as goal

abbrev pub invariant-loop-signal : goal.invariant-loop-signal
invariant-loop-signal l = l.names.items ≡ map signal_name (take l.signal-index l.ins)
