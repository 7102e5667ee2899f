use Rattle.std.proofs.Common.{◌≡◌, ◌++◌, map}
use Rattle.fabric_defs.specs.Numbered.{joined}
use Rattle.blif_read.specs.Views.{cover_of}
use Rattle.demo_texts.specs.Designs.{ripple_bit}
use Rattle.demo_texts.proofs.designs.push_ripple_bits.Given as goal

abbrev pub invariant-loop-i : goal.invariant-loop-i
invariant-loop-i l = map cover_of l.covers.items ≡ map cover_of l.fn.covers.items ++ joined l.i ripple_bit
