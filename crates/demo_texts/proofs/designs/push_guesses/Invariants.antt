use Rattle.std.proofs.Common.{◌≡◌, ◌++◌, map}
use Rattle.fabric_defs.specs.Numbered.{joined}
use Rattle.blif_read.specs.Views.{cover_of}
use Rattle.demo_texts.specs.Designs.{guess}
use Rattle.demo_texts.proofs.designs.push_guesses.Given as goal

abbrev pub invariant-loop-d : goal.invariant-loop-d
invariant-loop-d l = map cover_of l.covers.items ≡ map cover_of l.fn.covers.items ++ joined l.d (guess l.lo)
