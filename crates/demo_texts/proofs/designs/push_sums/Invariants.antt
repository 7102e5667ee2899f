use Rattle.std.proofs.Common.{◌≡◌, ◌++◌, map, ◌+◌}
use Rattle.fabric_defs.specs.Numbered.{list_of}
use Rattle.blif_read.specs.Views.{cover_of}
use Rattle.demo_texts.specs.Designs.{choice}
use Rattle.demo_texts.specs.declared.letter.TheConstants.{SUM, SUM_WITHOUT, SUM_WITH}
use Rattle.demo_texts.proofs.designs.push_sums.Given as goal

abbrev pub invariant-loop-d : goal.invariant-loop-d
invariant-loop-d l = map cover_of l.covers.items ≡ map cover_of l.fn.covers.items ++ list_of l.d (λ d. choice l.lo SUM_WITHOUT SUM_WITH (l.lo + d) SUM)
