use Rattle.std.proofs.Common.{◌≡◌, ◌++◌, map, ◌+◌, ◌*◌}
use Rattle.fabric_defs.specs.Numbered.{joined}
use Rattle.blif_read.specs.Views.{cover_of}
use Rattle.demo_texts.specs.Designs.{later_block, block_width}
use Rattle.demo_texts.proofs.designs.push_later_blocks.Given as goal

abbrev pub invariant-loop-n : goal.invariant-loop-n
invariant-loop-n l = map cover_of l.covers.items ≡ map cover_of l.fn.covers.items ++ joined l.n (λ n. later_block (4 * (n + 1)) (block_width l.bits (4 * (n + 1))))
