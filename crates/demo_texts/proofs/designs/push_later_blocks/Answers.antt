use Rattle.std.proofs.Common.{ℕ, ◌+◌, ◌*◌, List, ◌++◌, map, ap, ◌∙◌}
use Rattle.blif_defs.specs.Values.{CoverValue}
use Rattle.blif_read.specs.Views.{cover_of}
use Rattle.demo_texts.specs.Designs.{later_block, block_width}
use Rattle.demo_texts.proofs.JoinLemmas.{appends_next}
use Rattle.demo_texts.proofs.designs.push_later_blocks.Goals as goal

pub loop-n-preserved : goal.loop-n-preserved
loop-n-preserved c =
    let bits : ℕ = c.args.bits in
    let block : ℕ → List CoverValue = λ n. later_block (4 * (n + 1)) (block_width bits (4 * (n + 1))) in
    let before : List CoverValue = map cover_of c.loop-n.covers.items in
    appends_next c.loop-n.n block (map cover_of c.args.covers.now.items) before
    (map cover_of c.push_later_block.new.covers.items) c.loop-n.invariant
    (c.in_ok-push_later_block.ensures ∙ ap (λ width. before ++ later_block (4 * (c.loop-n.n + 1)) width) c.min.ensures)
