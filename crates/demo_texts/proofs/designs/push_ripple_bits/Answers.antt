use Rattle.std.proofs.Common.{map}
use Rattle.blif_read.specs.Views.{cover_of}
use Rattle.demo_texts.specs.Designs.{ripple_bit}
use Rattle.demo_texts.proofs.JoinLemmas.{appends_next}
use Rattle.demo_texts.proofs.designs.push_ripple_bits.Goals as goal

pub loop-i-preserved : goal.loop-i-preserved
loop-i-preserved c =
    appends_next c.loop-i.i (ripple_bit) (map cover_of c.args.covers.now.items) (map cover_of c.loop-i.covers.items)
    (map cover_of c.push_ripple_bit.new.covers.items) c.loop-i.invariant c.in_ok-push_ripple_bit.ensures
