use Rattle.std.proofs.Common.{map}
use Rattle.blif_read.specs.Views.{cover_of}
use Rattle.demo_texts.specs.Designs.{guess}
use Rattle.demo_texts.proofs.JoinLemmas.{appends_next}
use Rattle.demo_texts.proofs.designs.push_guesses.Goals as goal

pub loop-d-preserved : goal.loop-d-preserved
loop-d-preserved c =
    appends_next c.loop-d.d (guess c.args.lo) (map cover_of c.args.covers.now.items) (map cover_of c.loop-d.covers.items)
    (map cover_of c.push_guess.new.covers.items) c.loop-d.invariant c.in_ok-push_guess.ensures
