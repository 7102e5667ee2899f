use Rattle.extract.proofs.WalkLemmas.{first_listed}
use Rattle.extract.proofs.sources.first_channel.Goals as goal

-- each track has the pad of its word as its source
pub returns : goal.returns
returns c =
    first_listed c.args.config.now c.first_channel-words.result.now c.loop-word.word-index c.loop-word.tracks.items
    c.first_channel-words.ensures.value c.loop-word.invariant c.loop-word-test.false
