use Rattle.tracks.proofs.Choosing.{AreChosen}
use Rattle.tracks.proofs.choice.choose_tracks.Given as goal

abbrev pub invariant-loop-span : goal.invariant-loop-span
invariant-loop-span l =
    AreChosen l.spans l.have l.span-index l.tracks.items l.ends.ends.items l.ends.channel l.ends.from
