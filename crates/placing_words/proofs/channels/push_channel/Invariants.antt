use Rattle.std.proofs.Common.{◌≡◌, ◌++◌, map, take}
use Rattle.route_laws.specs.Listing.{carried_word}
use Rattle.placing_words.proofs.channels.push_channel.Given as goal

abbrev pub invariant-loop-holder : goal.invariant-loop-holder
invariant-loop-holder l =
    l.words.items ≡ l.initial.words.items ++ map (carried_word l.inputs l.g l.spans l.channel) (take l.holder-index l.holders)
