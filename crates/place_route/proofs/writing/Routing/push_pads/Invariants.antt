use Rattle.std.proofs.Common.{◌≡◌, ◌++◌}
use Rattle.fabric_defs.specs.Numbered.{list_of}
use Rattle.route_defs.specs.Placed.{output_of}
use Rattle.route_laws.specs.Listing.{tapped_word}
use Rattle.place_route.proofs.writing.Routing.push_pads.Given as goal

abbrev pub invariant-loop-o : goal.invariant-loop-o
invariant-loop-o l =
    l.words.items ≡ l.initial.words.items ++ list_of l.o (λ o. tapped_word l.inputs l.self.tracks.items (output_of l.l o))
