use Rattle.std.proofs.Common.{◌≡◌, ◌++◌, slice_index_or}
use Rattle.fabric_defs.specs.Numbered.{list_of}
use Rattle.cell_defs.specs.declared.source.Source.TheVariants.{Zero}
use Rattle.route_laws.specs.Listing.{tapped_word}
use Rattle.placing_words.proofs.cells.push_pins.Given as goal

abbrev pub invariant-loop-j : goal.invariant-loop-j
invariant-loop-j l =
    l.words.items ≡ l.initial.words.items ++ list_of l.j (λ j. tapped_word l.inputs l.tracks (slice_index_or l.pins j Zero))
