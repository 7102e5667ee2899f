use Rattle.std.proofs.Common.{◌≡◌, ℕ, ◌<◌, length, get_or, Some, slice_get, refl, ap, sym, ◌∙◌, arith}
use Rattle.std.proofs.lemmas.Option.{slice_get_read}
use Rattle.netlist.proofs.ZipLemmas.{all_zip-more}
use Rattle.netlist.proofs.moves.names_at.Goals as goal

-- one name more is copied from its place
pub loop-place-preserved : goal.loop-place-preserved
loop-place-preserved c =
    let names = c.args.names.now in
    let places = c.args.places.now in
    let i = c.loop-place.place-index in
    let lt : i < length places = omega arith in
    let name = c.index-names-place.result in
    let place : ℕ = get_or places i 0 in
    let made = c.in_ok-copy_of_name.field-0 in
    let at : slice_get names place ≡ Some name = slice_get_read names (length names) place name refl (c.requires i 0 lt) c.index-names-place.is in
    let same : name ≡ made = sym c.in_ok-copy_of_name.ensures in
    rw c.in_ok-push.ensures.items
    (all_zip-more (λ p x. slice_get names p ≡ Some x) places c.loop-place.found.items i 0 made lt c.loop-place.invariant (at ∙ ap Some same))
