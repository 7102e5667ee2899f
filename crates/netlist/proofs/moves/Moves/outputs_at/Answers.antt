use Rattle.std.proofs.Common.{◌≡◌, ℕ, ◌<◌, length, get_or, Some, slice_get, refl, arith}
use Rattle.std.proofs.lemmas.Option.{slice_get_read}
use Rattle.net_defs.specs.Alignments.{IsOutputFrom}
use Rattle.netlist.proofs.ZipLemmas.{all_zip-more}
use Rattle.netlist.proofs.moves.Moves.outputs_at.Goals as goal

-- one output more is moved from its place in the design
pub loop-place-preserved : goal.loop-place-preserved
loop-place-preserved c = λ places h.
    let outputs = c.args.outputs.now in
    let order = c.args.order.now in
    let i = c.loop-place.place-index in
    let lt : i < length order = omega arith in
    let output = c.index-outputs-place.result in
    let place : ℕ = get_or order i 0 in
    let at : slice_get outputs place ≡ Some output =
    slice_get_read outputs (length outputs) place output refl (c.requires i 0 lt) c.index-outputs-place.is in
    let made = c.in_ok-output.field-0 in
    rw c.in_ok-push.ensures.items
    (all_zip-more (IsOutputFrom outputs places) order c.loop-place.moved.items i 0 made lt (c.loop-place.invariant places h)
    (output, at, c.in_ok-output.ensures places h))
