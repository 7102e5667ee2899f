use Rattle.std.proofs.Common.{◌≡◌, ◌<◌, length, ap, ◌∙◌, arith}
use Rattle.std.proofs.lemmas.List.{length-map}
use Rattle.fabric_defs.specs.Geometries.{GeometryValue, pin_count}
use Rattle.extract.proofs.WalkLemmas.{room_for, pins_tapped, cell_passed, column_passed}
use Rattle.extract.proofs.sources.push_column.Goals as goal

-- all pins of the fabric are few enough for the list
pub push-requires-clause-few_pins : goal.push-requires-clause-few_pins
push-requires-clause-few_pins c =
    let config = c.args.config.now in
    let rows = c.r-row-end.ensures.value ∙ ap (λ (g : GeometryValue). g.rows) c.geometry.ensures.value in
    let inside : c.loop-row.row < config.geometry.rows = omega (arith, rows) in
    let few : length c.deref.result.now ≡ pin_count config.geometry =
    ap length c.deref.ensures.value ∙ ap length c.in_ok-tap.ensures ∙ length-map c.pins.result.now _ ∙ c.pins.ensures.count in
    (room_for config c.args.column c.loop-row.row c.loop-row.cells (length c.deref.result.now) c.geometry.ensures.known.geometry
    c.requires.column inside c.loop-row.invariant few).0

-- and so are its cells
pub push-requires-clause-few_cells : goal.push-requires-clause-few_cells
push-requires-clause-few_cells c =
    let config = c.args.config.now in
    let rows = c.r-row-end.ensures.value ∙ ap (λ (g : GeometryValue). g.rows) c.geometry.ensures.value in
    let inside : c.loop-row.row < config.geometry.rows = omega (arith, rows) in
    let few : length c.deref.result.now ≡ pin_count config.geometry =
    ap length c.deref.ensures.value ∙ ap length c.in_ok-tap.ensures ∙ length-map c.pins.result.now _ ∙ c.pins.ensures.count in
    (room_for config c.args.column c.loop-row.row c.loop-row.cells (length c.deref.result.now) c.geometry.ensures.known.geometry
    c.requires.column inside c.loop-row.invariant few).1

-- a cell's pins have the sources of the tracks that they tap
pub loop-row-preserved : goal.loop-row-preserved
loop-row-preserved c =
    let config = c.args.config.now in
    let rows = c.r-row-end.ensures.value ∙ ap (λ (g : GeometryValue). g.rows) c.geometry.ensures.value in
    let inside : c.loop-row.row < config.geometry.rows = omega (arith, rows) in
    let pins = c.deref.ensures.value ∙ c.in_ok-tap.ensures
    ∙ pins_tapped config c.args.column c.loop-row.row c.args.tracks.now c.pins.result.now c.geometry.ensures.known
    c.requires.column inside c.requires.channel c.pins.ensures.value in
    c.in_ok-push.ensures.ok
    ∙ cell_passed config c.args.column c.loop-row.row c.loop-row.cells c.deref.result.now c.table.result c.loop-row.invariant pins c.table.ensures

-- so the cells up to the end of the column are listed
pub returns : goal.returns
returns c =
    let rows = c.r-row-end.ensures.value ∙ ap (λ (g : GeometryValue). g.rows) c.geometry.ensures.value in
    column_passed c.args.config.now c.args.column c.loop-row.row c.loop-row.cells (omega (arith, rows)) c.loop-row.invariant
