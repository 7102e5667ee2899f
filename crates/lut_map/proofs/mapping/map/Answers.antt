use Rattle.std.proofs.Common.{◌∙◌, ◌<◌, ◌≤◌, ap, subst, sym, arith, length, map}
use Rattle.net_defs.specs.Evaluation.{output_signals}
use Rattle.std.proofs.lemmas.Result.{IfOk-weaker}
use Rattle.fabric_defs.specs.Geometries.{pin_count}
use Rattle.map_defs.specs.Mapped.{MappedValue, mapped_cell, AreMapped}
use Rattle.map_laws.proofs.SettledLemmas.{reference-outputs, mapping-mapped, mapping-narrow}
use Rattle.lut_map.specs.Kept.{luts_of}
use Rattle.lut_map.specs.Marks.{is_marked}
use Rattle.lut_map.specs.Parts.{source_by}
use Rattle.lut_map.proofs.PlaceLemmas.{length-ends, mapping_made, luts_made}
use Rattle.lut_map.proofs.mapping.map.Goals as goal

pub output_sources-requires : goal.output_sources-requires
output_sources-requires c =
    let net = c.args.net.now in
    let p = c.in_ok-parts.parts in
    ap length c.deref.ensures.value
    ∙ length-ends net (is_marked p.needed.items) (length net.nodes) p.cells p.ends.items c.in_ok-parts.ensures.parts

pub from_cells-requires : goal.from_cells-requires
from_cells-requires c =
    let net = c.args.net.now in
    let p = c.in_ok-parts.parts in
    let needed = is_marked p.needed.items in
    let made = mapping_made net needed c.inputs.result p.cells c.into_cells.result p.ends.items c.in_ok-outputs.outputs.items c.inputs.ensures.net
    c.in_ok-parts.ensures.parts c.inputs.ensures.count (c.into_cells.ensures.cells ∙ c.in_ok-cells.ensures)
    (c.in_ok-outputs.ensures ∙ ap (λ l. map (source_by (length net.inputs) l) (output_signals net)) c.deref.ensures.value) in
    luts_made net needed (luts_of c.inputs.result c.into_cells.result c.in_ok-outputs.outputs.items) c.inputs.ensures.net c.in_ok-parts.ensures.needed made
    (omega (arith, c.into_cells.ensures.few, ap length c.into_cells.ensures.cells))

pub returns-clause-reference : goal.returns-clause-reference
returns-clause-reference c =
    let net = c.args.net.now in
    let p = c.in_ok-parts.parts in
    let needed = is_marked p.needed.items in
    let made = mapping_made net needed c.inputs.result p.cells c.into_cells.result p.ends.items c.in_ok-outputs.outputs.items c.inputs.ensures.net
    c.in_ok-parts.ensures.parts c.inputs.ensures.count (c.into_cells.ensures.cells ∙ c.in_ok-cells.ensures)
    (c.in_ok-outputs.ensures ∙ ap (λ l. map (source_by (length net.inputs) l) (output_signals net)) c.deref.ensures.value) in
    IfOk-weaker c.from_cells.result _ _
    (λ (l : MappedValue) e. (needed, c.in_ok-parts.ensures.needed, e ∙ made)) c.from_cells.ensures

pub returns-clause-outputs : goal.returns-clause-outputs
returns-clause-outputs c =
    let net = c.args.net.now in
    let p = c.in_ok-parts.parts in
    let needed = is_marked p.needed.items in
    let made = mapping_made net needed c.inputs.result p.cells c.into_cells.result p.ends.items c.in_ok-outputs.outputs.items c.inputs.ensures.net
    c.in_ok-parts.ensures.parts c.inputs.ensures.count (c.into_cells.ensures.cells ∙ c.in_ok-cells.ensures)
    (c.in_ok-outputs.ensures ∙ ap (λ l. map (source_by (length net.inputs) l) (output_signals net)) c.deref.ensures.value) in
    IfOk-weaker c.from_cells.result _ _
    (λ (l : MappedValue) e x y bits. reference-outputs net l x y c.inputs.ensures.net (needed, c.in_ok-parts.ensures.needed, e ∙ made) bits)
    c.from_cells.ensures

-- the mapping is a list of mapped cells
pub returns-clause-mapped : goal.returns-clause-mapped
returns-clause-mapped c =
    let net = c.args.net.now in
    let p = c.in_ok-parts.parts in
    let needed = is_marked p.needed.items in
    let made = mapping_made net needed c.inputs.result p.cells c.into_cells.result p.ends.items c.in_ok-outputs.outputs.items c.inputs.ensures.net
    c.in_ok-parts.ensures.parts c.inputs.ensures.count (c.into_cells.ensures.cells ∙ c.in_ok-cells.ensures)
    (c.in_ok-outputs.ensures ∙ ap (λ l. map (source_by (length net.inputs) l) (output_signals net)) c.deref.ensures.value) in
    IfOk-weaker c.from_cells.result _ _
    (λ (l : MappedValue) e. subst AreMapped (sym (e ∙ made))
    (mapping-mapped net needed c.inputs.ensures.net c.in_ok-parts.ensures.needed.closed))
    c.from_cells.ensures

-- none of its cells has too many pins
pub returns-clause-narrow : goal.returns-clause-narrow
returns-clause-narrow c =
    let net = c.args.net.now in
    let p = c.in_ok-parts.parts in
    let needed = is_marked p.needed.items in
    let made = mapping_made net needed c.inputs.result p.cells c.into_cells.result p.ends.items c.in_ok-outputs.outputs.items c.inputs.ensures.net
    c.in_ok-parts.ensures.parts c.inputs.ensures.count (c.into_cells.ensures.cells ∙ c.in_ok-cells.ensures)
    (c.in_ok-outputs.ensures ∙ ap (λ l. map (source_by (length net.inputs) l) (output_signals net)) c.deref.ensures.value) in
    IfOk-weaker c.from_cells.result _ _
    (λ (l : MappedValue) e g k lt.
    let P : MappedValue → Type 0 = λ m. k < length m.cells → length (mapped_cell m k).pins ≤ pin_count g in
    subst P (sym (e ∙ made))
    (λ within. mapping-narrow net needed c.inputs.ensures.net c.in_ok-parts.ensures.needed.closed g k within) lt)
    c.from_cells.ensures
