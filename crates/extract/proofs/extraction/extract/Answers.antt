use Rattle.std.proofs.Common.{List, subst, sym}
use Rattle.fabric_defs.specs.Geometries.{GeometryValue}
use Rattle.cell_defs.specs.declared.source.Source.{Source}
use Rattle.cell_defs.specs.Cones.{HasCone}
use Rattle.cell_defs.specs.Sources.{AreSourcesOf}
use Rattle.cell_laws.proofs.CellsLemmas.{cells_of_config}
use Rattle.extract.specs.Kept.{cells_with}
use Rattle.extract.proofs.extraction.extract.Goals as goal

-- what the configuration wires are cells of its fabric
pub cone_of-requires : goal.cone_of-requires
cone_of-requires c = λ cone.
    let G : GeometryValue → Type 0 =
    λ g. AreSourcesOf c.args.config.now (cells_with g c.in_ok-cells.field-0.cells c.deref.result.now cone) in
    let S : List Source → Type 0 =
    λ outputs. AreSourcesOf c.args.config.now (cells_with c.args.config.now.geometry c.in_ok-cells.field-0.cells outputs cone) in
    cells_of_config c.args.config.now _ c.geometry-geometry.ensures.known
    (subst G (sym c.geometry-geometry.ensures.value) (subst S (sym c.deref.ensures.value) (c.in_ok-cells.ensures cone)))

-- so they are with the cone that was found
pub invariant_of-result : goal.invariant_of-result
invariant_of-result c =
    let G : GeometryValue → Type 0 =
    λ g. AreSourcesOf c.args.config.now (cells_with g c.in_ok-cells.field-0.cells c.in_ok-cells.field-0.outputs.items c.in_ok-cone.cone.items) in
    let C : List Source → Type 0 =
    λ outputs. HasCone (cells_with c.geometry-geometry.result c.in_ok-cells.field-0.cells outputs c.in_ok-cone.cone.items) in
    record {
      cells = cells_of_config c.args.config.now _ c.geometry-geometry.ensures.known
          (subst G (sym c.geometry-geometry.ensures.value) (c.in_ok-cells.ensures c.in_ok-cone.cone.items));
      cone = subst C c.deref.ensures.value c.in_ok-cone.ensures;
    }

-- and they are the cells of the configuration
pub returns : goal.returns
returns c =
    let G : GeometryValue → Type 0 =
    λ g. AreSourcesOf c.args.config.now (cells_with g c.in_ok-cells.field-0.cells c.in_ok-cells.field-0.outputs.items c.in_ok-cone.cone.items) in
    let C : List Source → Type 0 =
    λ outputs. HasCone (cells_with c.geometry-geometry.result c.in_ok-cells.field-0.cells outputs c.in_ok-cone.cone.items) in
    record {
      sources = subst G (sym c.geometry-geometry.ensures.value) (c.in_ok-cells.ensures c.in_ok-cone.cone.items);
      cone = subst C c.deref.ensures.value c.in_ok-cone.ensures;
    }
