use Rattle.std.proofs.Common.{◌≡◌, ℕ, suc, ◌+◌, ◌-◌, ◌<◌, ◌++◌, ◌∙◌, List, ap, sym, subst, arith, length, map, take, drop}
use Rattle.extract.specs.CellLists.{listed_cell}
use Rattle.map_defs.specs.Reference.{first_cell, cell_in}
use Rattle.map_laws.proofs.MappingLemmas.{first_cell-le}
use Rattle.lut_map.specs.Marks.{is_marked}
use Rattle.lut_map.specs.Parts.{source_by, IsPlaceable}
use Rattle.lut_map.proofs.PlaceLemmas.{end_read, length-ends, length-made, fan_ins-within, own_placeable, placed_more}
use Rattle.lut_map.proofs.placing.placed_cells.Goals as goal

pub index-end-requires : goal.index-end-requires
index-end-requires c =
    let net = c.args.net.now in
    let p = c.args.parts.now in
    omega (arith, p.ends.ok.0, length-ends net (is_marked p.needed.items) (length net.nodes) p.cells p.ends.items c.requires, c.nodes-v-end.ensures.count)

pub push_node_placed-requires-clause-signals : goal.push_node_placed-requires-clause-signals
push_node_placed-requires-clause-signals c =
    let net = c.args.net.now in
    let p = c.args.parts.now in
    fan_ins-within net c.loop-v.v c.fan_ins.result.now c.deref.result.now c.inputs-inputs.result c.inputs-inputs.ensures.net
    (omega (arith, c.nodes-v-end.ensures.count)) c.fan_ins.ensures c.inputs-inputs.ensures.count
    (ap length c.deref.ensures.value ∙ length-ends net (is_marked p.needed.items) (length net.nodes) p.cells p.ends.items c.requires)

pub push_node_placed-requires-clause-first : goal.push_node_placed-requires-clause-first
push_node_placed-requires-clause-first c =
    let net = c.args.net.now in
    let p = c.args.parts.now in
    let needed = is_marked p.needed.items in
    let v = c.loop-v.v in
    let v_lt : v < length net.nodes = omega (arith, c.nodes-v-end.ensures.count) in
    let end : c.index-end.result.now ≡ first_cell net needed (suc v) =
    end_read net needed (length net.nodes) v c.index-end.result.now p.cells p.ends.items c.requires v_lt c.index-end.ensures in
    omega (arith, c.loop-v.invariant.first)

pub push_node_placed-requires-clause-end : goal.push_node_placed-requires-clause-end
push_node_placed-requires-clause-end c =
    let net = c.args.net.now in
    let p = c.args.parts.now in
    let needed = is_marked p.needed.items in
    let v = c.loop-v.v in
    let v_lt : v < length net.nodes = omega (arith, c.nodes-v-end.ensures.count) in
    let end : c.index-end.result.now ≡ first_cell net needed (suc v) =
    end_read net needed (length net.nodes) v c.index-end.result.now p.cells p.ends.items c.requires v_lt c.index-end.ensures in
    omega (arith, first_cell-le net needed (suc v) (length net.nodes) (omega arith), length-made net needed (length net.nodes) p.cells p.ends.items c.requires)

pub push_node_placed-requires-clause-each : goal.push_node_placed-requires-clause-each
push_node_placed-requires-clause-each c k le below =
    let net = c.args.net.now in
    let p = c.args.parts.now in
    let needed = is_marked p.needed.items in
    let v = c.loop-v.v in
    let v_lt : v < length net.nodes = omega (arith, c.nodes-v-end.ensures.count) in
    let end : c.index-end.result.now ≡ first_cell net needed (suc v) =
    end_read net needed (length net.nodes) v c.index-end.result.now p.cells p.ends.items c.requires v_lt c.index-end.ensures in
    let P : List ℕ → Type 0 = λ l. IsPlaceable (length l) (listed_cell p.cells k) in
    subst P (sym c.fan_ins.ensures)
    (own_placeable net needed v c.loop-v.first c.index-end.result.now k p.cells p.ends.items c.inputs-inputs.ensures.net c.requires v_lt
    c.loop-v.invariant.first end (omega (arith, c.len-count.ensures.count, c.len-count.ensures.few)) le below)

pub loop-v-preserved : goal.loop-v-preserved
loop-v-preserved c =
    let net = c.args.net.now in
    let p = c.args.parts.now in
    let needed = is_marked p.needed.items in
    let v = c.loop-v.v in
    let v_lt : v < length net.nodes = omega (arith, c.nodes-v-end.ensures.count) in
    let end : c.index-end.result.now ≡ first_cell net needed (suc v) =
    end_read net needed (length net.nodes) v c.index-end.result.now p.cells p.ends.items c.requires v_lt c.index-end.ensures in
    let more : suc v ≡ v + 1 = omega arith in
    let P : List ℕ → Type 0 = λ l. c.push_node_placed.new.cells ≡ c.loop-v.cells
    ++ map (cell_in (source_by c.inputs-inputs.result l) c.fan_ins.result.now c.loop-v.first)
    (take (c.index-end.result.now - c.loop-v.first) (drop c.loop-v.first p.cells)) in
    record {
      first = end ∙ ap (first_cell net needed) more;
      cells = placed_more net needed v c.loop-v.first c.index-end.result.now c.inputs-inputs.result p.cells p.ends.items c.fan_ins.result.now
          c.loop-v.cells c.push_node_placed.new.cells c.inputs-inputs.ensures.net c.requires v_lt c.loop-v.invariant.first end
          c.inputs-inputs.ensures.count c.fan_ins.ensures c.loop-v.invariant.cells
          (subst P c.deref.ensures.value c.in_ok-push_node_placed.ensures);
    }
