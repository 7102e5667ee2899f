use Rattle.std.proofs.Common.{[], sym}
use Rattle.std.proofs.lemmas.Option.{slice_get_within, get_or_from_slice_get}
use Rattle.netlist.specs.Partners.{port_names}
use Rattle.netlist.proofs.BuildLemmas.{index_names-more}
use Rattle.netlist.proofs.ports.Ports.index.Goals as goal

-- one name more is in the index at its place
pub loop-i-preserved : goal.loop-i-preserved
loop-i-preserved c =
    let names = port_names c.args.self.now in
    let name = c.name.result.now in
    index_names-more c.loop-i.index c.insert.new.self names c.loop-i.i name (slice_get_within names c.loop-i.i name c.name.ensures)
    (sym (get_or_from_slice_get names c.loop-i.i name [] c.name.ensures)) c.loop-i.invariant c.in_ok-insert.ensures
