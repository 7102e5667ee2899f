use Rattle.std.proofs.Common.{Some}
use Rattle.std.proofs.lemmas.Map.Text.{btree_map_updates_str}
use Rattle.netlist.proofs.index.NameIndex.insert.Goals as goal

-- the map has one name more, and the others as they were
pub returns : goal.returns
returns c = btree_map_updates_str c.args.name.now c.args.self.now.places c.insert.new.self (Some c.args.place) c.in_ok-insert.ensures.updates
