use Rattle.lut_map.proofs.KeptLemmas.{luts-columns}
use Rattle.lut_map.proofs.luts.Luts.from_cells.Goals as goal

pub columns_of-requires : goal.columns_of-requires
columns_of-requires c = luts-columns c.args.inputs c.args.cells c.args.outputs.items c.requires
