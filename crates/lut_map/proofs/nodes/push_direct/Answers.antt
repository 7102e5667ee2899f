use Rattle.std.proofs.Common.{ap, arith, length}
use Rattle.fabric_laws.proofs.NumberedLemmas.{length-list_of}
use Rattle.cell_defs.specs.declared.source.Source.TheVariants.{Pad}
use Rattle.lut_map.proofs.nodes.push_direct.Goals as goal

pub push-requires : goal.push-requires
push-requires c =
    omega (arith, ap length c.deref.ensures.value, ap length c.in_ok-put_pads.ensures, length-list_of c.args.pins Pad, c.requires.few)
