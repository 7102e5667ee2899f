use Rattle.std.proofs.Common.{[]}
use Rattle.pch_base.specs.BitLists.{bits_of}
use Rattle.net_defs.specs.Evaluation.{node_bit}
use Rattle.map_defs.specs.declared.limits.TheConstants.{TABLE_BITS}
use Rattle.lut_map.proofs.FillLemmas.{IsFilled}
use Rattle.lut_map.proofs.tables.node_table.Given as goal

abbrev pub invariant-loop-k : goal.invariant-loop-k
invariant-loop-k l = IsFilled TABLE_BITS (λ k. node_bit (record { fan_ins = []; on = l.on; rows = l.rows }) (bits_of l.pins k)) l.table l.k
