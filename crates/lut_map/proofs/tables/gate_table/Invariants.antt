use Rattle.std.proofs.Common.{length}
use Rattle.pch_base.specs.BitLists.{bits_of}
use Rattle.map_defs.specs.declared.limits.TheConstants.{TABLE_BITS}
use Rattle.lut_map.specs.Steps.{gate_bit}
use Rattle.lut_map.proofs.FillLemmas.{IsFilled}
use Rattle.lut_map.proofs.tables.gate_table.Given as goal

abbrev pub invariant-loop-k : goal.invariant-loop-k
invariant-loop-k l = IsFilled TABLE_BITS (λ k. gate_bit l.gate l.negated l.terms (bits_of (length l.terms) k)) l.table l.k
