use Rattle.std.proofs.Common.{ℕ, [], length, ap, sym, ◌∙◌, arith}
use Rattle.pch_base.specs.BitLists.{bits_of}
use Rattle.pch_base.specs.BitWords.{length-bits_of}
use Rattle.net_defs.specs.Networks.{Node}
use Rattle.net_defs.specs.Evaluation.{node_bit}
use Rattle.map_defs.specs.declared.limits.TheConstants.{TABLE_BITS}
use Rattle.lut_map.proofs.FillLemmas.{filled_none, filled_more, filled_word}
use Rattle.lut_map.proofs.tables.node_table.Goals as goal

pub loop-k-init : goal.loop-k-init
loop-k-init c =
    let node : Node = record { fan_ins = []; on = c.args.on; rows = c.args.rows.now } in
    filled_none TABLE_BITS (λ k. node_bit node (bits_of c.args.pins k)) c.new-table.result c.new-table.ensures

pub node_bit-bit-requires : goal.node_bit-bit-requires
node_bit-bit-requires c k d lt = c.requires.rows k d lt ∙ sym (ap length c.pattern.ensures ∙ length-bits_of c.args.pins c.loop-k.k)

pub loop-k-preserved : goal.loop-k-preserved
loop-k-preserved c =
    let node : Node = record { fan_ins = []; on = c.args.on; rows = c.args.rows.now } in
    let f : ℕ → ℕ = λ k. node_bit node (bits_of c.args.pins k) in
    filled_more TABLE_BITS f c.loop-k.table c.with-table.result c.loop-k.k _ c.loop-k.invariant (omega arith)
    (ap (node_bit node) (sym c.pattern.ensures) ∙ c.node_bit-bit.ensures) c.with-table.ensures

pub returns : goal.returns
returns c =
    let node : Node = record { fan_ins = []; on = c.args.on; rows = c.args.rows.now } in
    c.word.ensures.word
    ∙ filled_word TABLE_BITS (λ k. node_bit node (bits_of c.args.pins k)) c.loop-k.table c.loop-k.k c.loop-k.invariant (omega arith)
