use Rattle.std.proofs.Common.{ℕ, length, ap, sym, ◌∙◌, arith}
use Rattle.pch_base.specs.BitLists.{bits_of}
use Rattle.pch_base.specs.BitWords.{length-bits_of}
use Rattle.map_defs.specs.declared.limits.TheConstants.{TABLE_BITS}
use Rattle.lut_map.specs.Steps.{gate_bit}
use Rattle.lut_map.proofs.FillLemmas.{filled_none, filled_more, filled_word}
use Rattle.lut_map.proofs.tables.gate_table.Goals as goal

pub loop-k-init : goal.loop-k-init
loop-k-init c =
    filled_none TABLE_BITS (λ k. gate_bit c.args.gate c.args.negated c.args.terms.now (bits_of (length c.args.terms.now) k))
    c.new-table.result c.new-table.ensures

pub gate_bit-bit-requires : goal.gate_bit-bit-requires
gate_bit-bit-requires c = sym (ap length c.pattern.ensures ∙ length-bits_of (length c.args.terms.now) c.loop-k.k)

pub loop-k-preserved : goal.loop-k-preserved
loop-k-preserved c =
    let f : ℕ → ℕ = λ k. gate_bit c.args.gate c.args.negated c.args.terms.now (bits_of (length c.args.terms.now) k) in
    filled_more TABLE_BITS f c.loop-k.table c.with-table.result c.loop-k.k _ c.loop-k.invariant (omega arith)
    (ap (gate_bit c.args.gate c.args.negated c.args.terms.now) (sym c.pattern.ensures) ∙ c.gate_bit-bit.ensures) c.with-table.ensures

pub returns : goal.returns
returns c =
    c.word.ensures.word
    ∙ filled_word TABLE_BITS (λ k. gate_bit c.args.gate c.args.negated c.args.terms.now (bits_of (length c.args.terms.now) k))
    c.loop-k.table c.loop-k.k c.loop-k.invariant (omega arith)
