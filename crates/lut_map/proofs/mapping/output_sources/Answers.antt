use Rattle.std.proofs.Common.{◌∙◌, ap, arith, length}
use Rattle.net_defs.specs.Evaluation.{output_signals}
use Rattle.lut_map.specs.Parts.{source_by}
use Rattle.lut_map.proofs.MarkLemmas.{output_signal-read}
use Rattle.lut_map.proofs.PlaceLemmas.{mapped_more}
use Rattle.lut_map.proofs.mapping.output_sources.Goals as goal

pub signal_source-requires : goal.signal_source-requires
signal_source-requires c =
    let read = output_signal-read c.args.net.now c.loop-o.o c.output_signal.result c.inputs-inputs.ensures.net
    (omega (arith, c.outputs-o-end.ensures.count)) c.output_signal.ensures in
    omega (arith, read.within, c.inputs-inputs.ensures.count, c.requires)

pub loop-o-preserved : goal.loop-o-preserved
loop-o-preserved c =
    let net = c.args.net.now in
    let s = c.output_signal.result in
    let read = output_signal-read net c.loop-o.o s c.inputs-inputs.ensures.net
    (omega (arith, c.outputs-o-end.ensures.count)) c.output_signal.ensures in
    mapped_more (source_by (length net.inputs) c.args.ends.now) (output_signals net) c.loop-o.o s c.loop-o.sources.items c.push.new.self.items
    c.signal_source.result read.place read.read c.loop-o.invariant
    (c.signal_source.ensures ∙ ap (λ n. source_by n c.args.ends.now s) c.inputs-inputs.ensures.count) c.in_ok-push.ensures.items
