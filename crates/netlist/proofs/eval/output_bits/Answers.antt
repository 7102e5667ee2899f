use Rattle.std.proofs.Common.{◌≡◌, ap, sym, ◌∙◌, arith, length, map, take, ◌+◌, get_or, refl}
use Rattle.std.proofs.lemmas.List.{length-set}
use Rattle.pch_base.specs.BitWords.{length-bits_of}
use Rattle.net_defs.specs.Networks.{Output}
use Rattle.net_defs.specs.Evaluation.{bits_at}
use Rattle.netlist.specs.Places.{bit_of}
use Rattle.netlist.proofs.EvalLemmas.{outputs-more, outputs-all}
use Rattle.netlist.proofs.eval.output_bits.Goals as goal

-- there is a bit for each output from the start
pub loop-o-init : goal.loop-o-init
loop-o-init c = record {
  all = ap length c.new-bits.ensures ∙ length-bits_of _ 0;
  done = refl;
}

-- an output takes the bit of its signal
pub loop-o-preserved : goal.loop-o-preserved
loop-o-preserved c =
    let outputs = c.outputs-outputs.result.now in
    let item = c.index-outputs-o.result in
    let inside : length c.loop-o.bits ≡ length outputs = c.loop-o.invariant.all in
    let at : get_or c.args.s.now (get_or outputs c.loop-o.o item).signal 0 ≡ bit_of c.get.result =
    ap (λ (p : Output). get_or c.args.s.now p.signal 0) (sym c.index-outputs-o.is ∙ sym c.output.view_is) ∙ c.get.ensures in
    record {
      all = ap length c.with-bits.ensures ∙ length-set c.loop-o.bits c.loop-o.o _ ∙ inside;
      done = ap (λ l. take (c.loop-o.o + 1) l) c.with-bits.ensures
          ∙ outputs-more c.loop-o.bits c.args.s.now outputs c.loop-o.o (bit_of c.get.result) item inside (omega arith) at c.loop-o.invariant.done;
    }

-- so all outputs have the bits of their signals
pub returns : goal.returns
returns c =
    outputs-all c.loop-o.bits c.args.s.now c.outputs-outputs.result.now c.loop-o.o c.loop-o.invariant.all (omega arith) c.loop-o.invariant.done
    ∙ ap (λ l. bits_at c.args.s.now (map (λ (p : Output). p.signal) l)) c.outputs-outputs.ensures
