use Rattle.pch_shell.proofs.ProduceLemmas.{produced_due, told_due}
use Rattle.pch_shell.proofs.commands.producing.run.Goals as goal

-- the bytes of the bundle are what is saved
pub returns-in-Ok-produce : goal.returns-in-Ok-produce
returns-in-Ok-produce c =
    produced_due c.written.result c.args.spec_name.now c.args.design_name.now c.args.g c.args.budget c.args.spec_bytes.items
    c.args.design_bytes.items c.in-Ok-produce.bytes.items c.in-Ok.net c.in-Ok-read_specification.net
    (record {
      specified = rw c.deref.ensures.value at c.in-Ok.ensures;
      designed = rw c.deref-2.ensures.value at c.in-Ok-read_specification.ensures;
    })
    c.in-Ok-produce.ensures.produced c.written.ensures

-- what is told of the reason is due
pub returns : goal.returns
returns c =
    told_due c.not_produced.result c.args.spec_name.now c.args.design_name.now c.args.g c.args.budget c.args.spec_bytes.items
    c.args.design_bytes.items c.in-Ok.net c.in-Ok-read_specification.net c.in-Err-produce.end
    (record {
      specified = rw c.deref.ensures.value at c.in-Ok.ensures;
      designed = rw c.deref-2.ensures.value at c.in-Ok-read_specification.ensures;
    })
    c.in-Err-produce.ensures.ends c.not_produced.ensures
