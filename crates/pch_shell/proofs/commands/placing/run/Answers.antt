use Rattle.std.proofs.Common.{rules}
use Rattle.route_defs.specs.declared.demand.Demand.{Demand}
use Rattle.pch_shell.proofs.PlaceLemmas.{placed_due, unroutable_due}
use Rattle.pch_shell.proofs.commands.placing.run.Goals as goal

-- what is printed is a configuration that places the design
pub returns-in-Ok-place : goal.returns-in-Ok-place
returns-in-Ok-place c =
    placed_due c.written.result c.args.name.now c.args.g c.args.bytes.items (c.in_ok-print_config-in-Ok-place).field-0.items
    c.in-Ok.net c.in-Ok-place.config (rw c.deref.ensures.value at c.in-Ok.ensures) c.in-Ok-place.ensures.placing
    c.in-Ok-place.ensures.equal (c.in_ok-print_config-in-Ok-place).ensures.read_again c.written.ensures

-- what is told is the first resource that is over
pub returns-in-Err-Unroutable : goal.returns-in-Err-Unroutable
returns-in-Err-Unroutable c =
    let over : Demand = record {
      resource = c.in-Err-Unroutable.resource;
      place = c.in-Err-Unroutable.place;
      need = c.in-Err-Unroutable.need;
      have = c.in-Err-Unroutable.have;
    } in
    unroutable_due c.args.name.now c.args.g c.args.bytes.items c.in-Ok.net over c.unroutable.result
    (rw c.deref.ensures.value at c.in-Ok.ensures) (search rules) (search rules)
