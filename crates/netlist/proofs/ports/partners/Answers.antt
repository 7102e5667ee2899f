use Rattle.std.proofs.lemmas.Result.{err_from_is_err_and}
use Rattle.net_laws.proofs.PlaceLemmas.{All-standing}
use Rattle.netlist.specs.Partners.{port_names}
use Rattle.netlist.proofs.PartnerLemmas.{GivesPartners-back}
use Rattle.netlist.proofs.ports.partners.Goals as goal

-- where the specification's names have partners, the first name of the design without one is the fault
pub returns-in_err-have_places : goal.returns-in_err-have_places
returns-in_err-have_places c =
    let spec = port_names c.args.spec.now in
    let design = port_names c.args.design.now in
    let p = err_from_is_err_and c.from_residual-in_err-have_places.result c.from_residual-in_err-have_places.ensures.1 in
    rw (p.1, p.2)
    (GivesPartners-back spec design c.in_err-have_places.field-0.0 (All-standing design c.in_ok-places.places.items spec c.in_ok-places.ensures) c.in_err-have_places.ensures)
