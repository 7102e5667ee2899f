use Rattle.std.proofs.Common.{◌≡◌, ◌<◌, Some, None, sym, ap, subst, ◌∙◌}
use Rattle.std.specs.Arc.{arc_value}
use Rattle.fabric_defs.specs.Geometries.{GeometryValue, cell_count}
use Rattle.fabric_defs.specs.Configurations.{ConfigValue}
use Rattle.miter_defs.specs.Equality.{FitsPads}
use Rattle.journal_defs.specs.Journals.{spec_at, config_at}
use Rattle.journal_defs.specs.Legality.{IsInstallable}
use Rattle.slot_core.specs.Cycles.{IsGivenBy}
use Rattle.slot_core.proofs.Places.{shared-value, shared-nothing, running-is_installable, unagreed-is_vacant, given-replies}
use Rattle.slot_core.proofs.cycle.answer.Goals as goal

pub returns-in_default-net-clause-reply : goal.returns-in_default-net-clause-reply
returns-in_default-net-clause-reply c =
    let look = c.look-contents.ensures in
    let runs : config_at c.args.t.now.journal c.args.slot ≡ Some (arc_value c.in-Some.config) =
    sym look.contents.running ∙ shared-value c.look-contents.result.now.config c.in-Some.config c.in-Some.is in
    let agrees : spec_at c.args.t.now.journal c.args.slot ≡ None =
    sym look.contents.spec ∙ shared-nothing c.look-contents.result.now.net c.in_default-net.is in
    absurd (unagreed-is_vacant c.args.t.now.geometry c.args.t.now.slots c.args.t.now.limit c.args.slot
    c.args.t.now.journal (arc_value c.in-Some.config) look.legal runs agrees)

-- the two that run in the slot
installable : (c : goal.After-cycle_of-arg-1)
    → IsInstallable c.args.t.now.geometry c.args.t.now.journal c.args.slot (arc_value c.in-Some-net.net)
    (arc_value c.in-Some.config)
installable c =
    let look = c.look-contents.ensures in
    running-is_installable c.args.t.now.geometry c.args.t.now.slots c.args.t.now.limit c.args.slot
    c.args.t.now.journal (arc_value c.in-Some-net.net) (arc_value c.in-Some.config) look.legal
    (sym look.contents.running ∙ shared-value c.look-contents.result.now.config c.in-Some.config c.in-Some.is)
    (sym look.contents.spec ∙ shared-value c.look-contents.result.now.net c.in-Some-net.net c.in-Some-net.is)

-- the configuration is one of the table's fabric
same_geometry : (c : goal.After-cycle_of-arg-1) → c.args.t.now.geometry ≡ c.deref-2.result.now.geometry
same_geometry c = sym (ap (λ (k : ConfigValue). k.geometry) c.deref-2.ensures ∙ (installable c).geometry)

pub cycle_of-requires-clause-fits : goal.cycle_of-requires-clause-fits
cycle_of-requires-clause-fits c =
    subst (λ n. FitsPads n c.deref-2.result.now.geometry) (sym c.deref.ensures)
    (subst (λ (k : ConfigValue). FitsPads (arc_value c.in-Some-net.net) k.geometry) (sym c.deref-2.ensures)
    (installable c).equal.fits)

pub cycle_of-requires-clause-probe : goal.cycle_of-requires-clause-probe
cycle_of-requires-clause-probe c =
    subst (λ (g : GeometryValue). c.args.probe < cell_count g) (same_geometry c) c.requires.probe

pub cycle_of-requires-clause-wires : goal.cycle_of-requires-clause-wires
cycle_of-requires-clause-wires c = c.requires.wires ∙ same_geometry c

pub returns-clause-reply : goal.returns-clause-reply
returns-clause-reply c =
    let look = c.look-contents.ensures in
    given-replies c.args.t.now.journal c.args.slot c.args.probe c.args.x c.deref.result.now c.deref-2.result.now
    c.cycle_of.result
    (record {
      spec = sym look.contents.spec
          ∙ shared-value c.look-contents.result.now.net c.in-Some-net.net c.in-Some-net.is
          ∙ ap Some (sym c.deref.ensures);
      running = sym look.contents.running
          ∙ shared-value c.look-contents.result.now.config c.in-Some.config c.in-Some.is
          ∙ ap Some (sym c.deref-2.ensures);
    })
    (subst (λ n. IsGivenBy c.deref.result.now c.deref-2.result.now c.args.x c.args.probe n c.cycle_of.result)
    c.len-at.ensures.len c.cycle_of.ensures.given)
