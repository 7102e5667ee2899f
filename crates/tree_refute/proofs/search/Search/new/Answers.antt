use Rattle.std.proofs.Common.{◌≡◌, ◌+◌, length, ap, sym, ◌∙◌, subst}
use Rattle.clause_defs.specs.Formulas.{Formula}
use Rattle.miter_cnf.specs.Circuits.{Circuits}
use Rattle.miter_defs.specs.Numberings.{variable_count}
use Rattle.miter_places.proofs.NumberLaws.{length-Miter}
use Rattle.tree_refute.specs.Rooms.{HasRoom}
use Rattle.tree_refute.proofs.search.Search.new.Goals as goal

pub invariant_of-result : goal.invariant_of-result
invariant_of-result c =
    let net = c.args.net.now in
    let cells = c.args.cells.now in
    let originals = c.originals.ensures.originals ∙ c.requires.miter.originals in
    let variables : c.variables-variables.result ≡ variable_count net cells =
    c.variables-variables.ensures.variables ∙ ap (λ (f : Formula). f.variables) originals in
    let count = length-Miter net cells in
    let own : HasRoom (record { net = net; cells = cells }) c.in_ok-new-2.field-0 c.in_ok-new-3.field-0 c.inputs.result c.len.result = record {
      are = record { is_net = c.inputs.ensures.net; are_cells = c.geometry-geometry.ensures.known; fits = c.requires.fits };
      places = c.in_ok-new-2.ensures.variables ∙ ap (λ n. n + 1) variables;
      marks = c.in_ok-new-3.ensures ∙ ap (λ n. n + 1) variables;
      inputs_are = c.inputs.ensures.count;
      last_is = c.len.ensures.len ∙ ap (λ (f : Formula). length f.clauses) (c.originals-3.ensures.originals ∙ c.requires.miter.originals) ∙ count;
    } in
    subst (λ (u : Circuits). HasRoom u c.in_ok-new-2.field-0 c.in_ok-new-3.field-0 c.inputs.result c.len.result) (sym c.in_ok-new.ensures.circuits) own
