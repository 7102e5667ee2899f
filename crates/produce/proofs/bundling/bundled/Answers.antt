use Rattle.std.proofs.Common.{◌∙◌}
use Rattle.produce.proofs.PartsLemmas.{parts_if, exact_if}
use Rattle.produce.proofs.bundling.bundled.Goals as goal

-- what is printed is the bundle of the configuration and of the log
pub returns-clause-exact : goal.returns-clause-exact
returns-clause-exact c =
    exact_if (λ bytes. bytes.items) c.print_bundle.result c.args.config.now c.args.log c.geometry-geometry.result c.cell_kind.result
    c.version_for.result c.deref.result.now c.deref-2.result.now c.geometry-geometry.ensures.value c.cell_kind.ensures c.version_for.ensures.value
    (c.deref.ensures.value ∙ c.in_ok-words.ensures.bytes) (c.deref-2.ensures.value ∙ c.in_ok-steps.ensures.text) c.print_bundle.ensures

-- and a bundle of these parts
pub returns-clause-parts : goal.returns-clause-parts
returns-clause-parts c =
    parts_if (λ bytes. bytes.items) c.print_bundle.result c.args.config.now c.args.log c.geometry-geometry.result c.version_for.result
    c.in_ok-words.words.items c.in_ok-steps.steps.items c.deref.result.now c.deref-2.result.now c.geometry-geometry.ensures.known
    c.geometry-geometry.ensures.value c.version_for.ensures.version c.cell_kind.result c.cell_kind.ensures c.version_for.ensures.kind
    c.deref.ensures.value c.deref-2.ensures.value c.in_ok-words.ensures.read_again c.in_ok-steps.ensures.reads c.print_bundle.ensures
