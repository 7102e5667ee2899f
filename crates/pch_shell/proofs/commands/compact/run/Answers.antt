use Rattle.std.proofs.Common.{rules, ℕ, List, Err, subst}
use Rattle.trace_text_laws.proofs.TracesRead.{trace_in-text}
use Rattle.bundle_defs.specs.Bundles.{BundleText}
use Rattle.bundle_defs.specs.Faults.{BundleOf}
use Rattle.bundle.specs.Values.{value_of}
use Rattle.pch_shell.proofs.CompactLemmas.{compacted_due, bad_trace_due, bad_bundle_due}
use Rattle.pch_shell.proofs.commands.compact.run.Goals as goal

-- a bundle with a fault is bad input
pub returns-in-Err : goal.returns-in-Err
returns-in-Err c =
    bad_bundle_due c.bad_bundle.result _ _ c.in-Err.error
    (subst (λ (b : List ℕ). BundleOf b (Err c.in-Err.error)) c.deref.ensures.value c.in-Err.ensures) c.bad_bundle.ensures

-- the steps are those of the bundle's trace
pub compacted-requires-clause-trace : goal.compacted-requires-clause-trace
compacted-requires-clause-trace c =
    trace_in-text c.in-Ok.bundle.trace.now 1 c.in-Ok-read_trace.steps c.in-Ok-read_trace.ensures.exact

-- a bundle of version 1 comes to the compacted one
pub returns-in-Ok-read_trace : goal.returns-in-Ok-read_trace
returns-in-Ok-read_trace c =
    compacted_due c.compacted.result _ _ (value_of c.in-Ok.bundle) c.in-Ok-read_trace.steps
    (subst (λ (b : List ℕ). BundleText b (value_of c.in-Ok.bundle)) c.deref.ensures.value c.in-Ok.ensures) (search rules) c.in-Ok-read_trace.ensures.exact c.compacted.ensures

-- a trace with a fault is bad input, where the bundle has none
pub returns : goal.returns
returns c =
    bad_trace_due c.bad_trace.result _ _ (value_of c.in-Ok.bundle) c.in-Err-read_trace.error
    (subst (λ (b : List ℕ). BundleText b (value_of c.in-Ok.bundle)) c.deref.ensures.value c.in-Ok.ensures) (search rules) c.in-Err-read_trace.ensures.exact
    c.bad_trace.ensures.ending c.bad_trace.ensures.fault
