-- A compacted bundle is accepted where the old one was: its trace is as short, is read again, and refutes what the
-- old one refuted.
use Rattle.std.proofs.Common.{◌≡◌, ℕ, ◌^◌, ◌<◌, ◌≤◌, List, length, refl, subst, ap, ◌∙◌, arith}
use Rattle.clause_defs.specs.Traces.{Entry}
use Rattle.clause_defs.specs.Compaction.{compacted}
use Rattle.clause_defs.specs.declared.verdict.TheConstants.{MAX_COMPUTED}
use Rattle.clause_laws.proofs.CompactTraces.{IsTrace-compacted, compacted_refutes}
use Rattle.sat_text_defs.specs.declared.limits.TheConstants.{MAX_TRACE_BYTES}
use Rattle.sat_text_defs.specs.TraceText.{TraceText}
use Rattle.sat_text_defs.specs.Printed.{trace_text}
use Rattle.trace_text_laws.proofs.OneReading.{only_trace}
use Rattle.trace_text_laws.proofs.Versions.{first_version-stated}
use Rattle.sat_print_laws.proofs.TextLengths.{compacted-short, derived-few}
use Rattle.sat_print_laws.proofs.PrintedTraces.{printed-text}
use Rattle.net_defs.specs.Networks.{Network}
use Rattle.fabric_defs.specs.Geometries.{GeometryValue}
use Rattle.fabric_defs.specs.Configurations.{ConfigValue}
use Rattle.fabric_defs.specs.declared.kind.CellKind.{CellKind}
use Rattle.miter_defs.specs.Miters.{Miter}
use Rattle.bundle_defs.specs.Bundles.{BundleValue, IsBundle, BundleText, bundle_bytes, kind_of_version}
use Rattle.verify_defs.specs.Acceptance.{HasConfigFor, AcceptsWith}
use Rattle.verify_defs.specs.Compacting.{compacted_bundle}
use Rattle.verify_laws.proofs.Parts.{bundle_unique}

-- version 2 is of the fabrics of version 1
kind_of_two : (v : ℕ) (kind : CellKind) → v ≡ 1 → kind ≡ kind_of_version v → kind ≡ kind_of_version 2
kind_of_two v kind one of = of ∙ ap kind_of_version one

-- the printed compacted trace is shorter than four bytes can spell
pub compacted-fits : (text : List ℕ) (steps : List Entry) → TraceText text 1 steps
    → length (trace_text (compacted steps)) < 2 ^ 32
compacted-fits text steps reads =
    let short = compacted-short text 1 steps reads in
    let limit : length text ≤ MAX_TRACE_BYTES = reads.0 in
    omega arith

-- the compacted bundle is one
pub compacted-is_bundle : (bundle : BundleValue) (steps : List Entry) → IsBundle bundle → bundle.version ≡ 1
    → TraceText bundle.trace 1 steps → IsBundle (compacted_bundle bundle steps)
compacted-is_bundle bundle steps is one text = record {
  version = (omega arith, omega arith);
  kind = kind_of_two bundle.version bundle.geometry.kind one is.kind;
  geometry = is.geometry;
  config = is.config;
  trace = compacted-fits bundle.trace steps text;
}

-- the compacted trace is read again
compacted-reads : (text : List ℕ) (steps : List Entry) → TraceText text 1 steps → length text < MAX_TRACE_BYTES
    → TraceText (trace_text (compacted steps)) 2 (compacted steps)
compacted-reads text steps reads room =
    let short = compacted-short text 1 steps reads in
    printed-text 2 (compacted steps) (IsTrace-compacted steps reads.1.trace) (λ e. absurd (omega (arith, e))) (omega arith)

-- what the old bundle is accepted for, the compacted one is
pub accepted-compacted : (bytes : List ℕ) (bundle : BundleValue) (steps : List Entry)
    → BundleText bytes bundle → bundle.version ≡ 1 → TraceText bundle.trace 1 steps
    → length bundle.trace < MAX_TRACE_BYTES
    → (g : GeometryValue) (net : Network) (config : ConfigValue) → AcceptsWith g net bytes config
    → AcceptsWith g net (bundle_bytes (compacted_bundle bundle steps)) config
accepted-compacted bytes bundle steps text one reads room g net config accepted =
    let parts = accepted.parts in
    let same : parts.bundle ≡ bundle = bundle_unique bytes parts.bundle bundle parts.is_bundle.text text in
    let read : TraceText bundle.trace 1 accepted.steps =
    subst (λ v. TraceText bundle.trace v accepted.steps) one
    (subst (λ (b : BundleValue). TraceText b.trace b.version accepted.steps) same parts.trace) in
    let same_steps : accepted.steps ≡ steps = only_trace bundle.trace 1 accepted.steps steps read reads in
    let few = derived-few bundle.trace 1 steps reads in
    let limit : length bundle.trace ≤ MAX_TRACE_BYTES = reads.0 in
    record {
      fits = accepted.fits;
      steps = compacted steps;
      parts = record {
        bundle = compacted_bundle bundle steps;
        is_bundle = record {
          text = record { bundle = compacted-is_bundle bundle steps text.bundle one reads; text = refl };
          geometry = subst (λ (b : BundleValue). b.geometry ≡ g) same parts.is_bundle.geometry;
        };
        has_config = subst (λ (b : BundleValue). HasConfigFor g b config) same parts.has_config;
        trace = compacted-reads bundle.trace steps reads room;
      };
      refutes = (
        accepted.refutes.0,
        accepted.refutes.1,
        compacted_refutes (Miter net accepted.refutes.0).clauses steps MAX_COMPUTED MAX_COMPUTED reads.1.trace
            (first_version-stated bundle.trace steps reads)
            (rw same_steps at accepted.refutes.2) (omega arith),
      );
    }
