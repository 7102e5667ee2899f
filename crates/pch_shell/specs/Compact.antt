-- What `compact BUNDLE OUT` finds in the bytes of the bundle, and what it comes to.
use Rattle.std.specs.Prelude.{◌≡◌, ◌≢◌, ◌⊎◌, ◌<◌, ℕ, List, length, Err, codes}
use Rattle.clause_defs.specs.Traces.{Entry}
use Rattle.sat_text_defs.specs.declared.limits.TheConstants.{MAX_TRACE_BYTES}
use Rattle.sat_text_defs.specs.declared.errors.TraceError.{TraceError}
use Rattle.sat_text_defs.specs.TraceText.{TraceText, TraceTextFault}
use Rattle.net_defs.specs.Networks.{Network}
use Rattle.fabric_defs.specs.Geometries.{GeometryValue}
use Rattle.fabric_defs.specs.Configurations.{ConfigValue}
use Rattle.bundle_defs.specs.Bundles.{BundleValue, BundleText, bundle_bytes}
use Rattle.bundle_defs.specs.Faults.{BundleOf}
use Rattle.bundle_defs.specs.declared.faults.BundleError.{BundleError}
use Rattle.bundle_defs.specs.declared.faults.BundleError.TheVariants.{Version}
use Rattle.verify_defs.specs.Acceptance.{AcceptsWith}
use Rattle.verify_defs.specs.Compacting.{compacted_bundle}
use Rattle.pch_lines.specs.Lines.{and_word}
use Rattle.pch_lines.specs.FaultLines.{bundle_line, trace_line}
use Rattle.pch_shell.specs.Outcomes.{Outcome, done_with, bad_input, written_line}

-- the bytes are a bundle of version 1 with this trace
pub record HasStatedTrace (bytes : List ℕ) (bundle : BundleValue) (steps : List Entry) : Type 0 where
  pub text : BundleText bytes bundle
  pub version : bundle.version ≡ 1
  pub trace : TraceText bundle.trace 1 steps

-- The bytes `short` are the bundle of version 2 with the geometry, the configuration and the trace of a bundle of
-- version 1, where the sign stands for each derived clause but the last. Whatever the old bundle is accepted for,
-- the new one is too, with the same configuration, if the old trace has room for one more byte.
pub record IsCompaction (bytes short : List ℕ) : Type 0 where
  pub bundle : BundleValue
  pub steps : List Entry
  pub reads : HasStatedTrace bytes bundle steps
  pub spells : short ≡ bundle_bytes (compacted_bundle bundle steps)
  pub accepted : length bundle.trace < MAX_TRACE_BYTES → (g : GeometryValue) (net : Network) (config : ConfigValue)
      → AcceptsWith g net bytes config → AcceptsWith g net short config

-- the bytes are a bundle of another version
pub record HasOtherVersion (bytes : List ℕ) (version : ℕ) : Type 0 where
  pub bundle : BundleValue
  pub text : BundleText bytes bundle
  pub is_version : bundle.version ≡ version
  pub other : version ≢ 1

-- the bytes are a bundle of version 1, whose trace has this fault
pub record TraceIsFaultyIn (bytes : List ℕ) (fault : TraceError) : Type 0 where
  pub bundle : BundleValue
  pub text : BundleText bytes bundle
  pub version : bundle.version ≡ 1
  pub faulty : TraceTextFault bundle.trace 1 fault

-- what `compact` of the bytes of a bundle comes to
abbrev pub CompactDue : (name bytes : List ℕ) → Outcome → Type 0
CompactDue name bytes o =
    ((short : List ℕ) × IsCompaction bytes short × (o ≡ done_with short (written_line (length short))))
    ⊎ (((e : BundleError) × BundleOf bytes (Err e) × (o ≡ bad_input (bundle_line (and_word (codes "bundle") name) e)))
    ⊎ (((version : ℕ) × HasOtherVersion bytes version
    × (o ≡ bad_input (bundle_line (and_word (codes "bundle") name) (Version version))))
    ⊎ ((e : TraceError) × TraceIsFaultyIn bytes e
    × (o ≡ bad_input (trace_line (and_word (and_word (codes "bundle") name) (codes "trace")) e)))))
