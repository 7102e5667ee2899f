-- What contracts see of a bundle in memory, and of an answer of the reader.
use Rattle.std.specs.Prelude.{List, ℕ, Result, Ok, Err}
use Rattle.bundle_defs.specs.Bundles.{BundleValue}
use Rattle.bundle_defs.specs.Faults.{BundleOf}
use Rattle.bundle_defs.specs.declared.faults.BundleError.{BundleError}
use Rattle.bundle.specs.declared.value.Bundle.{Bundle}

-- the parts, whose bytes are borrowed
abbrev pub value_of : Bundle → BundleValue
value_of b = record { version = b.version; geometry = b.geometry; config = b.config.now; trace = b.trace.now }

-- the answer is the bundle of the bytes, or their first fault
abbrev pub GivesBundle : List ℕ → Result Bundle BundleError → Type 0
GivesBundle bytes (Ok b) = BundleOf bytes (Ok (value_of b))
GivesBundle bytes (Err e) = BundleOf bytes (Err e)
