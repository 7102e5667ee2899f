-- The bundle with a compacted trace.
use Rattle.std.specs.Prelude.{List}
use Rattle.clause_defs.specs.Traces.{Entry}
use Rattle.clause_defs.specs.Compaction.{compacted}
use Rattle.sat_text_defs.specs.Printed.{trace_text}
use Rattle.bundle_defs.specs.Bundles.{BundleValue}

-- version 2 of the bundle, whose trace, with the sign for each derived clause but the last, is printed anew
abbrev pub compacted_bundle : BundleValue → List Entry → BundleValue
compacted_bundle bundle steps =
    record { version = 2; geometry = bundle.geometry; config = bundle.config; trace = trace_text (compacted steps) }
