-- The parts that stand in bytes at the places that their lengths give.
use Rattle.std.specs.Prelude.{ℕ, ◌+◌, List, take, drop}
use Rattle.bundle_defs.specs.Bundles.{BundleValue}
use Rattle.bundle_defs.specs.Faults.{version_in, geometry_in, config_length, trace_length}

-- the parts: a configuration stands behind the first length, and a trace behind the second
abbrev pub value_in : List ℕ → BundleValue
value_in bytes = record {
  version = version_in bytes;
  geometry = geometry_in bytes;
  config = take (config_length bytes) (drop 20 bytes);
  trace = take (trace_length bytes) (drop (24 + config_length bytes) bytes);
}
