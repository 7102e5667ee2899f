-- What is produced: a bundle with the placed design and the log that refutes its miter, which is accepted for the
-- specification.
use Rattle.std.specs.Prelude.{◌≡◌, ℕ, ◌≤◌, List}
use Rattle.sat_text_defs.specs.Printed.{trace_text}
use Rattle.net_defs.specs.Networks.{Network}
use Rattle.fabric_defs.specs.declared.kind.CellKind.{CellKind}
use Rattle.fabric_defs.specs.declared.kind.CellKind.TheVariants.{FourInputs, SixInputs}
use Rattle.fabric_defs.specs.Geometries.{GeometryValue}
use Rattle.fabric_defs.specs.Configurations.{ConfigValue}
use Rattle.bundle_defs.specs.Bundles.{bundle_bytes}
use Rattle.log_defs.specs.Logs.{LogValue, Words}
use Rattle.miter_defs.specs.Equality.{Equal}
use Rattle.miter_size.specs.Sizes.{log_trace, bundle_with}
use Rattle.verify_defs.specs.Acceptance.{AcceptsWith}
use Rattle.place_net.specs.Placings.{Placed}
use Rattle.produce.specs.Endings.{AlignedTo, Refuted}

-- the version of a bundle whose trace states the literals of each clause, for cells of this kind
abbrev pub version_of : CellKind → ℕ
version_of FourInputs = 1
version_of SixInputs = 3

-- the bytes of the bundle of a configuration and of the printed trace of a log
abbrev pub bundle_of_log : ConfigValue → LogValue → List ℕ
bundle_of_log config log =
    bundle_bytes (bundle_with (version_of config.geometry.kind) config (trace_text (log_trace log)))

-- The bytes are the bundle of the placed design, which computes the design, and of a log within the budget, which
-- refutes the miter of the specification and the placed design. They are accepted for the specification.
pub record Produced (spec design : Network) (g : GeometryValue) (budget : ℕ) (bytes : List ℕ) : Type 0 where
  pub net : Network
  pub aligned : AlignedTo spec design net
  pub config : ConfigValue
  pub placed : Placed net g config
  pub equal : Equal net config
  pub log : LogValue
  pub refuted : Refuted spec config budget log
  pub within : Words log.derived ≤ budget
  pub exact : bytes ≡ bundle_of_log config log
  pub accepted : AcceptsWith g spec bytes config
