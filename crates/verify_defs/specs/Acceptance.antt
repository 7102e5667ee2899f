-- The bundles that are accepted for a network on a fabric.
use Rattle.std.specs.Prelude.{◌≡◌, ℕ, List, length, Ok}
use Rattle.clause_defs.specs.Traces.{Entry}
use Rattle.clause_defs.specs.Verdicts.{VerdictOf}
use Rattle.clause_defs.specs.declared.verdict.TheConstants.{MAX_COMPUTED}
use Rattle.clause_defs.specs.declared.verdict.Verdict.{Verdict}
use Rattle.clause_defs.specs.declared.verdict.Verdict.TheVariants.{Refutes}
use Rattle.sat_text_defs.specs.TraceText.{TraceText}
use Rattle.net_defs.specs.Networks.{Network}
use Rattle.fabric_defs.specs.Geometries.{GeometryValue}
use Rattle.fabric_defs.specs.Configurations.{ConfigValue, ConfigOf}
use Rattle.fabric_defs.specs.Spelling.{words_in}
use Rattle.cell_defs.specs.Cells.{CellsValue}
use Rattle.cell_defs.specs.Sources.{AreCellsOf}
use Rattle.miter_defs.specs.Equality.{FitsPads}
use Rattle.miter_defs.specs.Miters.{Miter}
use Rattle.bundle_defs.specs.Bundles.{BundleValue, BundleText}

-- the bytes are a bundle for this fabric
pub record IsBundleFor (g : GeometryValue) (bytes : List ℕ) (bundle : BundleValue) : Type 0 where
  pub text : BundleText bytes bundle
  pub geometry : bundle.geometry ≡ g

-- the configuration of the bundle is this one of the fabric
abbrev pub HasConfigFor : GeometryValue → BundleValue → ConfigValue → Type 0
HasConfigFor g bundle config = ConfigOf g (length bundle.config) (words_in bundle.config) (Ok config)

-- the bytes are a bundle for this fabric, with this configuration and this trace
pub record HasParts (g : GeometryValue) (bytes : List ℕ) (config : ConfigValue) (steps : List Entry) : Type 0 where
  pub bundle : BundleValue
  pub is_bundle : IsBundleFor g bytes bundle
  pub has_config : HasConfigFor g bundle config
  pub trace : TraceText bundle.trace bundle.version steps

-- the trace shows this verdict of the miter of the network and the configuration
abbrev pub ShowsOfMiter : Network → ConfigValue → List Entry → Verdict → Type 0
ShowsOfMiter net config steps v =
    (cells : CellsValue) × AreCellsOf config cells × VerdictOf (Miter net cells).clauses steps MAX_COMPUTED v

-- the bundle has this configuration, and its trace refutes the miter of the network and the configuration
pub record AcceptsWith (g : GeometryValue) (net : Network) (bytes : List ℕ) (config : ConfigValue) : Type 0 where
  pub fits : FitsPads net g
  pub steps : List Entry
  pub parts : HasParts g bytes config steps
  pub refutes : ShowsOfMiter net config steps Refutes

-- the bundle is accepted for the network on the fabric
abbrev pub Accepts : GeometryValue → Network → List ℕ → Type 0
Accepts g net bytes = (config : ConfigValue) × AcceptsWith g net bytes config
