-- The miter of a network and the configuration of a bundle, whatever the bundle's trace is.
use Rattle.std.specs.Prelude.{◌≡◌, ◌⊎◌, ℕ, List, length, Err}
use Rattle.clause_defs.specs.Formulas.{Formula}
use Rattle.net_defs.specs.Networks.{Network}
use Rattle.fabric_defs.specs.Configurations.{ConfigValue, ConfigOf}
use Rattle.fabric_defs.specs.Spelling.{words_in}
use Rattle.cell_defs.specs.Cells.{CellsValue}
use Rattle.cell_defs.specs.Sources.{AreCellsOf}
use Rattle.miter_defs.specs.Equality.{FitsPads}
use Rattle.miter_defs.specs.Miters.{Miter}
use Rattle.bundle_defs.specs.Bundles.{BundleValue, BundleText}
use Rattle.bundle_defs.specs.Faults.{BundleOf}
use Rattle.verify_defs.specs.Acceptance.{HasConfigFor}
use Rattle.verify_defs.specs.declared.miter_error.MiterError.{MiterError}
use Rattle.verify_defs.specs.declared.miter_error.MiterError.TheVariants.{Bundle, Config, Pads, NoMemory}

-- the bytes are a bundle with this configuration of its own fabric
pub record HasConfig (bytes : List ℕ) (config : ConfigValue) : Type 0 where
  pub bundle : BundleValue
  pub text : BundleText bytes bundle
  pub reads : HasConfigFor bundle.geometry bundle config

-- the formula is the miter of the network and the bundle's configuration, on whose fabric the network fits
pub record IsDeliveredMiter (net : Network) (bytes : List ℕ) (miter : Formula) : Type 0 where
  pub config : ConfigValue
  pub has_config : HasConfig bytes config
  pub fits : FitsPads net config.geometry
  pub cells : CellsValue
  pub cells_of : AreCellsOf config cells
  pub is_miter : miter ≡ Miter net cells

-- the tests in their order: the bundle, its configuration, and the pads of its fabric
abbrev pub MiterFault : Network → List ℕ → MiterError → Type 0
MiterFault net bytes (Bundle e) = BundleOf bytes (Err e)
MiterFault net bytes (Config e) =
    (v : BundleValue) × BundleText bytes v × ConfigOf v.geometry (length v.config) (words_in v.config) (Err e)
MiterFault net bytes Pads = (config : ConfigValue) × HasConfig bytes config × ¬ FitsPads net config.geometry
MiterFault net bytes NoMemory = ⊥

-- what is answered where there is no miter: the first fault, or want of memory
abbrev pub LacksMiter : Network → List ℕ → MiterError → Type 0
LacksMiter net bytes e = (e ≡ NoMemory) ⊎ MiterFault net bytes e
