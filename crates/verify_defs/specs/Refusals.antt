-- Why a bundle isn't accepted: the first test that fails, and its fault.
use Rattle.std.specs.Prelude.{◌≡◌, ◌≢◌, ◌⊎◌, ℕ, List, length, Err}
use Rattle.clause_defs.specs.Traces.{Entry}
use Rattle.clause_defs.specs.declared.verdict.Verdict.TheVariants.{Refutes}
use Rattle.sat_text_defs.specs.TraceText.{TraceTextFault}
use Rattle.net_defs.specs.Networks.{Network}
use Rattle.fabric_defs.specs.Geometries.{GeometryValue}
use Rattle.fabric_defs.specs.Configurations.{ConfigValue, ConfigOf}
use Rattle.fabric_defs.specs.Spelling.{words_in}
use Rattle.miter_defs.specs.Equality.{FitsPads}
use Rattle.bundle_defs.specs.Bundles.{BundleValue, BundleText}
use Rattle.bundle_defs.specs.Faults.{BundleOf}
use Rattle.verify_defs.specs.Acceptance.{IsBundleFor, HasConfigFor, HasParts, ShowsOfMiter}
use Rattle.verify_defs.specs.declared.refusal.Refusal.{Refusal}
use Rattle.verify_defs.specs.declared.refusal.Refusal.TheVariants.{Pads, Bundle, OtherFabric, Config, Trace, Verdict, NoMemory}

-- The tests in their order: the pads, the bundle, its geometry, its configuration, its trace, and what the trace
-- shows of the miter. No bundle is refused for want of memory.
abbrev pub FirstRefusal : GeometryValue → Network → List ℕ → Refusal → Type 0
FirstRefusal g net bytes Pads = ¬ FitsPads net g
FirstRefusal g net bytes (Bundle e) = FitsPads net g × BundleOf bytes (Err e)
FirstRefusal g net bytes OtherFabric =
    FitsPads net g × (v : BundleValue) × BundleText bytes v × (v.geometry ≢ g)
FirstRefusal g net bytes (Config e) =
    FitsPads net g × (v : BundleValue) × IsBundleFor g bytes v × ConfigOf g (length v.config) (words_in v.config) (Err e)
FirstRefusal g net bytes (Trace e) =
    FitsPads net g × (v : BundleValue) × IsBundleFor g bytes v
    × (config : ConfigValue) × HasConfigFor g v config × TraceTextFault v.trace v.version e
FirstRefusal g net bytes (Verdict w) =
    FitsPads net g × (w ≢ Refutes)
    × (config : ConfigValue) × (steps : List Entry) × HasParts g bytes config steps × ShowsOfMiter net config steps w
FirstRefusal g net bytes NoMemory = ⊥

-- what a judge answers that refuses: the first refusal, or want of memory
abbrev pub Refuses : GeometryValue → Network → List ℕ → Refusal → Type 0
Refuses g net bytes r = (r ≡ NoMemory) ⊎ FirstRefusal g net bytes r
