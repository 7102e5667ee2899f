-- A bundle has one miter with a network, or one first fault, and never both.
use Rattle.std.proofs.Common.{◌≡◌, ℕ, List, length, Ok, Err, refl, sym, ap, subst, ◌∙◌}
use Rattle.clause_defs.specs.Formulas.{Formula}
use Rattle.net_defs.specs.Networks.{Network}
use Rattle.fabric_defs.specs.Configurations.{ConfigValue, ConfigOf}
use Rattle.fabric_defs.specs.Spelling.{words_in}
use Rattle.fabric_defs.specs.declared.faults.ConfigError.{ConfigError}
use Rattle.fabric_laws.proofs.ConfigAnswers.{answer_unique}
use Rattle.cell_defs.specs.Cells.{CellsValue}
use Rattle.cell_defs.specs.Sources.{AreCellsOf}
use Rattle.cell_laws.proofs.CellsUniqueness.{cells-unique}
use Rattle.miter_defs.specs.Equality.{FitsPads}
use Rattle.miter_defs.specs.Miters.{Miter}
use Rattle.bundle_defs.specs.Bundles.{BundleValue, BundleText}
use Rattle.bundle_defs.specs.Faults.{BundleOf}
use Rattle.bundle_defs.specs.declared.faults.BundleError.{BundleError}
use Rattle.bundle.proofs.AnswerLemmas.{answer_in, answer_in-only}
use Rattle.verify_defs.specs.Acceptance.{HasConfigFor}
use Rattle.verify_defs.specs.Deliveries.{HasConfig, IsDeliveredMiter, MiterFault}
use Rattle.verify_defs.specs.declared.miter_error.MiterError.{MiterError}
use Rattle.verify_defs.specs.declared.miter_error.MiterError.TheVariants.{Bundle, Config, Pads, NoMemory}
use Rattle.verify_laws.proofs.Parts.{bundle_unique, config_unique}

-- bytes are a bundle with one configuration
delivered_config : (bytes : List ℕ) (config other : ConfigValue) → HasConfig bytes config → HasConfig bytes other → config ≡ other
delivered_config bytes config other h i =
    let same : h.bundle ≡ i.bundle = bundle_unique bytes h.bundle i.bundle h.text i.text in
    let P : BundleValue → Type 0 = λ v. HasConfigFor v.geometry v config in
    config_unique i.bundle.geometry i.bundle.config config other (subst P same h.reads) i.reads

-- a bundle and a network have one miter
pub delivered_unique : (net : Network) (bytes : List ℕ) (m n : Formula) → IsDeliveredMiter net bytes m → IsDeliveredMiter net bytes n → m ≡ n
delivered_unique net bytes m n h i =
    let same : h.config ≡ i.config = delivered_config bytes h.config i.config h.has_config i.has_config in
    let P : ConfigValue → Type 0 = λ config. AreCellsOf config h.cells in
    let cells : h.cells ≡ i.cells = cells-unique i.config h.cells i.cells (subst P same h.cells_of) i.cells_of in
    h.is_miter ∙ ap (λ (l : CellsValue). Miter net l) cells ∙ sym i.is_miter

-- a bundle has no fault
pub bundle_not_faulty : (bytes : List ℕ) (v : BundleValue) (e : BundleError) → BundleText bytes v → BundleOf bytes (Err e) → ⊥
bundle_not_faulty bytes v e h i =
    let first : answer_in bytes ≡ Ok v = answer_in-only bytes (Ok v) h in
    let second : answer_in bytes ≡ Err e = answer_in-only bytes (Err e) i in
    cc

-- bytes that are no bundle have one fault
pub bundle_fault_unique : (bytes : List ℕ) (e f : BundleError) → BundleOf bytes (Err e) → BundleOf bytes (Err f) → e ≡ f
bundle_fault_unique bytes e f h i =
    let first : answer_in bytes ≡ Err e = answer_in-only bytes (Err e) h in
    let second : answer_in bytes ≡ Err f = answer_in-only bytes (Err f) i in
    cc

-- a configuration has no fault
config_not_faulty : (bytes : List ℕ) (v : BundleValue) (config : ConfigValue) (e : ConfigError) → HasConfig bytes config → BundleText bytes v
    → ConfigOf v.geometry (length v.config) (words_in v.config) (Err e) → ⊥
config_not_faulty bytes v config e h text faulty =
    let P : BundleValue → Type 0 = λ w. HasConfigFor w.geometry w config in
    let reads = subst P (bundle_unique bytes h.bundle v h.text text) h.reads in
    let one = answer_unique v.geometry (length v.config) (words_in v.config) (Ok config) (Err e) reads faulty in
    cc

-- bytes that are no configuration have one fault
config_fault_unique : (bytes : List ℕ) (v w : BundleValue) (e f : ConfigError) → BundleText bytes v → BundleText bytes w
    → ConfigOf v.geometry (length v.config) (words_in v.config) (Err e)
    → ConfigOf w.geometry (length w.config) (words_in w.config) (Err f) → e ≡ f
config_fault_unique bytes v w e f h i faulty other =
    let P : BundleValue → Type 0 = λ u. ConfigOf u.geometry (length u.config) (words_in u.config) (Err e) in
    let one = answer_unique w.geometry (length w.config) (words_in w.config) (Err e) (Err f) (subst P (bundle_unique bytes v w h i) faulty) other in
    cc

-- what has a miter has no fault
pub delivered_not_faulty : (net : Network) (bytes : List ℕ) (m : Formula) (e : MiterError) → IsDeliveredMiter net bytes m → MiterFault net bytes e → ⊥
delivered_not_faulty net bytes m (Bundle e) h i = bundle_not_faulty bytes h.has_config.bundle e h.has_config.text i
delivered_not_faulty net bytes m (Config e) h i = config_not_faulty bytes i.0 h.config e h.has_config i.1 i.2
delivered_not_faulty net bytes m Pads h i =
    let P : ConfigValue → Type 0 = λ config. FitsPads net config.geometry in
    i.2 (subst P (delivered_config bytes h.config i.0 h.has_config i.1) h.fits)
delivered_not_faulty net bytes m NoMemory h i = i

-- what has no miter has one first fault
pub miter_fault_unique : (net : Network) (bytes : List ℕ) (e f : MiterError) → MiterFault net bytes e → MiterFault net bytes f → e ≡ f
miter_fault_unique net bytes (Bundle e) (Bundle f) h i = ap Bundle (bundle_fault_unique bytes e f h i)
miter_fault_unique net bytes (Bundle e) (Config f) h i = absurd (bundle_not_faulty bytes i.0 e i.1 h)
miter_fault_unique net bytes (Bundle e) Pads h i = absurd (bundle_not_faulty bytes i.1.bundle e i.1.text h)
miter_fault_unique net bytes (Bundle e) NoMemory h i = absurd i
miter_fault_unique net bytes (Config e) (Bundle f) h i = absurd (bundle_not_faulty bytes h.0 f h.1 i)
miter_fault_unique net bytes (Config e) (Config f) h i = ap Config (config_fault_unique bytes h.0 i.0 e f h.1 i.1 h.2 i.2)
miter_fault_unique net bytes (Config e) Pads h i = absurd (config_not_faulty bytes h.0 i.0 e i.1 h.1 h.2)
miter_fault_unique net bytes (Config e) NoMemory h i = absurd i
miter_fault_unique net bytes Pads (Bundle f) h i = absurd (bundle_not_faulty bytes h.1.bundle f h.1.text i)
miter_fault_unique net bytes Pads (Config f) h i = absurd (config_not_faulty bytes i.0 h.0 f h.1 i.1 i.2)
miter_fault_unique net bytes Pads Pads h i = refl
miter_fault_unique net bytes Pads NoMemory h i = absurd i
miter_fault_unique net bytes NoMemory f h i = absurd h
