-- The parts of bytes that are a bundle, and what the trace shows of the miter, are determined.
use Rattle.std.proofs.Common.{◌≡◌, ℕ, List, length, Ok, sym, ap, subst, ◌∙◌}
use Rattle.clause_defs.specs.Traces.{Entry}
use Rattle.clause_defs.specs.Verdicts.{VerdictOf}
use Rattle.clause_defs.specs.declared.verdict.TheConstants.{MAX_COMPUTED}
use Rattle.clause_defs.specs.declared.verdict.Verdict.{Verdict}
use Rattle.clause_laws.proofs.Soundness.{unsat}
use Rattle.clause_laws.proofs.Uniqueness.{verdict_unique}
use Rattle.sat_text_defs.specs.TraceText.{TraceText}
use Rattle.trace_text_laws.proofs.OneReading.{only_trace}
use Rattle.net_defs.specs.Networks.{Network}
use Rattle.net_defs.specs.Nets.{IsNet}
use Rattle.fabric_defs.specs.Geometries.{GeometryValue}
use Rattle.fabric_defs.specs.Configurations.{ConfigValue, IsConfig, ConfigOf}
use Rattle.fabric_defs.specs.Spelling.{words_in}
use Rattle.cell_defs.specs.Cells.{CellsValue}
use Rattle.cell_defs.specs.Sources.{AreCellsOf}
use Rattle.cell_laws.proofs.CellsUniqueness.{cells-unique}
use Rattle.cell_laws.proofs.CellsExistence.{cells_exist}
use Rattle.miter_defs.specs.Equality.{FitsPads, Equal}
use Rattle.miter_defs.specs.Numberings.{variable_count}
use Rattle.miter_defs.specs.Miters.{Miter}
use Rattle.miter_laws.proofs.Extension.{equal-from_unsat}
use Rattle.bundle_defs.specs.Bundles.{BundleValue, BundleText}
use Rattle.bundle.proofs.AnswerLemmas.{answer_in, answer_in-only}
use Rattle.fabric_laws.proofs.ConfigAnswers.{answer_unique}
use Rattle.clause_laws.proofs.Verdict.{verdict_exists}
use Rattle.verify_defs.specs.Acceptance.{HasConfigFor, HasParts, ShowsOfMiter, AcceptsWith}

-- bytes are the bundle of one value
pub bundle_unique : (bytes : List ℕ) (v w : BundleValue) → BundleText bytes v → BundleText bytes w → v ≡ w
bundle_unique bytes v w h k =
    let first : answer_in bytes ≡ Ok v = answer_in-only bytes (Ok v) h in
    let second : answer_in bytes ≡ Ok w = answer_in-only bytes (Ok w) k in
    cc

-- the bytes of a configuration are those of one
pub config_unique : (g : GeometryValue) (bytes : List ℕ) (k l : ConfigValue) → ConfigOf g (length bytes) (words_in bytes) (Ok k)
    → ConfigOf g (length bytes) (words_in bytes) (Ok l) → k ≡ l
config_unique g bytes k l h i = let e = answer_unique g (length bytes) (words_in bytes) (Ok k) (Ok l) h i in cc

-- a trace shows one thing of the miter
pub shown_unique : (net : Network) (k : ConfigValue) (t : List Entry) (v w : Verdict)
    → ShowsOfMiter net k t v → ShowsOfMiter net k t w → v ≡ w
shown_unique net k t v w h i =
    let same : h.0 ≡ i.0 = cells-unique k h.0 i.0 h.1 i.1 in
    let P : CellsValue → Type 0 = λ l. VerdictOf (Miter net l).clauses t MAX_COMPUTED v in
    verdict_unique (Miter net i.0).clauses t MAX_COMPUTED v w (subst P same h.2) i.2

-- and shows something
pub shown_exists : (net : Network) (k : ConfigValue) (t : List Entry) → IsConfig k → (v : Verdict) × ShowsOfMiter net k t v
shown_exists net k t config =
    let cells = cells_exist k config in
    let shown = verdict_exists (Miter net cells.0).clauses t MAX_COMPUTED in
    (shown.0, (cells.0, cells.1, shown.1))

-- bytes are a bundle for one fabric
pub same_fabric : (g h : GeometryValue) (bytes : List ℕ) (k l : ConfigValue) (t u : List Entry)
    → HasParts g bytes k t → HasParts h bytes l u → g ≡ h
same_fabric g h bytes k l t u p q =
    sym p.is_bundle.geometry ∙ ap (λ (v : BundleValue). v.geometry) (bundle_unique bytes p.bundle q.bundle p.is_bundle.text q.is_bundle.text)
    ∙ q.is_bundle.geometry

-- bytes have one configuration
pub same_config : (g : GeometryValue) (bytes : List ℕ) (k l : ConfigValue) (t u : List Entry)
    → HasParts g bytes k t → HasParts g bytes l u → k ≡ l
same_config g bytes k l t u p q =
    let P : BundleValue → Type 0 = λ v. HasConfigFor g v k in
    config_unique g q.bundle.config k l (subst P (bundle_unique bytes p.bundle q.bundle p.is_bundle.text q.is_bundle.text) p.has_config) q.has_config

-- bytes have one trace
pub same_trace : (g : GeometryValue) (bytes : List ℕ) (k l : ConfigValue) (t u : List Entry)
    → HasParts g bytes k t → HasParts g bytes l u → t ≡ u
same_trace g bytes k l t u p q =
    let P : BundleValue → Type 0 = λ v. TraceText v.trace v.version t in
    only_trace q.bundle.trace q.bundle.version t u (subst P (bundle_unique bytes p.bundle q.bundle p.is_bundle.text q.is_bundle.text) p.trace) q.trace

-- bytes have one list of cells
pub same_cells_of_parts : (g : GeometryValue) (bytes : List ℕ) (k l : ConfigValue) (t u : List Entry) (m n : CellsValue)
    → HasParts g bytes k t → HasParts g bytes l u → AreCellsOf k m → AreCellsOf l n → m ≡ n
same_cells_of_parts g bytes k l t u m n p q h i =
    let P : ConfigValue → Type 0 = λ c. AreCellsOf c m in
    cells-unique l m n (subst P (same_config g bytes k l t u p q) h) i

-- a refuted miter has no satisfying assignment, so the net and the configuration are equal
pub equal_where_accepted : (g : GeometryValue) (net : Network) (bytes : List ℕ) (config : ConfigValue) → IsNet net
    → AcceptsWith g net bytes config → Equal net config
equal_where_accepted g net bytes config is_net accepted =
    let l = accepted.refutes.0 in
    let of = accepted.refutes.1 in
    let refutes = accepted.refutes.2 in
    let is_config = accepted.parts.has_config.1 in
    let fabric : config.geometry ≡ g = ap (λ (c : ConfigValue). c.geometry) accepted.parts.has_config.2 in
    equal-from_unsat net config l is_net is_config of.sources of.cone.cone.closed (subst (FitsPads net) (sym fabric) accepted.fits)
    (unsat (variable_count net l) (Miter net l).clauses accepted.steps MAX_COMPUTED accepted.parts.trace.1.trace.earlier refutes.0 refutes.1)
