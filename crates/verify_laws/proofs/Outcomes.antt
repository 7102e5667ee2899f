-- The tests one after another: each has one outcome, and all together have one.
use Rattle.std.proofs.Common.{◌≡◌, ◌≢◌, ℕ, ◌⊎◌, inl, inr, List, length, Result, Ok, Err, refl, sym, ap, subst, ◌∙◌}
use Rattle.clause_defs.specs.Traces.{Entry}
use Rattle.clause_defs.specs.declared.verdict.Verdict.{Verdict}
use Rattle.clause_defs.specs.declared.verdict.Verdict.TheVariants.{Refutes}
use Rattle.sat_text_defs.specs.TraceText.{TraceText, TraceTextFault}
use Rattle.sat_text_defs.specs.declared.errors.TraceError.{TraceError}
use Rattle.trace_text_laws.proofs.OneReading.{only_trace, only_fault, never_both}
use Rattle.net_defs.specs.Networks.{Network}
use Rattle.fabric_defs.specs.Geometries.{GeometryValue}
use Rattle.fabric_defs.specs.Configurations.{ConfigValue, ConfigOf}
use Rattle.fabric_defs.specs.Spelling.{words_in}
use Rattle.fabric_defs.specs.declared.faults.ConfigError.{ConfigError}
use Rattle.bundle_defs.specs.Bundles.{BundleValue, BundleText}
use Rattle.bundle_defs.specs.Faults.{BundleOf}
use Rattle.bundle_defs.specs.declared.faults.BundleError.{BundleError}
use Rattle.bundle.proofs.AnswerLemmas.{answer_in-only}
use Rattle.fabric_laws.proofs.ConfigAnswers.{answer_unique}
use Rattle.miter_defs.specs.Equality.{FitsPads}
use Rattle.verify_defs.specs.Acceptance.{ShowsOfMiter, AcceptsWith}
use Rattle.verify_defs.specs.Refusals.{FirstRefusal}
use Rattle.verify_defs.specs.declared.refusal.Refusal.{Refusal}
use Rattle.verify_defs.specs.declared.refusal.Refusal.TheVariants.{Pads, Bundle, OtherFabric, Config, Trace, Verdict as Shown, NoMemory}
use Rattle.verify_laws.proofs.Parts.{bundle_unique, config_unique, shown_unique}

-- the configuration of accepted bytes, or the refusal
abbrev Outcome : Type 0
Outcome = Result ConfigValue Refusal

-- the tests from the last one on: what the trace shows of the miter
abbrev OfVerdict : Network → ConfigValue → List Entry → Outcome → Type 0
OfVerdict net k t o =
    (w : Verdict) × ShowsOfMiter net k t w × (((w ≡ Refutes) × (o ≡ Ok k)) ⊎ ((w ≢ Refutes) × (o ≡ Err (Shown w))))

-- from the trace on
abbrev OfTrace : Network → BundleValue → ConfigValue → Outcome → Type 0
OfTrace net v k o =
    ((t : List Entry) × TraceText v.trace v.version t × OfVerdict net k t o)
    ⊎ ((f : TraceError) × TraceTextFault v.trace v.version f × (o ≡ Err (Trace f)))

-- from the configuration on
abbrev OfConfig : GeometryValue → Network → BundleValue → Outcome → Type 0
OfConfig g net v o =
    ((k : ConfigValue) × ConfigOf g (length v.config) (words_in v.config) (Ok k) × OfTrace net v k o)
    ⊎ ((e : ConfigError) × ConfigOf g (length v.config) (words_in v.config) (Err e) × (o ≡ Err (Config e)))

-- from the geometry on
abbrev OfGeometry : GeometryValue → Network → BundleValue → Outcome → Type 0
OfGeometry g net v o = ((v.geometry ≡ g) × OfConfig g net v o) ⊎ ((v.geometry ≢ g) × (o ≡ Err OtherFabric))

-- from the bundle on
abbrev OfBundle : GeometryValue → Network → List ℕ → Outcome → Type 0
OfBundle g net bytes o =
    ((v : BundleValue) × BundleText bytes v × OfGeometry g net v o)
    ⊎ ((e : BundleError) × BundleOf bytes (Err e) × (o ≡ Err (Bundle e)))

-- all tests
abbrev OfPads : GeometryValue → Network → List ℕ → Outcome → Type 0
OfPads g net bytes o = (FitsPads net g × OfBundle g net bytes o) ⊎ ((¬ FitsPads net g) × (o ≡ Err Pads))

-- ---- each test has one outcome

-- of the trace on the miter
verdict_one : (net : Network) (k : ConfigValue) (t : List Entry) (o p : Outcome) → OfVerdict net k t o → OfVerdict net k t p → o ≡ p
verdict_one net k t o p h i =
    let same : h.0 ≡ i.0 = shown_unique net k t h.0 i.0 h.1 i.1 in
    elim h.2 [
      | inl a ↦ elim i.2 [ inl b ↦ a.1 ∙ sym b.1 | inr b ↦ absurd (b.0 (sym same ∙ a.0)) ]
      | inr a ↦ elim i.2 [ inl b ↦ absurd (a.0 (same ∙ b.0)) | inr b ↦ a.1 ∙ ap (λ w. Err (Shown w)) same ∙ sym b.1 ]
    ]

-- of the trace as a text
trace_one : (net : Network) (v : BundleValue) (k : ConfigValue) (o p : Outcome) → OfTrace net v k o → OfTrace net v k p → o ≡ p
trace_one net v k o p (inl h) (inl i) =
    let P : List Entry → Type 0 = λ t. OfVerdict net k t o in
    verdict_one net k i.0 o p (subst P (only_trace v.trace v.version h.0 i.0 h.1 i.1) h.2) i.2
trace_one net v k o p (inl h) (inr i) = absurd (never_both v.trace v.version h.0 i.0 h.1 i.1)
trace_one net v k o p (inr h) (inl i) = absurd (never_both v.trace v.version i.0 h.0 i.1 h.1)
trace_one net v k o p (inr h) (inr i) = h.2 ∙ ap (λ f. Err (Trace f)) (only_fault v.trace v.version h.0 i.0 h.1 i.1) ∙ sym i.2

-- bytes of a configuration are a configuration or have one fault
config_answers : (g : GeometryValue) (v : BundleValue) (a b : Result ConfigValue ConfigError)
    → ConfigOf g (length v.config) (words_in v.config) a → ConfigOf g (length v.config) (words_in v.config) b → a ≡ b
config_answers g v = answer_unique g (length v.config) (words_in v.config)

-- of the configuration
config_one : (g : GeometryValue) (net : Network) (v : BundleValue) (o p : Outcome) → OfConfig g net v o → OfConfig g net v p → o ≡ p
config_one g net v o p (inl h) (inl i) =
    let P : ConfigValue → Type 0 = λ k. OfTrace net v k o in
    trace_one net v i.0 o p (subst P (config_unique g v.config h.0 i.0 h.1 i.1) h.2) i.2
config_one g net v o p (inl h) (inr i) = absurd (let e = config_answers g v (Ok h.0) (Err i.0) h.1 i.1 in cc)
config_one g net v o p (inr h) (inl i) = absurd (let e = config_answers g v (Err h.0) (Ok i.0) h.1 i.1 in cc)
config_one g net v o p (inr h) (inr i) =
    let e = config_answers g v (Err h.0) (Err i.0) h.1 i.1 in
    let same : h.0 ≡ i.0 = cc in
    h.2 ∙ ap (λ f. Err (Config f)) same ∙ sym i.2

-- of the geometry
geometry_one : (g : GeometryValue) (net : Network) (v : BundleValue) (o p : Outcome) → OfGeometry g net v o → OfGeometry g net v p → o ≡ p
geometry_one g net v o p (inl h) (inl i) = config_one g net v o p h.1 i.1
geometry_one g net v o p (inl h) (inr i) = absurd (i.0 h.0)
geometry_one g net v o p (inr h) (inl i) = absurd (h.0 i.0)
geometry_one g net v o p (inr h) (inr i) = h.1 ∙ sym i.1

-- bytes are a bundle or have one fault
bundle_answers : (bytes : List ℕ) (a b : Result BundleValue BundleError) → BundleOf bytes a → BundleOf bytes b → a ≡ b
bundle_answers bytes a b h i = sym (answer_in-only bytes a h) ∙ answer_in-only bytes b i

-- of the bytes as a bundle
bundle_one : (g : GeometryValue) (net : Network) (bytes : List ℕ) (o p : Outcome) → OfBundle g net bytes o → OfBundle g net bytes p → o ≡ p
bundle_one g net bytes o p (inl h) (inl i) =
    let P : BundleValue → Type 0 = λ v. OfGeometry g net v o in
    geometry_one g net i.0 o p (subst P (bundle_unique bytes h.0 i.0 h.1 i.1) h.2) i.2
bundle_one g net bytes o p (inl h) (inr i) = absurd (let e = bundle_answers bytes (Ok h.0) (Err i.0) h.1 i.1 in cc)
bundle_one g net bytes o p (inr h) (inl i) = absurd (let e = bundle_answers bytes (Err h.0) (Ok i.0) h.1 i.1 in cc)
bundle_one g net bytes o p (inr h) (inr i) =
    let e = bundle_answers bytes (Err h.0) (Err i.0) h.1 i.1 in
    let same : h.0 ≡ i.0 = cc in
    h.2 ∙ ap (λ f. Err (Bundle f)) same ∙ sym i.2

-- all tests together have one outcome
pub outcome_one : (g : GeometryValue) (net : Network) (bytes : List ℕ) (o p : Outcome) → OfPads g net bytes o → OfPads g net bytes p → o ≡ p
outcome_one g net bytes o p (inl h) (inl i) = bundle_one g net bytes o p h.1 i.1
outcome_one g net bytes o p (inl h) (inr i) = absurd (i.0 h.0)
outcome_one g net bytes o p (inr h) (inl i) = absurd (h.0 i.0)
outcome_one g net bytes o p (inr h) (inr i) = h.1 ∙ sym i.1

-- ---- acceptance and the first refusal are outcomes

-- what is accepted passes all tests
pub accepted_outcome : (g : GeometryValue) (net : Network) (bytes : List ℕ) (k : ConfigValue)
    → AcceptsWith g net bytes k → OfPads g net bytes (Ok k)
accepted_outcome g net bytes k h =
    let p = h.parts in
    inl (h.fits, inl (p.bundle, p.is_bundle.text, inl (p.is_bundle.geometry, inl (k, p.has_config, inl (h.steps, p.trace, (Refutes, h.refutes, inl (refl, refl)))))))

-- a refusal is the outcome of the test that it names
pub refused_outcome : (g : GeometryValue) (net : Network) (bytes : List ℕ) (r : Refusal)
    → FirstRefusal g net bytes r → OfPads g net bytes (Err r)
refused_outcome g net bytes Pads h = inr (h, refl)
refused_outcome g net bytes (Bundle e) h = inl (h.0, inr (e, h.1, refl))
refused_outcome g net bytes OtherFabric h = inl (h.0, inl (h.1, h.2, inr (h.3, refl)))
refused_outcome g net bytes (Config e) h = inl (h.0, inl (h.1, h.2.text, inl (h.2.geometry, inr (e, h.3, refl))))
refused_outcome g net bytes (Trace e) h =
    inl (h.0, inl (h.1, h.2.text, inl (h.2.geometry, inl (h.3, h.4, inr (e, h.5, refl)))))
refused_outcome g net bytes (Shown w) h =
    let p = h.4 in
    inl (h.0, inl (p.bundle, p.is_bundle.text, inl (p.is_bundle.geometry, inl (h.2, p.has_config, inl (h.3, p.trace, (w, h.5, inr (h.1, refl)))))))
refused_outcome g net bytes NoMemory h = absurd h
