-- Each test comes to an outcome: bytes are accepted or refused.
use Rattle.std.proofs.Common.{◌≡◌, ◌≢◌, ℕ, ◌⊎◌, inl, inr, List, length, Result, Ok, Err, refl, ap, subst, arith}
use Rattle.std.proofs.lemmas.Bool.{cases_lt, cases_eq}
use Rattle.clause_defs.specs.Traces.{Entry}
use Rattle.clause_defs.specs.declared.verdict.Verdict.{Verdict}
use Rattle.clause_defs.specs.declared.verdict.Verdict.TheVariants.{Refutes, NotOriginal, Chain, TooWide, NotEmptyEnd}
use Rattle.trace_text_laws.proofs.OneReading.{trace_or_fault}
use Rattle.net_defs.specs.Networks.{Network}
use Rattle.fabric_defs.specs.declared.kind.CellKind.{CellKind}
use Rattle.fabric_defs.specs.declared.kind.CellKind.TheVariants.{FourInputs, SixInputs}
use Rattle.fabric_defs.specs.Geometries.{GeometryValue, IsGeometry}
use Rattle.fabric_defs.specs.Configurations.{ConfigValue, ConfigOf}
use Rattle.fabric_defs.specs.Spelling.{words_in}
use Rattle.fabric_defs.specs.declared.faults.ConfigError.{ConfigError}
use Rattle.bundle_defs.specs.Bundles.{BundleValue}
use Rattle.bundle_defs.specs.Faults.{BundleOf}
use Rattle.bundle_defs.specs.declared.faults.BundleError.{BundleError}
use Rattle.fabric_laws.proofs.ConfigAnswers.{answer_exists}
use Rattle.miter_defs.specs.Equality.{FitsPads}
use Rattle.verify_defs.specs.Acceptance.{IsBundleFor, HasParts, ShowsOfMiter, Accepts}
use Rattle.verify_defs.specs.Refusals.{FirstRefusal}
use Rattle.verify_defs.specs.declared.refusal.Refusal.{Refusal}
use Rattle.verify_defs.specs.declared.refusal.Refusal.TheVariants.{Pads, Bundle, OtherFabric, Config, Trace, Verdict as Shown}
use Rattle.verify_laws.proofs.Parts.{shown_exists}

-- accepted, or refused
abbrev Judged : GeometryValue → Network → List ℕ → Type 0
Judged g net bytes = Accepts g net bytes ⊎ ((r : Refusal) × FirstRefusal g net bytes r)

-- a verdict is that the trace refutes or not
refutes_cases : (w : Verdict) → (w ≡ Refutes) ⊎ (w ≢ Refutes)
refutes_cases Refutes = inl refl
refutes_cases (NotOriginal i) = inr (λ e. cc)
refutes_cases (Chain e) = inr (λ q. cc)
refutes_cases (TooWide i) = inr (λ e. cc)
refutes_cases NotEmptyEnd = inr (λ e. cc)

-- where the parts are there, the verdict decides
judged_verdict : (g : GeometryValue) (net : Network) (bytes : List ℕ) (k : ConfigValue) (t : List Entry) → FitsPads net g
    → HasParts g bytes k t → Judged g net bytes
judged_verdict g net bytes k t fits parts =
    let shown = shown_exists net k t parts.has_config.1 in
    let S : Verdict → Type 0 = ShowsOfMiter net k t in
    elim (refutes_cases shown.0) [
      | inl e ↦ inl (k, record { fits = fits; steps = t; parts = parts; refutes = subst S e shown.1 })
      | inr other ↦ inr (Shown shown.0, (fits, other, k, t, parts, shown.1))
    ]

-- where the configuration is there, the trace decides or goes on
judged_trace : (g : GeometryValue) (net : Network) (bytes : List ℕ) (v : BundleValue) (k : ConfigValue) → FitsPads net g
    → IsBundleFor g bytes v → ConfigOf g (length v.config) (words_in v.config) (Ok k) → Judged g net bytes
judged_trace g net bytes v k fits bundle config =
    elim (trace_or_fault v.trace v.version) [
      | inl some ↦ judged_verdict g net bytes k some.0 fits
          (record { bundle = v; is_bundle = bundle; has_config = config; trace = some.1 })
      | inr fault ↦ inr (Trace fault.0, (fits, v, bundle, k, config, fault.1))
    ]

-- where the bundle is for this fabric, its configuration decides or goes on
judged_config : (g : GeometryValue) (net : Network) (bytes : List ℕ) (v : BundleValue) → FitsPads net g → IsBundleFor g bytes v
    → (answer : Result ConfigValue ConfigError) → ConfigOf g (length v.config) (words_in v.config) answer → Judged g net bytes
judged_config g net bytes v fits bundle (Ok k) h = judged_trace g net bytes v k fits bundle h
judged_config g net bytes v fits bundle (Err e) h = inr (Config e, (fits, v, bundle, h))

-- geometries with the same kind and the same numbers are the same
geometry_by_parts : (a b : GeometryValue) → a.kind ≡ b.kind → a.columns ≡ b.columns → a.rows ≡ b.rows → a.tracks ≡ b.tracks
    → a.input_pads ≡ b.input_pads → a.output_pads ≡ b.output_pads → a ≡ b
geometry_by_parts a b k c r t i o =
    λ j. record { kind = k j; columns = c j; rows = r j; tracks = t j; input_pads = i j; output_pads = o j }

-- two kinds are the same or not
kind_cases : (a b : CellKind) → (a ≡ b) ⊎ (a ≢ b)
kind_cases FourInputs FourInputs = inl refl
kind_cases FourInputs SixInputs = inr (λ e. cc)
kind_cases SixInputs FourInputs = inr (λ e. cc)
kind_cases SixInputs SixInputs = inl refl

-- two geometries are the same or not
geometry_cases : (a b : GeometryValue) → (a ≡ b) ⊎ (a ≢ b)
geometry_cases a b =
    elim (kind_cases a.kind b.kind) [
      | inr not ↦ inr (λ e. not (ap (λ (g : GeometryValue). g.kind) e))
      | inl k ↦ elim (cases_eq a.columns b.columns) [
        | inr not ↦ inr (λ e. not (ap (λ (g : GeometryValue). g.columns) e))
        | inl c ↦ elim (cases_eq a.rows b.rows) [
          | inr not ↦ inr (λ e. not (ap (λ (g : GeometryValue). g.rows) e))
          | inl r ↦ elim (cases_eq a.tracks b.tracks) [
            | inr not ↦ inr (λ e. not (ap (λ (g : GeometryValue). g.tracks) e))
            | inl t ↦ elim (cases_eq a.input_pads b.input_pads) [
              | inr not ↦ inr (λ e. not (ap (λ (g : GeometryValue). g.input_pads) e))
              | inl i ↦ elim (cases_eq a.output_pads b.output_pads) [
                | inr not ↦ inr (λ e. not (ap (λ (g : GeometryValue). g.output_pads) e))
                | inl o ↦ inl (geometry_by_parts a b k c r t i o)
              ]
            ]
          ]
        ]
      ]
    ]

-- where the pads fit, the bytes decide or go on
judged_bundle : (g : GeometryValue) (net : Network) (bytes : List ℕ) → FitsPads net g
    → (answer : Result BundleValue BundleError) → BundleOf bytes answer → Judged g net bytes
judged_bundle g net bytes fits (Err e) h = inr (Bundle e, (fits, h))
judged_bundle g net bytes fits (Ok v) h =
    elim (geometry_cases v.geometry g) [
      | inr other ↦ inr (OtherFabric, (fits, v, h, other))
      | inl same ↦
          let answer = answer_exists g v.config (subst IsGeometry same h.bundle.geometry) in
          judged_config g net bytes v fits (record { text = h; geometry = same }) answer.0 answer.1
    ]

-- the pads fit or not
fits_cases : (g : GeometryValue) (net : Network) → FitsPads net g ⊎ (¬ FitsPads net g)
fits_cases g net =
    elim (cases_lt g.input_pads (length net.inputs)) [
      | inl many ↦ inr (λ fits. let few = fits.inputs in omega arith)
      | inr few ↦ elim (cases_lt g.output_pads (length net.outputs)) [
        | inl many ↦ inr (λ fits. let less = fits.outputs in omega arith)
        | inr less ↦ inl (record { inputs = few; outputs = less })
      ]
    ]

-- bytes are accepted or refused
pub judged : (g : GeometryValue) (net : Network) (bytes : List ℕ) → (answer : Result BundleValue BundleError)
    → BundleOf bytes answer → Judged g net bytes
judged g net bytes answer h =
    elim (fits_cases g net) [ inl fits ↦ judged_bundle g net bytes fits answer h | inr not ↦ inr (Pads, not) ]
