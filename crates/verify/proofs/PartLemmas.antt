-- What the readers of the parts of a bundle answer, as refusals of the bundle.
use Rattle.std.proofs.Common.{◌≡◌, ◌≢◌, ◌⊎◌, inl, inr, ℕ, List, length, Err, sym, subst}
use Rattle.sat_text_defs.specs.declared.errors.TraceError.{TraceError}
use Rattle.sat_text_defs.specs.declared.errors.TraceError.TheVariants as trace_errors
use Rattle.sat_text_defs.specs.TraceReading.{trace_in}
use Rattle.trace_text_laws.proofs.TracesRead.{trace_in-fault}
use Rattle.fabric_defs.specs.Geometries.{GeometryValue}
use Rattle.fabric_defs.specs.Configurations.{ConfigValue, ConfigOf}
use Rattle.fabric_defs.specs.Spelling.{words_in}
use Rattle.fabric_defs.specs.declared.faults.ConfigError.{ConfigError}
use Rattle.fabric_defs.specs.declared.faults.ConfigError.TheVariants as config_errors
use Rattle.net_defs.specs.Networks.{Network}
use Rattle.bundle_defs.specs.Bundles.{BundleValue, BundleText}
use Rattle.verify_defs.specs.Acceptance.{IsBundleFor, HasConfigFor}
use Rattle.verify_defs.specs.Refusals.{FirstRefusal}
use Rattle.verify_defs.specs.Deliveries.{MiterFault, LacksMiter}
use Rattle.verify_defs.specs.declared.refusal.Refusal.{Refusal}
use Rattle.verify_defs.specs.declared.refusal.Refusal.TheVariants as refusals
use Rattle.verify_defs.specs.declared.miter_error.MiterError.{MiterError}
use Rattle.verify_defs.specs.declared.miter_error.MiterError.TheVariants as miter_errors
use Rattle.verify.specs.Answers.{RefusesFitting}

-- a fault of the configuration is the first refusal where all before it is right
pub config_refuses : (g : GeometryValue) (bytes : List ℕ) (v : BundleValue) (e : ConfigError) (r : Refusal) → IsBundleFor g bytes v
    → (e ≡ config_errors.NoMemory) ⊎ ConfigOf g (length v.config) (words_in v.config) (Err e)
    → ((e ≡ config_errors.NoMemory) × (r ≡ refusals.NoMemory)) ⊎ ((e ≢ config_errors.NoMemory) × (r ≡ refusals.Config e))
    → RefusesFitting g bytes r
config_refuses g bytes v e r bundle fails (inl is) = λ net fits. inl is.1
config_refuses g bytes v e r bundle (inl none) (inr is) = absurd (is.0 none)
config_refuses g bytes v e r bundle (inr fault) (inr is) =
    λ net fits. inr (subst (FirstRefusal g net bytes) (sym is.1) (fits, v, bundle, fault))

-- a fault of the trace, likewise
pub trace_refuses : (g : GeometryValue) (bytes : List ℕ) (v : BundleValue) (config : ConfigValue) (e : TraceError) (r : Refusal)
    → IsBundleFor g bytes v → HasConfigFor g v config
    → (e ≡ trace_errors.NoMemory) ⊎ (trace_in v.version v.trace ≡ Err e)
    → ((e ≡ trace_errors.NoMemory) × (r ≡ refusals.NoMemory)) ⊎ ((e ≢ trace_errors.NoMemory) × (r ≡ refusals.Trace e))
    → RefusesFitting g bytes r
trace_refuses g bytes v config e r bundle has fails (inl is) = λ net fits. inl is.1
trace_refuses g bytes v config e r bundle has (inl none) (inr is) = absurd (is.0 none)
trace_refuses g bytes v config e r bundle has (inr fault) (inr is) =
    λ net fits. inr (subst (FirstRefusal g net bytes) (sym is.1)
    (fits, v, bundle, config, has, trace_in-fault v.trace v.version e fault))

-- a fault of the configuration leaves the bundle without a miter
pub config_lacks : (bytes : List ℕ) (v : BundleValue) (e : ConfigError) (m : MiterError) → BundleText bytes v
    → (e ≡ config_errors.NoMemory) ⊎ ConfigOf v.geometry (length v.config) (words_in v.config) (Err e)
    → ((e ≡ config_errors.NoMemory) × (m ≡ miter_errors.NoMemory)) ⊎ ((e ≢ config_errors.NoMemory) × (m ≡ miter_errors.Config e))
    → (net : Network) → LacksMiter net bytes m
config_lacks bytes v e m text fails (inl is) net = inl is.1
config_lacks bytes v e m text (inl none) (inr is) net = absurd (is.0 none)
config_lacks bytes v e m text (inr fault) (inr is) net = inr (subst (MiterFault net bytes) (sym is.1) (v, text, fault))
