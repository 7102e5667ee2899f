-- The parts of a bundle that is printed.
use Rattle.std.proofs.Common.{◌≡◌, ℕ, List, length, Result, Ok, Err, IfOk, refl, sym, ap, ◌∙◌, arith}
use Rattle.sat_text_defs.specs.Printed.{trace_text}
use Rattle.sat_text_defs.specs.TraceText.{TraceText}
use Rattle.fabric_defs.specs.declared.kind.CellKind.{CellKind}
use Rattle.fabric_defs.specs.Geometries.{GeometryValue}
use Rattle.fabric_defs.specs.Configurations.{ConfigValue, IsConfig, ConfigOf}
use Rattle.fabric_defs.specs.Spelling.{words_in, bytes_of}
use Rattle.fabric_laws.proofs.LayoutLemmas.{word_count-lt}
use Rattle.bundle_defs.specs.Bundles.{BundleValue, IsVersion, kind_of_version, bundle_bytes}
use Rattle.log_defs.specs.Logs.{LogValue}
use Rattle.miter_size.specs.Sizes.{log_trace}
use Rattle.verify_defs.specs.Acceptance.{HasParts}
use Rattle.produce.specs.Bundling.{version_of, bundle_of_log}

-- the bundle of a configuration and of a trace
abbrev bundle_of : ConfigValue → ℕ → List ℕ → List ℕ → BundleValue
bundle_of config version words steps =
    record { version = version; geometry = config.geometry; config = words; trace = steps }

-- its bytes have these parts
has_parts : (config : ConfigValue) (log : LogValue) (version : ℕ) (words steps bytes : List ℕ) → IsConfig config → IsVersion version
    → config.geometry.kind ≡ kind_of_version version → ConfigOf config.geometry (length words) (words_in words) (Ok config)
    → ((v : ℕ) → TraceText steps v (log_trace log)) → bytes ≡ bundle_bytes (bundle_of config version words steps)
    → HasParts config.geometry bytes config (log_trace log)
has_parts config log version words steps bytes is_config is_version kind reads trace is =
    let few = word_count-lt config.geometry is_config.geometry in
    let long = reads.0 in
    let text = trace version in
    let short = text.0 in
    record {
      bundle = bundle_of config version words steps;
      is_bundle = record {
        text = record {
          bundle = record {
            version = is_version;
            kind = kind;
            geometry = is_config.geometry;
            config = omega arith;
            trace = omega arith;
          };
          text = is;
        };
        geometry = refl;
      };
      has_config = reads;
      trace = text;
    }

-- so have those that are printed, where memory may be wanting
pub parts_if : {A E : Type 0} (items : A → List ℕ) (r : Result A E) (config : ConfigValue) (log : LogValue) (g : GeometryValue) (version : ℕ)
    (words steps said_words said_steps : List ℕ) → IsConfig config → g ≡ config.geometry → IsVersion version
    → (kind : CellKind) → kind ≡ g.kind → kind ≡ kind_of_version version → said_words ≡ words → said_steps ≡ steps
    → ConfigOf config.geometry (length words) (words_in words) (Ok config) → ((v : ℕ) → TraceText steps v (log_trace log))
    → IfOk r (λ a. items a ≡ bundle_bytes (record { version = version; geometry = g; config = said_words; trace = said_steps }))
    → IfOk r (λ a. HasParts config.geometry (items a) config (log_trace log))
parts_if items (Ok a) config log g version words steps said_words said_steps is_config same is_version kind of_g is_kind same_words same_steps reads trace h =
    let of : GeometryValue → List ℕ → List ℕ → BundleValue =
    λ f w s. record { version = version; geometry = f; config = w; trace = s } in
    has_parts config log version words steps (items a) is_config is_version
    (ap (λ (f : GeometryValue). f.kind) (sym same) ∙ sym of_g ∙ is_kind)
    reads trace
    (h ∙ ap (λ f. bundle_bytes (of f said_words said_steps)) same
    ∙ ap (λ w. bundle_bytes (of config.geometry w said_steps)) same_words
    ∙ ap (λ s. bundle_bytes (of config.geometry words s)) same_steps)
parts_if items (Err e) config log g version words steps said_words said_steps is_config same is_version kind of_g is_kind same_words same_steps reads trace h = h

-- they are the bytes of the bundle of the configuration and of the log
exact_bytes : (config : ConfigValue) (log : LogValue) (g : GeometryValue) (kind : CellKind) (version : ℕ) (words steps bytes : List ℕ)
    → g ≡ config.geometry → kind ≡ g.kind → version ≡ version_of kind → words ≡ bytes_of config.words → steps ≡ trace_text (log_trace log)
    → bytes ≡ bundle_bytes (record { version = version; geometry = g; config = words; trace = steps }) → bytes ≡ bundle_of_log config log
exact_bytes config log g kind version words steps bytes same of_g is_version same_words same_steps is =
    let of : ℕ → GeometryValue → List ℕ → List ℕ → BundleValue =
    λ v f w s. record { version = v; geometry = f; config = w; trace = s } in
    let own : version ≡ version_of config.geometry.kind =
    is_version ∙ ap version_of (of_g ∙ ap (λ (f : GeometryValue). f.kind) same) in
    is ∙ ap (λ v. bundle_bytes (of v g words steps)) own
    ∙ ap (λ f. bundle_bytes (of (version_of config.geometry.kind) f words steps)) same
    ∙ ap (λ w. bundle_bytes (of (version_of config.geometry.kind) config.geometry w steps)) same_words
    ∙ ap (λ s. bundle_bytes (of (version_of config.geometry.kind) config.geometry (bytes_of config.words) s)) same_steps

-- so are those that are printed, where memory may be wanting
pub exact_if : {A E : Type 0} (items : A → List ℕ) (r : Result A E) (config : ConfigValue) (log : LogValue) (g : GeometryValue) (kind : CellKind)
    (version : ℕ) (words steps : List ℕ) → g ≡ config.geometry → kind ≡ g.kind → version ≡ version_of kind → words ≡ bytes_of config.words
    → steps ≡ trace_text (log_trace log)
    → IfOk r (λ a. items a ≡ bundle_bytes (record { version = version; geometry = g; config = words; trace = steps }))
    → IfOk r (λ a. items a ≡ bundle_of_log config log)
exact_if items (Ok a) config log g kind version words steps same of_g is_version same_words same_steps h =
    exact_bytes config log g kind version words steps (items a) same of_g is_version same_words same_steps h
exact_if items (Err e) config log g kind version words steps same of_g is_version same_words same_steps h = h
