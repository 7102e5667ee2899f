-- The reasons of refusals, as words. No words say that memory was wanting, and a refutation is no refusal.
use Rattle.std.specs.Prelude.{◌≢◌, ℕ, List, [], codes}
use Rattle.clause_defs.specs.declared.verdict.ChainError.TheVariants.{NoClash, ManyClash, Other}
use Rattle.clause_defs.specs.declared.verdict.Verdict.{Verdict as Shown}
use Rattle.clause_defs.specs.declared.verdict.Verdict.TheVariants.{Refutes, NotOriginal, Chain, TooWide, NotEmptyEnd}
use Rattle.sat_text_defs.specs.declared.errors.TraceError.{TraceError}
use Rattle.sat_text_defs.specs.declared.errors.TraceError.TheVariants as trace
use Rattle.fabric_defs.specs.declared.faults.ConfigError.{ConfigError}
use Rattle.fabric_defs.specs.declared.faults.ConfigError.TheVariants as config
use Rattle.bundle_defs.specs.declared.faults.BundleError.{BundleError}
use Rattle.bundle_defs.specs.declared.faults.BundleError.TheVariants as bundle
use Rattle.verify_defs.specs.declared.refusal.Refusal.{Refusal}
use Rattle.verify_defs.specs.declared.refusal.Refusal.TheVariants.{Pads, Bundle, OtherFabric, Config, Trace, Verdict, NoMemory}
use Rattle.refusal_text.specs.Words.{and_word, and_number}

-- the fault of a trace
abbrev pub trace_fault : TraceError → List ℕ
trace_fault trace.TooLong = codes "too-long"
trace_fault (trace.Syntax at) = and_number (codes "syntax") at
trace_fault (trace.Repeated index) = and_number (codes "repeated") index
trace_fault (trace.Unknown index antecedent) = and_number (and_number (codes "unknown") index) antecedent
trace_fault trace.NoMemory = []

-- the fault of a bundle
abbrev pub bundle_fault : BundleError → List ℕ
bundle_fault bundle.Magic = codes "magic"
bundle_fault bundle.Lengths = codes "lengths"
bundle_fault (bundle.Version found) = and_number (codes "version") found
bundle_fault bundle.Geometry = codes "geometry"
bundle_fault bundle.Digest = codes "digest"

-- the fault of a configuration
abbrev pub config_fault : ConfigError → List ℕ
config_fault (config.Length want found) = and_number (and_number (codes "length") want) found
config_fault (config.Selector at) = and_number (codes "selector") at
config_fault config.NoMemory = []

-- what a trace shows that refutes nothing
abbrev pub verdict_reason : Shown → List ℕ
verdict_reason Refutes = []
verdict_reason (NotOriginal clause) = and_number (codes "not-original") clause
verdict_reason (Chain (NoClash clause step)) = and_number (and_number (codes "no-clash") clause) step
verdict_reason (Chain (ManyClash clause step)) = and_number (and_number (codes "many-clash") clause) step
verdict_reason (Chain (Other clause)) = and_number (codes "other-clause") clause
verdict_reason (TooWide clause) = and_number (codes "too-wide") clause
verdict_reason NotEmptyEnd = codes "not-empty-end"

-- why a bundle isn't accepted
abbrev pub reason : Refusal → List ℕ
reason Pads = codes "pads"
reason (Bundle error) = and_word (codes "bundle") (bundle_fault error)
reason OtherFabric = codes "other-fabric"
reason (Config error) = and_word (codes "config") (config_fault error)
reason (Trace error) = and_word (codes "trace") (trace_fault error)
reason (Verdict verdict) = verdict_reason verdict
reason NoMemory = []

-- there is a reason: memory wasn't wanting, and the trace refutes nothing
abbrev pub HasReason : Refusal → Type 0
HasReason Pads = Unit {0}
HasReason (Bundle error) = Unit {0}
HasReason OtherFabric = Unit {0}
HasReason (Config error) = error ≢ config.NoMemory
HasReason (Trace error) = error ≢ trace.NoMemory
HasReason (Verdict verdict) = verdict ≢ Refutes
HasReason NoMemory = ⊥
