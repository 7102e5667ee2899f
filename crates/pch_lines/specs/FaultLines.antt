-- The lines of faults, behind the words that stand in front. No line says that memory was wanting.
use Rattle.std.specs.Prelude.{ℕ, List, [], codes}
use Rattle.sat_text_defs.specs.declared.errors.CnfError.{CnfError}
use Rattle.sat_text_defs.specs.declared.errors.CnfError.TheVariants as cnf
use Rattle.sat_text_defs.specs.declared.errors.TraceError.{TraceError}
use Rattle.sat_text_defs.specs.declared.errors.TraceError.TheVariants as trace
use Rattle.blif_defs.specs.declared.error.BlifError.{BlifError}
use Rattle.blif_defs.specs.declared.error.BlifError.TheVariants as blif
use Rattle.net_defs.specs.declared.faults.NetError.{NetError}
use Rattle.net_defs.specs.declared.faults.NetError.TheVariants as network
use Rattle.net_defs.specs.declared.specification.SpecError.{SpecError}
use Rattle.net_defs.specs.declared.specification.SpecError.TheVariants as spec
use Rattle.fabric_defs.specs.declared.faults.ConfigError.{ConfigError}
use Rattle.fabric_defs.specs.declared.faults.ConfigError.TheVariants as config
use Rattle.bundle_defs.specs.declared.faults.BundleError.{BundleError}
use Rattle.bundle_defs.specs.declared.faults.BundleError.TheVariants as bundle
use Rattle.verify_defs.specs.declared.miter_error.MiterError.{MiterError}
use Rattle.verify_defs.specs.declared.miter_error.MiterError.TheVariants as miter
use Rattle.pch_lines.specs.Lines.{and_word, and_number, ended}

-- a word behind what stands in front, and the line is at its end
abbrev word_line : List ℕ → List ℕ → List ℕ
word_line front word = ended (and_word front word)

-- a word and a number
abbrev number_line : List ℕ → List ℕ → ℕ → List ℕ
number_line front word n = ended (and_number (and_word front word) n)

-- a word and two numbers
abbrev numbers_line : List ℕ → List ℕ → ℕ → ℕ → List ℕ
numbers_line front word m n = ended (and_number (and_number (and_word front word) m) n)

-- of a CNF
abbrev pub cnf_line : List ℕ → CnfError → List ℕ
cnf_line front cnf.TooLong = word_line front (codes "too-long")
cnf_line front (cnf.Syntax at) = number_line front (codes "syntax") at
cnf_line front (cnf.VarRange at) = number_line front (codes "var-range") at
cnf_line front (cnf.Count said found) = numbers_line front (codes "count") said found
cnf_line front cnf.NoMemory = []

-- of a trace
abbrev pub trace_line : List ℕ → TraceError → List ℕ
trace_line front trace.TooLong = word_line front (codes "too-long")
trace_line front (trace.Syntax at) = number_line front (codes "syntax") at
trace_line front (trace.Repeated index) = number_line front (codes "repeated") index
trace_line front (trace.Unknown index antecedent) = numbers_line front (codes "unknown") index antecedent
trace_line front trace.NoMemory = []

-- of the text of a design
abbrev pub text_line : List ℕ → BlifError → List ℕ
text_line front blif.TooLong = word_line front (codes "too-long")
text_line front (blif.Syntax line) = number_line front (codes "syntax") line
text_line front (blif.Unsupported line) = number_line front (codes "unsupported") line
text_line front (blif.Mixed line) = number_line front (codes "mixed") line
text_line front (blif.DoubleDriven line) = number_line front (codes "double-driven") line
text_line front (blif.RepeatedOutput line) = number_line front (codes "repeated-output") line
text_line front (blif.Limit line) = number_line front (codes "limit") line
text_line front blif.NoOutputs = word_line front (codes "no-outputs")
text_line front blif.NoMemory = []

-- of what the text of a design describes
abbrev pub network_line : List ℕ → NetError → List ℕ
network_line front (network.UndrivenPin node pin) = numbers_line front (codes "undriven-pin") node pin
network_line front (network.UndrivenOutput place) = number_line front (codes "undriven-output") place
network_line front (network.Cycle node) = number_line front (codes "cycle") node
network_line front network.NoMemory = []

-- of a text that specifies no network
abbrev pub spec_line : List ℕ → SpecError → List ℕ
spec_line front (spec.Text error) = text_line front error
spec_line front (spec.Network error) = network_line front error
spec_line front spec.NoMemory = []

-- of a bundle
abbrev pub bundle_line : List ℕ → BundleError → List ℕ
bundle_line front bundle.Magic = word_line front (codes "magic")
bundle_line front bundle.Lengths = word_line front (codes "lengths")
bundle_line front (bundle.Version found) = number_line front (codes "version") found
bundle_line front bundle.Geometry = word_line front (codes "geometry")
bundle_line front bundle.Digest = word_line front (codes "digest")

-- of a configuration: `config` stands before the fault
abbrev pub config_line : List ℕ → ConfigError → List ℕ
config_line front (config.Length want found) = numbers_line (and_word front (codes "config")) (codes "length") want found
config_line front (config.Selector at) = number_line (and_word front (codes "config")) (codes "selector") at
config_line front config.NoMemory = []

-- of a bundle that gives no miter
abbrev pub miter_error_line : List ℕ → MiterError → List ℕ
miter_error_line front (miter.Bundle error) = bundle_line front error
miter_error_line front (miter.Config error) = config_line front error
miter_error_line front miter.Pads = word_line front (codes "pads")
miter_error_line front miter.NoMemory = []
