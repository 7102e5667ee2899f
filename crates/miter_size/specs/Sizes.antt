-- How many words a trace has, and what fits the limits of traces and bundles. (The words of TraceCheck)
use Rattle.std.specs.Prelude.{◌≡◌, ℕ, ◌+◌, ◌<◌, ◌≤◌, ◌^◌, List, length, sum_by, Option, Some, None}
use Rattle.clause_defs.specs.declared.verdict.TheConstants.{MAX_INDEX}
use Rattle.clause_defs.specs.Clauses.{Lits}
use Rattle.clause_defs.specs.Traces.{Entry, IsTrace}
use Rattle.sat_text_defs.specs.declared.limits.TheConstants.{MAX_TRACE_BYTES}
use Rattle.sat_text_defs.specs.Printed.{trace_text}
use Rattle.net_defs.specs.Networks.{Network}
use Rattle.net_defs.specs.Nets.{IsNet}
use Rattle.fabric_defs.specs.Configurations.{ConfigValue, IsConfig}
use Rattle.fabric_defs.specs.Spelling.{bytes_of}
use Rattle.cell_defs.specs.Cells.{CellsValue}
use Rattle.cell_defs.specs.Sources.{AreCellsOf}
use Rattle.miter_defs.specs.Miters.{Miter}
use Rattle.bundle_defs.specs.declared.limits.TheConstants.{MAX_BUNDLE_BYTES}
use Rattle.bundle_defs.specs.Bundles.{BundleValue, bundle_bytes}
use Rattle.log_defs.specs.Logs.{LogValue, Words, IsLog}
use Rattle.log_defs.specs.LogTraces.{trace_of}
use Rattle.miter_size.specs.declared.limits.TheConstants.{MAX_BUDGET}

-- the words of a clause of a formula in a trace: its index, its literals, a 0, and the 0 behind no antecedents
abbrev pub original_words : Lits → ℕ
original_words c = length c + 3

-- the words of all clauses of a formula
abbrev pub OriginalWords : List Lits → ℕ
OriginalWords f = sum_by original_words f

-- the words of what is stated: the literals and a 0, or the sign
abbrev pub stated_size : Option Lits → ℕ
stated_size None = 1
stated_size (Some c) = length c + 1

-- the words of a clause of a trace: its index, what is stated, its antecedents and a 0
abbrev pub entry_words : Entry → ℕ
entry_words e = stated_size e.stated + length e.antecedents + 2

-- the words of all clauses of a trace
abbrev pub TraceWords : List Entry → ℕ
TraceWords t = sum_by entry_words t

-- The log has the clauses of the miter of a net and the cells of a configuration, and its derived clauses have no
-- more words than the greatest budget.
pub record IsMiterLog (net : Network) (config : ConfigValue) (log : LogValue) : Type 0 where
  pub is_net : IsNet net
  pub is_config : IsConfig config
  pub cells : CellsValue
  pub are_cells : AreCellsOf config cells
  pub is_log : IsLog log
  pub over_miter : log.originals ≡ Miter net cells
  pub few_words : Words log.derived ≤ MAX_BUDGET

-- the trace of a log
abbrev pub log_trace : LogValue → List Entry
log_trace log = trace_of log.originals.clauses log.derived

-- the trace of the log is a trace with no index over the greatest one, and its text isn't too long
pub record HasShortTrace (log : LogValue) : Type 0 where
  pub trace : IsTrace (log_trace log)
  pub few : length log.originals.clauses + length log.derived ≤ MAX_INDEX
  pub text : length (trace_text (log_trace log)) ≤ MAX_TRACE_BYTES

-- a configuration and a trace, as the parts of a bundle
abbrev pub bundle_with : ℕ → ConfigValue → List ℕ → BundleValue
bundle_with version config trace = record {
  version = version;
  geometry = config.geometry;
  config = bytes_of config.words;
  trace = trace;
}

-- the parts of the bundle have lengths that four bytes can spell, and the whole isn't too long for a file
pub record BundleFits (version : ℕ) (config : ConfigValue) (trace : List ℕ) : Type 0 where
  pub config_part : length (bytes_of config.words) < 2 ^ 32
  pub trace_part : length trace < 2 ^ 32
  pub whole : length (bundle_bytes (bundle_with version config trace)) ≤ MAX_BUNDLE_BYTES
