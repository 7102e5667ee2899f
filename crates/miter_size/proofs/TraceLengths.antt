-- The trace of a log over a miter is short.
use Rattle.std.proofs.Common.{◌≡◌, ℕ, ◌+◌, List, [], ◌∷◌, length, refl, sym, ap, subst, arith}
use Rattle.std.proofs.lemmas.List.{length-map}
use Rattle.std.proofs.lemmas.List.Sums.{sum_by-cons, sum_by-append}
use Rattle.clause_defs.specs.Clauses.{Lits, Has, IsClause}
use Rattle.clause_defs.specs.Formulas.{Formula}
use Rattle.clause_defs.specs.Traces.{IsTrace}
use Rattle.net_defs.specs.Networks.{Network}
use Rattle.fabric_defs.specs.Configurations.{ConfigValue}
use Rattle.cell_defs.specs.Cells.{AreCells}
use Rattle.cell_laws.proofs.CellsLemmas.{cells_of_config}
use Rattle.miter_laws.proofs.Ranges.{clauses-IsClause}
use Rattle.log_defs.specs.Logs.{Derived, words_of, Words, LogValue}
use Rattle.log_defs.specs.LogTraces.{place_with, original_entry, derived_entry, original_entries, derived_entries, trace_of}
use Rattle.log_laws.proofs.LogTraces.{log_trace as log_trace-IsTrace, few_clauses}
use Rattle.miter_size.specs.Sizes.{original_words, OriginalWords, entry_words, TraceWords, IsMiterLog, log_trace, HasShortTrace}
use Rattle.miter_size.proofs.MiterWords.{words-miter}
use Rattle.miter_size.proofs.PrintedLengths.{printed-le}

-- the words of the formula's clauses
words-originals : (i : ℕ) (f : List Lits) → TraceWords (original_entries i f) ≡ OriginalWords f
words-originals i [] = refl
words-originals i (c ∷ cs) =
    omega (
      arith,
      sum_by-cons entry_words (original_entry i c) (original_entries (i + 1) cs),
      sum_by-cons original_words c cs,
      words-originals (i + 1) cs,
    )

-- the words of the derived clauses
words-derived : (i : ℕ) (ds : List Derived) → TraceWords (derived_entries i ds) ≡ Words ds
words-derived i [] = refl
words-derived i (d ∷ ds) =
    omega (
      arith,
      sum_by-cons entry_words (derived_entry i d) (derived_entries (i + 1) ds),
      sum_by-cons words_of d ds,
      length-map d.antecedents place_with,
      words-derived (i + 1) ds,
    )

-- the words of the trace of a log are those of both
pub words-trace_of : (f : List Lits) (ds : List Derived) → TraceWords (trace_of f ds) ≡ OriginalWords f + Words ds
words-trace_of f ds =
    omega (
      arith,
      sum_by-append entry_words (original_entries 1 f) (derived_entries (length f + 1) ds),
      words-originals 1 f,
      words-derived (length f + 1) ds,
    )

-- the clauses of a log over a miter are clauses
originals-IsClause : (net : Network) (config : ConfigValue) (log : LogValue) → (h : IsMiterLog net config log)
    → (c : Lits) → Has log.originals.clauses c → IsClause c
originals-IsClause net config log h =
    let cells = cells_of_config config h.cells h.is_config h.are_cells.sources in
    subst (λ (f : Formula). (c : Lits) → Has f.clauses c → IsClause c) (sym h.over_miter)
    (clauses-IsClause net h.cells h.is_net cells.geometry h.are_cells.cone.count)

-- the trace of a log over a miter is within the limits
pub short-trace : (net : Network) (config : ConfigValue) (log : LogValue) → IsMiterLog net config log → HasShortTrace log
short-trace net config log h =
    let is_trace : IsTrace (log_trace log) = log_trace-IsTrace log h.is_log (originals-IsClause net config log h) in
    record {
      trace = is_trace;
      few = few_clauses log h.is_log;
      text =
          let cells : AreCells h.cells = cells_of_config config h.cells h.is_config h.are_cells.sources in
          let same = ap (λ (f : Formula). OriginalWords f.clauses) h.over_miter in
          omega (
            arith,
            printed-le (log_trace log) is_trace,
            words-trace_of log.originals.clauses log.derived,
            same,
            words-miter net h.cells h.is_net cells,
            h.few_words,
          );
    }
