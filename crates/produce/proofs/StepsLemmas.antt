-- The text of the trace that a log is.
use Rattle.std.proofs.Common.{◌≡◌, ℕ, List, Result, Ok, Err, IfOk, sym, ap, subst, ◌∙◌, arith}
use Rattle.clause_defs.specs.Clauses.{Lits}
use Rattle.clause_defs.specs.Compaction.{AllStated}
use Rattle.clause_defs.specs.Traces.{Entry}
use Rattle.log_defs.specs.Logs.{Derived, LogValue}
use Rattle.log_defs.specs.LogTraces.{trace_of}
use Rattle.log_laws.proofs.TraceOfLemmas.{length-trace_of, stated-trace_of}
use Rattle.sat_text_defs.specs.Printed.{trace_text}
use Rattle.sat_text_defs.specs.TraceText.{TraceText}
use Rattle.sat_print_laws.proofs.PrintedTraces.{printed-text}
use Rattle.miter_size.specs.Sizes.{log_trace, HasShortTrace}

-- no clause has the sign
all_stated : (f : List Lits) (ds : List Derived) → AllStated (trace_of f ds)
all_stated f ds k lt compact = let e = stated-trace_of f ds k (omega (arith, length-trace_of f ds)) in cc

-- what is printed of a log reads again, in each version
reads_again : (log : LogValue) (text : List ℕ) → HasShortTrace log → text ≡ trace_text (log_trace log)
    → (v : ℕ) → TraceText text v (log_trace log)
reads_again log text short is v =
    subst (λ b. TraceText b v (log_trace log)) (sym is)
    (printed-text v (log_trace log) short.trace (λ one. all_stated log.originals.clauses log.derived) short.text)

-- so it is where memory may be wanting
pub reads_if : {A E : Type 0} (items : A → List ℕ) (r : Result A E) (log : LogValue) (steps : List Entry) → HasShortTrace log
    → steps ≡ log_trace log → IfOk r (λ a. items a ≡ trace_text steps)
    → IfOk r (λ a. (v : ℕ) → TraceText (items a) v (log_trace log))
reads_if items (Ok a) log steps short is h = reads_again log (items a) short (h ∙ ap trace_text is)
reads_if items (Err e) log steps short is h = h
