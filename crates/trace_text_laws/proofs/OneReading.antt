-- A text has one trace or one fault.
use Rattle.std.proofs.Common.{◌≡◌, ℕ, ◌⊎◌, inl, inr, List, Result, Ok, Err, refl}
use Rattle.clause_defs.specs.Traces.{Entry}
use Rattle.sat_text_defs.specs.declared.errors.TraceError.{TraceError}
use Rattle.sat_text_defs.specs.TraceText.{TraceText, TraceTextFault}
use Rattle.sat_text_defs.specs.TraceReading.{trace_in}
use Rattle.trace_text_laws.proofs.TracesRead.{trace_in-text, trace_in-fault}
use Rattle.trace_text_laws.proofs.TracesWritten.{text-trace_in}
use Rattle.trace_text_laws.proofs.FaultsRead.{fault-trace_in}

-- what is computed of a text is its trace or its fault
trace_or_fault_of : (text : List ℕ) (v : ℕ) (r : Result (List Entry) TraceError) → trace_in v text ≡ r
    → ((t : List Entry) × TraceText text v t) ⊎ ((f : TraceError) × TraceTextFault text v f)
trace_or_fault_of text v (Ok t) e = inl (t, trace_in-text text v t e)
trace_or_fault_of text v (Err f) e = inr (f, trace_in-fault text v f e)

-- a text has a trace or a fault
pub trace_or_fault : (text : List ℕ) (v : ℕ) → ((t : List Entry) × TraceText text v t) ⊎ ((f : TraceError) × TraceTextFault text v f)
trace_or_fault text v = trace_or_fault_of text v (trace_in v text) refl

-- it has one trace at most
pub only_trace : (text : List ℕ) (v : ℕ) (t u : List Entry) → TraceText text v t → TraceText text v u → t ≡ u
only_trace text v t u h k =
    let first : trace_in v text ≡ Ok t = text-trace_in text v t h in
    let second : trace_in v text ≡ Ok u = text-trace_in text v u k in
    cc

-- it has one fault at most
pub only_fault : (text : List ℕ) (v : ℕ) (f g : TraceError) → TraceTextFault text v f → TraceTextFault text v g → f ≡ g
only_fault text v f g h k =
    let first : trace_in v text ≡ Err f = fault-trace_in text v f h in
    let second : trace_in v text ≡ Err g = fault-trace_in text v g k in
    cc

-- it doesn't have both
pub never_both : (text : List ℕ) (v : ℕ) (t : List Entry) (f : TraceError) → TraceText text v t → TraceTextFault text v f → ⊥
never_both text v t f h k =
    let first : trace_in v text ≡ Ok t = text-trace_in text v t h in
    let second : trace_in v text ≡ Err f = fault-trace_in text v f k in
    cc
