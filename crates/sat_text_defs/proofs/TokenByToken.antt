-- How the reading of a trace goes on with one token more.
use Rattle.std.proofs.Common.{◌≡◌, ℕ, List, ◌∷◌, Result, Ok, Err, refl, ap, ◌∙◌}
use Rattle.clause_defs.specs.Traces.{Entry}
use Rattle.text_defs.specs.Steps.{◌>>=◌}
use Rattle.text_defs.specs.Tokens.{Token}
use Rattle.sat_text_defs.specs.declared.errors.TraceError.{TraceError}
use Rattle.sat_text_defs.specs.TraceText.{Spelled}
use Rattle.sat_text_defs.specs.TraceReading.{Part, start, Next, goes_on, is_whole, step, judged, taken, trace_from}

-- what is read behind one more token
abbrev behind : ℕ → ℕ → List Token → List Entry → Next → Result (List Entry) TraceError
behind v end ws t n = taken t n >>= λ r. trace_from v end ws r.0 r.1

-- behind a whole clause nothing of the next one was read
abbrev at_start : List Entry → List Entry × Part
at_start u = (u, start)

-- reading on behind a judged clause is reading on with the trace that it left, at the start of a clause
closed : (v end : ℕ) (ws : List Token) (r : Result (List Entry) TraceError)
    → ((r >>= λ u. Ok (at_start u)) >>= λ q. trace_from v end ws q.0 q.1) ≡ (r >>= λ u. trace_from v end ws u start)
closed v end ws (Ok u) = refl
closed v end ws (Err f) = refl

-- a token with which the clause goes on
pub trace_from-goes_on : (v end : ℕ) (w : Token) (ws : List Token) (t : List Entry) (p q : Part) → step v p w ≡ Ok (goes_on q)
    → trace_from v end (w ∷ ws) t p ≡ trace_from v end ws t q
trace_from-goes_on v end w ws t p q e = ap (λ (r : Result Next TraceError). r >>= behind v end ws t) e

-- a token with which the clause is whole, and is judged
pub trace_from-whole : (v end : ℕ) (w : Token) (ws : List Token) (t : List Entry) (p : Part) (s : Spelled) → step v p w ≡ Ok (is_whole s)
    → trace_from v end (w ∷ ws) t p ≡ (judged t s >>= λ u. trace_from v end ws u start)
trace_from-whole v end w ws t p s e =
    ap (λ (r : Result Next TraceError). r >>= behind v end ws t) e ∙ closed v end ws (judged t s)

-- a token that can't stand
pub trace_from-fault : (v end : ℕ) (w : Token) (ws : List Token) (t : List Entry) (p : Part) (f : TraceError) → step v p w ≡ Err f
    → trace_from v end (w ∷ ws) t p ≡ Err f
trace_from-fault v end w ws t p f e = ap (λ (r : Result Next TraceError). r >>= behind v end ws t) e
