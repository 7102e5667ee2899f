-- The trace of a text, or its fault, computed from the tokens from left to right. (TraceCheck, with the sign `*`)
use Rattle.std.specs.Prelude.{ℕ, Bool, not, ◌&&◌, ◌==◌, nat_lt, List, [], ◌∷◌, ◌++◌, length, map, Option, is_some, ok_or, option_map, Result, Ok, Err, None, Some, if◌then◌else◌}
use Rattle.clause_defs.specs.Clauses.{Lits, clause_of}
use Rattle.clause_defs.specs.Traces.{Entry, place_of}
use Rattle.text_defs.specs.Steps.{◌>>=◌}
use Rattle.text_defs.specs.Tokens.{Token}
use Rattle.sat_text_defs.specs.declared.limits.TheConstants.{MAX_TRACE_BYTES}
use Rattle.sat_text_defs.specs.declared.errors.TraceError.{TraceError}
use Rattle.sat_text_defs.specs.declared.errors.TraceError.TheVariants.{TooLong, Syntax, Repeated, Unknown}
use Rattle.sat_text_defs.specs.TraceText.{Spelled, tokens_of}
use Rattle.sat_text_defs.specs.Spellings.{is_zero, is_sign, index_in, literal_in}

-- ---- the tokens of a clause, one by one

-- what was read of a clause so far
pub data Part : Type 0 where
  -- nothing
  start : Part
  -- its index
  behind_index : ℕ → Part
  -- its index and some of its literals
  among_lits : ℕ → Lits → Part
  -- its index and the sign
  behind_sign : ℕ → Part
  -- its index, its literals with 0 or the sign, and some of its antecedents
  among_antecedents : ℕ → Option Lits → List ℕ → Part

-- what a token makes of a clause
pub data Next : Type 0 where
  -- it goes on
  goes_on : Part → Next
  -- it is whole
  is_whole : Spelled → Next

-- the sign can stand in a text of version v
abbrev pub has_sign : ℕ → Bool
has_sign v = not (v == 1)

-- the token as an index or an antecedent
abbrev pub index_from : Token → Result ℕ TraceError
index_from w = ok_or (index_in w.bytes) (Syntax w.at)

-- the token as a literal of a clause that has these, or as the 0 behind them
abbrev pub literal_step : ℕ → Lits → Token → Result Next TraceError
literal_step i ls w =
    if is_zero w.bytes
    then Ok (goes_on (among_antecedents i (Some ls) []))
    else (ok_or (literal_in w.bytes) (Syntax w.at) >>= λ l. Ok (goes_on (among_lits i (ls ++ l ∷ []))))

-- what one more token makes of a clause of which this was read, in a text of version v
abbrev pub step : ℕ → Part → Token → Result Next TraceError
step v start w = index_from w >>= λ i. Ok (goes_on (behind_index i))
step v (behind_index i) w =
    if has_sign v && is_sign w.bytes then Ok (goes_on (behind_sign i)) else literal_step i [] w
step v (among_lits i ls) w = literal_step i ls w
step v (behind_sign i) w = index_from w >>= λ x. Ok (goes_on (among_antecedents i None (x ∷ [])))
step v (among_antecedents i stated xs) w =
    if is_zero w.bytes
    then Ok (is_whole (record { index = i; stated = stated; antecedents = xs }))
    else (index_from w >>= λ x. Ok (goes_on (among_antecedents i stated (xs ++ x ∷ []))))

-- ---- the judgement of a whole clause

-- the places of these indices behind those found so far, or the first index that no clause has
abbrev pub places_from : List ℕ → List ℕ → List ℕ → Result (List ℕ) ℕ
places_from indices ps [] = Ok ps
places_from indices ps (x ∷ xs) = ok_or (place_of indices x) x >>= λ p. places_from indices (ps ++ p ∷ []) xs

-- the indices of the clauses
abbrev pub indices_of : List Entry → List ℕ
indices_of t = map (λ (e : Entry). e.index) t

-- the clause of a trace that is spelled so, where its antecedents stand at these places
abbrev pub entry_of : Spelled → List ℕ → Entry
entry_of s ps = record { index = s.index; stated = option_map clause_of s.stated; antecedents = ps }

-- the trace with one more clause, whose antecedents stand at these places
abbrev pub with_places : List Entry → Spelled → Result (List ℕ) ℕ → Result (List Entry) TraceError
with_places t s (Err x) = Err (Unknown s.index x)
with_places t s (Ok ps) = Ok (t ++ entry_of s ps ∷ [])

-- the trace with one more clause, which its index and its antecedents must allow
abbrev pub judged : List Entry → Spelled → Result (List Entry) TraceError
judged t s =
    if is_some (place_of (indices_of t) s.index)
    then Err (Repeated s.index)
    else with_places t s (places_from (indices_of t) [] s.antecedents)

-- ---- the whole text

-- the trace and what was read of the clause behind it, where a clause that is whole is judged
abbrev pub taken : List Entry → Next → Result (List Entry × Part) TraceError
taken t (goes_on p) = Ok (t, p)
taken t (is_whole s) = judged t s >>= λ u. Ok (u, start)

-- the trace of which the clauses t and this part of the next one were read, and these tokens are left
abbrev pub trace_from : ℕ → ℕ → List Token → List Entry → Part → Result (List Entry) TraceError
trace_from v end [] t start = Ok t
trace_from v end [] t p = Err (Syntax end)
trace_from v end (w ∷ ws) t p = step v p w >>= λ n. (taken t n >>= λ r. trace_from v end ws r.0 r.1)

-- the trace of a text of version v, or its fault
abbrev pub trace_in : ℕ → List ℕ → Result (List Entry) TraceError
trace_in v text =
    if nat_lt MAX_TRACE_BYTES (length text)
    then Err TooLong
    else trace_from v (length text) (tokens_of text) [] start
