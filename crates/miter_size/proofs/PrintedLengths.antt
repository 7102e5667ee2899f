-- How long the printed text of a trace is at most, by its words.
use Rattle.std.proofs.Common.{ℕ, ◌*◌, ◌≤◌, inl, inr, Bool, true, false, if◌then◌else◌, List, [], ◌∷◌, ◌++◌, length, Option, Some, None, decimal, refl, arith, length-append}
use Rattle.std.specs.List.{flat_map}
use Rattle.std.proofs.lemmas.Fmt.{length-decimal-le}
use Rattle.std.proofs.lemmas.List.Sums.{sum_by-cons}
use Rattle.clause_defs.specs.declared.verdict.TheConstants.{MAX_INDEX, MAX_VARIABLE}
use Rattle.clause_defs.specs.Literals.{Literal, IsLiteral}
use Rattle.clause_defs.specs.Clauses.{Lits, Has}
use Rattle.clause_defs.specs.Traces.{Entry, IsTrace, literals_in, index_at}
use Rattle.sat_text_defs.specs.Words.{literal_word}
use Rattle.sat_text_defs.specs.Printed.{number_text, literal_text, stated_text, trace_line, trace_text}
use Rattle.sat_print_laws.proofs.PrintedTraces.{CanPrint, can_print}
use Rattle.miter_size.specs.declared.limits.TheConstants.{MAX_WORD_BYTES}
use Rattle.miter_size.specs.Sizes.{stated_size, entry_words, TraceWords}

-- an index has ten digits at most, and a blank behind them
index-le : (n : ℕ) → n ≤ MAX_INDEX → length (number_text n) ≤ MAX_WORD_BYTES
index-le n h = omega (arith, length-append (decimal n) (32 ∷ []), length-decimal-le 10 n (omega arith) (omega arith) (omega arith))

-- a variable has eight digits at most, and its negation the sign before them
signed-le : (v : ℕ) (positive : Bool) → v ≤ MAX_VARIABLE → length (if positive then decimal v else (45 ∷ decimal v)) ≤ 9
signed-le v true h = omega (arith, length-decimal-le 8 v (omega arith) (omega arith) (omega arith))
signed-le v false h = omega (arith, length-decimal-le 8 v (omega arith) (omega arith) (omega arith))

-- so a literal with its blank is no longer than an index
literal-le : (l : Literal) → IsLiteral l → length (literal_text l) ≤ MAX_WORD_BYTES
literal-le l h = omega (arith, length-append (literal_word l) (32 ∷ []), signed-le l.variable l.positive h.1)

-- the literals of a clause
literals-le : (ls : Lits) → ((l : Literal) → Has ls l → IsLiteral l) → length (flat_map literal_text ls) ≤ MAX_WORD_BYTES * length ls
literals-le [] h = omega arith
literals-le (l ∷ ls) h =
    omega (
      arith,
      length-append (literal_text l) (flat_map literal_text ls),
      literal-le l (h l (inl refl)),
      literals-le ls (λ m k. h m (inr k)),
    )

-- the literals with the 0 behind them, or the sign
stated-le : (o : Option Lits) → ((l : Literal) → Has (literals_in o) l → IsLiteral l) → length (stated_text o) ≤ MAX_WORD_BYTES * stated_size o
stated-le None h = omega arith
stated-le (Some ls) h = omega (arith, length-append (flat_map literal_text ls) (48 ∷ 32 ∷ []), literals-le ls h)

-- the indices of antecedents
named-le : (name : ℕ → ℕ) (ps : List ℕ) → ((p : ℕ) → Has ps p → name p ≤ MAX_INDEX)
    → length (flat_map (λ p. number_text (name p)) ps) ≤ MAX_WORD_BYTES * length ps
named-le name [] h = omega arith
named-le name (p ∷ ps) h =
    omega (
      arith,
      length-append (number_text (name p)) (flat_map (λ q. number_text (name q)) ps),
      index-le (name p) (h p (inl refl)),
      named-le name ps (λ q k. h q (inr k)),
    )

-- the line of a clause
line-le : (t : List Entry) (e : Entry) → CanPrint t e → length (trace_line t e) ≤ MAX_WORD_BYTES * entry_words e
line-le t e h =
    let named : List ℕ = flat_map (λ p. number_text (index_at t p)) e.antecedents in
    omega (
      arith,
      length-append (number_text e.index) (stated_text e.stated ++ (named ++ (48 ∷ 10 ∷ []))),
      length-append (stated_text e.stated) (named ++ (48 ∷ 10 ∷ [])),
      length-append named (48 ∷ 10 ∷ []),
      index-le e.index h.index,
      stated-le e.stated h.literals,
      named-le (index_at t) e.antecedents h.antecedents,
    )

-- the lines of clauses
lines-le : (t es : List Entry) → ((e : Entry) → Has es e → CanPrint t e) → length (flat_map (trace_line t) es) ≤ MAX_WORD_BYTES * TraceWords es
lines-le t [] h = omega arith
lines-le t (e ∷ es) h =
    omega (
      arith,
      length-append (trace_line t e) (flat_map (trace_line t) es),
      line-le t e (h e (inl refl)),
      lines-le t es (λ d k. h d (inr k)),
      sum_by-cons entry_words e es,
    )

-- the text of a trace
pub printed-le : (t : List Entry) → IsTrace t → length (trace_text t) ≤ MAX_WORD_BYTES * TraceWords t
printed-le t h = lines-le t t (can_print t h)
