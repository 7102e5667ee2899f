-- The printed text of a trace is the text of that trace.
use Rattle.std.proofs.Common.{◌≡◌, ℕ, ◌<◌, ◌≤◌, suc, inl, inr, List, [], ◌∷◌, ◌++◌, length, map, slice_get, Option, Some, None, decimal, refl, sym, ap, subst, arith}
use Rattle.std.specs.List.{flat_map}
use Rattle.clause_defs.specs.declared.verdict.TheConstants.{MAX_INDEX}
use Rattle.clause_defs.specs.Literals.{Literal, IsLiteral}
use Rattle.clause_defs.specs.Clauses.{Lits, Has}
use Rattle.clause_defs.specs.Compaction.{AllStated}
use Rattle.clause_defs.specs.Traces.{Entry, IsTrace, literals_in, stated_of, antecedents_of, index_of, index_at}
use Rattle.clause_laws.proofs.ClauseLemmas.{same_refl}
use Rattle.sat_text_defs.specs.declared.limits.TheConstants.{MAX_TRACE_BYTES}
use Rattle.sat_text_defs.specs.Words.{zero_word, sign_word, literal_word}
use Rattle.sat_text_defs.specs.TraceText.{Spelled, stated_words, clause_words, SameStated, AreSpelled, TraceText}
use Rattle.sat_text_defs.specs.Printed.{number_text, literal_text, stated_text, trace_line, trace_text}
use Rattle.sat_print_laws.proofs.WordBytes.{IsWord-decimal, IsWord-literal, IsWord-zero, IsWord-sign}
use Rattle.sat_print_laws.proofs.PrintedWords.{Prints, Prints-nothing, Prints-append, Prints-blank, Prints-line_feed, Prints-map, Prints-flat_map, Prints-all}

-- a clause of the trace t as it is printed
abbrev pub printed : List Entry → Entry → Spelled
printed t e = record { index = e.index; stated = e.stated; antecedents = map (index_at t) e.antecedents }

-- the clauses es of the trace t as they are printed
abbrev pub printed_all : List Entry → List Entry → List Spelled
printed_all t es = map (printed t) es

-- the numbers of the clause e of the trace t can be printed
pub record CanPrint (t : List Entry) (e : Entry) : Type 0 where
  pub index : e.index ≤ MAX_INDEX
  pub literals : (l : Literal) → Has (literals_in e.stated) l → IsLiteral l
  pub antecedents : (p : ℕ) → Has e.antecedents p → index_at t p ≤ MAX_INDEX

-- ---- a clause

-- the text of an index has its word
number_prints : (n : ℕ) → n ≤ MAX_INDEX → Prints (number_text n) (decimal n ∷ [])
number_prints n h = Prints-blank (decimal n) (IsWord-decimal n (omega arith))

-- the text of the literals with 0, or of the sign, has their words
stated_prints : (o : Option Lits) → ((l : Literal) → Has (literals_in o) l → IsLiteral l) → Prints (stated_text o) (stated_words o)
stated_prints None h = Prints-blank sign_word IsWord-sign
stated_prints (Some ls) h =
    Prints-append (flat_map literal_text ls) (48 ∷ 32 ∷ []) (map literal_word ls) (zero_word ∷ [])
    (Prints-map literal_text literal_word ls (λ l k. Prints-blank (literal_word l) (IsWord-literal l (h l k))))
    (Prints-blank zero_word IsWord-zero)

-- the texts of the antecedents' indices have their words
named_print : (name : ℕ → ℕ) (ps : List ℕ) → ((p : ℕ) → Has ps p → name p ≤ MAX_INDEX) → Prints (flat_map (λ p. number_text (name p)) ps) (map decimal (map name ps))
named_print name [] h = Prints-nothing
named_print name (p ∷ ps) h =
    Prints-append (number_text (name p)) (flat_map (λ q. number_text (name q)) ps) (decimal (name p) ∷ []) (map decimal (map name ps))
    (number_prints (name p) (h p (inl refl))) (named_print name ps (λ q k. h q (inr k)))

-- a clause's line has the clause's words
pub line_prints : (t : List Entry) (e : Entry) → CanPrint t e → Prints (trace_line t e) (clause_words (printed t e))
line_prints t e h =
    let named = flat_map (λ p. number_text (index_at t p)) e.antecedents in
    let indices = map decimal (map (index_at t) e.antecedents) in
    Prints-append (number_text e.index) (stated_text e.stated ++ (named ++ (48 ∷ 10 ∷ []))) (decimal e.index ∷ []) (stated_words e.stated ++ (indices ++ (zero_word ∷ [])))
    (number_prints e.index h.index)
    (Prints-append (stated_text e.stated) (named ++ (48 ∷ 10 ∷ [])) (stated_words e.stated) (indices ++ (zero_word ∷ []))
    (stated_prints e.stated h.literals)
    (Prints-append named (48 ∷ 10 ∷ []) indices (zero_word ∷ []) (named_print (index_at t) e.antecedents h.antecedents) (Prints-line_feed zero_word IsWord-zero)))

-- ---- the trace

-- where an element stands
pub at_place : (es : List Entry) (e : Entry) → Has es e → (k : ℕ) × (k < length es) × (slice_get es k ≡ Some e)
at_place [] e h = absurd h
at_place (d ∷ es) e (inl same) = (0, omega arith, ap Some same)
at_place (d ∷ es) e (inr h) = let more = at_place es e h in let below : more.0 < length es = more.1 in (suc more.0, omega arith, more.2)

-- the clauses of a trace can be printed
pub can_print : (t : List Entry) → IsTrace t → (e : Entry) → Has t e → CanPrint t e
can_print t h e i =
    let place = at_place t e i in
    let within : place.0 < length t = place.1 in
    record {
      index = subst (λ (n : ℕ). n ≤ MAX_INDEX) (ap index_of place.2) (h.high place.0 place.1);
      literals = subst (λ (ls : Lits). (l : Literal) → Has ls l → IsLiteral l) (ap (λ o. literals_in (stated_of o)) place.2) (h.clauses place.0 place.1).literals;
      antecedents = λ p k.
          let below : p < place.0 = h.earlier place.0 p (subst (λ (ps : List ℕ). Has ps p) (sym (ap antecedents_of place.2)) k) in
          h.high p (omega arith);
    }

-- the words of all printed clauses are those of each
flat_map-printed : (t es : List Entry) → flat_map clause_words (printed_all t es) ≡ flat_map (λ e. clause_words (printed t e)) es
flat_map-printed t [] = refl
flat_map-printed t (e ∷ es) = ap (λ (ws : List (List ℕ)). clause_words (printed t e) ++ ws) (flat_map-printed t es)

-- the printed text has the words of the trace's clauses
pub trace_prints : (t : List Entry) → IsTrace t → Prints (trace_text t) (flat_map clause_words (printed_all t t))
trace_prints t h =
    let all : Prints (trace_text t) (flat_map (λ e. clause_words (printed t e)) t) = Prints-flat_map (trace_line t) (λ e. clause_words (printed t e)) t (λ e i. line_prints t e (can_print t h e i)) in
    subst (Prints (trace_text t)) (sym (flat_map-printed t t)) all

-- what is stated is the same as itself
same_stated : (o : Option Lits) → SameStated o o
same_stated None = tt
same_stated (Some c) = same_refl c

-- clauses are spelled as they are printed
pub AreSpelled-printed : (t es : List Entry) → AreSpelled t (printed_all t es) es
AreSpelled-printed t [] = tt
AreSpelled-printed t (e ∷ es) = (record { index = refl; stated = same_stated e.stated; antecedents = refl }, AreSpelled-printed t es)

-- the printed text of a trace is the text of that trace, in a version that may have its signs
pub printed-text : (v : ℕ) (t : List Entry) → IsTrace t → (v ≡ 1 → AllStated t) → length (trace_text t) ≤ MAX_TRACE_BYTES → TraceText (trace_text t) v t
printed-text v t h signs short = (
  short,
  record {
    trace = h;
    signs = signs;
    spelled = printed_all t t;
    same_clauses = AreSpelled-printed t t;
    same_words = Prints-all 0 (trace_text t) (flat_map clause_words (printed_all t t)) (trace_prints t h);
  },
)
