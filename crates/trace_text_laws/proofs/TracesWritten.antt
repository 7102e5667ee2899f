-- The trace that a text spells is read of it.
use Rattle.std.proofs.Common.{◌≡◌, ◌≢◌, ℕ, zero, suc, ◌+◌, ◌<◌, ◌≤◌, inl, inr, List, [], ◌∷◌, ◌++◌, length, map, decimal, slice_get, Option, Some, None, is_some, option_map, ok_or, Result, Ok, Err, if◌then◌else◌, refl, sym, ap, subst, ◌∙◌, arith, length-append}
use Rattle.std.proofs.lemmas.Bool.{le-ltb}
use Rattle.std.proofs.lemmas.List.{append-nil, append_assoc}
use Rattle.std.specs.List.{flat_map}
use Rattle.clause_defs.specs.declared.verdict.TheConstants.{MAX_INDEX}
use Rattle.clause_defs.specs.Clauses.{Lits, Has, IsClause, clause_of}
use Rattle.clause_defs.specs.Traces.{Entry, IsTrace, IsCompactAt, stated_of, literals_in, antecedents_of, antecedents_at, index_of, index_at, place_of}
use Rattle.clause_defs.specs.Compaction.{AllStated}
use Rattle.clause_laws.proofs.ClauseLemmas.{same_sym, Has-map}
use Rattle.clause_laws.proofs.ClauseOf.{clause_of-ordered}
use Rattle.clause_laws.proofs.TraceLemmas.{AreWithin}
use Rattle.text_defs.specs.Steps.{◌>>=◌}
use Rattle.text_defs.specs.Tokens.{Token}
use Rattle.sat_text_defs.specs.declared.limits.TheConstants.{MAX_TRACE_BYTES}
use Rattle.sat_text_defs.specs.declared.errors.TraceError.{TraceError}
use Rattle.sat_text_defs.specs.declared.errors.TraceError.TheVariants.{Repeated}
use Rattle.sat_text_defs.specs.Words.{words_of, zero_word, sign_word, literal_word, SpellsIndex}
use Rattle.sat_text_defs.specs.TraceText.{Spelled, stated_words, clause_words, SameStated, IsSpelled, AreSpelled, IsSpelledClause, SpellsTrace, TraceText, tokens_of}
use Rattle.sat_text_defs.specs.TraceReading.{places_from, indices_of, entry_of, with_places, judged, Part, start, behind_index, among_lits, behind_sign, among_antecedents, goes_on, is_whole, trace_from, trace_in}
use Rattle.sat_text_defs.proofs.TokenByToken.{trace_from-goes_on, trace_from-whole}
use Rattle.trace_text_laws.proofs.Judgement.{place_from-found, place_from-none}
use Rattle.trace_text_laws.proofs.TokenSteps.{StepsTo, step-from}
use Rattle.trace_text_laws.proofs.OpenClauses.{AreLiterals, AreIndices}

-- ---- the tokens of one clause

-- the clause goes on with the token
goes : (v end : ℕ) (w : Token) (ts : List Token) (t : List Entry) (p q : Part) → StepsTo v p w.bytes (goes_on q)
    → trace_from v end (w ∷ ts) t p ≡ trace_from v end ts t q
goes v end w ts t p q h = trace_from-goes_on v end w ts t p q (step-from v p w (goes_on q) h)

-- tokens with these words behind them are read up to the antecedents of a clause with these literals
abbrev ReadsTo : ℕ → ℕ → List Token → List Entry → Part → List (List ℕ) → Part → Type 0
ReadsTo v end ts t p rest q = (us : List Token) × (words_of us ≡ rest) × (trace_from v end ts t p ≡ trace_from v end us t q)

-- the words of literals and 0 are read as them, behind those that were there
read_lits : (v end : ℕ) (ts : List Token) (t : List Entry) (i : ℕ) (before ls : Lits) (rest : List (List ℕ)) → AreLiterals ls
    → words_of ts ≡ map literal_word ls ++ (zero_word ∷ rest)
    → ReadsTo v end ts t (among_lits i before) rest (among_antecedents i (Some (before ++ ls)) [])
read_lits v end [] t i before [] rest h e = absurd (cc)
read_lits v end [] t i before (l ∷ ls) rest h e = absurd (cc)
read_lits v end (w ∷ ts) t i before [] rest h e =
    let word : w.bytes ≡ zero_word = cc in
    let behind : words_of ts ≡ rest = cc in (
      ts,
      behind,
      goes v end w ts t (among_lits i before) (among_antecedents i (Some before) []) (inl (word, refl))
          ∙ ap (λ (ls : Lits). trace_from v end ts t (among_antecedents i (Some ls) [])) (sym (append-nil before)),
    )
read_lits v end (w ∷ ts) t i before (l ∷ ls) rest h e =
    let word : w.bytes ≡ literal_word l = cc in
    let behind : words_of ts ≡ map literal_word ls ++ (zero_word ∷ rest) = cc in
    let more = read_lits v end ts t i (before ++ l ∷ []) ls rest (λ m k. h m (inr k)) behind in (
      more.0,
      more.1,
      goes v end w ts t (among_lits i before) (among_lits i (before ++ l ∷ [])) (inr (l, (h l (inl refl), word), refl))
          ∙ more.2
          ∙ ap (λ (ms : Lits). trace_from v end more.0 t (among_antecedents i (Some ms) [])) (append_assoc before (l ∷ []) ls),
    )

-- the literals and 0 of a clause whose index was read
read_stated : (v end : ℕ) (ts : List Token) (t : List Entry) (i : ℕ) (ls : Lits) (rest : List (List ℕ)) → AreLiterals ls
    → words_of ts ≡ map literal_word ls ++ (zero_word ∷ rest)
    → ReadsTo v end ts t (behind_index i) rest (among_antecedents i (Some ls) [])
read_stated v end [] t i [] rest h e = absurd (cc)
read_stated v end [] t i (l ∷ ls) rest h e = absurd (cc)
read_stated v end (w ∷ ts) t i [] rest h e =
    let word : w.bytes ≡ zero_word = cc in
    let behind : words_of ts ≡ rest = cc in
    (ts, behind, goes v end w ts t (behind_index i) (among_antecedents i (Some []) []) (inr (inl (word, refl))))
read_stated v end (w ∷ ts) t i (l ∷ ls) rest h e =
    let word : w.bytes ≡ literal_word l = cc in
    let behind : words_of ts ≡ map literal_word ls ++ (zero_word ∷ rest) = cc in
    let more = read_lits v end ts t i (l ∷ []) ls rest (λ m k. h m (inr k)) behind in
    (more.0, more.1, goes v end w ts t (behind_index i) (among_lits i (l ∷ [])) (inr (inr (l, (h l (inl refl), word), refl))) ∙ more.2)

-- a clause as it is spelled
abbrev clause : ℕ → Option Lits → List ℕ → Spelled
clause i stated xs = record { index = i; stated = stated; antecedents = xs }

-- what is read behind a whole clause
abbrev behind_clause : ℕ → ℕ → List Token → List Entry → Spelled → Result (List Entry) TraceError
behind_clause v end us t s = judged t s >>= λ u. trace_from v end us u start

-- tokens with these words behind them are read as this clause
abbrev ReadsClause : ℕ → ℕ → List Token → List Entry → Part → List (List ℕ) → Spelled → Type 0
ReadsClause v end ts t p rest s = (us : List Token) × (words_of us ≡ rest) × (trace_from v end ts t p ≡ behind_clause v end us t s)

-- the word of an index spells it
index_step : (xs : List ℕ) (x : ℕ) (w : List ℕ) → AreIndices (x ∷ xs) → w ≡ decimal x → SpellsIndex w x
index_step xs x w h e = let range = h x (inl refl) in (e, range.0, range.1)

-- the words of antecedents and 0 are read as them, and end the clause
read_antecedents : (v end : ℕ) (ts : List Token) (t : List Entry) (i : ℕ) (stated : Option Lits) (before xs : List ℕ) (rest : List (List ℕ)) → AreIndices xs
    → words_of ts ≡ map decimal xs ++ (zero_word ∷ rest)
    → ReadsClause v end ts t (among_antecedents i stated before) rest (clause i stated (before ++ xs))
read_antecedents v end [] t i stated before [] rest h e = absurd (cc)
read_antecedents v end [] t i stated before (x ∷ xs) rest h e = absurd (cc)
read_antecedents v end (w ∷ ts) t i stated before [] rest h e =
    let word : w.bytes ≡ zero_word = cc in
    let behind : words_of ts ≡ rest = cc in (
      ts,
      behind,
      trace_from-whole v end w ts t (among_antecedents i stated before) (clause i stated before)
          (step-from v (among_antecedents i stated before) w (is_whole (clause i stated before)) (inl (word, refl)))
          ∙ ap (λ (xs : List ℕ). behind_clause v end ts t (clause i stated xs)) (sym (append-nil before)),
    )
read_antecedents v end (w ∷ ts) t i stated before (x ∷ xs) rest h e =
    let word : w.bytes ≡ decimal x = cc in
    let behind : words_of ts ≡ map decimal xs ++ (zero_word ∷ rest) = cc in
    let more = read_antecedents v end ts t i stated (before ++ x ∷ []) xs rest (λ y k. h y (inr k)) behind in (
      more.0,
      more.1,
      goes v end w ts t (among_antecedents i stated before) (among_antecedents i stated (before ++ x ∷ [])) (inr (x, index_step xs x w.bytes h word, refl))
          ∙ more.2
          ∙ ap (λ (ys : List ℕ). behind_clause v end more.0 t (clause i stated ys)) (append_assoc before (x ∷ []) xs),
    )

-- the first antecedent behind the sign, and those behind it
read_behind_sign : (v end : ℕ) (ts : List Token) (t : List Entry) (i : ℕ) (xs : List ℕ) (rest : List (List ℕ)) → xs ≢ [] → AreIndices xs
    → words_of ts ≡ map decimal xs ++ (zero_word ∷ rest)
    → ReadsClause v end ts t (behind_sign i) rest (clause i None xs)
read_behind_sign v end ts t i [] rest some h e = absurd (some refl)
read_behind_sign v end [] t i (x ∷ xs) rest some h e = absurd (cc)
read_behind_sign v end (w ∷ ts) t i (x ∷ xs) rest some h e =
    let word : w.bytes ≡ decimal x = cc in
    let behind : words_of ts ≡ map decimal xs ++ (zero_word ∷ rest) = cc in
    let more = read_antecedents v end ts t i None (x ∷ []) xs rest (λ y k. h y (inr k)) behind in
    (more.0, more.1, goes v end w ts t (behind_sign i) (among_antecedents i None (x ∷ [])) (x, index_step xs x w.bytes h word, refl) ∙ more.2)

-- the clause behind its index
read_rest : (v end : ℕ) (ts : List Token) (t : List Entry) (i : ℕ) (stated : Option Lits) (xs : List ℕ) (rest : List (List ℕ)) → IsSpelledClause v (clause i stated xs)
    → words_of ts ≡ stated_words stated ++ (map decimal xs ++ (zero_word ∷ rest))
    → ReadsClause v end ts t (behind_index i) rest (clause i stated xs)
read_rest v end [] t i None xs rest h e = absurd (cc)
read_rest v end (w ∷ ts) t i None xs rest h e =
    let word : w.bytes ≡ sign_word = cc in
    let behind : words_of ts ≡ map decimal xs ++ (zero_word ∷ rest) = cc in
    let may = h.sign refl in
    let more = read_behind_sign v end ts t i xs rest may.1 h.antecedents behind in
    (more.0, more.1, goes v end w ts t (behind_index i) (behind_sign i) (inl (may.0, word, refl)) ∙ more.2)
read_rest v end ts t i (Some ls) xs rest h e =
    let lits = read_stated v end ts t i ls (map decimal xs ++ (zero_word ∷ rest)) h.lits
    (e ∙ append_assoc (map literal_word ls) (zero_word ∷ []) (map decimal xs ++ (zero_word ∷ rest))) in
    let more = read_antecedents v end lits.0 t i (Some ls) [] xs rest h.antecedents lits.1 in
    (more.0, more.1, lits.2 ∙ more.2)

-- the words of a clause behind its index, and then more, are those of its parts one by one
clause_behind : (stated : Option Lits) (xs : List ℕ) (rest : List (List ℕ))
    → (stated_words stated ++ (map decimal xs ++ (zero_word ∷ []))) ++ rest ≡ stated_words stated ++ (map decimal xs ++ (zero_word ∷ rest))
clause_behind stated xs rest =
    append_assoc (stated_words stated) (map decimal xs ++ (zero_word ∷ [])) rest
    ∙ ap (λ (ws : List (List ℕ)). stated_words stated ++ ws) (append_assoc (map decimal xs) (zero_word ∷ []) rest)

-- tokens with the words of a clause are read as this clause
pub read_clause : (v end : ℕ) (ts : List Token) (t : List Entry) (s : Spelled) (rest : List (List ℕ)) → IsSpelledClause v s
    → words_of ts ≡ clause_words s ++ rest
    → (us : List Token) × (words_of us ≡ rest) × (trace_from v end ts t start ≡ (judged t s >>= λ u. trace_from v end us u start))
read_clause v end [] t s rest h e = absurd (cc)
read_clause v end (w ∷ ts) t s rest h e =
    let word : w.bytes ≡ decimal s.index = cc in
    let behind : words_of ts ≡ (stated_words s.stated ++ (map decimal s.antecedents ++ (zero_word ∷ []))) ++ rest = cc in
    let more = read_rest v end ts t s.index s.stated s.antecedents rest h (behind ∙ clause_behind s.stated s.antecedents rest) in
    (more.0, more.1, goes v end w ts t start (behind_index s.index) (s.index, (word, h.low, h.high), refl) ∙ more.2)

-- ---- its judgement

-- the elements of the first list come first
slice_get-front : {X : Type 0} (xs ys : List X) (k : ℕ) → k < length xs → slice_get (xs ++ ys) k ≡ slice_get xs k
slice_get-front [] ys k lt = absurd (omega arith)
slice_get-front (x ∷ xs) ys zero lt = refl
slice_get-front (x ∷ xs) ys (suc k) lt = slice_get-front xs ys k (omega arith)

-- the element behind a list stands at the place of the list's length
slice_get-middle : {X : Type 0} (xs ys : List X) (y : X) → slice_get (xs ++ y ∷ ys) (length xs) ≡ Some y
slice_get-middle [] ys y = refl
slice_get-middle (x ∷ xs) ys y = slice_get-middle xs ys y

-- no two clauses have one index
abbrev AreDistinct : List Entry → Type 0
AreDistinct t = (j k : ℕ) → j < k → k < length t → index_at t j ≢ index_at t k

-- the index of a clause has the clause's place
place_found : (t : List Entry) (p : ℕ) → AreDistinct t → p < length t → place_of (indices_of t) (index_at t p) ≡ Some p
place_found t p d lt =
    let same : 0 + p ≡ p = omega arith in
    place_from-found 0 p t (index_at t p) lt refl (λ j below. d j p below lt) ∙ ap Some same

-- the indices of antecedents have their places
places_found : (t : List Entry) (before ps : List ℕ) → AreDistinct t → AreWithin t ps
    → places_from (indices_of t) before (map (index_at t) ps) ≡ Ok (before ++ ps)
places_found t before [] d h = ap Ok (sym (append-nil before))
places_found t before (p ∷ ps) d h =
    let one : place_of (indices_of t) (index_at t p) ≡ Some p = place_found t p d (h p (inl refl)) in
    ap (λ (o : Option ℕ). ok_or o (index_at t p) >>= λ q. places_from (indices_of t) (before ++ q ∷ []) (map (index_at t) ps)) one
    ∙ places_found t (before ++ p ∷ []) ps d (λ q i. h q (inr i))
    ∙ ap Ok (append_assoc before (p ∷ []) ps)

-- a clause with a new index, whose antecedents have places, is appended
judged-placed : (t : List Entry) (s : Spelled) (ps : List ℕ) → ((j : ℕ) → j < length t → index_at t j ≢ s.index)
    → places_from (indices_of t) [] s.antecedents ≡ Ok ps → judged t s ≡ Ok (t ++ entry_of s ps ∷ [])
judged-placed t s ps other h =
    ap (λ (o : Option ℕ). if is_some o then Err (Repeated s.index) else with_places t s (places_from (indices_of t) [] s.antecedents)) (place_from-none 0 t s.index other)
    ∙ ap (with_places t s) h

-- the clause e of a trace stands behind these clauses, and is spelled so
record StandsBehind (t done : List Entry) (s : Spelled) (e : Entry) : Type 0 where
  trace : IsTrace t
  place : length done < length t
  here : slice_get t (length done) ≡ Some e
  before : (k : ℕ) → k < length done → slice_get t k ≡ slice_get done k
  spelled : IsSpelled t s e

-- a clause of a trace stands behind those before it
stands_behind : (t done es : List Entry) (s : Spelled) (e : Entry) → IsTrace t → t ≡ done ++ e ∷ es → IsSpelled t s e → StandsBehind t done s e
stands_behind t done es s e h parts spelled = record {
  trace = h;
  place = (let long : length t ≡ length done + length (e ∷ es) = ap length parts ∙ length-append done (e ∷ es) in omega arith);
  here = ap (λ (x : List Entry). slice_get x (length done)) parts ∙ slice_get-middle done es e;
  before = λ k lt. ap (λ (x : List Entry). slice_get x k) parts ∙ slice_get-front done (e ∷ es) k lt;
  spelled = spelled;
}

-- the antecedents of a clause are of the clauses before it
antecedent_before : (t done : List Entry) (s : Spelled) (e : Entry) → StandsBehind t done s e → AreWithin done e.antecedents
antecedent_before t done s e h p i = h.trace.earlier (length done) p (subst (λ (o : Option Entry). Has (antecedents_of o) p) (sym h.here) i)

-- the clauses before a clause have the indices that the trace gives them
index_before : (t done : List Entry) (s : Spelled) (e : Entry) → StandsBehind t done s e → (k : ℕ) → k < length done → index_at t k ≡ index_at done k
index_before t done s e h k lt = ap index_of (h.before k lt)

-- the antecedents of a clause have the same indices in the clauses before it as in the trace
same_indices : (t done : List Entry) (ps : List ℕ) → ((k : ℕ) → k < length done → index_at t k ≡ index_at done k) → AreWithin done ps
    → map (index_at t) ps ≡ map (index_at done) ps
same_indices t done [] same h = refl
same_indices t done (p ∷ ps) same h =
    ap (λ (n : ℕ). n ∷ map (index_at t) ps) (same p (h p (inl refl)))
    ∙ ap (λ (ns : List ℕ). index_at done p ∷ ns) (same_indices t done ps same (λ q i. h q (inr i)))

-- the clauses before a clause have distinct indices
distinct_before : (t done : List Entry) (s : Spelled) (e : Entry) → StandsBehind t done s e → AreDistinct done
distinct_before t done s e h j k lt within same =
    let place : length done < length t = h.place in
    h.trace.distinct j k lt (omega arith) (index_before t done s e h j (omega arith) ∙ same ∙ sym (index_before t done s e h k within))

-- the clause has the index that is spelled
index_here : (t done : List Entry) (s : Spelled) (e : Entry) → StandsBehind t done s e → index_at t (length done) ≡ s.index
index_here t done s e h = ap index_of h.here ∙ sym h.spelled.index

-- the clause's stated literals are within the limits and in their order
clause_here : (t done : List Entry) (s : Spelled) (e : Entry) → StandsBehind t done s e → IsClause (literals_in e.stated)
clause_here t done s e h = subst (λ (o : Option Entry). IsClause (literals_in (stated_of o))) h.here (h.trace.clauses (length done) h.place)

-- the clause of the spelled literals is the stated one
same_clause : (o c : Option Lits) → SameStated o c → IsClause (literals_in c) → option_map clause_of o ≡ c
same_clause None None h k = refl
same_clause None (Some c) h k = absurd h
same_clause (Some ls) None h k = absurd h
same_clause (Some ls) (Some c) h k = ap Some (sym (clause_of-ordered c ls k.ordered (same_sym ls c h)))

-- a clause of a trace, as it is spelled, is appended to those before it
judged_right : (t done : List Entry) (s : Spelled) (e : Entry) → StandsBehind t done s e → judged done s ≡ Ok (done ++ e ∷ [])
judged_right t done s e h =
    let within = antecedent_before t done s e h in
    let antecedents : s.antecedents ≡ map (index_at done) e.antecedents =
    h.spelled.antecedents ∙ same_indices t done e.antecedents (index_before t done s e h) within in
    let placed : places_from (indices_of done) [] s.antecedents ≡ Ok e.antecedents =
    ap (places_from (indices_of done) []) antecedents ∙ places_found done [] e.antecedents (distinct_before t done s e h) within in
    let stated : option_map clause_of s.stated ≡ e.stated = same_clause s.stated e.stated h.spelled.stated (clause_here t done s e h) in
    let one : entry_of s e.antecedents ≡ e = λ i. record { index = h.spelled.index i; stated = stated i; antecedents = e.antecedents } in
    judged-placed done s e.antecedents
    (λ j lt same. h.trace.distinct j (length done) lt h.place (index_before t done s e h j lt ∙ same ∙ sym (index_here t done s e h))) placed
    ∙ ap (λ (d : Entry). Ok (done ++ d ∷ [])) one

-- ---- its numbers are within their limits

-- the indices of a trace are within the limits
index_within : (t : List Entry) (k x : ℕ) → IsTrace t → k < length t → index_at t k ≡ x → (1 ≤ x) × (x ≤ MAX_INDEX)
index_within t k x h lt e = (subst (λ (n : ℕ). 1 ≤ n) e (h.low k lt), subst (λ (n : ℕ). n ≤ MAX_INDEX) e (h.high k lt))

-- literals that spell a clause are within the limits
stated_within : (o c : Option Lits) → SameStated o c → IsClause (literals_in c) → AreLiterals (literals_in o)
stated_within None c h k l i = absurd i
stated_within (Some ls) None h k l i = absurd h
stated_within (Some ls) (Some c) h k l i = k.literals l ((h l).0 i)

-- only an empty list has an empty mapped one
nothing_mapped : (f : ℕ → ℕ) (xs : List ℕ) → map f xs ≡ [] → xs ≡ []
nothing_mapped f [] e = refl
nothing_mapped f (x ∷ xs) e = absurd (cc)

-- where the sign is spelled, it stands
none_here : (o c : Option Lits) → SameStated o c → o ≡ None → c ≡ None
none_here None None h e = refl
none_here None (Some c) h e = absurd h
none_here (Some ls) c h e = absurd (cc)

-- where the sign is spelled, the trace's clause has it
compact_here : (t done : List Entry) (s : Spelled) (e : Entry) → StandsBehind t done s e → s.stated ≡ None → IsCompactAt t (length done)
compact_here t done s e h none = ap stated_of h.here ∙ none_here s.stated e.stated h.spelled.stated none

-- a clause without spelled antecedents has none
no_antecedents : (t done : List Entry) (s : Spelled) (e : Entry) → StandsBehind t done s e → s.antecedents ≡ [] → antecedents_at t (length done) ≡ []
no_antecedents t done s e h none = ap antecedents_of h.here ∙ nothing_mapped (index_at t) e.antecedents (sym h.spelled.antecedents ∙ none)

-- the numbers of a clause of a trace, as it is spelled, are within the limits
spelled_within : (v : ℕ) (t done : List Entry) (s : Spelled) (e : Entry) → (v ≡ 1 → AllStated t) → StandsBehind t done s e → IsSpelledClause v s
spelled_within v t done s e signs h =
    let here = index_within t (length done) s.index h.trace h.place (index_here t done s e h) in
    record {
      low = here.0;
      high = here.1;
      lits = stated_within s.stated e.stated h.spelled.stated (clause_here t done s e h);
      antecedents = λ x i.
          let found = Has-map (index_at t) e.antecedents x (subst (λ (xs : List ℕ). Has xs x) h.spelled.antecedents i) in
          let below : found.0 < length done = antecedent_before t done s e h found.0 found.1 in
          let place : length done < length t = h.place in
          index_within t found.0 x h.trace (omega arith) found.2;
      sign = λ none. (
        λ one. signs one (length done) h.place (compact_here t done s e h none),
        λ empty. h.trace.derived (length done) h.place (compact_here t done s e h none) (no_antecedents t done s e h empty),
      );
    }

-- ---- the whole text

-- the words of clauses of a trace, behind the clauses before them, are read as these
written_all : (v end : ℕ) (t : List Entry) (ts : List Token) (done es : List Entry) (ss : List Spelled) (rest : List (List ℕ)) → IsTrace t → (v ≡ 1 → AllStated t) → t ≡ done ++ es
    → AreSpelled t ss es → words_of ts ≡ flat_map clause_words ss ++ rest
    → (us : List Token) × (words_of us ≡ rest) × (trace_from v end ts done start ≡ trace_from v end us t start)
written_all v end t ts done [] [] rest h signs parts same e = (ts, e, ap (λ (d : List Entry). trace_from v end ts d start) (sym (parts ∙ append-nil done)))
written_all v end t ts done (e ∷ es) [] rest h signs parts same words = absurd same
written_all v end t ts done [] (s ∷ ss) rest h signs parts same words = absurd same
written_all v end t ts done (e ∷ es) (s ∷ ss) rest h signs parts same words =
    let stands = stands_behind t done es s e h parts same.0 in
    let read = read_clause v end ts done s (flat_map clause_words ss ++ rest) (spelled_within v t done s e signs stands)
    (words ∙ append_assoc (clause_words s) (flat_map clause_words ss) rest) in
    let more = written_all v end t read.0 (done ++ e ∷ []) es ss rest h signs (parts ∙ sym (append_assoc done (e ∷ []) es)) same.1 read.1 in (
      more.0,
      more.1,
      read.2
          ∙ ap (λ (r : Result (List Entry) TraceError). r >>= λ u. trace_from v end read.0 u start) (judged_right t done s e stands)
          ∙ more.2,
    )

-- tokens that begin with the words of a trace are read as this trace, as far as these words go
pub spelled_read : (v end : ℕ) (t : List Entry) (ts : List Token) (whole rest : List (List ℕ)) → SpellsTrace v whole t → words_of ts ≡ whole ++ rest
    → (us : List Token) × (words_of us ≡ rest) × (trace_from v end ts [] start ≡ trace_from v end us t start)
spelled_read v end t ts whole rest h e =
    written_all v end t ts [] t h.spelled rest h.trace h.signs refl h.same_clauses (e ∙ ap (λ (ws : List (List ℕ)). ws ++ rest) h.same_words)

-- without more words, what was read is the trace
read_to_end : (v end : ℕ) (t : List Entry) (us : List Token) → words_of us ≡ [] → trace_from v end us t start ≡ Ok t
read_to_end v end t [] e = refl
read_to_end v end t (w ∷ us) e = absurd (cc)

-- what is read of a text that isn't too long
pub not_long : (text : List ℕ) (v : ℕ) → length text ≤ MAX_TRACE_BYTES → trace_in v text ≡ trace_from v (length text) (tokens_of text) [] start
not_long text v h = rw (le-ltb MAX_TRACE_BYTES (length text) h) refl

-- the trace whose text it is is computed of the text
pub text-trace_in : (text : List ℕ) (v : ℕ) (t : List Entry) → TraceText text v t → trace_in v text ≡ Ok t
text-trace_in text v t h =
    let ws = words_of (tokens_of text) in
    let read = spelled_read v (length text) t (tokens_of text) ws [] h.1 (sym (append-nil ws)) in
    not_long text v h.0 ∙ read.2 ∙ read_to_end v (length text) t read.0 read.1
