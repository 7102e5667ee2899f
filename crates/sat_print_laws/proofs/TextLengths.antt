-- How long a text is at least, and that what is printed of a trace isn't longer than the text of which the
-- trace was read, but for a line feed.
use Rattle.std.proofs.Common.{◌≡◌, ℕ, ◌+◌, ◌*◌, ◌≤◌, ◌==◌, nat_lt, ◌&&◌, inl, inr, Bool, true, false, not, if◌then◌else◌, List, [], ◌∷◌, ◌++◌, length, map, Option, Some, None, decimal, refl, sym, ap, subst, ◌∙◌, arith}
use Rattle.std.specs.List.{flat_map}
use Rattle.clause_defs.specs.Literals.{Literal, IsLiteral, code}
use Rattle.clause_defs.specs.Clauses.{Lits, Has, IsClause, with_literal, clause_of}
use Rattle.clause_defs.specs.Compaction.{is_derived, any_derived, with_sign, compacted, derived_size, derived_literals}
use Rattle.clause_defs.specs.Traces.{Entry, IsTrace, literals_in, stated_of, index_at}
use Rattle.clause_laws.proofs.ClauseLemmas.{same_sym}
use Rattle.clause_laws.proofs.ClauseOf.{clause_of-ordered, clause_of-length}
use Rattle.clause_laws.proofs.CompactTraces.{IsCompaction-compacted, IsTrace-compacted}
use Rattle.text_defs.specs.Tokens.{Token, tokens, begins_with_token, lengthened}
use Rattle.sat_text_defs.specs.Words.{separates, words_of, zero_word, literal_word}
use Rattle.sat_text_defs.specs.TraceText.{Spelled, stated_words, clause_words, SameStated, IsSpelled, AreSpelled, TraceText, tokens_of}
use Rattle.sat_text_defs.specs.Printed.{trace_text}
use Rattle.sat_print_laws.proofs.WordBytes.{IsWord-literal, length-word}
use Rattle.sat_print_laws.proofs.PrintedWords.{room, room-append}
use Rattle.sat_print_laws.proofs.PrintedTraces.{printed, printed_all, at_place, trace_prints}

-- ---- a text has room for its words

-- one byte more than none where the text begins with a word, since it needs no separator at its end
abbrev extra : Bool → ℕ
extra begins = if begins then 1 else 0

-- a word that is one byte longer needs one byte more
room-lengthened : (at b n : ℕ) (ts : List Token) → room (words_of ts) ≤ n + 1 → room (words_of (lengthened at b ts)) ≤ n + 2
room-lengthened at b n [] h = omega arith
room-lengthened at b n (t ∷ ts) h = omega arith

-- with one more byte in front, separator or not, the words of a text need one byte more at most
room_if : (separated begins : Bool) (at b n : ℕ) (ts : List Token) → room (words_of ts) ≤ n + extra begins
    → room (words_of (if separated then ts else (if begins then lengthened at b ts else (record { at = at; bytes = b ∷ [] } ∷ ts)))) ≤ n + 1 + extra (not separated)
room_if true true at b n ts h = omega arith
room_if true false at b n ts h = omega arith
room_if false true at b n ts h = omega (arith, room-lengthened at b n ts h)
room_if false false at b n ts h = omega arith

-- the words of a text need no more bytes than it has, but for a separator behind the last
room-tokens : (s : ℕ → Bool) (at : ℕ) (text : List ℕ) → room (words_of (tokens s at text)) ≤ length text + extra (begins_with_token s text)
room-tokens s at [] = omega arith
room-tokens s at (b ∷ bs) =
    let rest = room_if (s b) (begins_with_token s bs) at b (length bs) (tokens s (at + 1) bs) (room-tokens s (at + 1) bs) in
    let same : length bs + 1 ≡ length (b ∷ bs) = omega arith in
    subst (λ (n : ℕ). room (words_of (tokens s at (b ∷ bs))) ≤ n + extra (not (s b))) same rest

-- one byte more is one at most
at_most_one : (b : Bool) → extra b ≤ 1
at_most_one true = omega arith
at_most_one false = omega arith

-- the words of a text, with a separator behind each, are at most one byte longer than the text
pub room-text : (text : List ℕ) → room (words_of (tokens_of text)) ≤ length text + 1
room-text text = omega (arith, room-tokens separates 0 text, at_most_one (begins_with_token separates text))

-- ---- literals

-- how many bytes literals need, each with a separator
abbrev lits_room : Lits → ℕ
lits_room ls = room (map literal_word ls)

-- a literal that is put into its place, or was there, needs its own bytes at most
room_placed : (l m : Literal) (ms : Lits) (before there : Bool) → lits_room (with_literal l ms) ≤ length (literal_word l) + 1 + lits_room ms
    → lits_room (if before then (l ∷ m ∷ ms) else (if there then (m ∷ ms) else (m ∷ with_literal l ms))) ≤ length (literal_word l) + 1 + lits_room (m ∷ ms)
room_placed l m ms true there h = omega arith
room_placed l m ms false true h = omega arith
room_placed l m ms false false h = omega arith

-- a clause with one more literal needs the literal's bytes more at most
room-with_literal : (l : Literal) (c : Lits) → lits_room (with_literal l c) ≤ length (literal_word l) + 1 + lits_room c
room-with_literal l [] = omega arith
room-with_literal l (m ∷ ms) = room_placed l m ms (nat_lt (code l) (code m)) (code l == code m) (room-with_literal l ms)

-- the clause of literals needs no more room than they do
room-clause_of : (ls : Lits) → lits_room (clause_of ls) ≤ lits_room ls
room-clause_of [] = omega arith
room-clause_of (l ∷ ls) = omega (arith, room-with_literal l (clause_of ls), room-clause_of ls)

-- each literal needs two bytes
room-literals : (ls : Lits) → ((l : Literal) → Has ls l → IsLiteral l) → 2 * length ls ≤ lits_room ls
room-literals [] h = omega arith
room-literals (l ∷ ls) h =
    omega (arith, length-word (literal_word l) (IsWord-literal l (h l (inl refl))), room-literals ls (λ m k. h m (inr k)))

-- literals with the 0 behind them need two bytes more
room-literals_end : (ls : Lits) → room (stated_words (Some ls)) ≡ lits_room ls + 2
room-literals_end ls = omega (arith, room-append (map literal_word ls) (zero_word ∷ []))

-- ---- clauses

-- a clause needs no more room than the literals that spell it
room-stated : (o c : Option Lits) → SameStated o c → IsClause (literals_in c) → room (stated_words c) ≤ room (stated_words o)
room-stated None None h k = omega arith
room-stated None (Some c) h k = absurd h
room-stated (Some ls) None h k = absurd h
room-stated (Some ls) (Some c) h k =
    let same : c ≡ clause_of ls = clause_of-ordered c ls k.ordered (same_sym ls c h) in
    omega (arith, room-literals_end ls, room-literals_end c, ap lits_room same, room-clause_of ls)

-- the sign needs no more room than literals with the 0 behind them
room-sign : (o : Option Lits) → room (stated_words None) ≤ room (stated_words o)
room-sign None = omega arith
room-sign (Some ls) = omega (arith, room-literals_end ls)

-- how many bytes the antecedents and the 0 behind them need
behind_stated : Spelled → ℕ
behind_stated s = room (map decimal s.antecedents ++ (zero_word ∷ []))

-- a clause needs the bytes of its index, of what is stated, and of what is behind that
room-clause : (s : Spelled) → room (clause_words s) ≡ length (decimal s.index) + 1 + (room (stated_words s.stated) + behind_stated s)
unfolding behind_stated
room-clause s = omega (arith, room-append (stated_words s.stated) (map decimal s.antecedents ++ (zero_word ∷ [])))

-- antecedents are printed alike where indices are the same
same_names : (f g : ℕ → ℕ) (ps : List ℕ) → ((p : ℕ) → f p ≡ g p) → map f ps ≡ map g ps
same_names f g [] h = refl
same_names f g (p ∷ ps) h =
    ap (λ (n : ℕ). n ∷ map f ps) (h p) ∙ ap (λ (ns : List ℕ). g p ∷ ns) (same_names f g ps h)

-- a clause with the same index and antecedents, whose stated part needs no more room
room-less : (t u : List Entry) (s : Spelled) (e d : Entry) → ((p : ℕ) → index_at u p ≡ index_at t p) → IsSpelled t s e
    → d.index ≡ e.index → d.antecedents ≡ e.antecedents → room (stated_words d.stated) ≤ room (stated_words s.stated)
    → room (clause_words (printed u d)) ≤ room (clause_words s)
unfolding behind_stated
room-less t u s e d same h index antecedents less =
    let names : map (index_at u) d.antecedents ≡ s.antecedents =
    ap (map (index_at u)) antecedents ∙ same_names (index_at u) (index_at t) e.antecedents same ∙ sym h.antecedents in
    omega (
      arith,
      room-clause (printed u d),
      room-clause s,
      ap (λ (n : ℕ). length (decimal n)) (index ∙ sym h.index),
      ap (λ (xs : List ℕ). room (map decimal xs ++ (zero_word ∷ []))) names,
      less,
    )

-- ---- what is printed

-- a clause, with the sign in place of its literals or without, needs no more room than was spelled
room-chosen : (t u : List Entry) (s : Spelled) (e : Entry) (sign : Bool) → ((p : ℕ) → index_at u p ≡ index_at t p) → IsSpelled t s e → IsClause (literals_in e.stated)
    → room (clause_words (printed u (if sign then with_sign e else e))) ≤ room (clause_words s)
room-chosen t u s e true same h clause = room-less t u s e (with_sign e) same h refl refl (room-sign s.stated)
room-chosen t u s e false same h clause = room-less t u s e e same h refl refl (room-stated s.stated e.stated h.stated clause)

-- the clauses are clauses
abbrev AreClauses : List Entry → Type 0
AreClauses es = (e : Entry) → Has es e → IsClause (literals_in e.stated)

-- the stated literals of a trace are clauses
clauses_of : (t : List Entry) → IsTrace t → AreClauses t
clauses_of t h e i =
    let place = at_place t e i in
    subst (λ (ls : Lits). IsClause ls) (ap (λ o. literals_in (stated_of o)) place.2) (h.clauses place.0 place.1)

-- the clauses of a compacted trace need no more room than those that were spelled
room-compacted : (t u : List Entry) (ss : List Spelled) (es : List Entry) → ((p : ℕ) → index_at u p ≡ index_at t p) → AreSpelled t ss es → AreClauses es
    → room (flat_map clause_words (printed_all u (compacted es))) ≤ room (flat_map clause_words ss)
room-compacted t u [] [] same h k = omega arith
room-compacted t u [] (e ∷ es) same h k = absurd h
room-compacted t u (s ∷ ss) [] same h k = absurd h
room-compacted t u (s ∷ ss) (e ∷ es) same h k =
    let sign = is_derived e && any_derived es in
    omega (
      arith,
      room-append (clause_words (printed u (if sign then with_sign e else e))) (flat_map clause_words (printed_all u (compacted es))),
      room-append (clause_words s) (flat_map clause_words ss),
      room-chosen t u s e sign same h.0 (k e (inl refl)),
      room-compacted t u ss es same h.1 (λ d i. k d (inr i)),
    )

-- printed clauses need no more room than those that were spelled
room-printed : (t : List Entry) (ss : List Spelled) (es : List Entry) → AreSpelled t ss es → AreClauses es
    → room (flat_map clause_words (printed_all t es)) ≤ room (flat_map clause_words ss)
room-printed t [] [] h k = omega arith
room-printed t [] (e ∷ es) h k = absurd h
room-printed t (s ∷ ss) [] h k = absurd h
room-printed t (s ∷ ss) (e ∷ es) h k =
    omega (
      arith,
      room-append (clause_words (printed t e)) (flat_map clause_words (printed_all t es)),
      room-append (clause_words s) (flat_map clause_words ss),
      room-chosen t t s e false (λ p. refl) h.0 (k e (inl refl)),
      room-printed t ss es h.1 (λ d i. k d (inr i)),
    )

-- the words of the trace's clauses fit into its text and a line feed
spelled_room : (text : List ℕ) (v : ℕ) (t : List Entry) → (h : TraceText text v t) → room (flat_map clause_words h.1.spelled) ≤ length text + 1
spelled_room text v t h = omega (arith, room-text text, ap room h.1.same_words)

-- what is printed of a trace that was read isn't longer than its text and a line feed
pub printed-short : (text : List ℕ) (v : ℕ) (t : List Entry) → TraceText text v t → length (trace_text t) ≤ length text + 1
printed-short text v t h =
    omega (
      arith,
      (trace_prints t h.1.trace).size,
      room-printed t h.1.spelled t h.1.same_clauses (clauses_of t h.1.trace),
      spelled_room text v t h,
    )

-- nor is what is printed of the compacted trace
pub compacted-short : (text : List ℕ) (v : ℕ) (t : List Entry) → TraceText text v t → length (trace_text (compacted t)) ≤ length text + 1
compacted-short text v t h =
    omega (
      arith,
      (trace_prints (compacted t) (IsTrace-compacted t h.1.trace)).size,
      room-compacted t (compacted t) h.1.spelled t (IsCompaction-compacted t).indices h.1.same_clauses (clauses_of t h.1.trace),
      spelled_room text v t h,
    )

-- ---- how many literals a text states

-- literals need two bytes each
stated_size : (o c : Option Lits) → SameStated o c → IsClause (literals_in c) → 2 * length (literals_in c) ≤ room (stated_words o)
stated_size None None h k = omega arith
stated_size None (Some c) h k = absurd h
stated_size (Some ls) None h k = absurd h
stated_size (Some ls) (Some c) h k =
    let same : c ≡ clause_of ls = clause_of-ordered c ls k.ordered (same_sym ls c h) in
    omega (
      arith,
      room-literals_end ls,
      ap (λ (d : Lits). length d) same,
      clause_of-length ls,
      room-literals ls (λ l i. k.literals l ((h l).0 i)),
    )

-- a clause counts its literals at most
derived_most : (derived : Bool) (n : ℕ) → (if derived then n else 0) ≤ n
derived_most true n = omega arith
derived_most false n = omega arith

-- the 0 behind the antecedents needs two bytes
two_behind : (s : Spelled) → 2 ≤ behind_stated s
unfolding behind_stated
two_behind s = omega (arith, room-append (map decimal s.antecedents) (zero_word ∷ []))

-- a clause needs two bytes for each literal that counts, and two more
clause_size : (t : List Entry) (s : Spelled) (e : Entry) → IsSpelled t s e → IsClause (literals_in e.stated) → 2 * derived_size e + 2 ≤ room (clause_words s)
clause_size t s e h k =
    omega (
      arith,
      derived_most (is_derived e) (length (literals_in e.stated)),
      stated_size s.stated e.stated h.stated k,
      two_behind s,
      room-clause s,
    )

-- clauses need two bytes for each literal that counts, and two more each
derived_room : (t : List Entry) (ss : List Spelled) (es : List Entry) → AreSpelled t ss es → AreClauses es → 2 * derived_literals es + 2 * length es ≤ room (flat_map clause_words ss)
derived_room t [] [] h k = omega arith
derived_room t [] (e ∷ es) h k = absurd h
derived_room t (s ∷ ss) [] h k = absurd h
derived_room t (s ∷ ss) (e ∷ es) h k =
    omega (
      arith,
      room-append (clause_words s) (flat_map clause_words ss),
      clause_size t s e h.0 (k e (inl refl)),
      derived_room t ss es h.1 (λ d i. k d (inr i)),
    )

-- where a trace has a clause, its own two bytes make up for the separator behind the last word
few_derived : (t : List Entry) (n : ℕ) → 2 * derived_literals t + 2 * length t ≤ n + 1 → 2 * derived_literals t ≤ n
few_derived [] n h = omega arith
few_derived (e ∷ t) n h = omega arith

-- a text needs two bytes for each literal that a derived clause states
pub derived-few : (text : List ℕ) (v : ℕ) (t : List Entry) → TraceText text v t → 2 * derived_literals t ≤ length text
derived-few text v t h =
    few_derived t (length text)
    (omega (arith, derived_room t h.1.spelled t h.1.same_clauses (clauses_of t h.1.trace), spelled_room text v t h))
