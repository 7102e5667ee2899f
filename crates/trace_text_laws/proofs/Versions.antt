-- How the versions of a text differ.
use Rattle.std.proofs.Common.{◌≡◌, ◌≢◌, ℕ, inl, inr, ◌&&◌, Bool, true, false, nat_lt, if◌then◌else◌, List, [], ◌∷◌, length, Result, Ok, Err, refl, sym, ap, ◌∙◌}
use Rattle.std.proofs.lemmas.Bool.{false_from_ne_true}
use Rattle.clause_defs.specs.Clauses.{Has}
use Rattle.clause_defs.specs.Compaction.{AllStated}
use Rattle.clause_defs.specs.Traces.{Entry}
use Rattle.text_defs.specs.Steps.{◌>>=◌}
use Rattle.text_defs.specs.Tokens.{Token}
use Rattle.sat_text_defs.specs.declared.limits.TheConstants.{MAX_TRACE_BYTES}
use Rattle.sat_text_defs.specs.declared.errors.TraceError.{TraceError}
use Rattle.sat_text_defs.specs.declared.errors.TraceError.TheVariants.{TooLong}
use Rattle.sat_text_defs.specs.Spellings.{is_sign}
use Rattle.sat_text_defs.specs.TraceReading.{Part, start, behind_index, among_lits, behind_sign, among_antecedents, Next, goes_on, is_whole, has_sign, literal_step, step, judged, trace_from, trace_in}
use Rattle.sat_text_defs.specs.TraceText.{SpellsTrace, TraceText, tokens_of}
use Rattle.sat_text_defs.specs.Words.{words_of, sign_word}
use Rattle.sat_text_defs.proofs.TokenByToken.{trace_from-goes_on, trace_from-whole, trace_from-fault}
use Rattle.sat_text_defs.proofs.WordLemmas.{is_sign-word}
use Rattle.trace_text_laws.proofs.TokenSteps.{no_sign, other_one}

-- ---- texts of traces without the sign

-- words that spell a trace spell it in another version, which is 1 only where all is stated
spells_in : (v w : ℕ) (ws : List (List ℕ)) (t : List Entry) → (w ≡ 1 → AllStated t) → SpellsTrace v ws t → SpellsTrace w ws t
spells_in v w ws t signs h = record {
  trace = h.trace;
  signs = signs;
  spelled = h.spelled;
  same_clauses = h.same_clauses;
  same_words = h.same_words;
}

-- no clause of a text of version 1 has the sign
pub first_version-stated : (text : List ℕ) (t : List Entry) → TraceText text 1 t → AllStated t
first_version-stated text t h = h.1.signs refl

-- a text of version 1 is the text of the same trace in every version
pub first_version-text : (text : List ℕ) (v : ℕ) (t : List Entry) → TraceText text 1 t → TraceText text v t
first_version-text text v t h = (h.0, spells_in 1 v _ t (λ e. h.1.signs refl) h.1)

-- a text of a trace without the sign is one of version 1
pub stated-first_version : (text : List ℕ) (v : ℕ) (t : List Entry) → TraceText text v t → AllStated t → TraceText text 1 t
stated-first_version text v t h stated = (h.0, spells_in v 1 _ t (λ e. stated) h.1)

-- ---- texts in which the sign doesn't stand

-- no token is the sign
abbrev NoSigns : List Token → Type 0
NoSigns ts = (w : List ℕ) → Has (words_of ts) w → w ≢ sign_word

-- a word that isn't the sign isn't taken for it
unsigned : (w : List ℕ) → w ≢ sign_word → is_sign w ≡ false
unsigned w h = false_from_ne_true (is_sign w) (λ e. h (is_sign-word w e))

-- behind an index, a word that isn't the sign is a literal or 0 in each version
literals_alone : (v i : ℕ) (w : Token) → w.bytes ≢ sign_word → step v (behind_index i) w ≡ literal_step i [] w
literals_alone v i w h =
    let none : (has_sign v && is_sign w.bytes) ≡ false = no_sign (has_sign v) (is_sign w.bytes) (unsigned w.bytes h) in
    rw none refl

-- what a token that isn't the sign makes of a clause is the same in each version
same_step : (v u : ℕ) (p : Part) (w : Token) → w.bytes ≢ sign_word → step v p w ≡ step u p w
same_step v u start w h = refl
same_step v u (behind_index i) w h = literals_alone v i w h ∙ sym (literals_alone u i w h)
same_step v u (among_lits i ls) w h = refl
same_step v u (behind_sign i) w h = refl
same_step v u (among_antecedents i stated xs) w h = refl

-- what goes on from here is read alike
abbrev AreAlike : ℕ → ℕ → ℕ → List Token → Type 0
AreAlike v u end ts = (t : List Entry) (p : Part) → trace_from v end ts t p ≡ trace_from u end ts t p

-- what is read behind a clause that is judged is alike where the later tokens are
judged_alike : (v u end : ℕ) (ts : List Token) (r : Result (List Entry) TraceError) → AreAlike v u end ts
    → (r >>= λ x. trace_from v end ts x start) ≡ (r >>= λ x. trace_from u end ts x start)
judged_alike v u end ts (Ok x) h = h x start
judged_alike v u end ts (Err f) h = refl

-- a token that makes the same of a clause is read alike where the later tokens are
next_alike : (v u end : ℕ) (w : Token) (ts : List Token) (t : List Entry) (p : Part) (r : Result Next TraceError) → step v p w ≡ r → step u p w ≡ r
    → AreAlike v u end ts → trace_from v end (w ∷ ts) t p ≡ trace_from u end (w ∷ ts) t p
next_alike v u end w ts t p (Ok (goes_on q)) e d h =
    trace_from-goes_on v end w ts t p q e ∙ h t q ∙ sym (trace_from-goes_on u end w ts t p q d)
next_alike v u end w ts t p (Ok (is_whole s)) e d h =
    trace_from-whole v end w ts t p s e ∙ judged_alike v u end ts (judged t s) h ∙ sym (trace_from-whole u end w ts t p s d)
next_alike v u end w ts t p (Err f) e d h = trace_from-fault v end w ts t p f e ∙ sym (trace_from-fault u end w ts t p f d)

-- tokens of which none is the sign are read alike in two versions, from wherever in a clause
all_alike : (v u end : ℕ) (ts : List Token) → NoSigns ts → AreAlike v u end ts
all_alike v u end [] none t start = refl
all_alike v u end [] none t (behind_index i) = refl
all_alike v u end [] none t (among_lits i ls) = refl
all_alike v u end [] none t (behind_sign i) = refl
all_alike v u end [] none t (among_antecedents i stated xs) = refl
all_alike v u end (w ∷ ts) none t p =
    next_alike v u end w ts t p (step u p w) (same_step v u p w (none w.bytes (inl refl))) refl
    (all_alike v u end ts (λ x i. none x (inr i)))

-- the limit on a text's length is the same for readings that are alike
guarded_alike : {A F : Type 0} (long : Bool) (f : F) (r s : Result A F) → r ≡ s → (if long then Err f else r) ≡ (if long then Err f else s)
guarded_alike true f r s e = refl
guarded_alike false f r s e = e

-- a text without the sign has the same trace or fault in each version
pub unsigned_alike : (text : List ℕ) (v u : ℕ) → ((w : List ℕ) → Has (words_of (tokens_of text)) w → w ≢ sign_word) → trace_in v text ≡ trace_in u text
unsigned_alike text v u none =
    guarded_alike (nat_lt MAX_TRACE_BYTES (length text)) TooLong (trace_from v (length text) (tokens_of text) [] start) (trace_from u (length text) (tokens_of text) [] start)
    (all_alike v u (length text) (tokens_of text) none [] start)

-- ---- versions in which the sign can stand

-- what a token makes of a clause is the same in two versions where the sign can stand in both
same_signed_step : (v u : ℕ) (p : Part) (w : Token) → has_sign v ≡ true → has_sign u ≡ true → step v p w ≡ step u p w
same_signed_step v u start w e d = refl
same_signed_step v u (behind_index i) w e d =
    let same : has_sign v ≡ has_sign u = e ∙ sym d in
    ap (λ (s : Bool). if s && is_sign w.bytes then Ok (goes_on (behind_sign i)) else literal_step i [] w) same
same_signed_step v u (among_lits i ls) w e d = refl
same_signed_step v u (behind_sign i) w e d = refl
same_signed_step v u (among_antecedents i stated xs) w e d = refl

-- tokens are read alike in two versions where the sign can stand in both
all_signed_alike : (v u end : ℕ) (ts : List Token) → has_sign v ≡ true → has_sign u ≡ true → AreAlike v u end ts
all_signed_alike v u end [] e d t start = refl
all_signed_alike v u end [] e d t (behind_index i) = refl
all_signed_alike v u end [] e d t (among_lits i ls) = refl
all_signed_alike v u end [] e d t (behind_sign i) = refl
all_signed_alike v u end [] e d t (among_antecedents i stated xs) = refl
all_signed_alike v u end (w ∷ ts) e d t p =
    next_alike v u end w ts t p (step u p w) (same_signed_step v u p w e d) refl (all_signed_alike v u end ts e d)

-- a text has the same trace or fault in each version but 1
pub later_alike : (text : List ℕ) (v u : ℕ) → v ≢ 1 → u ≢ 1 → trace_in v text ≡ trace_in u text
later_alike text v u h k =
    guarded_alike (nat_lt MAX_TRACE_BYTES (length text)) TooLong (trace_from v (length text) (tokens_of text) [] start) (trace_from u (length text) (tokens_of text) [] start)
    (all_signed_alike v u (length text) (tokens_of text) (other_one v h) (other_one u k) [] start)
