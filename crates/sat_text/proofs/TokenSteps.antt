-- A trace's reader goes from token to token.
use Rattle.std.proofs.Common.{◌≡◌, ℕ, ◌<◌, ◌&&◌, Bool, false, inl, inr, List, [], length, Some, Result, Ok, Err, refl, sym, ap, subst, ◌∙◌}
use Rattle.std.proofs.lemmas.Bool.{cases_lt}
use Rattle.clause_defs.specs.Clauses.{Lits}
use Rattle.clause_defs.specs.Traces.{Entry}
use Rattle.text_defs.specs.Steps.{◌>>=◌}
use Rattle.text_defs.specs.Tokens.{Token}
use Rattle.sat_text_defs.specs.declared.errors.TraceError.{TraceError}
use Rattle.sat_text_defs.specs.Spellings.{is_sign}
use Rattle.sat_text_defs.specs.TraceText.{Spelled}
use Rattle.sat_text_defs.specs.TraceReading.{Part, start, behind_index, among_lits, among_antecedents, Next, goes_on, has_sign, index_from, step, taken, trace_from}
use Rattle.sat_text_defs.proofs.TokenByToken.{trace_from-goes_on}
use Rattle.sat_scan.specs.Scan.{word_at, token_at, behind_word_at, tokens_from, IsAtWord}
use Rattle.sat_values.specs.TraceArrays.{stated_unless}
use Rattle.sat_text.specs.ReadingSteps.{rest_from, LeadsTo, ReadsClause}

-- ---- one token

-- a token with which the clause goes on
goes : (v : ℕ) (text : List ℕ) (at next : ℕ) (t : List Entry) (p q : Part) → at < length text → IsAtWord at text
    → step v p (token_at at text) ≡ Ok (goes_on q) → tokens_from (behind_word_at at text) text ≡ tokens_from next text
    → rest_from v text at t p ≡ rest_from v text next t q
goes v text at next t p q h stands e skipped =
    ap (λ (ts : List Token). trace_from v (length text) ts t p) (stands.word h)
    ∙ trace_from-goes_on v (length text) (token_at at text) (tokens_from (behind_word_at at text) text) t p q e
    ∙ ap (λ (ts : List Token). trace_from v (length text) ts t q) skipped

-- ---- what stands behind the index

-- no sign: the literals begin
no_sign : (v i : ℕ) (text : List ℕ) (at : ℕ) (t : List Entry) → IsAtWord at text → has_sign v && is_sign (word_at at text) ≡ false
    → rest_from v text at t (behind_index i) ≡ rest_from v text at t (among_lits i [])
no_sign v i text at t stands none = elim (cases_lt at (length text)) [
  | inl h ↦
      let first : step v (behind_index i) (token_at at text) ≡ step v (among_lits i []) (token_at at text) = rw none refl in
      ap (λ (ts : List Token). trace_from v (length text) ts t (behind_index i)) (stands.word h)
      ∙ ap (λ (r : Result Next TraceError). r >>= λ n. (taken t n >>= λ q. trace_from v (length text) (tokens_from (behind_word_at at text) text) q.0 q.1)) first
      ∙ sym (ap (λ (ts : List Token). trace_from v (length text) ts t (among_lits i [])) (stands.word h))
  | inr h ↦
      ap (λ (ts : List Token). trace_from v (length text) ts t (behind_index i)) (stands.end h)
      ∙ sym (ap (λ (ts : List Token). trace_from v (length text) ts t (among_lits i [])) (stands.end h))
]

-- ---- the index

-- the index of a clause
pub at_index : (v i : ℕ) (text : List ℕ) (at next : ℕ) (t : List Entry) → at < length text → IsAtWord at text
    → index_from (token_at at text) ≡ Ok i → next ≡ behind_word_at at text → rest_from v text at t start ≡ rest_from v text next t (behind_index i)
at_index v i text at next t h stands e end =
    goes v text at next t start (behind_index i) h stands
    (ap (λ (r : Result ℕ TraceError). r >>= λ y. Ok (goes_on (behind_index y))) e) (ap (λ n. tokens_from n text) (sym end))

-- ---- the whole clause

-- the fault behind a part of the clause that was read
pub clause_fault : (v : ℕ) (text : List ℕ) (at from : ℕ) (s : Spelled) (part later : Part) (e : TraceError)
    → ((t : List Entry) → rest_from v text at t start ≡ rest_from v text from t part)
    → LeadsTo v text from part later (Err e) → ReadsClause v text at s (Err e)
clause_fault v text at from s part later e so_far (inl memory) = inl memory
clause_fault v text at from s part later e so_far (inr fault) = inr (λ t. so_far t ∙ fault t)

-- a step that is put before another
led_to : (v : ℕ) (text : List ℕ) (from at : ℕ) (part middle later : Part) (r : Result ℕ TraceError)
    → ((t : List Entry) → rest_from v text from t part ≡ rest_from v text at t middle)
    → LeadsTo v text at middle later r → LeadsTo v text from part later r
led_to v text from at part middle later (Ok next) first then_on = λ t. first t ∙ then_on t
led_to v text from at part middle later (Err e) first (inl memory) = inl memory
led_to v text from at part middle later (Err e) first (inr fault) = inr (λ t. first t ∙ fault t)

-- no sign stands behind the index, and the literals were read
pub literals_led : (v i : ℕ) (text : List ℕ) (from at : ℕ) (sign : Bool) (before lits : Lits) (xs : List ℕ) (r : Result ℕ TraceError)
    → tokens_from from text ≡ tokens_from at text → IsAtWord at text → sign ≡ (has_sign v && is_sign (word_at at text)) → sign ≡ false
    → before ≡ [] → xs ≡ []
    → LeadsTo v text at (among_lits i before) (among_antecedents i (Some lits) []) r
    → LeadsTo v text from (behind_index i) (among_antecedents i (stated_unless sign lits) xs) r
literals_led v i text from at sign before lits xs r skipped stands sign_is none empty no_antecedents leads =
    let first : (t : List Entry) → rest_from v text from t (behind_index i) ≡ rest_from v text at t (among_lits i before) =
    λ t. ap (λ (ts : List Token). trace_from v (length text) ts t (behind_index i)) skipped
    ∙ no_sign v i text at t stands (sym sign_is ∙ none) ∙ ap (λ ls. rest_from v text at t (among_lits i ls)) (sym empty) in
    let same : among_antecedents i (Some lits) [] ≡ among_antecedents i (stated_unless sign lits) xs =
    ap (λ b. among_antecedents i (stated_unless b lits) []) (sym none) ∙ ap (among_antecedents i (stated_unless sign lits)) (sym no_antecedents) in
    subst (λ q. LeadsTo v text from (behind_index i) q r) same
    (led_to v text from at (behind_index i) (among_lits i before) (among_antecedents i (Some lits) []) r first leads)
