-- What is read line after line, and what the lines lead to.
use Rattle.std.proofs.Common.{◌≡◌, ℕ, ◌<◌, ◌≤◌, Bool, true, false, cond, List, [], ◌∷◌, ◌++◌, length, Option, Some, None, Result, Ok, Err, ok_or, refl, sym, ap, subst, ◌∙◌, ◌⊎◌, arith, ⊎_elim, inl, inr}
use Rattle.std.specs.Prelude.{nat_le}
use Rattle.std.proofs.lemmas.Bool.{cases_Bool}
use Rattle.std.proofs.lemmas.Bool.Decides.{nat_tests}
use Rattle.text_defs.specs.Steps.{◌>>=◌}
use Rattle.text_defs.proofs.StepLemmas.{bind_ok, ok_or_ok, ok_or_err}
use Rattle.script_defs.specs.declared.limits.TheConstants.{MAX_SCRIPT_BYTES}
use Rattle.script_defs.specs.declared.error.ScriptError.{ScriptError}
use Rattle.script_defs.specs.declared.error.ScriptError.TheVariants.{TooLong, Line, NoMemory}
use Rattle.script_defs.specs.Scripts.{ScriptValue}
use Rattle.script_defs.specs.Lines.{Statement, statements, line_behind}
use Rattle.script_defs.specs.Reading.{Draft, start, with_words, with_statements, value_of, reading}
use Rattle.script_defs.specs.Texts.{Follows, ScriptText, IsFirstFaultyLine, EndsEarly, ScriptFault}

-- a result that is a value
abbrev ok : {A : Type 0} → A → Result A ScriptError
ok x = Ok x

-- equal answers have equal values
ok_is : {A : Type 0} (x y : A) → ok x ≡ ok y → x ≡ y
ok_is x y e = cc

-- a result that is a fault
abbrev err : {A : Type 0} → ScriptError → Result A ScriptError
err f = Err f

-- equal answers have equal faults
err_is : {A : Type 0} (f g : ScriptError) → err {A = A} f ≡ err g → f ≡ g
err_is f g e = cc

-- ---- lines without a fault

-- where the lines lead on, reading them gives where they lead
with_statements-Follows : (d : Draft) (ss : List Statement) (e : Draft) → Follows d ss e → with_statements d ss ≡ Ok e
with_statements-Follows d [] e h = ap ok h
with_statements-Follows d (s ∷ ss) e h = rw h.1 (with_statements-Follows h.0 ss e h.2)

-- what reading gives is where the lines lead
Follows-with_statements : (d : Draft) (ss : List Statement) (e : Draft) → with_statements d ss ≡ Ok e → Follows d ss e
Follows-with_statements d [] e h = ok_is d e h
Follows-with_statements d (s ∷ ss) e h =
    let b = bind_ok (ok_or (with_words d s.words) (Line s.at)) (λ n. with_statements n ss) e h in
    (b.0, ok_or_ok (with_words d s.words) (Line s.at) b.0 b.1, Follows-with_statements b.0 ss e b.2)

-- ---- the first faulty line

-- the lines that d leads along up to a faulty one
record Stops (d : Draft) (ss : List Statement) (fault : ScriptError) : Type 0 where
  before : List Statement
  faulty : Statement
  later : List Statement
  parts : ss ≡ before ++ faulty ∷ later
  draft : Draft
  follows : Follows d before draft
  is_faulty : with_words draft faulty.words ≡ None
  number : fault ≡ Line faulty.at

-- reading stops at a faulty line
with_statements-stops : (d : Draft) (before : List Statement) (line : Statement) (later : List Statement) (draft : Draft)
    → Follows d before draft → with_words draft line.words ≡ None → with_statements d (before ++ line ∷ later) ≡ Err (Line line.at)
with_statements-stops d [] line later draft h f =
    let f : with_words d line.words ≡ None = subst (λ (x : Draft). with_words x line.words ≡ None) (sym h) f in
    rw f refl
with_statements-stops d (s ∷ before) line later draft h f = rw h.1 (with_statements-stops h.0 before line later draft h.2 f)

-- where a step goes on or fails
stops_by : (o : Option Draft) (d : Draft) (s : Statement) (ss : List Statement) (fault : ScriptError) → with_words d s.words ≡ o
    → (ok_or o (Line s.at) >>= λ n. with_statements n ss) ≡ Err fault → ((n : Draft) → with_statements n ss ≡ Err fault → Stops n ss fault) → Stops d (s ∷ ss) fault
stops_by (Some n) d s ss fault is e ih =
    let t = ih n e in
    record {
      before = s ∷ t.before;
      faulty = t.faulty;
      later = t.later;
      parts = ap (λ (more : List Statement). s ∷ more) t.parts;
      draft = t.draft;
      follows = (n, is, t.follows);
      is_faulty = t.is_faulty;
      number = t.number;
    }
stops_by None d s ss fault is e ih =
    record { before = []; faulty = s; later = ss; parts = refl; draft = d; follows = refl; is_faulty = is; number = sym (err_is {A = Draft} (Line s.at) fault e) }

-- a fault is that of a line before which none is faulty
stops : (d : Draft) (ss : List Statement) (fault : ScriptError) → with_statements d ss ≡ Err fault → Stops d ss fault
stops d [] fault e = absurd cc
stops d (s ∷ ss) fault e = stops_by (with_words d s.words) d s ss fault refl e (λ n h. stops n ss fault h)

-- ---- whole texts

-- what is answered behind the last line
abbrev finished : List ℕ → Draft → Result ScriptValue ScriptError
finished text d = ok_or (value_of d) (Line (line_behind text))

-- a text that isn't too long is read line after line
reading-short : (text : List ℕ) → length text ≤ MAX_SCRIPT_BYTES → reading text ≡ (with_statements start (statements text) >>= finished text)
reading-short text h =
    let short : nat_le (length text) MAX_SCRIPT_BYTES ≡ true = grind (arith, nat_tests) in
    rw short refl

-- a text that is too long has this fault, and no line is read
reading-long : (text : List ℕ) → MAX_SCRIPT_BYTES < length text → reading text ≡ Err TooLong
reading-long text h =
    let long : nat_le (length text) MAX_SCRIPT_BYTES ≡ false = grind (arith, nat_tests) in
    rw long refl

-- the value of a text is read
pub read_value : (text : List ℕ) (s : ScriptValue) → ScriptText text s → reading text ≡ Ok s
read_value text s h =
    reading-short text h.short
    ∙ ap (λ (r : Result Draft ScriptError). r >>= finished text) (with_statements-Follows start (statements text) h.end h.follows)
    ∙ ap (λ (o : Option ScriptValue). ok_or o (Line (line_behind text))) h.value

-- where the test of the length passes, the text isn't too long
within : (text : List ℕ) → nat_le (length text) MAX_SCRIPT_BYTES ≡ true → length text ≤ MAX_SCRIPT_BYTES
within text e = grind (arith, nat_tests)

-- and where it fails, the text is too long
beyond : (text : List ℕ) → nat_le (length text) MAX_SCRIPT_BYTES ≡ false → MAX_SCRIPT_BYTES < length text
beyond text e = grind (arith, nat_tests)

-- what is read is the value of the text
pub value_read : (text : List ℕ) (s : ScriptValue) → reading text ≡ Ok s → ScriptText text s
value_read text s h = by (nat_le (length text) MAX_SCRIPT_BYTES) refl h
  where
    by : (short : Bool) → nat_le (length text) MAX_SCRIPT_BYTES ≡ short → cond short (with_statements start (statements text) >>= finished text) (Err TooLong) ≡ Ok s → ScriptText text s
    by true is e =
        let b = bind_ok (with_statements start (statements text)) (finished text) s e in
        record {
          short = within text is;
          end = b.0;
          follows = Follows-with_statements start (statements text) b.0 b.1;
          value = ok_or_ok (value_of b.0) (Line (line_behind text)) s b.2;
        }
    by false is e = absurd cc

-- the first fault of a text is answered
pub read_fault : (text : List ℕ) (fault : ScriptError) → ScriptFault text fault → reading text ≡ Err fault
read_fault text TooLong h = reading-long text h
read_fault text NoMemory h = absurd h
read_fault text (Line line) h =
    reading-short text h.0 ∙ ⊎_elim (by_line text line) (by_end text line) h.1
  where
    by_line : (text : List ℕ) (line : ℕ) → IsFirstFaultyLine text line → (with_statements start (statements text) >>= finished text) ≡ Err (Line line)
    by_line text line l =
        ap (λ (ss : List Statement). with_statements start ss >>= finished text) l.parts
        ∙ ap (λ (r : Result Draft ScriptError). r >>= finished text) (with_statements-stops start l.before l.faulty l.later l.draft l.follows l.is_faulty)
        ∙ ap (λ (n : ℕ). err (Line n)) (sym l.number)

    by_end : (text : List ℕ) (line : ℕ) → EndsEarly text line → (with_statements start (statements text) >>= finished text) ≡ Err (Line line)
    by_end text line l =
        ap (λ (r : Result Draft ScriptError). r >>= finished text) (with_statements-Follows start (statements text) l.end l.follows)
        ∙ ap (λ (o : Option ScriptValue). ok_or o (Line (line_behind text))) l.value
        ∙ ap (λ (n : ℕ). err (Line n)) (sym l.number)

-- what is answered is the first fault of the text
pub fault_read : (text : List ℕ) (fault : ScriptError) → reading text ≡ Err fault → ScriptFault text fault
fault_read text fault h = by (nat_le (length text) MAX_SCRIPT_BYTES) refl h
  where
    is_line : (line : ℕ) → (length text ≤ MAX_SCRIPT_BYTES) × (IsFirstFaultyLine text line ⊎ EndsEarly text line) → Line line ≡ fault → ScriptFault text fault
    is_line line h e = subst (λ (f : ScriptError). ScriptFault text f) e h

    after : (r : Result Draft ScriptError) → with_statements start (statements text) ≡ r → length text ≤ MAX_SCRIPT_BYTES → (r >>= finished text) ≡ Err fault → ScriptFault text fault
    after (Ok d) is short e =
        let f = ok_or_err (value_of d) (Line (line_behind text)) fault e in
        is_line (line_behind text) (short, inr (record { end = d; follows = Follows-with_statements start (statements text) d is; value = f.0; number = refl })) f.1
    after (Err f) is short e =
        let same : f ≡ fault = err_is {A = ScriptValue} f fault e in
        let t = stops start (statements text) fault (is ∙ ap err same) in
        is_line t.faulty.at (
          short,
          inl (record {
            before = t.before;
            faulty = t.faulty;
            later = t.later;
            parts = t.parts;
            draft = t.draft;
            follows = t.follows;
            is_faulty = t.is_faulty;
            number = refl;
          }),
        ) (sym t.number)

    by : (short : Bool) → nat_le (length text) MAX_SCRIPT_BYTES ≡ short → cond short (with_statements start (statements text) >>= finished text) (Err TooLong) ≡ Err fault → ScriptFault text fault
    by true is e = after (with_statements start (statements text)) refl (within text is) e
    by false is e =
        let same : TooLong ≡ fault = cc in
        subst (λ (f : ScriptError). ScriptFault text f) same (beyond text is)
