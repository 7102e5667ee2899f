-- One turn of the loop over the lines of a text.
use Rattle.std.proofs.Common.{◌≡◌, ℕ, ◌+◌, ◌<◌, ◌≤◌, true, false, List, [], ◌∷◌, length, take, drop, Result, Ok, Err, ok_or, refl, sym, ap, subst, ◌∙◌, ◌⊎◌, inl, inr, ⊎_elim, arith, length-drop}
use Rattle.std.specs.Prelude.{◌==◌, IfOk}
use Rattle.std.specs.List.{position_or_len}
use Rattle.std.proofs.lemmas.Bool.Decides.{nat_tests}
use Rattle.text_defs.specs.Steps.{◌>>=◌}
use Rattle.text_defs.specs.Memory.{Gives, OrMemory}
use Rattle.blif_laws.proofs.LineLemmas.{some_left}
use Rattle.fabric_defs.specs.declared.kind.CellKind.TheVariants.{FourInputs}
use Rattle.script_defs.specs.declared.error.ScriptError.{ScriptError}
use Rattle.script_defs.specs.declared.error.ScriptError.TheVariants.{Line, NoMemory}
use Rattle.script_defs.specs.Scripts.{ScriptValue, IsScript}
use Rattle.script_defs.specs.Lines.{lines, line_words, statements_from, line_behind}
use Rattle.script_defs.specs.Reading.{Draft, start, with_words, with_statements, value_of, read_statements, reading}
use Rattle.script_laws.proofs.Following.{value_read, fault_read}
use Rattle.script_laws.proofs.Drafts.{script_of_text, kind_of_text}
use Rattle.run_script.specs.declared.script.Script.{Script}
use Rattle.run_script.specs.Views.{script_of, IsReadFrom}
use Rattle.run_script.proofs.Lines.{is_feed, lines_next}

-- what is left has a first line, and the lines behind it
lines_left : (n : ℕ) (rest line after : List ℕ) → n ≡ position_or_len is_feed rest → false ≡ (length rest == 0) → line ≡ take n rest → after ≡ drop 1 (drop n rest)
    → lines rest ≡ line ∷ lines after
lines_left n [] line after n-is some line-is after-is = absurd (omega (arith, some_left 0 some))
lines_left n (b ∷ bs) line after n-is some line-is after-is = rw (line-is, after-is, n-is) (lines_next b bs)

-- there is one line less left
pub one_line_less : (n : ℕ) (rest line after : List ℕ) → n ≡ position_or_len is_feed rest → false ≡ (length rest == 0) → line ≡ take n rest → after ≡ drop 1 (drop n rest)
    → length (lines rest) ≡ length (lines after) + 1
one_line_less n rest line after n-is some line-is after-is =
    ap length (lines_left n rest line after n-is some line-is after-is) ∙ (let e : length (line ∷ lines after) ≡ length (lines after) + 1 = omega arith in e)

-- there is a byte less left
pub bytes_less : (n : ℕ) (rest after : List ℕ) → false ≡ (length rest == 0) → after ≡ drop 1 (drop n rest) → length after + 1 ≤ length rest
bytes_less n rest after some after-is =
    let left : 0 < length rest = some_left (length rest) some in
    let e : length after ≡ length (drop 1 (drop n rest)) = ap length after-is in
    omega (arith, e, left, length-drop 1 (drop n rest), length-drop n rest)

-- what is answered behind the last line
abbrev pub finishing : List ℕ → Draft → Result ScriptValue ScriptError
finishing text d = ok_or (value_of d) (Line (line_behind text))

-- a draft that no fault ended
abbrev ok_draft : Draft → Result Draft ScriptError
ok_draft d = Ok d

-- before the first line
pub lines_begin : (text : List ℕ) (d : Draft) → d ≡ start → (with_statements d (statements_from 1 (lines text)) >>= finishing text) ≡ read_statements text
lines_begin text d e = ap (λ (x : Draft). with_statements x (statements_from 1 (lines text)) >>= finishing text) e

-- what the first line of what is left gives to the whole
whole_by : (text : List ℕ) (d : Draft) (at n : ℕ) (rest line after : List ℕ) (words : List (List ℕ)) (r : Result Draft ScriptError) (total : Result ScriptValue ScriptError)
    → n ≡ position_or_len is_feed rest → false ≡ (length rest == 0) → line ≡ take n rest → after ≡ drop 1 (drop n rest) → words ≡ line_words line
    → ok_or (with_words d words) (Line at) ≡ r
    → (with_statements d (statements_from at (lines rest)) >>= finishing text) ≡ total
    → ((r >>= λ e. with_statements e (statements_from (at + 1) (lines after))) >>= finishing text) ≡ total
whole_by text d at n rest line after words r total n-is some line-is after-is words-is r-is so_far =
    let more = statements_from (at + 1) (lines after) in
    ap (λ (x : Result Draft ScriptError). (x >>= λ e. with_statements e more) >>= finishing text) (sym r-is)
    ∙ ap (λ (ws : List (List ℕ)). (ok_or (with_words d ws) (Line at) >>= λ e. with_statements e more) >>= finishing text) words-is
    ∙ sym (ap (λ (ls : List (List ℕ)). with_statements d (statements_from at ls) >>= finishing text) (lines_left n rest line after n-is some line-is after-is))
    ∙ so_far

-- a line that isn't faulty leaves the rest
pub line_read : (text : List ℕ) (d e : Draft) (at n : ℕ) (rest line after : List ℕ) (words : List (List ℕ)) (total : Result ScriptValue ScriptError)
    → n ≡ position_or_len is_feed rest → false ≡ (length rest == 0) → line ≡ take n rest → after ≡ drop 1 (drop n rest) → words ≡ line_words line
    → ok_or (with_words d words) (Line at) ≡ Ok e
    → (with_statements d (statements_from at (lines rest)) >>= finishing text) ≡ total
    → (with_statements e (statements_from (at + 1) (lines after)) >>= finishing text) ≡ total
line_read text d e at n rest line after words total n-is some line-is after-is words-is r-is so_far =
    whole_by text d at n rest line after words (Ok e) total n-is some line-is after-is words-is r-is so_far

-- a line that is faulty is where the whole fails
pub line_fault : (text : List ℕ) (d : Draft) (f : ScriptError) (at n : ℕ) (rest line after : List ℕ) (words : List (List ℕ)) (total : Result ScriptValue ScriptError)
    → n ≡ position_or_len is_feed rest → false ≡ (length rest == 0) → line ≡ take n rest → after ≡ drop 1 (drop n rest) → words ≡ line_words line
    → (f ≡ NoMemory) ⊎ (ok_or (with_words d words) (Line at) ≡ Err f)
    → (with_statements d (statements_from at (lines rest)) >>= finishing text) ≡ total
    → (f ≡ NoMemory) ⊎ (total ≡ Err f)
line_fault text d f at n rest line after words total n-is some line-is after-is words-is h so_far =
    ⊎_elim (λ memory. inl memory)
    (λ is. inr (sym (whole_by text d at n rest line after words (Err f) total n-is some line-is after-is words-is is so_far))) h

-- a number that is tested to be 0 is 0
none : (n : ℕ) → true ≡ (n == 0) → n ≡ 0
none n e = grind (arith, nat_tests)

-- so where the test finds no byte left, there is none
none_left : (rest : List ℕ) → true ≡ (length rest == 0) → rest ≡ []
none_left [] e = refl
none_left (b ∷ bs) e = absurd (let z : length (b ∷ bs) ≡ 0 = none (length (b ∷ bs)) e in omega (arith, z))

-- behind the last line the whole is what the draft gives
pub lines_end : (text rest : List ℕ) (d : Draft) (at : ℕ) (total : Result ScriptValue ScriptError) → true ≡ (length rest == 0)
    → at + length (lines rest) ≡ line_behind text
    → (with_statements d (statements_from at (lines rest)) >>= finishing text) ≡ total
    → total ≡ ok_or (value_of d) (Line at)
lines_end text rest d at total none behind so_far =
    let e = none_left rest none in
    let here : at ≡ line_behind text = let b : at + length (lines []) ≡ line_behind text = subst (λ (r : List ℕ). at + length (lines r) ≡ line_behind text) e behind in omega (arith, b) in
    sym so_far
    ∙ ap (λ (r : List ℕ). with_statements d (statements_from at (lines r)) >>= finishing text) e
    ∙ ap (λ (n : ℕ). ok_or (value_of d) (Line n)) (sym here)

-- what `reading` gives is the value or the first fault
pub answer_is_read : (text : List ℕ) (r : Result Script ScriptError) → Gives NoMemory script_of r (reading text) → OrMemory NoMemory (IsReadFrom text) r
answer_is_read text (Ok s) h = value_read text (script_of s) h
answer_is_read text (Err e) h = ⊎_elim (λ memory. inl memory) (λ is. inr (fault_read text e is)) h

-- and a value is a script within the limits
pub answer_is_script : (text : List ℕ) (r : Result Script ScriptError) → Gives NoMemory script_of r (reading text) → IfOk r (λ s. IsScript (script_of s))
answer_is_script text (Ok s) h = script_of_text text (script_of s) (value_read text (script_of s) h)
answer_is_script text (Err e) h = tt

-- whose cells have four inputs
pub answer_has_four : (text : List ℕ) (r : Result Script ScriptError) → Gives NoMemory script_of r (reading text) → IfOk r (λ s. s.geometry.kind ≡ FourInputs)
answer_has_four text (Ok s) h = kind_of_text text (script_of s) (value_read text (script_of s) h)
answer_has_four text (Err e) h = tt
