-- One turn of the loop over the lines of a text.
use Rattle.std.proofs.Common.{◌≡◌, ℕ, ◌+◌, ◌<◌, ◌≤◌, Bool, true, false, List, [], ◌∷◌, ◌++◌, length, take, drop, Result, Ok, Err, refl, sym, ap, ◌∙◌, ◌⊎◌, inl, inr, arith, ⊎_elim, length-drop, Bor}
use Rattle.std.specs.Prelude.{◌==◌}
use Rattle.std.specs.List.{slice_split, onto_first, position_or_len}
use Rattle.std.proofs.lemmas.Bool.{cases_Bool}
use Rattle.std.proofs.lemmas.Bool.Decides.{nat_tests}
use Rattle.std.proofs.lemmas.List.{take_all, drop-drop}
use Rattle.std.proofs.lemmas.List.Sums.{fails_before_first}
use Rattle.std.proofs.lemmas.List.Splits.{slice_split_none, slice_split_first}
use Rattle.blif_defs.specs.Words.{words}
use Rattle.blif_defs.specs.Lines.{joins, content}
use Rattle.blif_defs.specs.declared.error.BlifError.{BlifError}
use Rattle.text_defs.specs.Steps.{◌>>=◌}
use Rattle.blif_defs.specs.Drafts.{Draft, start}
use Rattle.blif_defs.specs.Grammar.{Statement, with_words, with_statements, statements}
use Rattle.blif_defs.specs.declared.error.BlifError.TheVariants.{NoMemory}
use Rattle.blif_read.specs.Views.{texts}
use Rattle.blif_laws.proofs.LineLemmas.{some_left}
use Rattle.blif_laws.proofs.Joining.{put_in_front, from_line, last_line, single_line, nothing_in_front, joined_line}

-- a line feed
abbrev pub is_feed : ℕ → Bool
is_feed b = b == 10

-- the lines of a text
abbrev pub lines : List ℕ → List (List ℕ)
lines text = slice_split is_feed text

-- what has no byte is empty
none_left : (n : ℕ) → true ≡ (n == 0) → n ≡ 0
none_left n e = grind (arith, nat_tests)

-- the last line of what is left
lines-last : (rest : List ℕ) (n : ℕ) → n ≡ position_or_len is_feed rest → true ≡ (length (drop n rest) == 0) → lines rest ≡ take n rest ∷ []
lines-last rest n n-is none =
    let gone : length (drop n rest) ≡ 0 = none_left (length (drop n rest)) none in
    let long : length rest ≤ n = omega (arith, length-drop n rest) in
    slice_split_none is_feed rest (λ k d lt. fails_before_first is_feed rest k d (omega arith))
    ∙ ap (λ (l : List ℕ). l ∷ []) (sym (take_all n rest long))

-- a line before others
lines-next : (rest : List ℕ) (n : ℕ) → n ≡ position_or_len is_feed rest → false ≡ (length (drop n rest) == 0) → lines rest ≡ take n rest ∷ lines (drop 1 (drop n rest))
lines-next rest n n-is some =
    let left : 0 < length (drop n rest) = some_left (length (drop n rest)) some in
    let lt : position_or_len is_feed rest < length rest = omega (arith, length-drop n rest) in
    slice_split_first is_feed rest 0 lt
    ∙ ap (λ (m : ℕ). take m rest ∷ lines (drop (m + 1) rest)) (sym n-is)
    ∙ ap (λ (more : List ℕ). take n rest ∷ lines more) (sym (drop-drop 1 n rest))

-- there is a line
lines-some : (text : List ℕ) → (l : List ℕ) × (ls : List (List ℕ)) × (lines text ≡ l ∷ ls)
lines-some [] = ([], [], refl)
lines-some (b ∷ bs) = ⊎_elim (λ e. ([], lines bs, rw e refl)) (λ e. first_of_more b bs e (lines-some bs)) (cases_Bool (is_feed b))
  where
    first_of_more : (b : ℕ) (bs : List ℕ) → is_feed b ≡ false → (l : List ℕ) × (ls : List (List ℕ)) × (lines bs ≡ l ∷ ls) → (l : List ℕ) × (ls : List (List ℕ)) × (lines (b ∷ bs) ≡ l ∷ ls)
    first_of_more b bs e s = (b ∷ s.0, s.1, rw e (ap (onto_first b) s.2))

-- a line that was pushed, as an answer
abbrev ok : Bool × List (List ℕ) → Result (Bool × List (List ℕ)) BlifError
ok x = Ok x

-- equal answers have equal lines
ok_is : (x y : Bool × List (List ℕ)) → ok x ≡ ok y → x ≡ y
ok_is x y e = cc

-- a line that was pushed: whether it joins, and the words
pub pushed_joins : (x y : Bool × List (List ℕ)) → ok x ≡ ok y → x.0 ≡ y.0
pushed_joins x y e = ap (λ (z : Bool × List (List ℕ)). z.0) (ok_is x y e)

-- and the words that were there and those of the line
pub pushed_words : (x y : Bool × List (List ℕ)) → ok x ≡ ok y → y.1 ≡ x.1
pushed_words x y e = ap (λ (z : Bool × List (List ℕ)). z.1) (sym (ok_is x y e))

-- the words so far, as a slice of the vector to which the line was pushed
pushed_slice : (line : List ℕ) (pending : List (List ℕ)) (flag : Bool) (items slice : List (Bor (List ℕ))) → slice ≡ items
    → ok (joins line, pending ++ words (content line)) ≡ ok (flag, texts items) → texts slice ≡ pending ++ words (content line)
pushed_slice line pending flag items slice slice-is e = ap texts slice-is ∙ pushed_words (joins line, pending ++ words (content line)) (flag, texts items) e

-- a draft, as an answer
abbrev ok_draft : Draft → Result Draft BlifError
ok_draft d = Ok d

-- equal answers have equal drafts
draft_is : (d e : Draft) → ok_draft d ≡ ok_draft e → d ≡ e
draft_is d e h = cc

-- before the first line
pub lines_begin : (d : Draft) (text : List ℕ) (items : List (Bor (List ℕ))) → ok_draft start ≡ ok_draft d → items ≡ []
    → with_statements d (put_in_front 1 (texts items) (from_line 1 (lines text))) ≡ with_statements start (statements text)
lines_begin d text items h none =
    let s = lines-some text in
    ap (λ (is : List (Bor (List ℕ))). with_statements d (put_in_front 1 (texts is) (from_line 1 (lines text)))) none
    ∙ ap (λ (ls : List (List ℕ)). with_statements d (put_in_front 1 [] (from_line 1 ls))) s.2
    ∙ ap (with_statements d) (nothing_in_front 1 s.0 s.1)
    ∙ sym (ap (λ (ls : List (List ℕ)). with_statements d (from_line 1 ls)) s.2)
    ∙ ap (λ (e : Draft). with_statements e (statements text)) (sym (draft_is start d h))

-- ---- the turns

-- the last line gives what the whole text gives
pub last_step : (d : Draft) (first at n : ℕ) (pending : List (List ℕ)) (flag : Bool) (items slice : List (Bor (List ℕ))) (rest line after : List ℕ) (total : Result Draft BlifError)
    → n ≡ position_or_len is_feed rest → line ≡ take n rest → after ≡ drop n rest → true ≡ (length after == 0)
    → ok (joins line, pending ++ words (content line)) ≡ ok (flag, texts items) → slice ≡ items
    → with_statements d (put_in_front first pending (from_line at (lines rest))) ≡ total
    → total ≡ (with_words first d (texts slice) >>= λ e. with_statements e [])
last_step d first at n pending flag items slice rest line after total n-is line-is after-is none pushed slice-is so_far =
    let ws-is = pushed_slice line pending flag items slice slice-is pushed in
    let none : true ≡ (length (drop n rest) == 0) = rw after-is at none in
    let split : lines rest ≡ line ∷ [] = lines-last rest n n-is none ∙ ap (λ (l : List ℕ). l ∷ []) (sym line-is) in
    sym so_far
    ∙ ap (λ (ls : List (List ℕ)). with_statements d (put_in_front first pending (from_line at ls))) split
    ∙ ap (with_statements d) (last_line first pending at line)
    ∙ ap (λ (ws : List (List ℕ)). with_words first d ws >>= λ e. with_statements e []) (sym ws-is)

-- so does a line that is joined to nothing
pub single_step : (d : Draft) (first at n : ℕ) (pending : List (List ℕ)) (flag : Bool) (items slice : List (Bor (List ℕ))) (rest line after next : List ℕ) (total : Result Draft BlifError)
    → n ≡ position_or_len is_feed rest → line ≡ take n rest → after ≡ drop n rest → false ≡ (length after == 0) → next ≡ drop 1 after
    → ok (joins line, pending ++ words (content line)) ≡ ok (flag, texts items) → slice ≡ items → flag ≡ false
    → with_statements d (put_in_front first pending (from_line at (lines rest))) ≡ total
    → total ≡ (with_words first d (texts slice) >>= λ e. with_statements e (put_in_front (at + 1) [] (from_line (at + 1) (lines next))))
single_step d first at n pending flag items slice rest line after next total n-is line-is after-is some next-is pushed slice-is flag-is so_far =
    let ws-is = pushed_slice line pending flag items slice slice-is pushed in
    let single = pushed_joins (joins line, pending ++ words (content line)) (flag, texts items) pushed ∙ flag-is in
    let some : false ≡ (length (drop n rest) == 0) = rw after-is at some in
    let more : lines (drop 1 (drop n rest)) ≡ lines next = ap lines (ap (drop 1) (sym after-is) ∙ sym next-is) in
    let split : lines rest ≡ line ∷ lines next = lines-next rest n n-is some ∙ ap (λ (l : List ℕ). l ∷ lines (drop 1 (drop n rest))) (sym line-is) ∙ ap (λ (ls : List (List ℕ)). line ∷ ls) more in
    let s = lines-some next in
    let front : from_line (at + 1) (lines next) ≡ put_in_front (at + 1) [] (from_line (at + 1) (lines next)) =
    ap (from_line (at + 1)) s.2 ∙ sym (nothing_in_front (at + 1) s.0 s.1) ∙ sym (ap (λ (ls : List (List ℕ)). put_in_front (at + 1) [] (from_line (at + 1) ls)) s.2) in
    sym so_far
    ∙ ap (λ (ls : List (List ℕ)). with_statements d (put_in_front first pending (from_line at ls))) split
    ∙ ap (with_statements d) (single_line first pending at line (lines next) single)
    ∙ ap (λ (ws : List (List ℕ)). with_words first d ws >>= λ e. with_statements e (from_line (at + 1) (lines next))) (sym ws-is)
    ∙ ap (λ (more : List Statement). with_words first d (texts slice) >>= λ e. with_statements e more) front

-- and a line that is joined to the next one
pub join_step : (d : Draft) (first at n : ℕ) (pending : List (List ℕ)) (flag : Bool) (items slice : List (Bor (List ℕ))) (rest line after next : List ℕ) (total : Result Draft BlifError)
    → n ≡ position_or_len is_feed rest → line ≡ take n rest → after ≡ drop n rest → false ≡ (length after == 0) → next ≡ drop 1 after
    → ok (joins line, pending ++ words (content line)) ≡ ok (flag, texts items) → slice ≡ items → flag ≡ true
    → with_statements d (put_in_front first pending (from_line at (lines rest))) ≡ total
    → with_statements d (put_in_front first (texts slice) (from_line (at + 1) (lines next))) ≡ total
join_step d first at n pending flag items slice rest line after next total n-is line-is after-is some next-is pushed slice-is flag-is so_far =
    let ws-is = pushed_slice line pending flag items slice slice-is pushed in
    let joined = pushed_joins (joins line, pending ++ words (content line)) (flag, texts items) pushed ∙ flag-is in
    let some : false ≡ (length (drop n rest) == 0) = rw after-is at some in
    let more : lines (drop 1 (drop n rest)) ≡ lines next = ap lines (ap (drop 1) (sym after-is) ∙ sym next-is) in
    let split : lines rest ≡ line ∷ lines next = lines-next rest n n-is some ∙ ap (λ (l : List ℕ). l ∷ lines (drop 1 (drop n rest))) (sym line-is) ∙ ap (λ (ls : List (List ℕ)). line ∷ ls) more in
    let s = lines-some next in
    ap (λ (ws : List (List ℕ)). with_statements d (put_in_front first ws (from_line (at + 1) (lines next)))) ws-is
    ∙ ap (λ (ls : List (List ℕ)). with_statements d (put_in_front first (pending ++ words (content line)) (from_line (at + 1) ls))) s.2
    ∙ sym (ap (λ (ls : List (List ℕ)). with_statements d (put_in_front first pending (from_line at (line ∷ ls)))) s.2
    ∙ ap (with_statements d) (joined_line first pending at line s.0 s.1 joined))
    ∙ sym (ap (λ (ls : List (List ℕ)). with_statements d (put_in_front first pending (from_line at ls))) split)
    ∙ so_far

-- ---- what a step gives to the whole

-- a step that gives a value leaves the rest
pub goes_on : {A B : Type 0} (r : Result A BlifError) (x : A) (f : A → Result B BlifError) (total : Result B BlifError) → r ≡ Ok x → total ≡ (r >>= f) → total ≡ f x
goes_on r x f total e t = t ∙ ap (λ (s : Result _ BlifError). s >>= f) e

-- a step that fails is where the whole fails
pub fails : {A B : Type 0} (e : BlifError) (r : Result A BlifError) (f : A → Result B BlifError) (total : Result B BlifError)
    → (e ≡ NoMemory) ⊎ (r ≡ Err e) → total ≡ (r >>= f) → (e ≡ NoMemory) ⊎ (total ≡ Err e)
fails e r f total h t = ⊎_elim (λ memory. inl memory) (λ is. inr (t ∙ ap (λ (s : Result _ BlifError). s >>= f) is)) h
