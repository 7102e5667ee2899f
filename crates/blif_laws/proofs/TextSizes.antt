-- The words of a text take no more bytes than the text, where each word counts one byte more than it has: a
-- blank or the end of a line comes after it, but for the last one.
use Rattle.std.proofs.Common.{◌≡◌, ℕ, ◌+◌, ◌-◌, ◌≤◌, Bool, true, false, not, cond, List, [], ◌∷◌, ◌++◌, length, map, take, sum_by, sym, subst, arith, length-append}
use Rattle.std.specs.Prelude.{◌==◌}
use Rattle.std.specs.List.{slice_split, onto_first, position_or_len}
use Rattle.std.proofs.lemmas.List.{length-take}
use Rattle.std.proofs.lemmas.List.Sums.{sum_by-cons}
use Rattle.text_defs.specs.Tokens.{begins_with_token}
use Rattle.blif_defs.specs.Words.{is_blank, words, ends_with}
use Rattle.blif_defs.specs.Lines.{Line, without_last, without_return, without_comment, trimmed, onto_trimmed, stripped, joins, content, joined, joined_to, lines_of}
use Rattle.blif_defs.specs.Grammar.{Statement, statement_of, statements}
use Rattle.blif_laws.proofs.LineLemmas.{plain_words, words_by, put_first, words-is}

-- the bytes of words or of lines, and one more for each
abbrev pub words_size : List (List ℕ) → ℕ
words_size ws = sum_by (λ w. length w + 1) ws

-- the bytes of lines, and one more for each line
abbrev lines_size : List Line → ℕ
lines_size ls = sum_by (λ (l : Line). length l.bytes + 1) ls

-- the size of all statements
abbrev pub statements_size : List Statement → ℕ
statements_size ss = sum_by (λ (s : Statement). words_size s.words) ss

-- the size of one word more
pub words_size-cons : (w : List ℕ) (ws : List (List ℕ)) → words_size (w ∷ ws) ≡ length w + 1 + words_size ws
words_size-cons w ws = sum_by-cons (λ (v : List ℕ). length v + 1) w ws

-- ---- the words of a line

-- one byte to spare, or none
abbrev one_if : Bool → ℕ
one_if true = 1
one_if false = 0

-- at most one byte is to spare
one_if-le : (b : Bool) → one_if b ≤ 1
one_if-le true = omega arith
one_if-le false = omega arith

-- one byte more in the first word counts one more
words_size-put_first : (b : ℕ) (ws : List (List ℕ)) (n : ℕ) → words_size ws ≤ n + 1 → words_size (put_first b ws) ≤ n + 2
words_size-put_first b [] n h = omega (arith, words_size-cons (b ∷ []) [])
words_size-put_first b (w ∷ ws) n h = omega (arith, h, words_size-cons w ws, words_size-cons (b ∷ w) ws)

-- one byte more in front of a line counts one more, but for the one that is to spare
words_size-words_by : (blank starts : Bool) (b : ℕ) (ws : List (List ℕ)) (n : ℕ) → words_size ws ≤ n + one_if starts
    → words_size (words_by blank starts b ws) ≤ n + 1 + one_if (not blank)
words_size-words_by true starts b ws n h = omega (arith, h, one_if-le starts)
words_size-words_by false true b ws n h = omega (arith, words_size-put_first b ws n h)
words_size-words_by false false b ws n h = omega (arith, h, words_size-cons (b ∷ []) ws)

-- where a line begins with a blank, that blank is to spare
words_size-plain_words : (line : List ℕ) → words_size (plain_words line) ≤ length line + one_if (begins_with_token is_blank line)
words_size-plain_words [] = omega arith
words_size-plain_words (b ∷ bs) =
    omega (arith, words_size-words_by (is_blank b) (begins_with_token is_blank bs) b (plain_words bs) (length bs) (words_size-plain_words bs))

-- the words of a line are no longer than the line and its end
words_size-words : (line : List ℕ) → words_size (words line) ≤ length line + 1
words_size-words line =
    let P : List (List ℕ) → Type 0 = λ ws. words_size ws ≤ length line + 1 in
    subst P (sym (words-is line)) (omega (arith, words_size-plain_words line, one_if-le (begins_with_token is_blank line)))

-- ---- what counts of a line

-- a byte in front of a trimmed line adds at most that byte
length-onto_trimmed : (b : ℕ) (t : List ℕ) → length (onto_trimmed b t) ≤ length t + 1
length-onto_trimmed b [] = by (is_blank b)
  where
    by : (blank : Bool) → length (cond blank [] (b ∷ [])) ≤ 1
    by true = omega arith
    by false = omega arith
length-onto_trimmed b (c ∷ cs) = omega arith

-- a line is no longer without its blanks
length-trimmed : (bytes : List ℕ) → length (trimmed bytes) ≤ length bytes
length-trimmed [] = omega arith
length-trimmed (b ∷ bs) = omega (arith, length-onto_trimmed b (trimmed bs), length-trimmed bs)

-- nor are its first bytes
length-front : (n : ℕ) (bytes : List ℕ) → length (take n bytes) ≤ length bytes
length-front n bytes = omega (arith, length-take n bytes)

-- nor is it without its carriage return
length-without_return : (line : List ℕ) → length (without_return line) ≤ length line
length-without_return line = by (ends_with 13 line)
  where
    by : (r : Bool) → length (cond r (without_last line) line) ≤ length line
    by true = length-front (length line - 1) line
    by false = omega arith

-- nor without its comment
length-without_comment : (line : List ℕ) → length (without_comment line) ≤ length line
length-without_comment line = length-front (position_or_len (λ b. b == 35) line) line

-- nor without both
length-stripped : (line : List ℕ) → length (stripped line) ≤ length line
unfolding stripped
length-stripped line =
    omega (arith, length-trimmed (without_comment (without_return line)), length-without_comment (without_return line), length-without_return line)

-- so what counts of a line is no longer than it
length-content : (line : List ℕ) → length (content line) ≤ length line
length-content line = by (joins line)
  where
    by : (j : Bool) → length (cond j (without_last (stripped line)) (stripped line)) ≤ length line
    by true = omega (arith, length-front (length (stripped line) - 1) (stripped line), length-stripped line)
    by false = length-stripped line

-- ---- the lines of a text

-- the space between two lines that are joined stands for the end of the first one
lines_size-joined_to : (at : ℕ) (bytes : List ℕ) (ls : List Line) → lines_size (joined_to at bytes ls) ≡ length bytes + 1 + lines_size ls
lines_size-joined_to at bytes [] = sum_by-cons (λ (l : Line). length l.bytes + 1) (record { at = at; bytes = bytes }) []
lines_size-joined_to at bytes (n ∷ ns) =
    let both = sum_by-cons (λ (l : Line). length l.bytes + 1) (record { at = at; bytes = bytes ++ 32 ∷ n.bytes }) ns in
    let after = sum_by-cons (λ (l : Line). length l.bytes + 1) n ns in
    omega (arith, both, after, length-append bytes (32 ∷ n.bytes))

-- joined lines are no longer than the lines
lines_size-joined : (at : ℕ) (lines : List (List ℕ)) → lines_size (joined at lines) ≤ words_size lines
lines_size-joined at [] = omega arith
lines_size-joined at (line ∷ more) =
    omega (arith, by (joins line), length-content line, lines_size-joined (at + 1) more, words_size-cons line more)
  where
    by : (j : Bool) → lines_size (cond j (joined_to at (content line) (joined (at + 1) more)) (record { at = at; bytes = content line } ∷ joined (at + 1) more))
        ≡ length (content line) + 1 + lines_size (joined (at + 1) more)
    by true = lines_size-joined_to at (content line) (joined (at + 1) more)
    by false = sum_by-cons (λ (l : Line). length l.bytes + 1) (record { at = at; bytes = content line }) (joined (at + 1) more)

-- one byte more in the first part counts one more
words_size-onto_first : (b : ℕ) (parts : List (List ℕ)) (n : ℕ) → words_size parts ≤ n + 1 → words_size (onto_first b parts) ≤ n + 2
words_size-onto_first b [] n h = omega (arith, words_size-cons (b ∷ []) [])
words_size-onto_first b (p ∷ ps) n h = omega (arith, h, words_size-cons p ps, words_size-cons (b ∷ p) ps)

-- the bytes at which a text is cut stand for the ends of its parts, but for the last one
words_size-slice_split : (p : ℕ → Bool) (text : List ℕ) → words_size (slice_split p text) ≤ length text + 1
words_size-slice_split p [] = omega (arith, words_size-cons [] [])
words_size-slice_split p (b ∷ bs) = omega (arith, by (p b) (words_size-slice_split p bs))
  where
    by : (cut : Bool) → words_size (slice_split p bs) ≤ length bs + 1 → words_size (cond cut ([] ∷ slice_split p bs) (onto_first b (slice_split p bs))) ≤ length bs + 2
    by true h = omega (arith, words_size-cons [] (slice_split p bs), h)
    by false h = words_size-onto_first b (slice_split p bs) (length bs) h

-- the words of lines are no longer than the lines
statements_size-lines : (ls : List Line) → statements_size (map statement_of ls) ≤ lines_size ls
statements_size-lines [] = omega arith
statements_size-lines (l ∷ ls) =
    let words_of = sum_by-cons (λ (s : Statement). words_size s.words) (statement_of l) (map statement_of ls) in
    let lines = sum_by-cons (λ (m : Line). length m.bytes + 1) l ls in
    omega (arith, words_of, lines, words_size-words l.bytes, statements_size-lines ls)

-- the words of all lines
pub statements_size-le : (text : List ℕ) → statements_size (statements text) ≤ length text + 1
statements_size-le text =
    let lines = slice_split (λ b. b == 10) text in
    omega (arith, statements_size-lines (lines_of text), lines_size-joined 1 lines, words_size-slice_split (λ b. b == 10) text)
