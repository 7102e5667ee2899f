-- How one goes along a line, from its first byte or from its last.
use Rattle.std.proofs.Common.{◌≡◌, ℕ, zero, suc, ◌+◌, ◌-◌, ◌<◌, ◌≤◌, Bool, true, false, List, [], ◌∷◌, ◌++◌, length, map, get_or, take, drop, refl, sym, ap, ◌∙◌, append_assoc, arith, subst, ⊎_elim}
use Rattle.std.specs.List.{position_or_len}
use Rattle.std.proofs.lemmas.Bool.{cases_Bool}
use Rattle.std.proofs.lemmas.List.{take_more, take_all}
use Rattle.text_defs.specs.Tokens.{Token, tokens, lengthened, begins_with_token}
use Rattle.std.specs.Prelude.{◌==◌}
use Rattle.blif_defs.specs.Words.{is_blank, words}
use Rattle.blif_defs.specs.Lines.{trimmed, onto_trimmed}

-- a list with an element is what stands before the last one, and the last one
pub split_last : {X : Type 0} (xs : List X) (d : X) → 0 < length xs → xs ≡ take (length xs - 1) xs ++ get_or xs (length xs - 1) d ∷ []
split_last xs d h =
    let lt : length xs - 1 < length xs = omega arith in
    let e : length xs - 1 + 1 ≡ length xs = omega arith in
    sym (take_all (length xs) xs (omega arith)) ∙ ap (λ (n : ℕ). take n xs) (sym e) ∙ take_more xs (length xs - 1) d lt

-- ---- the end of a line

-- a blank at the end goes
pub trimmed-blank : (front : List ℕ) (b : ℕ) → is_blank b ≡ true → trimmed (front ++ b ∷ []) ≡ trimmed front
trimmed-blank [] b h = rw h refl
trimmed-blank (c ∷ cs) b h = ap (onto_trimmed c) (trimmed-blank cs b h)

-- another byte at the end stays, and all before it
pub trimmed-sign : (front : List ℕ) (b : ℕ) → is_blank b ≡ false → trimmed (front ++ b ∷ []) ≡ front ++ b ∷ []
trimmed-sign [] b h = rw h refl
trimmed-sign (c ∷ []) b h = ap (onto_trimmed c) (trimmed-sign [] b h)
trimmed-sign (c ∷ d ∷ ds) b h = ap (onto_trimmed c) (trimmed-sign (d ∷ ds) b h)

-- ---- words

-- the words of a line do not depend on where it stands
abbrev pub bytes_of : List Token → List (List ℕ)
bytes_of ts = map (λ t. t.bytes) ts

-- a byte in front of the first of some words
abbrev pub put_first : ℕ → List (List ℕ) → List (List ℕ)
put_first b [] = (b ∷ []) ∷ []
put_first b (w ∷ ws) = (b ∷ w) ∷ ws

-- a token that is lengthened in front has one byte more
bytes_of-lengthened : (at b : ℕ) (ts : List Token) → bytes_of (lengthened at b ts) ≡ put_first b (bytes_of ts)
bytes_of-lengthened at b [] = refl
bytes_of-lengthened at b (t ∷ ts) = refl

-- the words of a line with one byte more, by whether it and the next one are blanks
abbrev pub words_by : Bool → Bool → ℕ → List (List ℕ) → List (List ℕ)
words_by true starts b ws = ws
words_by false true b ws = put_first b ws
words_by false false b ws = (b ∷ []) ∷ ws

-- the words by a recursion on the line
abbrev pub plain_words : List ℕ → List (List ℕ)
plain_words [] = []
plain_words (b ∷ bs) = words_by (is_blank b) (begins_with_token is_blank bs) b (plain_words bs)

-- the tokens of a line are its words
bytes_of-tokens : (at : ℕ) (line : List ℕ) → bytes_of (tokens is_blank at line) ≡ plain_words line
bytes_of-tokens at [] = refl
bytes_of-tokens at (b ∷ bs) = one at b bs (is_blank b) refl (begins_with_token is_blank bs) refl (bytes_of-tokens (at + 1) bs)
  where
    one : (at b : ℕ) (bs : List ℕ) (blank : Bool) → is_blank b ≡ blank → (starts : Bool) → begins_with_token is_blank bs ≡ starts → bytes_of (tokens is_blank (at + 1) bs) ≡ plain_words bs
        → bytes_of (tokens is_blank at (b ∷ bs)) ≡ words_by blank starts b (plain_words bs)
    one at b bs true h starts s ih = rw h ih
    one at b bs false h true s ih = rw (h, s) (bytes_of-lengthened at b (tokens is_blank (at + 1) bs) ∙ ap (put_first b) ih)
    one at b bs false h false s ih = rw (h, s) (ap (λ (ws : List (List ℕ)). (b ∷ []) ∷ ws) ih)

-- the words of a line, byte by byte
pub words-is : (line : List ℕ) → words line ≡ plain_words line
words-is line = bytes_of-tokens 0 line

-- a blank in front of a line adds no word
plain_words-blank : (b : ℕ) (bs : List ℕ) → is_blank b ≡ true → plain_words (b ∷ bs) ≡ plain_words bs
plain_words-blank b bs h = rw h refl

-- the first word and the words after it
abbrev first_and_rest : ℕ → ℕ → List ℕ → List (List ℕ)
first_and_rest b n bs = (b ∷ take n bs) ∷ plain_words (drop n bs)

-- a byte before a blank is a word of its own
word_before_blank : (b c : ℕ) (cs : List ℕ) → is_blank b ≡ false → is_blank c ≡ true
    → plain_words (b ∷ c ∷ cs) ≡ first_and_rest b (position_or_len is_blank (c ∷ cs)) (c ∷ cs)
word_before_blank b c cs h e =
    rw (h, e) (ap (λ (ws : List (List ℕ)). (b ∷ []) ∷ ws) (sym (plain_words-blank c cs e)))

-- a byte before a sign lengthens the word behind it
word_goes_on : (b c : ℕ) (cs : List ℕ) → is_blank b ≡ false → is_blank c ≡ false
    → plain_words (c ∷ cs) ≡ first_and_rest c (position_or_len is_blank cs) cs
    → plain_words (b ∷ c ∷ cs) ≡ first_and_rest b (position_or_len is_blank (c ∷ cs)) (c ∷ cs)
word_goes_on b c cs h e ih =
    let s : 1 + position_or_len is_blank cs ≡ suc (position_or_len is_blank cs) = omega arith in
    let ih : words_by false (begins_with_token is_blank cs) c (plain_words cs) ≡ first_and_rest c (position_or_len is_blank cs) cs = rw e at ih in
    rw (h, e) (rw s (ap (put_first b) ih))

-- a line that begins with a sign has the word up to the next blank as its first
plain_words-word : (b : ℕ) (bs : List ℕ) → is_blank b ≡ false → plain_words (b ∷ bs) ≡ first_and_rest b (position_or_len is_blank bs) bs
plain_words-word b [] h = rw h refl
plain_words-word b (c ∷ cs) h =
    ⊎_elim (λ e. word_before_blank b c cs h e) (λ e. word_goes_on b c cs h e (plain_words-word c cs e)) (cases_Bool (is_blank c))

-- ---- a step of the loop over a line

-- a blank in front is skipped
pub words_skip : (rest : List ℕ) → 0 < length rest → is_blank (get_or rest 0 0) ≡ true → words (drop 1 rest) ≡ words rest
words_skip [] h e = absurd (omega arith)
words_skip (b ∷ bs) h e = words-is bs ∙ sym (plain_words-blank b bs e) ∙ sym (words-is (b ∷ bs))

-- a word has a byte at least
pub word_some : (rest : List ℕ) → 0 < length rest → is_blank (get_or rest 0 0) ≡ false → 0 < position_or_len is_blank rest
word_some [] h e = absurd (omega arith)
word_some (b ∷ bs) h e = rw e (omega arith)

-- the first word is taken
pub words_take : (rest : List ℕ) → 0 < length rest → is_blank (get_or rest 0 0) ≡ false
    → take (position_or_len is_blank rest) rest ∷ words (drop (position_or_len is_blank rest) rest) ≡ words rest
words_take [] h e = absurd (omega arith)
words_take (b ∷ bs) h e =
    let s : 1 + position_or_len is_blank bs ≡ suc (position_or_len is_blank bs) = omega arith in
    let n-is : position_or_len is_blank (b ∷ bs) ≡ suc (position_or_len is_blank bs) = rw e s in
    let here : first_and_rest b (position_or_len is_blank bs) bs ≡ words (b ∷ bs) = sym (plain_words-word b bs e) ∙ sym (words-is (b ∷ bs)) in
    let there : (b ∷ take (position_or_len is_blank bs) bs) ∷ words (drop (position_or_len is_blank bs) bs) ≡ first_and_rest b (position_or_len is_blank bs) bs =
    ap (λ (ws : List (List ℕ)). (b ∷ take (position_or_len is_blank bs) bs) ∷ ws) (words-is (drop (position_or_len is_blank bs) bs)) in
    let P : ℕ → Type 0 = λ n. take n (b ∷ bs) ∷ words (drop n (b ∷ bs)) ≡ words (b ∷ bs) in
    subst P (sym n-is) (there ∙ here)

-- the next word goes to those before it
pub words_on : (before : List (List ℕ)) (rest : List ℕ) (all : List (List ℕ)) → 0 < length rest → is_blank (get_or rest 0 0) ≡ false → before ++ words rest ≡ all
    → (before ++ take (position_or_len is_blank rest) rest ∷ []) ++ words (drop (position_or_len is_blank rest) rest) ≡ all
words_on before rest all h e so_far =
    append_assoc before (take (position_or_len is_blank rest) rest ∷ []) (words (drop (position_or_len is_blank rest) rest))
    ∙ ap (λ (ws : List (List ℕ)). before ++ ws) (words_take rest h e) ∙ so_far

-- a number that isn't 0 is more
pub some_left : (n : ℕ) → false ≡ (n == 0) → 0 < n
some_left zero e = absurd cc
some_left (suc n) e = omega arith

-- a blank at the end of what is left is taken off
pub trimmed_step : (rest : List ℕ) → 0 < length rest → is_blank (get_or rest (length rest - 1) 0) ≡ true → trimmed (take (length rest - 1) rest) ≡ trimmed rest
trimmed_step rest h e =
    sym (trimmed-blank (take (length rest - 1) rest) (get_or rest (length rest - 1) 0) e)
    ∙ ap trimmed (sym (split_last rest 0 h))

-- another byte ends the search
pub trimmed_whole : (rest : List ℕ) → 0 < length rest → is_blank (get_or rest (length rest - 1) 0) ≡ false → rest ≡ trimmed rest
trimmed_whole rest h e =
    split_last rest 0 h ∙ sym (trimmed-sign (take (length rest - 1) rest) (get_or rest (length rest - 1) 0) e)
    ∙ ap trimmed (sym (split_last rest 0 h))

-- a position is at most the length
pub position_or_len-within : (p : ℕ → Bool) (xs : List ℕ) → position_or_len p xs ≤ length xs
position_or_len-within p [] = omega arith
position_or_len-within p (x ∷ xs) = grind (arith, position_or_len-within p xs)
