-- A line that is printed is a line whose words are those that were printed.
use Rattle.std.proofs.Common.{◌≡◌, ◌≢◌, ℕ, suc, ◌+◌, ◌-◌, ◌<◌, Bool, true, false, not, cond, List, [], ◌∷◌, ◌++◌, length, take, map, get_or, refl, sym, ap, subst, ◌∙◌, append_assoc, arith, length-append}
use Rattle.std.specs.Prelude.{◌==◌, nat_lt}
use Rattle.std.specs.List.{AllByRecursion, list_all, flat_map, slice_split, prefix_len}
use Rattle.std.proofs.lemmas.Bool.Decides.{nat_tests}
use Rattle.std.proofs.lemmas.List.{append-nil}
use Rattle.std.proofs.lemmas.List.Folds.{list_all-append}
use Rattle.std.proofs.Math.Seq.{get_or-append_seam}
use Rattle.text_defs.specs.Tokens.{begins_with_token}
use Rattle.blif_defs.specs.Words.{is_blank, is_sign, ends_with, words, IsWord}
use Rattle.blif_defs.specs.Lines.{without_return, without_comment, trimmed, stripped, joins, content, without_last, joined, joined_to}
use Rattle.blif_defs.specs.Grammar.{Statement, statement_of}
use Rattle.blif_defs.specs.Printing.{line_bytes, line_text}
use Rattle.blif_laws.proofs.LineLemmas.{plain_words, words_by, put_first, words-is, split_last, trimmed-sign}
use Rattle.blif_laws.proofs.Joining.{words-append, from_line}
use Rattle.blif_laws.proofs.Sets.{All-append}
use Rattle.blif_laws.proofs.LineWords.{plain, ArePlain, both, and}

-- a sign at the end of a line, which isn't `\`
pub record EndsPlain (line : List ℕ) : Type 0 where
  pub front : List ℕ
  pub last : ℕ
  pub parts : line ≡ front ++ last ∷ []
  pub sign : is_sign last ≡ true
  pub other : (last == 92) ≡ false

-- ---- what is cut off from a line that ends so: nothing

-- a line ends with its last byte
ends_with-push : (c : ℕ) (front : List ℕ) (b : ℕ) → ends_with c (front ++ b ∷ []) ≡ (b == c)
ends_with-push c front b =
    let len : length (front ++ b ∷ []) ≡ length front + 1 = length-append front (b ∷ []) in
    let last : length (front ++ b ∷ []) - 1 ≡ length front = omega arith in
    let some : nat_lt 0 (length (front ++ b ∷ [])) ≡ true = grind (arith, nat_tests) in
    rw (some, last, get_or-append_seam front b [] 0) refl

-- a sign is no carriage return
not_return : (b : ℕ) → is_sign b ≡ true → (b == 13) ≡ false
not_return b h = grind (arith, nat_tests)

-- a sign is no blank
not_blank : (b : ℕ) → is_sign b ≡ true → is_blank b ≡ false
not_blank b h = grind (arith, nat_tests)

-- a line without a comment sign is cut nowhere
uncut : (bytes : List ℕ) → ArePlain bytes → without_comment bytes ≡ bytes
uncut [] h = refl
uncut (b ∷ bs) h =
    let p = both (plain b) (list_all plain bs) h in
    let s : 1 + prefix_len plain bs ≡ suc (prefix_len plain bs) = omega arith in
    let n : prefix_len plain (b ∷ bs) ≡ suc (prefix_len plain bs) = rw p.0 s in
    ap (λ (n : ℕ). take n (b ∷ bs)) n ∙ ap (λ (more : List ℕ). b ∷ more) (uncut bs p.1)

-- nothing goes from a plain line
pub stripped-plain : (line : List ℕ) → ArePlain line → EndsPlain line → stripped line ≡ line
unfolding stripped
stripped-plain line h e =
    let no_return : ends_with 13 line ≡ false = ap (ends_with 13) e.parts ∙ ends_with-push 13 e.front e.last ∙ not_return e.last e.sign in
    let kept : without_return line ≡ line = ap (λ (r : Bool). cond r (without_last line) line) no_return in
    ap (λ (l : List ℕ). trimmed (without_comment l)) kept ∙ ap trimmed (uncut line h)
    ∙ ap trimmed e.parts ∙ trimmed-sign e.front e.last (not_blank e.last e.sign) ∙ sym e.parts

-- a plain line is joined to nothing
pub joins-plain : (line : List ℕ) → ArePlain line → EndsPlain line → joins line ≡ false
joins-plain line h e = ap (ends_with 92) (stripped-plain line h e ∙ e.parts) ∙ ends_with-push 92 e.front e.last ∙ e.other

-- all of a plain line counts
pub content-plain : (line : List ℕ) → ArePlain line → EndsPlain line → content line ≡ line
content-plain line h e =
    ap (λ (j : Bool). cond j (without_last (stripped line)) (stripped line)) (joins-plain line h e) ∙ stripped-plain line h e

-- ---- the words of a printed line

-- signs in a row are one word
single_word : (b : ℕ) (bs : List ℕ) → list_all is_sign (b ∷ bs) ≡ true → plain_words (b ∷ bs) ≡ (b ∷ bs) ∷ []
single_word b [] h =
    let p = both (is_sign b) true h in
    rw (not_blank b p.0) refl
single_word b (c ∷ cs) h =
    let p = both (is_sign b) (list_all is_sign (c ∷ cs)) h in
    let q = both (is_sign c) (list_all is_sign cs) p.1 in
    let more : words_by false (begins_with_token is_blank cs) c (plain_words cs) ≡ (c ∷ cs) ∷ [] =
    ap (λ (blank : Bool). words_by blank (begins_with_token is_blank cs) c (plain_words cs)) (sym (not_blank c q.0)) ∙ single_word c cs p.1 in
    rw (not_blank b p.0, not_blank c q.0) (ap (put_first b) more)

-- a word is a line of one word
pub word_alone : (w : List ℕ) → IsWord w → words w ≡ w ∷ []
word_alone [] h = absurd (h.some refl)
word_alone (b ∷ bs) h = words-is (b ∷ bs) ∙ single_word b bs (both (list_all is_sign (b ∷ bs)) (not (ends_with 92 (b ∷ bs))) h.sound).0

-- the words of a printed line are those that were printed
pub words-line_bytes : (w : List ℕ) (ws : List (List ℕ)) → AllByRecursion IsWord (w ∷ ws) → words (line_bytes (w ∷ ws)) ≡ w ∷ ws
words-line_bytes w [] h = ap words (append-nil w) ∙ word_alone w h.0
words-line_bytes w (v ∷ vs) h =
    words-append w (line_bytes (v ∷ vs)) ∙ ap (λ (ws : List (List ℕ)). ws ++ words (line_bytes (v ∷ vs))) (word_alone w h.0)
    ∙ ap (λ (ws : List (List ℕ)). w ∷ ws) (words-line_bytes v vs h.1)

-- a printed line is plain
pub plain-line_bytes : (w : List ℕ) (ws : List (List ℕ)) → AllByRecursion IsWord (w ∷ ws) → ArePlain (line_bytes (w ∷ ws))
plain-line_bytes w [] h = subst ArePlain (sym (append-nil w)) h.0.uncommented
plain-line_bytes w (v ∷ vs) h =
    list_all-append plain w (32 ∷ line_bytes (v ∷ vs)) ∙ and (list_all plain w) (list_all plain (line_bytes (v ∷ vs))) h.0.uncommented (plain-line_bytes v vs h.1)

-- the end of a word
some_bytes : (w : List ℕ) → w ≢ [] → 0 < length w
some_bytes [] h = absurd (h refl)
some_bytes (b ∷ bs) h = omega arith

-- a test whose opposite holds is false
falsified : (b : Bool) → not b ≡ true → b ≡ false
falsified true e = absurd cc
falsified false e = refl

-- a word ends with a plain byte
ends-word : (w : List ℕ) → IsWord w → EndsPlain w
ends-word w h =
    let lt = some_bytes w h.some in
    let parts = split_last w 0 lt in
    let s = both (list_all is_sign w) (not (ends_with 92 w)) h.sound in
    let signs : list_all is_sign (take (length w - 1) w ++ get_or w (length w - 1) 0 ∷ []) ≡ true = ap (list_all is_sign) (sym parts) ∙ s.0 in
    let last = both (list_all is_sign (take (length w - 1) w)) (list_all is_sign (get_or w (length w - 1) 0 ∷ [])) (sym (list_all-append is_sign (take (length w - 1) w) (get_or w (length w - 1) 0 ∷ [])) ∙ signs) in
    record {
      front = take (length w - 1) w;
      last = get_or w (length w - 1) 0;
      parts = parts;
      sign = (both (is_sign (get_or w (length w - 1) 0)) true last.1).0;
      other = sym (ends_with-push 92 (take (length w - 1) w) (get_or w (length w - 1) 0)) ∙ ap (ends_with 92) (sym parts) ∙ falsified (ends_with 92 w) s.1;
    }

-- and so is its end
pub ends-line_bytes : (w : List ℕ) (ws : List (List ℕ)) → AllByRecursion IsWord (w ∷ ws) → EndsPlain (line_bytes (w ∷ ws))
ends-line_bytes w [] h = subst EndsPlain (sym (append-nil w)) (ends-word w h.0)
ends-line_bytes w (v ∷ vs) h =
    let e = ends-line_bytes v vs h.1 in
    record {
      front = w ++ 32 ∷ e.front;
      last = e.last;
      parts = ap (λ (rest : List ℕ). w ++ 32 ∷ rest) e.parts ∙ sym (append_assoc w (32 ∷ e.front) (e.last ∷ []));
      sign = e.sign;
      other = e.other;
    }

-- ---- the lines of a printed text

-- a line feed
abbrev pub is_feed : ℕ → Bool
is_feed b = b == 10

-- the byte ends no line
abbrev NotFeed : ℕ → Type 0
NotFeed b = is_feed b ≡ false

-- a sign ends no line
not_feed : (b : ℕ) → is_sign b ≡ true → is_feed b ≡ false
not_feed b h = grind (arith, nat_tests)

-- the part before a line feed
split_line : (line rest : List ℕ) → AllByRecursion NotFeed line → slice_split is_feed (line ++ 10 ∷ rest) ≡ line ∷ slice_split is_feed rest
split_line [] rest h = refl
split_line (b ∷ bs) rest h = rw (h.0, split_line bs rest h.1) refl

-- signs have no end of a line among them
no_feeds : (w : List ℕ) → list_all is_sign w ≡ true → AllByRecursion NotFeed w
no_feeds [] h = tt
no_feeds (b ∷ bs) h =
    let p = both (is_sign b) (list_all is_sign bs) h in
    (not_feed b p.0, no_feeds bs p.1)

-- the bytes of a word are signs
word_signs : (w : List ℕ) → IsWord w → list_all is_sign w ≡ true
word_signs w h = (both (list_all is_sign w) (not (ends_with 92 w)) h.sound).0

-- no line feed is in a line of words
no_feeds-line_bytes : (w : List ℕ) (ws : List (List ℕ)) → AllByRecursion IsWord (w ∷ ws) → AllByRecursion NotFeed (line_bytes (w ∷ ws))
no_feeds-line_bytes w [] h = subst (AllByRecursion NotFeed) (sym (append-nil w)) (no_feeds w (word_signs w h.0))
no_feeds-line_bytes w (v ∷ vs) h = All-append NotFeed w (32 ∷ line_bytes (v ∷ vs)) (no_feeds w (word_signs w h.0)) (refl, no_feeds-line_bytes v vs h.1)

-- a line has a word, and each of its words is one
abbrev pub IsLine : List (List ℕ) → Type 0
IsLine [] = ⊥
IsLine (w ∷ ws) = AllByRecursion IsWord (w ∷ ws)

-- the statements of lines of which the first has this number, and the empty one behind them
abbrev pub numbered : ℕ → List (List (List ℕ)) → List Statement
numbered at [] = record { at = at; words = [] } ∷ []
numbered at (line ∷ lines) = record { at = at; words = line } ∷ numbered (at + 1) lines

-- a printed line in front of others
line-from_line : (at : ℕ) (w : List ℕ) (ws : List (List ℕ)) (rest : List (List ℕ)) → AllByRecursion IsWord (w ∷ ws)
    → from_line at (line_bytes (w ∷ ws) ∷ rest) ≡ record { at = at; words = w ∷ ws } ∷ from_line (at + 1) rest
line-from_line at w ws rest h =
    let line = line_bytes (w ∷ ws) in
    let plain_line = plain-line_bytes w ws h in
    let ends = ends-line_bytes w ws h in
    let single : joined at (line ∷ rest) ≡ record { at = at; bytes = content line } ∷ joined (at + 1) rest =
    ap (λ (j : Bool). cond j (joined_to at (content line) (joined (at + 1) rest)) (record { at = at; bytes = content line } ∷ joined (at + 1) rest)) (joins-plain line plain_line ends) in
    let one : List ℕ → List Statement = λ bytes. record { at = at; words = words bytes } ∷ from_line (at + 1) rest in
    let two : List (List ℕ) → List Statement = λ words. record { at = at; words = words } ∷ from_line (at + 1) rest in
    ap (map statement_of) single ∙ ap one (content-plain line plain_line ends) ∙ ap two (words-line_bytes w ws h)

-- the statements of printed lines
pub from_line-printed : (at : ℕ) (lines : List (List (List ℕ))) → AllByRecursion IsLine lines → from_line at (slice_split is_feed (flat_map line_text lines)) ≡ numbered at lines
unfolding stripped
from_line-printed at [] h = refl
from_line-printed at ([] ∷ lines) h = absurd h.0
from_line-printed at ((w ∷ ws) ∷ lines) h =
    let line = line_bytes (w ∷ ws) in
    let rest = flat_map line_text lines in
    ap (λ (text : List ℕ). from_line at (slice_split is_feed text)) (append_assoc line (10 ∷ []) rest)
    ∙ ap (from_line at) (split_line line rest (no_feeds-line_bytes w ws h.0))
    ∙ line-from_line at w ws (slice_split is_feed rest) h.0
    ∙ ap (λ (more : List Statement). record { at = at; words = w ∷ ws } ∷ more) (from_line-printed (at + 1) lines h.1)
