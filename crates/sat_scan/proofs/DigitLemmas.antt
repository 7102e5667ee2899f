-- Reading a number digit by digit.
use Rattle.std.proofs.Common.{◌≡◌, ℕ, zero, suc, ◌+◌, ◌-◌, ◌*◌, ◌^◌, ◌<◌, ◌≤◌, true, false, List, [], ◌∷◌, length, get_or, drop, Option, Some, None, refl, sym, ap, ◌∙◌, arith, ne_eqb}
use Rattle.std.specs.Char.{is_ascii_digit}
use Rattle.std.proofs.lemmas.Bool.{le-leb}
use Rattle.std.proofs.lemmas.Fmt.{decimal_digit}
use Rattle.std.proofs.lemmas.List.{drop_more}
use Rattle.text_defs.specs.Numbers.{number_from, at_most, at_least_one, number_within, positive_within}
use Rattle.text_defs.proofs.NumberLemmas.{at_most-above, positive_within-first, number_within-spelled}
use Rattle.sat_text_defs.specs.Words.{separates}
use Rattle.sat_text_defs.specs.Spellings.{is_zero}
use Rattle.sat_scan.specs.Scan.{word, word_at}
use Rattle.sat_scan.proofs.ScanLemmas.{word-byte}

-- a digit doesn't end a word
digit_inner : (b : ℕ) → 48 ≤ b → b ≤ 57 → separates b ≡ false
digit_inner b low high =
    rw (ne_eqb b 32 (λ e. omega arith), ne_eqb b 9 (λ e. omega arith), ne_eqb b 13 (λ e. omega arith), ne_eqb b 10 (λ e. omega arith)) refl

-- the word at a digit has it and what follows
pub word_at-digit : (at : ℕ) (text : List ℕ) (b : ℕ) → at < length text → b ≡ get_or text at 0 → 48 ≤ b → b ≤ 57
    → word_at at text ≡ b ∷ word_at (at + 1) text
word_at-digit at text b h e low high =
    ap word (drop_more text at 0 h ∙ ap (λ (x : ℕ). x ∷ drop (at + 1) text) (sym e)) ∙ word-byte b (drop (at + 1) text) (digit_inner b low high)

-- the first digit
pub first_digit : (max at : ℕ) (text : List ℕ) (b : ℕ) → at < length text → b ≡ get_or text at 0 → 48 < b → b ≤ 57
    → at_most max (number_from (b - 48) (word_at (at + 1) text)) ≡ positive_within max (word_at at text)
first_digit max at text b h e low high =
    sym (ap (positive_within max) (word_at-digit at text b h e (omega arith) high) ∙ positive_within-first max b (word_at (at + 1) text) low high)

-- the end of the word behind its first digit
pub behind_digit : (at : ℕ) (text : List ℕ) (b : ℕ) → at < length text → b ≡ get_or text at 0 → 48 ≤ b → b ≤ 57
    → at + 1 + length (word_at (at + 1) text) ≡ at + length (word_at at text)
behind_digit at text b h e low high =
    let longer : length (word_at at text) ≡ suc (length (word_at (at + 1) text)) = ap length (word_at-digit at text b h e low high) in omega arith

-- one more digit
pub next_digit : (max n at : ℕ) (text : List ℕ) (b : ℕ) → at < length text → b ≡ get_or text at 0 → 48 ≤ b → b ≤ 57
    → number_from n (word_at at text) ≡ number_from (10 * n + (b - 48)) (word_at (at + 1) text)
next_digit max n at text b h e low high =
    let digit : is_ascii_digit b ≡ true = rw (le-leb 48 b low, le-leb b 57 high) refl in
    ap (number_from n) (word_at-digit at text b h e low high) ∙ rw digit refl

-- a digit that makes the number too great
pub last_digit : (max n at : ℕ) (text : List ℕ) (b : ℕ) → at < length text → b ≡ get_or text at 0 → 48 ≤ b → b ≤ 57 → max < 10 * n + (b - 48)
    → at_most max (number_from n (word_at at text)) ≡ None
last_digit max n at text b h e low high far =
    ap (at_most max) (next_digit max n at text b h e low high) ∙ at_most-above max (10 * n + (b - 48)) (word_at (at + 1) text) far

-- a number that isn't 0 passes the test for at least one
nonzero : (o : Option ℕ) → (o ≡ Some 0 → ⊥) → o ≡ at_least_one o
nonzero None h = refl
nonzero (Some zero) h = absurd (h refl)
nonzero (Some (suc n)) h = rw (le-leb 1 (suc n) (omega arith)) refl

-- a word that isn't `0` spells a number from 1 on, if any
pub nonzero_within : (max : ℕ) (w : List ℕ) → max < 2 ^ 64 → is_zero w ≡ false → positive_within max w ≡ number_within max w
nonzero_within max w small not_zero =
    sym (nonzero (number_within max w) (λ e.
    let spelled = number_within-spelled max 0 w small e in
    let word_is : w ≡ 48 ∷ [] = spelled.0 ∙ decimal_digit 0 (omega arith) in
    let zero_is : is_zero w ≡ true = ap is_zero word_is in
    absurd (cc)))
