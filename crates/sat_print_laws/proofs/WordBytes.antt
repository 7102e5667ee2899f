-- The words of numbers and literals have no separators.
use Rattle.std.proofs.Common.{◌≡◌, ℕ, ◌+◌, ◌-◌, ◌*◌, ◌<◌, ◌≤◌, ◌^◌, ◌==◌, Bool, true, false, List, length, [], ◌∷◌, Some, None, nat_le, refl, sym, ◌∙◌, decimal, arith}
use Rattle.std.proofs.lemmas.Bool.{and_parts, leb-true, ne_eqb}
use Rattle.clause_defs.specs.declared.verdict.TheConstants.{MAX_VARIABLE}
use Rattle.clause_defs.specs.Literals.{Literal, IsLiteral}
use Rattle.std.specs.Char.{is_ascii_digit}
use Rattle.text_defs.specs.Numbers.{number_from, number_in}
use Rattle.text_defs.proofs.NumberLemmas.{number_in-spelled}
use Rattle.text_defs.proofs.TokenLemmas.{NoneSeparates}
use Rattle.sat_text_defs.specs.Words.{separates, literal_word}
use Rattle.sat_text_defs.specs.Spellings.{literal}

-- ---- digits

-- the first of the digits that are read, and the rest
digit_first : (v b n : ℕ) (bs : List ℕ) (t : Bool) → is_ascii_digit b ≡ t → number_from v (b ∷ bs) ≡ Some n
    → (is_ascii_digit b ≡ true) × (number_from (10 * v + (b - 48)) bs ≡ Some n)
digit_first v b n bs true e h = let goes_on : number_from v (b ∷ bs) ≡ number_from (10 * v + (b - 48)) bs = rw e refl in (e, sym goes_on ∙ h)
digit_first v b n bs false e h = let stops : number_from v (b ∷ bs) ≡ None = rw e refl in absurd (cc)

-- a digit is one of the bytes 48 to 57
digit_bounds : (b : ℕ) → is_ascii_digit b ≡ true → (48 ≤ b) × (b ≤ 57)
digit_bounds b h = let parts = and_parts (nat_le 48 b) (nat_le b 57) h in (leb-true 48 b parts.0, leb-true b 57 parts.1)

-- a digit separates no words
digit_no_separator : (b : ℕ) → is_ascii_digit b ≡ true → separates b ≡ false
digit_no_separator b h =
    let low : 48 ≤ b = (digit_bounds b h).0 in
    rw (ne_eqb b 32 (λ e. omega arith), ne_eqb b 9 (λ e. omega arith), ne_eqb b 13 (λ e. omega arith), ne_eqb b 10 (λ e. omega arith)) refl

-- bytes that are read as digits have no separator
NoneSeparates-digits : (v n : ℕ) (ds : List ℕ) → number_from v ds ≡ Some n → NoneSeparates separates ds
NoneSeparates-digits v n [] h = tt
NoneSeparates-digits v n (b ∷ bs) h =
    let first = digit_first v b n bs (is_ascii_digit b) refl h in
    (digit_no_separator b first.0, NoneSeparates-digits (10 * v + (b - 48)) n bs first.1)

-- a word of two bytes or more that spells a number is read digit by digit
longer : (b c n : ℕ) (bs : List ℕ) (t : Bool) → (b == 48) ≡ t → number_in (b ∷ c ∷ bs) ≡ Some n → number_from 0 (b ∷ c ∷ bs) ≡ Some n
longer b c n bs true e h = let none : number_in (b ∷ c ∷ bs) ≡ None = rw e refl in absurd (cc)
longer b c n bs false e h = let goes_on : number_in (b ∷ c ∷ bs) ≡ number_from 0 (b ∷ c ∷ bs) = rw e refl in sym goes_on ∙ h

-- ---- words

-- the first byte of a word
abbrev pub first_byte : List ℕ → ℕ
first_byte [] = 0
first_byte (b ∷ bs) = b

-- Bytes, none of them a separator. The first one is at most the digit 9, so it begins no comment.
pub record IsWord (w : List ℕ) : Type 0 where
  pub nonempty : (w ≡ []) → ⊥
  pub first : first_byte w ≤ 57
  pub bytes : NoneSeparates separates w

-- the first of bytes that are read as digits is at most the digit 9
first_low : (v b n : ℕ) (bs : List ℕ) → number_from v (b ∷ bs) ≡ Some n → b ≤ 57
first_low v b n bs h = (digit_bounds b (digit_first v b n bs (is_ascii_digit b) refl h).0).1

-- bytes that are read as a number are a word
IsWord-number : (n : ℕ) (w : List ℕ) → number_in w ≡ Some n → IsWord w
IsWord-number n [] h = absurd (cc)
IsWord-number n (b ∷ []) h = record { nonempty = λ e. absurd (cc); first = first_low 0 b n [] h; bytes = NoneSeparates-digits 0 n (b ∷ []) h }
IsWord-number n (b ∷ c ∷ bs) h =
    let goes_on = longer b c n bs (b == 48) refl h in
    record { nonempty = λ e. absurd (cc); first = first_low 0 b n (c ∷ bs) goes_on; bytes = NoneSeparates-digits 0 n (b ∷ c ∷ bs) goes_on }

-- a number is a word
pub IsWord-decimal : (n : ℕ) → n < 2 ^ 64 → IsWord (decimal n)
IsWord-decimal n small = IsWord-number n (decimal n) (number_in-spelled (decimal n) n small refl)

-- a literal within the limits, of either sign, is a word
word_by_sign : (s : Bool) (v : ℕ) → v ≤ MAX_VARIABLE → IsWord (literal_word (literal s v))
word_by_sign true v high = IsWord-decimal v (omega arith)
word_by_sign false v high = record { nonempty = λ e. absurd (cc); first = omega arith; bytes = (refl, (IsWord-decimal v (omega arith)).bytes) }

-- a literal is a word
pub IsWord-literal : (l : Literal) → IsLiteral l → IsWord (literal_word l)
IsWord-literal l h = word_by_sign l.positive l.variable h.1

-- `0` is a word
pub IsWord-zero : IsWord (48 ∷ [])
IsWord-zero = record { nonempty = λ e. absurd (cc); first = omega arith; bytes = (refl, tt) }

-- `*` is a word
pub IsWord-sign : IsWord (42 ∷ [])
IsWord-sign = record { nonempty = λ e. absurd (cc); first = omega arith; bytes = (refl, tt) }

-- a word has a byte
pub length-word : (w : List ℕ) → IsWord w → 0 < length w
length-word [] word = absurd (word.nonempty refl)
length-word (b ∷ bs) word = omega arith
