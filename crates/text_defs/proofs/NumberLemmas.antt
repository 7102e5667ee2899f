-- What is computed of a text is the number that the text spells.
use Rattle.std.proofs.Common.{◌≡◌, ℕ, zero, suc, ◌+◌, ◌-◌, ◌*◌, ◌^◌, ◌<◌, ◌≤◌, ◌==◌, ◌⊎◌, inl, inr, nat_le, Bool, true, false, ◌&&◌, List, [], ◌∷◌, length, get_or, decimal, Option, Some, None, if◌then◌else◌, eq-eqb, ne_eqb, refl, ap, sym, ◌∙◌, arith, rules}
use Rattle.std.proofs.lemmas.Bool.{cases_Bool, cases_eq, leb-true, le-leb, lt-leb}
use Rattle.std.specs.Char.{is_ascii_digit}
use Rattle.std.specs.Str.{all_ascii_digits}
use Rattle.std.proofs.lemmas.Str.Parse.{IsNumeralModel, numerals_by_fold}
use Rattle.std.proofs.lemmas.Fmt.{digits_decimal, digits_value-decimal, decimal-digits_value, decimal_nonempty, decimal_digit, first_decimal}
use Rattle.text_defs.specs.Numbers.{Spells, number_from, number_in, at_most, at_least_one, number_within, positive_within}

-- the number whose digits are those of n and then these
abbrev read_on : ℕ → List ℕ → ℕ
read_on n [] = n
read_on n (b ∷ bs) = read_on (10 * n + (b - 48)) bs

-- reading on from 0 gives each number its digits: what std's lemmas on numerals need to hold here
own : IsNumeralModel (λ ds. all_ascii_digits ds ≡ true) (read_on 0)
own = numerals_by_fold _ (search rules) read_on (search rules)

-- where digits alone stand, the first byte is a digit and digits alone follow
from_digits : (d : Bool) (rest : Bool) → (d && rest) ≡ true → (d ≡ true) × (rest ≡ true)
from_digits true rest h = (refl, h)
from_digits false rest h = absurd (cc)

-- digits are read on
number_from-digits : (n : ℕ) (ds : List ℕ) → all_ascii_digits ds ≡ true → number_from n ds ≡ Some (read_on n ds)
number_from-digits n [] h = refl
number_from-digits n (b ∷ bs) h =
    let parts = from_digits (is_ascii_digit b) (all_ascii_digits bs) h in
    let e : is_ascii_digit b ≡ true = parts.0 in
    rw e (number_from-digits (10 * n + (b - 48)) bs parts.1)

-- a choice that gave a number with nothing to fall back on was made for it
chosen : {X : Type 0} (d : Bool) (o : Option X) (x : X) → (if d then o else None) ≡ Some x → (d ≡ true) × (o ≡ Some x)
chosen true o x h = (refl, h)
chosen false o x h = absurd (cc)

-- what is read on is digits
number_from-some : (n : ℕ) (ds : List ℕ) (m : ℕ) → number_from n ds ≡ Some m → (all_ascii_digits ds ≡ true) × (read_on n ds ≡ m)
number_from-some n [] m h = (refl, cc)
number_from-some n (b ∷ bs) m h =
    let parts = chosen (is_ascii_digit b) (number_from (10 * n + (b - 48)) bs) m h in
    let rest = number_from-some (10 * n + (b - 48)) bs m parts.1 in
    let e : is_ascii_digit b ≡ true = parts.0 in
    (rw e rest.0, rest.1)

-- what a reader has read so far is at most the number
pub number_from-le : (n : ℕ) (ds : List ℕ) (m : ℕ) → number_from n ds ≡ Some m → n ≤ m
number_from-le n [] m h = let e : n ≡ m = cc in omega arith
number_from-le n (b ∷ bs) m h =
    let parts = chosen (is_ascii_digit b) (number_from (10 * n + (b - 48)) bs) m h in
    omega (arith, number_from-le (10 * n + (b - 48)) bs m parts.1)

-- digits without a leading 0
record IsSpelling (ds : List ℕ) : Type 0 where
  digits : all_ascii_digits ds ≡ true
  nonempty : 0 < length ds
  leading : get_or ds 0 0 ≡ 48 → length ds ≡ 1

-- the digits of a spelling are read as their number
number_in-spelling : (ds : List ℕ) → IsSpelling ds → number_in ds ≡ Some (read_on 0 ds)
number_in-spelling [] h = absurd (omega (arith, h.nonempty))
number_in-spelling (b ∷ []) h = number_from-digits 0 (b ∷ []) h.digits
number_in-spelling (b ∷ c ∷ bs) h =
    let e : (b == 48) ≡ false = ne_eqb b 48 (λ z. absurd (omega (arith, h.leading z))) in
    rw e (number_from-digits 0 (b ∷ c ∷ bs) h.digits)

-- a choice that gave a number behind nothing was made against nothing
other : {X : Type 0} (d : Bool) (o : Option X) (x : X) → (if d then None else o) ≡ Some x → (d ≡ false) × (o ≡ Some x)
other true o x h = absurd (cc)
other false o x h = (refl, h)

-- what is read as a number is a spelling, of that number
spelling_from-number_in : (ds : List ℕ) (n : ℕ) → number_in ds ≡ Some n → IsSpelling ds × (read_on 0 ds ≡ n)
spelling_from-number_in [] n h = absurd (cc)
spelling_from-number_in (b ∷ []) n h =
    let parts = number_from-some 0 (b ∷ []) n h in
    (record { digits = parts.0; nonempty = omega arith; leading = λ e. refl }, parts.1)
spelling_from-number_in (b ∷ c ∷ bs) n h =
    let split = other (b == 48) (number_from 0 (b ∷ c ∷ bs)) n h in
    let parts = number_from-some 0 (b ∷ c ∷ bs) n split.1 in
    (record { digits = parts.0; nonempty = omega arith; leading = λ e. absurd (grind (arith, eq-eqb b 48 e, split.0)) }, parts.1)

-- the decimal digits of a number are a spelling
decimal_is_spelling : (n : ℕ) → n < 2 ^ 64 → IsSpelling (decimal n)
decimal_is_spelling zero h = record {
  digits = digits_decimal own 0 h;
  nonempty = decimal_nonempty 0 h;
  leading = λ e. ap length (decimal_digit 0 (omega arith));
}
decimal_is_spelling (suc n) h = record {
  digits = digits_decimal own (suc n) h;
  nonempty = decimal_nonempty (suc n) h;
  leading = λ e. absurd (omega (arith, e, first_decimal (suc n) (omega arith) h));
}

-- a text that spells a number is read as that number
pub number_in-spelled : (text : List ℕ) (n : ℕ) → n < 2 ^ 64 → Spells text n → number_in text ≡ Some n
number_in-spelled text n h e =
    ap number_in e ∙ number_in-spelling (decimal n) (decimal_is_spelling n h) ∙ ap Some (digits_value-decimal own n h)

-- a text that is read as a number spells it
pub spelled_from-number_in : (text : List ℕ) (n : ℕ) → n < 2 ^ 64 → number_in text ≡ Some n → Spells text n
spelled_from-number_in text n h e =
    let found = spelling_from-number_in text n e in
    let v : read_on 0 text ≡ n = found.1 in
    let small : read_on 0 text < 2 ^ 64 = omega arith in
    sym (decimal-digits_value own text found.0.digits found.0.nonempty found.0.leading small) ∙ ap decimal v

-- ---- numbers up to a greatest one

-- a number that passes the bound is the one that was there, and is at most the greatest
at_most-cases : (max n m : ℕ) (t : Bool) → nat_le m max ≡ t → (if t then Some m else None) ≡ Some n → (m ≡ n) × (n ≤ max)
at_most-cases max n m true e h = let same : m ≡ n = cc in let le : m ≤ max = leb-true m max e in (same, omega arith)
at_most-cases max n m false e h = absurd (cc)

-- a number up to the greatest is there, and at most the greatest
pub at_most-some : (max n : ℕ) (o : Option ℕ) → at_most max o ≡ Some n → (o ≡ Some n) × (n ≤ max)
at_most-some max n None h = absurd (cc)
at_most-some max n (Some m) h = let found = at_most-cases max n m (nat_le m max) refl h in (ap Some found.0, found.1)

-- a number that is at most the greatest is kept
pub at_most-within : (max n : ℕ) → n ≤ max → at_most max (Some n) ≡ Some n
at_most-within max n h = rw (le-leb n max h) refl

-- a number above the greatest is none
at_most-over : (max n : ℕ) → max < n → at_most max (Some n) ≡ None
at_most-over max n h = rw (lt-leb n max h) refl

-- where each number that there may be is above the greatest, there is none
above : (max n : ℕ) (o : Option ℕ) → max < n → ((m : ℕ) → o ≡ Some m → n ≤ m) → at_most max o ≡ None
above max n None far h = refl
above max n (Some m) far h = at_most-over max m (let le : n ≤ m = h m refl in omega arith)

-- a number above the greatest stays above it, whichever digits follow
pub at_most-above : (max n : ℕ) (ds : List ℕ) → max < n → at_most max (number_from n ds) ≡ None
at_most-above max n ds far = above max n (number_from n ds) far (λ m e. number_from-le n ds m e)

-- the number up to the greatest that is computed of a text is spelled by it
pub number_within-spelled : (max n : ℕ) (w : List ℕ) → max < 2 ^ 64 → number_within max w ≡ Some n → Spells w n × (n ≤ max)
number_within-spelled max n w small h =
    let found = at_most-some max n (number_in w) h in
    let le : n ≤ max = found.1 in
    (spelled_from-number_in w n (omega arith) found.0, le)

-- a number up to the greatest is computed of the text that spells it
pub spelled-number_within : (max n : ℕ) (w : List ℕ) → max < 2 ^ 64 → Spells w n → n ≤ max → number_within max w ≡ Some n
spelled-number_within max n w small e le = ap (at_most max) (number_in-spelled w n (omega arith) e) ∙ at_most-within max n le

-- a number that passes the lower bound is the one that was there, and isn't 0
at_least-cases : (n m : ℕ) (t : Bool) → nat_le 1 m ≡ t → (if t then Some m else None) ≡ Some n → (m ≡ n) × (1 ≤ n)
at_least-cases n m true e h = let same : m ≡ n = cc in let le : 1 ≤ m = leb-true 1 m e in (same, omega arith)
at_least-cases n m false e h = absurd (cc)

-- a number that isn't 0 is there, and from 1 on
pub at_least_one-some : (n : ℕ) (o : Option ℕ) → at_least_one o ≡ Some n → (o ≡ Some n) × (1 ≤ n)
at_least_one-some n None h = absurd (cc)
at_least_one-some n (Some m) h = let found = at_least-cases n m (nat_le 1 m) refl h in (ap Some found.0, found.1)

-- the number from 1 to the greatest that is computed of a text is spelled by it
pub positive_within-spelled : (max n : ℕ) (w : List ℕ) → max < 2 ^ 64 → positive_within max w ≡ Some n → Spells w n × (1 ≤ n) × (n ≤ max)
positive_within-spelled max n w small h =
    let found = at_least_one-some n (number_within max w) h in
    let spelled = number_within-spelled max n w small found.0 in
    (spelled.0, found.1, spelled.1)

-- a number from 1 to the greatest is computed of the text that spells it
pub spelled-positive_within : (max n : ℕ) (w : List ℕ) → max < 2 ^ 64 → Spells w n → 1 ≤ n → n ≤ max → positive_within max w ≡ Some n
spelled-positive_within max n w small e low le =
    ap at_least_one (spelled-number_within max n w small e le) ∙ (rw (le-leb 1 n low) refl)

-- ---- digit by digit, as a reader goes

-- digits that are read from 0 are read on from the first one's value
number_from-first : (b : ℕ) (bs : List ℕ) → 48 ≤ b → b ≤ 57 → number_from 0 (b ∷ bs) ≡ number_from (b - 48) bs
number_from-first b bs low high =
    let digit : is_ascii_digit b ≡ true = rw (le-leb 48 b low, le-leb b 57 high) refl in
    let zero : 10 * 0 + (b - 48) ≡ b - 48 = omega arith in
    rw digit (ap (λ (v : ℕ). number_from v bs) zero)

-- a text that begins with a digit from 1 to 9 is read on from its value
number_in-first : (b : ℕ) (bs : List ℕ) → 48 < b → b ≤ 57 → number_in (b ∷ bs) ≡ number_from (b - 48) bs
number_in-first b [] low high = number_from-first b [] (omega arith) high
number_in-first b (c ∷ cs) low high = rw (ne_eqb b 48 (λ e. omega arith)) (number_from-first b (c ∷ cs) (omega arith) high)

-- where each number that there may be is 1 or more, asking for 1 or more changes nothing
at_least_one-kept : (max n : ℕ) (o : Option ℕ) → 1 ≤ n → ((m : ℕ) → o ≡ Some m → n ≤ m) → at_least_one (at_most max o) ≡ at_most max o
at_least_one-kept max n None low h = refl
at_least_one-kept max n (Some m) low h = elim (cases_Bool (nat_le m max)) [
  | inl e ↦ rw e (rw (le-leb 1 m (let le : n ≤ m = h m refl in omega arith)) refl)
  | inr e ↦ rw e refl
]

-- a text that begins with a digit 1 to 9 spells what its digits give
pub positive_within-first : (max b : ℕ) (bs : List ℕ) → 48 < b → b ≤ 57 → positive_within max (b ∷ bs) ≡ at_most max (number_from (b - 48) bs)
positive_within-first max b bs low high =
    ap (λ o. at_least_one (at_most max o)) (number_in-first b bs low high)
    ∙ at_least_one-kept max (b - 48) (number_from (b - 48) bs) (omega arith) (λ m e. number_from-le (b - 48) bs m e)

-- a byte that isn't a digit ends the reading without a number
no_digit : (n b : ℕ) (bs : List ℕ) → is_ascii_digit b ≡ false → number_from n (b ∷ bs) ≡ None
no_digit n b bs e = rw e refl

-- a text that begins with another byte than a digit spells no number
number_in-other : (b : ℕ) (bs : List ℕ) → is_ascii_digit b ≡ false → number_in (b ∷ bs) ≡ None
number_in-other b [] e = no_digit 0 b [] e
number_in-other b (c ∷ cs) e = elim (cases_Bool (b == 48)) [
  | inl z ↦ rw z refl
  | inr z ↦ rw z (no_digit 0 b (c ∷ cs) e)
]

-- a text that begins with 0 spells no positive number
zero_first : (max : ℕ) (bs : List ℕ) → positive_within max (48 ∷ bs) ≡ None
zero_first max [] = rw (le-leb 0 max (omega arith)) refl
zero_first max (c ∷ cs) = refl

-- a byte that isn't a digit from 1 to 9 is 0 or no digit
digit_or_not : (b : ℕ) → (b ≤ 48) ⊎ (57 < b) → (b ≡ 48) ⊎ (is_ascii_digit b ≡ false)
digit_or_not b (inl low) = elim (cases_eq b 48) [
  | inl e ↦ inl e
  | inr e ↦ inr (rw (lt-leb 48 b (grind (arith, e))) refl)
]
digit_or_not b (inr high) = inr (elim (cases_Bool (nat_le 48 b)) [
  | inl e ↦ rw (e, lt-leb b 57 high) refl
  | inr e ↦ rw e refl
])

-- a text that begins with another byte spells no number from 1 on
pub positive_within-other : (max b : ℕ) (bs : List ℕ) → (b ≤ 48) ⊎ (57 < b) → positive_within max (b ∷ bs) ≡ None
positive_within-other max b bs h = elim (digit_or_not b h) [
  | inl e ↦ ap (λ (c : ℕ). positive_within max (c ∷ bs)) e ∙ zero_first max bs
  | inr e ↦ ap (λ o. at_least_one (at_most max o)) (number_in-other b bs e)
]
