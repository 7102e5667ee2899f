-- Bits of a word as elements of its list.
use Rattle.std.proofs.Common.{◌≡◌, ◌≢◌, ℕ, zero, suc, ◌*◌, ◌/◌, ◌%◌, ◌^◌, ◌<◌, ◌≤◌, inl, inr, Bool, true, false, nat_eq, eqb-true, if◌then◌else◌, List, length, get_or, set, bit_and, bit_or, refl, sym, ap, ◌∙◌, eq-eqb, arith, w64}
use Rattle.std.specs.Int.{bit_at, bit_not}
use Rattle.std.specs.Cmp.Lexicographic.{pointwise}
use Rattle.std.proofs.lemmas.Slice.Eq.{bytes_eq-Decides}
use Rattle.std.proofs.lemmas.Nat.{or_lt, and_le_l, pow_below, one_shl}
use Rattle.std.proofs.lemmas.Nat.Bits.{bit_at_lowest, bit_at-suc, bit_at-lt, shr_and_one, bit_at_set_same, bit_at_set_other, bit_at_clear_same, bit_at_clear_other}
use Rattle.clause_defs.specs.Clauses.{Has}
use Rattle.pch_base.specs.BitLists.{bits_of, word_of}

-- each element is a bit
pub bits_of-small : (n w b : ℕ) → Has (bits_of n w) b → b ≤ 1
bits_of-small zero w b h = absurd h
bits_of-small (suc n) w b (inl e) = omega arith
bits_of-small (suc n) w b (inr h) = bits_of-small n (w / 2) b h

-- element i is bit i of the word
pub get_or-bits_of : (n w i : ℕ) → i < n → get_or (bits_of n w) i 0 ≡ bit_at w i
get_or-bits_of zero w i h = absurd (omega arith)
get_or-bits_of (suc n) w zero h = sym (bit_at_lowest w)
get_or-bits_of (suc n) w (suc i) h = get_or-bits_of n (w / 2) i (omega arith) ∙ sym (bit_at-suc w i)

-- a bit is what a test for 1 tells of it
tested : (b : ℕ) → b < 2 → b ≡ (if nat_eq b 1 then 1 else 0)
tested zero h = refl
tested (suc zero) h = refl
tested (suc (suc b)) h = absurd (omega arith)

-- the test of bit i
pub get_or-tested : (n w i : ℕ) → i < n → get_or (bits_of n w) i 0 ≡ (if nat_eq (bit_and (w / 2 ^ i) 1) 1 then 1 else 0)
get_or-tested n w i h =
    get_or-bits_of n w i h ∙ tested (bit_at w i) (bit_at-lt w i)
    ∙ ap {B = ℕ} (λ b. if nat_eq b 1 then 1 else 0) (sym (shr_and_one w i))

-- words with the same first bits have the same list
bits_of-same : (n v w : ℕ) → ((j : ℕ) → j < n → bit_at v j ≡ bit_at w j) → bits_of n v ≡ bits_of n w
bits_of-same zero v w h = refl
bits_of-same (suc n) v w h =
    let first : v % 2 ≡ w % 2 = sym (bit_at_lowest v) ∙ h 0 (omega arith) ∙ bit_at_lowest w in
    let rest : bits_of n (v / 2) ≡ bits_of n (w / 2) = bits_of-same n (v / 2) (w / 2) (λ j lt. sym (bit_at-suc v j) ∙ h (suc j) (omega arith) ∙ bit_at-suc w j) in
    cc

-- v is w with x as bit i
record IsWith (n v w i x : ℕ) : Type 0 where
  here : bit_at v i ≡ x
  others : (j : ℕ) → j < n → j ≢ i → bit_at v j ≡ bit_at w j

-- with one bit of a word exchanged, its list of bits has that bit exchanged
bits_of-with : (n v w i x : ℕ) → i < n → IsWith n v w i x → bits_of n v ≡ set (bits_of n w) i x
bits_of-with zero v w i x lt h = absurd (omega arith)
bits_of-with (suc n) v w zero x lt h =
    let first : v % 2 ≡ x = sym (bit_at_lowest v) ∙ h.here in
    let rest : bits_of n (v / 2) ≡ bits_of n (w / 2) = bits_of-same n (v / 2) (w / 2) (λ j below. sym (bit_at-suc v j) ∙ h.others (suc j) (omega arith) (λ e. absurd (omega arith)) ∙ bit_at-suc w j) in
    cc
bits_of-with (suc n) v w (suc i) x lt h =
    let first : v % 2 ≡ w % 2 = sym (bit_at_lowest v) ∙ h.others 0 (omega arith) (λ e. absurd (omega arith)) ∙ bit_at_lowest w in
    let rest : bits_of n (v / 2) ≡ set (bits_of n (w / 2)) i x =
    bits_of-with n (v / 2) (w / 2) i x (omega arith) (record {
      here = sym (bit_at-suc v i) ∙ h.here;
      others = λ j below other. sym (bit_at-suc v j) ∙ h.others (suc j) (omega arith) (λ e. other (omega arith)) ∙ bit_at-suc w j;
    }) in
    cc

-- `w | 1 << i`
pub bits_of-set : (n w i : ℕ) → n ≤ 64 → i < n → bits_of n (bit_or w (1 * 2 ^ i % 2 ^ 64)) ≡ set (bits_of n w) i 1
bits_of-set n w i short lt =
    bits_of-with n _ w i 1 lt (record {
      here = bit_at_set_same w64 w i (omega arith);
      others = λ j below other. bit_at_set_other w64 w i (omega arith) j other;
    })

-- setting one of the lowest n bits leaves a word of n bits one of n bits
pub set_below : (n w i : ℕ) → n ≤ 64 → i < n → w < 2 ^ n → bit_or w (1 * 2 ^ i % 2 ^ 64) < 2 ^ n
set_below n w i short lt within =
    or_lt n w (1 * 2 ^ i % 2 ^ 64) within (rw (one_shl i 64 (omega arith)) (pow_below i n lt))

-- `w & !(1 << i)`
pub bits_of-clear : (n w i : ℕ) → n ≤ 64 → i < n → bits_of n (bit_and w (bit_not w64 (1 * 2 ^ i % 2 ^ 64))) ≡ set (bits_of n w) i 0
bits_of-clear n w i short lt =
    bits_of-with n _ w i 0 lt (record {
      here = bit_at_clear_same w64 w i (omega arith);
      others = λ j below other. bit_at_clear_other w64 w i (omega arith) j (omega arith) other;
    })

-- clearing a bit leaves a word of n bits one of n bits
pub clear_below : (n w i : ℕ) → w < 2 ^ n → bit_and w (bit_not w64 (1 * 2 ^ i % 2 ^ 64)) < 2 ^ n
clear_below n w i within = let le = and_le_l w (bit_not w64 (1 * 2 ^ i % 2 ^ 64)) in omega arith

-- two tests that pass in the same cases are the same
by_cases : (p q : Bool) → (p ≡ true → q ≡ true) → (q ≡ true → p ≡ true) → p ≡ q
by_cases true q h k = sym (h refl)
by_cases false true h k = k refl
by_cases false false h k = refl

-- of two lists of bits with one word, those are the same that have one length
pub pointwise-lengths : (a b : List ℕ) (v w m n : ℕ) → bits_of (length a) v ≡ a → bits_of (length b) w ≡ b → v ≡ w
    → m ≡ length a → n ≡ length b → nat_eq m n ≡ pointwise nat_eq a b
pointwise-lengths a b v w m n x y e f g =
    let decides = bytes_eq-Decides a b in
    by_cases (nat_eq m n) (pointwise nat_eq a b)
    (λ t. let long : length a ≡ length b = sym f ∙ eqb-true m n t ∙ g in
    decides.1 (sym x ∙ ap (λ k. bits_of k v) long ∙ ap (bits_of (length b)) e ∙ y))
    (λ t. eq-eqb m n (f ∙ ap length (decides.0 t) ∙ sym g))

-- lists with other words are other lists
pub pointwise-other : (a b : List ℕ) (v w : ℕ) → v ≡ word_of a → w ≡ word_of b → (v ≡ w → ⊥)
    → nat_eq v w ≡ pointwise nat_eq a b
pointwise-other a b v w e f other =
    let decides = bytes_eq-Decides a b in
    by_cases (nat_eq v w) (pointwise nat_eq a b)
    (λ t. absurd (other (eqb-true v w t)))
    (λ t. absurd (other (e ∙ ap word_of (decides.0 t) ∙ sym f)))
