-- The bits of words: zeros behind them change nothing, and the least bits of a table are enough for few pins.
use Rattle.std.proofs.Common.{◌≡◌, ℕ, suc, ◌+◌, ◌-◌, ◌/◌, ◌%◌, ◌^◌, ◌<◌, List, [], ◌∷◌, get_or, refl, ap, sym, ◌∙◌, arith}
use Rattle.std.specs.Int.{bit_at}
use Rattle.std.proofs.lemmas.Nat.{mod-pow-add, div-mul-add, pow_pos}
use Rattle.std.proofs.Math.Nat.{mod-lt}
use Rattle.std.proofs.Math.Pow.{mod-mod-pow}
use Rattle.pch_base.specs.BitLists.{word_of}

-- a word of zeros is 0
word_of-zero : (xs : List ℕ) → ((i : ℕ) → get_or xs i 0 ≡ 0) → word_of xs ≡ 0
word_of-zero [] h = refl
word_of-zero (x ∷ xs) h =
    let first : x ≡ 0 = h 0 in
    let rest : word_of xs ≡ 0 = word_of-zero xs (λ i. h (suc i)) in
    omega arith

-- bits that are the same, with zeros behind them or not, are one word
pub word_of-same : (xs ys : List ℕ) → ((i : ℕ) → get_or xs i 0 ≡ get_or ys i 0) → word_of xs ≡ word_of ys
word_of-same [] ys h = sym (word_of-zero ys (λ i. sym (h i)))
word_of-same (x ∷ xs) [] h = word_of-zero (x ∷ xs) h
word_of-same (x ∷ xs) (y ∷ ys) h =
    let first : x ≡ y = h 0 in
    let rest : word_of xs ≡ word_of ys = word_of-same xs ys (λ i. h (suc i)) in
    omega arith

-- the bits of a number are those of its least bits
pub bit_at-least : (n m i : ℕ) → i < m → bit_at (n % 2 ^ m) i ≡ bit_at n i
bit_at-least n m i lt =
    let j : ℕ = m - i - 1 in
    let e : m ≡ j + 1 + i = omega arith in
    let q : ℕ = n / 2 ^ i in
    let below : n % 2 ^ i < 2 ^ i = mod-lt n (pow_pos i) in
    ap (λ k. n % 2 ^ k / 2 ^ i % 2) e
    ∙ ap (λ r. r / 2 ^ i % 2) (mod-pow-add n (j + 1) i)
    ∙ ap (λ r. r % 2) (div-mul-add (q % 2 ^ (j + 1)) (2 ^ i) (n % 2 ^ i) below)
    ∙ mod-mod-pow q j 1
