-- Tables as numbers of several words, the most significant one first.
use Rattle.std.proofs.Common.{◌≡◌, ℕ, zero, suc, ◌+◌, ◌-◌, ◌*◌, ◌/◌, ◌%◌, ◌^◌, ◌<◌, ◌≤◌, ⊎_elim, List, [], ◌∷◌, ◌++◌, length, get_or, refl, ap, subst, sym, ◌∙◌, arith}
use Rattle.std.proofs.lemmas.Bool.{cases_lt}
use Rattle.std.proofs.lemmas.List.{length_push, get_or_push, get_or_append_left}
use Rattle.std.proofs.lemmas.Nat.{pow-add, mul-le, mod-pow-add}
use Rattle.std.proofs.Math.Nat.{mul_comm, div-one, div-div-eq-div-mul}
use Rattle.fabric_defs.specs.declared.limits.TheConstants.{MAX_WORD, WORD_BITS}
use Rattle.fabric_defs.specs.Configurations.{number_behind}
use Rattle.fabric_laws.specs.TableWords.{words_of}

-- words that fit their bits
abbrev pub AreWords : List ℕ → Type 0
AreWords words = (j : ℕ) → j < length words → get_or words j 0 ≤ MAX_WORD

-- the words after the first one
AreWords-rest : (w : ℕ) (ws : List ℕ) → AreWords (w ∷ ws) → AreWords ws
AreWords-rest w ws h j lt = h (suc j) (omega arith)

-- the bits of one more word
pub word_bits-more : (n : ℕ) → 2 ^ (WORD_BITS * (n + 1)) ≡ 2 ^ (WORD_BITS * n) * 2 ^ WORD_BITS
word_bits-more n = ap (λ m. 2 ^ m) (let e : WORD_BITS * (n + 1) ≡ WORD_BITS * n + WORD_BITS = omega arith in e) ∙ pow-add 2 (WORD_BITS * n) WORD_BITS

-- the number has no more bits than the one before it and the words have
pub number_behind-lt : (n : ℕ) (ws : List ℕ) → AreWords ws → number_behind n ws < (n + 1) * 2 ^ (WORD_BITS * length ws)
number_behind-lt n [] h = omega arith
number_behind-lt n (w ∷ ws) h =
    let first : w ≤ MAX_WORD = h 0 (omega arith) in
    let p : ℕ = 2 ^ (WORD_BITS * length ws) in
    let more : 2 ^ (WORD_BITS * (length ws + 1)) ≡ p * 2 ^ WORD_BITS = word_bits-more (length ws) in
    let rest : number_behind (n * 2 ^ WORD_BITS + w) ws < (n * 2 ^ WORD_BITS + w + 1) * p =
    number_behind-lt (n * 2 ^ WORD_BITS + w) ws (AreWords-rest w ws h) in
    let most : (n * 2 ^ WORD_BITS + w + 1) * p ≤ ((n + 1) * 2 ^ WORD_BITS) * p =
    mul-le (n * 2 ^ WORD_BITS + w + 1) p ((n + 1) * 2 ^ WORD_BITS) p (omega arith) (omega arith) in
    let all : ((n + 1) * 2 ^ WORD_BITS) * p ≡ (n + 1) * (p * 2 ^ WORD_BITS) = grind arith in
    let e : length (w ∷ ws) ≡ length ws + 1 = omega arith in
    let P : ℕ → Type 0 = λ m. number_behind (n * 2 ^ WORD_BITS + w) ws < (n + 1) * 2 ^ (WORD_BITS * m) in
    subst P (sym e) (rw more (omega arith))

-- one more word behind the others
pub number_behind-push : (n : ℕ) (ws : List ℕ) (w : ℕ) → number_behind n (ws ++ w ∷ []) ≡ number_behind n ws * 2 ^ WORD_BITS + w
number_behind-push n [] w = refl
number_behind-push n (v ∷ ws) w = number_behind-push (n * 2 ^ WORD_BITS + v) ws w

-- there are as many words as were asked for
pub length-words_of : (n number : ℕ) → length (words_of n number) ≡ n
length-words_of zero number = refl
length-words_of (suc n) number =
    length_push (words_of n (number / 2 ^ WORD_BITS)) (number % 2 ^ WORD_BITS)
    ∙ omega (arith, length-words_of n (number / 2 ^ WORD_BITS))

-- word j of them
pub get_or-words_of : (n number j : ℕ) → j < n
    → get_or (words_of n number) j 0 ≡ number / 2 ^ (WORD_BITS * (n - 1 - j)) % 2 ^ WORD_BITS
get_or-words_of zero number j lt = absurd (omega arith)
get_or-words_of (suc n) number j lt =
    let front : List ℕ = words_of n (number / 2 ^ WORD_BITS) in
    let long : length front ≡ n = length-words_of n (number / 2 ^ WORD_BITS) in
    ⊎_elim
    (λ here. let more : suc n - 1 - j ≡ n - 1 - j + 1 = omega arith in
    get_or_append_left front (number % 2 ^ WORD_BITS ∷ []) 0 j (omega arith)
    ∙ get_or-words_of n (number / 2 ^ WORD_BITS) j here
    ∙ ap (λ d. d % 2 ^ WORD_BITS) (div-div-eq-div-mul number (2 ^ WORD_BITS) (2 ^ (WORD_BITS * (n - 1 - j))))
    ∙ ap (λ d. number / d % 2 ^ WORD_BITS)
    (mul_comm (2 ^ WORD_BITS) (2 ^ (WORD_BITS * (n - 1 - j))) ∙ sym (word_bits-more (n - 1 - j)))
    ∙ ap (λ m. number / 2 ^ (WORD_BITS * m) % 2 ^ WORD_BITS) (sym more))
    (λ past. let last : j ≡ n = omega arith in
    let none : suc n - 1 - j ≡ 0 = omega arith in
    get_or_push front (number % 2 ^ WORD_BITS) 0 j (long ∙ sym last)
    ∙ ap (λ d. d % 2 ^ WORD_BITS) (sym (div-one number))
    ∙ ap (λ m. number / 2 ^ (WORD_BITS * m) % 2 ^ WORD_BITS) (sym none))
    (cases_lt j n)

-- the words of a number spell its least bits
pub number_behind-words_of : (n number : ℕ) → number_behind 0 (words_of n number) ≡ number % 2 ^ (WORD_BITS * n)
number_behind-words_of zero number = omega arith
number_behind-words_of (suc n) number =
    let high : number_behind 0 (words_of n (number / 2 ^ WORD_BITS)) ≡ number / 2 ^ WORD_BITS % 2 ^ (WORD_BITS * n) =
    number_behind-words_of n (number / 2 ^ WORD_BITS) in
    let size : WORD_BITS * n + WORD_BITS ≡ WORD_BITS * suc n = omega arith in
    number_behind-push 0 (words_of n (number / 2 ^ WORD_BITS)) (number % 2 ^ WORD_BITS)
    ∙ ap (λ m. m * 2 ^ WORD_BITS + number % 2 ^ WORD_BITS) high
    ∙ sym (mod-pow-add number (WORD_BITS * n) WORD_BITS)
    ∙ ap (λ m. number % 2 ^ m) size
