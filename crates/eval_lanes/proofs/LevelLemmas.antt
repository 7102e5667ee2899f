-- Levels of multiplexers.
use Rattle.std.proofs.Common.{◌≡◌, ℕ, zero, suc, ◌+◌, ◌-◌, ◌*◌, ◌/◌, ◌%◌, ◌^◌, ◌<◌, ◌≤◌, List, [], ◌∷◌, ◌++◌, length, get_or, take, refl, ap, sym, ◌∙◌, arith}
use Rattle.std.specs.Int.{bit_at}
use Rattle.std.proofs.lemmas.List.{length-take-le, take_more, take_all}
use Rattle.std.proofs.lemmas.Nat.{pow-add, shr-shr, one_shl}
use Rattle.std.proofs.Math.Nat.{pow-le-pow_right}
use Rattle.std.proofs.lemmas.Nat.Bits.{bit_at-lt, bit_at-zero, bit_at_ones}
use Rattle.pch_base.specs.BitLists.{word_of}
use Rattle.eval_lanes.specs.Levels.{chosen, mux, IsLevel}
use Rattle.eval_lanes.proofs.LaneLemmas.{mux_lane}

-- twice a power
pow-more : (n : ℕ) → 2 ^ (n + 1) ≡ 2 * 2 ^ n
pow-more n = omega (arith, pow-add 2 n 1)

-- one more bit, the greatest one
word_of-push : (xs : List ℕ) (b : ℕ) → word_of (xs ++ b ∷ []) ≡ word_of xs + 2 ^ length xs * b
word_of-push [] b = omega arith
word_of-push (x ∷ xs) b =
    let more : 2 ^ length (x ∷ xs) ≡ 2 * 2 ^ length xs = ap (λ m. 2 ^ m) (let e : length (x ∷ xs) ≡ length xs + 1 = omega arith in e) ∙ pow-more (length xs) in
    let rest : word_of (xs ++ b ∷ []) ≡ word_of xs + 2 ^ length xs * b = word_of-push xs b in
    omega (arith, rest, ap (λ m. m * b) more)

-- one more pin
word_of-more : (bits : List ℕ) (m : ℕ) → m < length bits
    → word_of (take (m + 1) bits) ≡ word_of (take m bits) + 2 ^ m * get_or bits m 0
word_of-more bits m lt =
    ap word_of (take_more bits m 0 lt)
    ∙ word_of-push (take m bits) (get_or bits m 0)
    ∙ ap (λ n. word_of (take m bits) + 2 ^ n * get_or bits m 0) (length-take-le m bits (omega arith))

-- the bit that a pin chooses among two that stand side by side
choose_half : (table i p low pin odd even : ℕ) → pin < 2
    → odd ≡ bit_at table ((2 * i + 1) * p + low) → even ≡ bit_at table (2 * i * p + low)
    → chosen pin odd even ≡ bit_at table (i * (2 * p) + (low + p * pin))
choose_half table i p low zero odd even lt o e =
    e ∙ ap (bit_at table) (let same : 2 * i * p + low ≡ i * (2 * p) + (low + p * zero) = grind arith in same)
choose_half table i p low (suc zero) odd even lt o e =
    o ∙ ap (bit_at table) (let same : (2 * i + 1) * p + low ≡ i * (2 * p) + (low + p * suc zero) = grind arith in same)
choose_half table i p low (suc (suc pin)) odd even lt o e = absurd (omega arith)

-- one more level
pub next_is_level : (table count half m : ℕ) (pin_bits : List ℕ) (before after : ℕ → ℕ) → m < length pin_bits → 2 * half ≤ count
    → get_or pin_bits m 0 < 2 → IsLevel table pin_bits m count before
    → ((k : ℕ) → k < half → after k ≡ chosen (get_or pin_bits m 0) (before (2 * k + 1)) (before (2 * k)))
    → IsLevel table pin_bits (m + 1) half after
next_is_level table count half m pin_bits before after m_lt wide bit h made = λ k k_lt.
    let low : ℕ = word_of (take m pin_bits) in
    let pin : ℕ = get_or pin_bits m 0 in
    made k k_lt
    ∙ choose_half table k (2 ^ m) low pin _ _ bit (h (2 * k + 1) (omega arith)) (h (2 * k) (omega arith))
    ∙ ap (λ q. bit_at table (k * q + (low + 2 ^ m * pin))) (sym (pow-more m))
    ∙ ap (λ n. bit_at table (k * 2 ^ (m + 1) + n)) (sym (word_of-more pin_bits m m_lt))

-- the level of pin 0
pub first_is_level : (table count : ℕ) (pin_bits : List ℕ) (bit : ℕ → ℕ) → 0 < length pin_bits
    → ((k : ℕ) → k < count → bit k ≡ bit_at table (2 * k + get_or pin_bits 0 0)) → IsLevel table pin_bits 1 count bit
first_is_level table count pin_bits bit some h = λ k lt.
    let own : word_of (take 1 pin_bits) ≡ get_or pin_bits 0 0 = word_of-more pin_bits 0 some ∙ (let e : 0 + 1 * get_or pin_bits 0 0 ≡ get_or pin_bits 0 0 = omega arith in e) in
    h k lt ∙ ap (bit_at table) (let e : 2 * k + get_or pin_bits 0 0 ≡ k * 2 ^ 1 + word_of (take 1 pin_bits) = omega (arith, own) in e)

-- the last level has the bit of the table that the pins choose
pub last_is_bit : (table count m : ℕ) (pin_bits : List ℕ) (bit : ℕ → ℕ) → m ≡ length pin_bits → 0 < count
    → IsLevel table pin_bits m count bit → bit 0 ≡ bit_at table (word_of pin_bits)
last_is_bit table count m pin_bits bit all some h =
    h 0 some ∙ ap (bit_at table)
    ((let e : 0 * 2 ^ m + word_of (take m pin_bits) ≡ word_of (take m pin_bits) = omega arith in e)
    ∙ ap word_of (take_all m pin_bits (omega arith)))

-- the pair 1, 0 gives the negation of the pin, which is bit b of 1
negated : (b on off pin : ℕ) → pin ≡ b → b < 2 → on ≡ 1 → off ≡ 0 → chosen pin off on ≡ bit_at 1 b
negated zero on off pin is lt one none = ap (λ p. chosen p off on) is ∙ one
negated (suc zero) on off pin is lt one none = ap (λ p. chosen p off on) is ∙ none
negated (suc (suc b)) on off pin is lt one none = absurd (omega arith)

-- the pair 0, 1 gives the pin itself, which is bit b of 2
second_bit : (b : ℕ) → b < 2 → b ≡ bit_at 2 b
second_bit zero lt = refl
second_bit (suc zero) lt = refl
second_bit (suc (suc b)) lt = absurd (omega arith)

-- the pair 1, 1 gives 1, which is bit b of 3
both_bits : (b : ℕ) → b < 2 → 1 ≡ bit_at 3 b
both_bits zero lt = refl
both_bits (suc zero) lt = refl
both_bits (suc (suc b)) lt = absurd (omega arith)

-- each of the four words has in a lane what its pair gives at the pin
choice_case : (word : ℕ → ℕ) (pin j : ℕ) → word 0 ≡ 0 → word 1 ≡ mux 0 18446744073709551615 pin → word 2 ≡ pin
    → word 3 ≡ 18446744073709551615 → (b : ℕ) → bit_at pin j ≡ b → b < 2 → bit_at 18446744073709551615 j ≡ 1
    → (q : ℕ) → q < 4 → bit_at (word q) j ≡ bit_at q b
choice_case word pin j w0 w1 w2 w3 b is b_lt on zero lt = ap (λ w. bit_at w j) w0 ∙ bit_at-zero j ∙ sym (bit_at-zero b)
choice_case word pin j w0 w1 w2 w3 b is b_lt on (suc zero) lt =
    ap (λ w. bit_at w j) w1 ∙ mux_lane 18446744073709551615 0 pin j ∙ negated b (bit_at 18446744073709551615 j) (bit_at 0 j) (bit_at pin j) is b_lt on (bit_at-zero j)
choice_case word pin j w0 w1 w2 w3 b is b_lt on (suc (suc zero)) lt = ap (λ w. bit_at w j) w2 ∙ is ∙ second_bit b b_lt
choice_case word pin j w0 w1 w2 w3 b is b_lt on (suc (suc (suc zero))) lt = ap (λ w. bit_at w j) w3 ∙ on ∙ both_bits b b_lt
choice_case word pin j w0 w1 w2 w3 b is b_lt on (suc (suc (suc (suc q)))) lt = absurd (omega arith)

-- what a pin makes of the four pairs of bits
pub choice_bit : (word : ℕ → ℕ) (pin j : ℕ) → j < 64 → word 0 ≡ 0 → word 1 ≡ mux 0 18446744073709551615 pin → word 2 ≡ pin
    → word 3 ≡ 18446744073709551615 → (q : ℕ) → q < 4 → bit_at (word q) j ≡ bit_at q (bit_at pin j)
choice_bit word pin j j_lt w0 w1 w2 w3 q lt =
    choice_case word pin j w0 w1 w2 w3 (bit_at pin j) refl (bit_at-lt pin j) (bit_at_ones 64 j j_lt) q lt

-- one of a pair of bits of the table
pub pair_bit : (table k b : ℕ) → b < 2 → bit_at (table / 2 ^ (2 * k) % 4) b ≡ bit_at table (2 * k + b)
pair_bit table k zero lt =
    (let e : bit_at (table / 2 ^ (2 * k) % 4) 0 ≡ table / 2 ^ (2 * k) % 2 = omega arith in e)
    ∙ ap (λ m. bit_at table m) (let e : 2 * k ≡ 2 * k + zero = omega arith in e)
pair_bit table k (suc zero) lt =
    (let e : bit_at (table / 2 ^ (2 * k) % 4) 1 ≡ table / 2 ^ (2 * k) / 2 ^ 1 % 2 = omega arith in e)
    ∙ ap (λ m. m % 2) (shr-shr table (2 * k) 1)
pair_bit table k (suc (suc b)) lt = absurd (omega arith)

-- half as many words
pub half_pow : (pins m : ℕ) → m < pins → 2 ^ (pins - m) ≡ 2 * 2 ^ (pins - (m + 1))
half_pow pins m lt = ap (λ n. 2 ^ n) (let e : pins - m ≡ pins - (m + 1) + 1 = omega arith in e) ∙ pow-more (pins - (m + 1))

-- half of the bits of a table, as the code computes it
pub first_half : (pins : ℕ) → 1 ≤ pins → pins ≤ 6 → 1 * 2 ^ pins % 2 ^ 64 / 2 ≡ 2 ^ (pins - 1)
first_half pins some few =
    let all : 1 * 2 ^ pins % 2 ^ 64 ≡ 2 ^ pins = one_shl pins 64 (omega arith) in
    let twice : 2 ^ pins ≡ 2 * 2 ^ (pins - 1) = ap (λ n. 2 ^ n) (let e : pins ≡ pins - 1 + 1 = omega arith in e) ∙ pow-more (pins - 1) in
    omega (arith, all, twice)

-- it is no more than the largest table has
pub first_half-le : (pins : ℕ) → pins ≤ 6 → 2 ^ (pins - 1) ≤ 32
first_half-le pins few = pow-le-pow_right {n = 2} (omega arith) {i = pins - 1} {j = 5} (omega arith)

-- a quarter as many
pub quarter_pow-le : (pins m : ℕ) → pins ≤ 6 → 1 ≤ m → 2 ^ (pins - (m + 1)) ≤ 16
quarter_pow-le pins m few some = pow-le-pow_right {n = 2} (omega arith) {i = pins - (m + 1)} {j = 4} (omega arith)
