-- The clause that says one bit of a cell's table.
use Rattle.std.proofs.Common.{◌≡◌, ◌≢◌, ℕ, zero, suc, ◌+◌, ◌*◌, ◌/◌, ◌^◌, ◌<◌, ◌≤◌, ◌==◌, ◌⊎◌, inl, inr, ⊎_elim, List, [], ◌∷◌, ◌++◌, length, get_or, refl, ap, subst, ◌∙◌, arith, pow-suc}
use Rattle.std.proofs.lemmas.Bool.{cases_eq, cases_lt}
use Rattle.std.proofs.lemmas.Nat.Bits.{bit_at_lowest, bit_at-suc, bit_at-lt, same_from_bits_below}
use Rattle.std.specs.Int.{bit_at}
use Rattle.pch_base.specs.BitLists.{word_of}
use Rattle.clause_defs.specs.Clauses.{Satisfies}
use Rattle.fabric_defs.specs.Numbered.{list_of}
use Rattle.fabric_defs.specs.Wirings.{table_bit}
use Rattle.miter_defs.specs.Miters.{literal}
use Rattle.miter_laws.specs.Extensions.{GivesBit}
use Rattle.miter_laws.proofs.Membership.{Has-append_left, Has-append_right, list_of-has, Each}
use Rattle.miter_laws.proofs.Truth.{bit, true_literal}

-- n bits are a number below 2 ^ n
word_of-lt : (bs : List ℕ) → Each (λ b. b ≤ 1) bs → word_of bs < 2 ^ length bs
word_of-lt [] h = omega arith
word_of-lt (b ∷ bs) h =
    let rest : word_of bs < 2 ^ length bs = word_of-lt bs (λ c has. h c (inr has)) in
    let first : b ≤ 1 = h b (inl refl) in
    omega (arith, pow-suc 2 (length bs))

-- bit j of the word is element j of the list
bit_at-word_of : (bs : List ℕ) → Each (λ b. b ≤ 1) bs → (j : ℕ) → j < length bs → bit_at (word_of bs) j ≡ get_or bs j 0
bit_at-word_of [] h j lt = absurd (omega arith)
bit_at-word_of (b ∷ bs) h zero lt =
    let first : b ≤ 1 = h b (inl refl) in bit_at_lowest (b + 2 * word_of bs) ∙ omega arith
bit_at-word_of (b ∷ bs) h (suc j) lt =
    let first : b ≤ 1 = h b (inl refl) in
    let half : (b + 2 * word_of bs) / 2 ≡ word_of bs = omega arith in
    bit_at-suc (b + 2 * word_of bs) j ∙ ap (λ w. bit_at w j) half
    ∙ bit_at-word_of bs (λ c has. h c (inr has)) j (omega arith)

-- two functions agree below n, or differ at a place
pub agree_or_differ : (f g : ℕ → ℕ) (n : ℕ) → ((j : ℕ) → j < n → f j ≡ g j) ⊎ ((j : ℕ) × (j < n) × (f j ≢ g j))
agree_or_differ f g zero = inl (λ j lt. absurd (omega arith))
agree_or_differ f g (suc n) =
    elim (agree_or_differ f g n) [
      | inr found ↦ let below : found.0 < n = found.1 in inr (found.0, omega arith, found.2)
      | inl all ↦ elim (cases_eq (f n) (g n)) [
        | inr other ↦ inr (n, omega arith, other)
        | inl same ↦ inl (λ j lt. ⊎_elim (λ here. all j here)
            (λ past. let e : n ≡ j = omega arith in subst (λ m. f m ≡ g m) e same) (cases_lt j n))
      ]
    ]

-- two bits that differ: the one is 1 exactly where the other is 0
differs : (b c : ℕ) → b ≤ 1 → c < 2 → (b ≢ c) → b ≡ bit (c == 0)
differs zero zero le lt ne = absurd (ne refl)
differs zero (suc zero) le lt ne = refl
differs (suc zero) zero le lt ne = refl
differs (suc zero) (suc zero) le lt ne = absurd (ne refl)
differs b (suc (suc c)) le lt ne = absurd (omega arith)
differs (suc (suc b)) c le lt ne = absurd (omega arith)

-- a bit is that of the test whether it is 1
pub bit-one : (b : ℕ) → b < 2 → b ≡ bit (b == 1)
bit-one zero lt = refl
bit-one (suc zero) lt = refl
bit-one (suc (suc b)) lt = absurd (omega arith)

-- where the pins have the bits, the cell's bit is that of the table, so the clause of each number n is satisfied
pub table_clause-holds : (a bits : List ℕ) (count z table n : ℕ) (f : ℕ → ℕ) → length bits ≡ count
    → Each (λ b. b ≤ 1) bits → ((j : ℕ) → j < count → GivesBit a (f j) (get_or bits j 0))
    → GivesBit a z (table_bit table bits) → n < 2 ^ count
    → Satisfies a (list_of count (λ j. literal (f j) (bit_at n j == 0)) ++ literal z (bit_at table n == 1) ∷ [])
table_clause-holds a bits count z table n f e small pins given lt =
    elim (agree_or_differ (λ j. get_or bits j 0) (bit_at n) count) [
      | inl all ↦ (let same : word_of bits ≡ n =
          same_from_bits_below count (word_of bits) n
          (subst (λ m. word_of bits < 2 ^ m) e (word_of-lt bits small)) lt
          (λ j below. bit_at-word_of bits small j (omega arith) ∙ all j below) in (
            literal z (bit_at table n == 1),
            Has-append_right (list_of count (λ j. literal (f j) (bit_at n j == 0))) (literal z (bit_at table n == 1) ∷ []) _ (inl refl),
            true_literal a z (table_bit table bits) (bit_at table n == 1) given
                (ap (bit_at table) same ∙ bit-one (bit_at table n) (bit_at-lt table n)),
          ))
      | inr found ↦ (let j : ℕ = found.0 in
          let below : j < count = found.1 in (
            literal (f j) (bit_at n j == 0),
            Has-append_left (list_of count (λ i. literal (f i) (bit_at n i == 0))) (literal z (bit_at table n == 1) ∷ []) _
                (list_of-has count (λ i. literal (f i) (bit_at n i == 0)) j below),
            true_literal a (f j) (get_or bits j 0) (bit_at n j == 0) (pins j below)
                (differs (get_or bits j 0) (bit_at n j) (at_most_one bits small j) (bit_at-lt n j) found.2),
          ))
    ]
  where
    at_most_one : (bs : List ℕ) → Each (λ b. b ≤ 1) bs → (j : ℕ) → get_or bs j 0 ≤ 1
    at_most_one [] h j = omega arith
    at_most_one (b ∷ bs) h zero = h b (inl refl)
    at_most_one (b ∷ bs) h (suc j) = at_most_one bs (λ c has. h c (inr has)) j
