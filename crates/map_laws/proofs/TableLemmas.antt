-- The tables of functions: their bits, their size, and that they are repeated.
use Rattle.std.proofs.Common.{◌≡◌, ℕ, zero, suc, ◌+◌, ◌*◌, ◌/◌, ◌%◌, ◌^◌, ◌<◌, ◌≤◌, inl, inr, ⊎_elim, List, [], ◌∷◌, ◌++◌, length, get_or, refl, ap, sym, subst, ◌∙◌, arith, pow-suc}
use Rattle.std.specs.Int.{bit_at}
use Rattle.std.proofs.lemmas.List.{same_lists, get_or_default}
use Rattle.std.proofs.lemmas.Bool.{cases_lt}
use Rattle.std.proofs.lemmas.Nat.{div-add-mod', pow_below}
use Rattle.std.proofs.lemmas.Nat.Bits.{bit_at_lowest, bit_at-suc, bit_at_cat_low}
use Rattle.pch_base.specs.BitLists.{bits_of, word_of}
use Rattle.pch_base.specs.BitWords.{length-bits_of}
use Rattle.pch_base.proofs.BitLemmas.{get_or-bits_of}
use Rattle.fabric_defs.specs.Bits.{AreBits}
use Rattle.fabric_defs.specs.Numbered.{list_of}
use Rattle.fabric_defs.specs.Wirings.{table_bit}
use Rattle.fabric_laws.proofs.NumberedLemmas.{length-list_of, get_or-list_of}
use Rattle.map_defs.specs.declared.limits.TheConstants.{TABLE_BITS}
use Rattle.map_defs.specs.Tables.{table_of, IsRepeated}

-- n bits are a number below 2 ^ n
pub word_of-lt : (bs : List ℕ) → AreBits bs → word_of bs < 2 ^ length bs
word_of-lt [] h = omega arith
word_of-lt (b ∷ bs) h =
    let rest : word_of bs < 2 ^ length bs = word_of-lt bs (λ c has. h c (inr has)) in
    let first : b ≤ 1 = h b (inl refl) in
    omega (arith, pow-suc 2 (length bs))

-- bit j of the word is element j of the list
bit_at-word_of : (bs : List ℕ) → AreBits bs → (j : ℕ) → j < length bs → bit_at (word_of bs) j ≡ get_or bs j 0
bit_at-word_of [] h j lt = absurd (omega arith)
bit_at-word_of (b ∷ bs) h zero lt =
    let first : b ≤ 1 = h b (inl refl) in bit_at_lowest (b + 2 * word_of bs) ∙ omega arith
bit_at-word_of (b ∷ bs) h (suc j) lt =
    let first : b ≤ 1 = h b (inl refl) in
    let half : (b + 2 * word_of bs) / 2 ≡ word_of bs = omega arith in
    bit_at-suc (b + 2 * word_of bs) j ∙ ap (λ w. bit_at w j) half
    ∙ bit_at-word_of bs (λ c has. h c (inr has)) j (omega arith)

-- bits are those of their word
bits_of-word_of : (bs : List ℕ) → AreBits bs → bits_of (length bs) (word_of bs) ≡ bs
bits_of-word_of [] h = refl
bits_of-word_of (b ∷ bs) h =
    let first : b ≤ 1 = h b (inl refl) in
    let low : (b + 2 * word_of bs) % 2 ≡ b = omega arith in
    let half : (b + 2 * word_of bs) / 2 ≡ word_of bs = omega arith in
    let rest : bits_of (length bs) (word_of bs) ≡ bs = bits_of-word_of bs (λ c has. h c (inr has)) in
    ap (λ n. n ∷ bits_of (length bs) ((b + 2 * word_of bs) / 2)) low
    ∙ ap (λ w. b ∷ bits_of (length bs) w) half
    ∙ ap (λ l. b ∷ l) rest

-- one more bit
AreBits-push : (bs : List ℕ) (b : ℕ) → AreBits bs → b ≤ 1 → AreBits (bs ++ b ∷ [])
AreBits-push [] b h le c (inl e) = subst (λ n. n ≤ 1) e le
AreBits-push [] b h le c (inr m) = absurd m
AreBits-push (x ∷ bs) b h le c (inl e) = h c (inl e)
AreBits-push (x ∷ bs) b h le c (inr m) = AreBits-push bs b (λ d has. h d (inr has)) le c m

-- the values of a function are bits where each of them is one
pub AreBits-list_of : (n : ℕ) (f : ℕ → ℕ) → ((k : ℕ) → f k ≤ 1) → AreBits (list_of n f)
AreBits-list_of zero f h c m = absurd m
AreBits-list_of (suc n) f h c m = AreBits-push (list_of n f) (f n) (AreBits-list_of n f h) (h n) c m

-- bit k of the word of such values is value k
bit_at-list_of : (n : ℕ) (f : ℕ → ℕ) → ((k : ℕ) → f k ≤ 1) → (k : ℕ) → k < n → bit_at (word_of (list_of n f)) k ≡ f k
bit_at-list_of n f h k lt =
    bit_at-word_of (list_of n f) (AreBits-list_of n f h) k (omega (arith, length-list_of n f))
    ∙ get_or-list_of n f k 0 lt

-- bit k of a table is the function's value at the bits of k
pub bit_at-table_of : (pins : ℕ) (f : List ℕ → ℕ) → ((bs : List ℕ) → f bs ≤ 1) → (k : ℕ) → k < TABLE_BITS
    → bit_at (table_of pins f) k ≡ f (bits_of pins k)
bit_at-table_of pins f h k lt = bit_at-list_of TABLE_BITS (λ n. f (bits_of pins n)) (λ n. h (bits_of pins n)) k lt

-- n bits that a function gives are a word below 2 ^ n
word_of-list_of-lt : (n : ℕ) (f : ℕ → ℕ) → ((k : ℕ) → f k ≤ 1) → word_of (list_of n f) < 2 ^ n
word_of-list_of-lt n f h =
    let P : ℕ → Type 0 = λ m. word_of (list_of n f) < 2 ^ m in
    subst P (length-list_of n f) (word_of-lt (list_of n f) (AreBits-list_of n f h))

-- a table has no more bits than a table has
pub table_of-lt : (pins : ℕ) (f : List ℕ → ℕ) → ((bs : List ℕ) → f bs ≤ 1) → table_of pins f < 2 ^ TABLE_BITS
table_of-lt pins f h = word_of-list_of-lt TABLE_BITS (λ n. f (bits_of pins n)) (λ n. h (bits_of pins n))

-- a greater exponent gives no smaller power of 2
pow_le : (i j : ℕ) → i ≤ j → 2 ^ i ≤ 2 ^ j
pow_le i j le =
    ⊎_elim (λ lt. let less : 2 ^ i < 2 ^ j = pow_below i j lt in omega arith)
    (λ ge. let e : i ≡ j = omega arith in let P : ℕ → Type 0 = λ m. 2 ^ i ≤ 2 ^ m in subst P e (omega arith))
    (cases_lt i j)

-- at most six bits are a number within the table
word_of-within : (bs : List ℕ) → AreBits bs → length bs ≤ 6 → word_of bs < TABLE_BITS
word_of-within bs h le =
    let small = word_of-lt bs h in
    let most : 2 ^ length bs ≤ 2 ^ 6 = pow_le (length bs) 6 le in
    omega (arith, small, most)

-- the table of a function gives its value at the bits of the pins
pub table_bit-table_of : (f : List ℕ → ℕ) (pins : ℕ) (bs : List ℕ) → ((bs : List ℕ) → f bs ≤ 1) → length bs ≡ pins → pins ≤ 6 → AreBits bs
    → table_bit (table_of pins f) bs ≡ f bs
table_bit-table_of f pins bs small e le h =
    bit_at-table_of pins f small (word_of bs) (word_of-within bs h (omega arith))
    ∙ ap (λ n. f (bits_of n (word_of bs))) (sym e)
    ∙ ap f (bits_of-word_of bs h)

-- lists that have one element at a place have it at every default
same_at : (xs ys : List ℕ) (i d : ℕ) → i < length xs → i < length ys → get_or xs i 0 ≡ get_or ys i 0 → get_or xs i d ≡ get_or ys i d
same_at xs ys i d lt below e = get_or_default xs i d 0 lt ∙ e ∙ get_or_default ys i 0 d below

-- a rest is no greater than the number
rest_le : (k m : ℕ) → k % m ≤ k
rest_le k m = omega (arith, div-add-mod' k m)

-- the first n bits of a number are those of its rest by 2 ^ n
pub bits_of-mod : (n k : ℕ) → bits_of n (k % 2 ^ n) ≡ bits_of n k
bits_of-mod n k =
    same_lists (bits_of n (k % 2 ^ n)) (bits_of n k)
    (length-bits_of n (k % 2 ^ n) ∙ sym (length-bits_of n k))
    (λ i d lt. let within : i < n = omega (arith, length-bits_of n (k % 2 ^ n)) in
    let P : ℕ → Type 0 = λ m. bit_at (k % 2 ^ n) i ≡ bit_at m i in
    same_at (bits_of n (k % 2 ^ n)) (bits_of n k) i d lt (omega (arith, length-bits_of n k))
    (get_or-bits_of n (k % 2 ^ n) i within
    ∙ subst P (div-add-mod' k (2 ^ n)) (sym (bit_at_cat_low (k / 2 ^ n) n (k % 2 ^ n) i within))
    ∙ sym (get_or-bits_of n k i within)))

-- every table is repeated over the pins that aren't there
pub table_of-repeated : (pins : ℕ) (f : List ℕ → ℕ) → ((bs : List ℕ) → f bs ≤ 1) → IsRepeated pins (table_of pins f)
table_of-repeated pins f h k lt =
    let less : k % 2 ^ pins ≤ k = rest_le k (2 ^ pins) in
    bit_at-table_of pins f h k lt
    ∙ ap f (sym (bits_of-mod pins k))
    ∙ sym (bit_at-table_of pins f h (k % 2 ^ pins) (omega arith))
