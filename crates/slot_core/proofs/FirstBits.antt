-- The first bits of a list, as the word that holds them.
use Rattle.std.proofs.Common.{◌≡◌, ℕ, zero, suc, ◌/◌, ◌%◌, ◌^◌, ◌<◌, ◌≤◌, List, ◌∷◌, length, take, refl, sym, ap, subst, ◌∙◌, arith}
use Rattle.std.specs.Int.{bit_at}
use Rattle.std.proofs.lemmas.Grind.{same_number_lists}
use Rattle.std.proofs.lemmas.Nat.{div-add-mod'}
use Rattle.std.proofs.lemmas.Nat.Bits.{bit_at_cat_low}
use Rattle.pch_base.specs.BitLists.{bits_of}
use Rattle.pch_base.specs.BitWords.{length-bits_of}
use Rattle.pch_base.proofs.BitLemmas.{get_or-bits_of}
use Rattle.fabric_defs.specs.Configurations.{ConfigValue}
use Rattle.fabric_defs.specs.Wirings.{FabOut, tapped_bit, channel}
use Rattle.fabric_defs.specs.Configurations.{output_word}
use Rattle.fabric_laws.proofs.NumberedLemmas.{length-list_of}

-- the first bits of a word are among its bits
take-bits_of : (n m w : ℕ) → n ≤ m → take n (bits_of m w) ≡ bits_of n w
take-bits_of zero m w le = refl
take-bits_of (suc n) zero w le = absurd (omega arith)
take-bits_of (suc n) (suc m) w le = ap (λ bs. (w % 2) ∷ bs) (take-bits_of n m (w / 2) (omega arith))

-- bit i of a number is that of its rest by 2 ^ n, where i is below n
bit_at-rest : (n k i : ℕ) → i < n → bit_at (k % 2 ^ n) i ≡ bit_at k i
bit_at-rest n k i lt =
    let P : ℕ → Type 0 = λ m. bit_at (k % 2 ^ n) i ≡ bit_at m i in
    subst P (div-add-mod' k (2 ^ n)) (sym (bit_at_cat_low (k / 2 ^ n) n (k % 2 ^ n) i lt))

-- the first n bits of a number are those of its rest by 2 ^ n
bits_of-rest : (n k : ℕ) → bits_of n (k % 2 ^ n) ≡ bits_of n k
bits_of-rest n k =
    same_number_lists (bits_of n (k % 2 ^ n)) (bits_of n k)
    (length-bits_of n (k % 2 ^ n) ∙ sym (length-bits_of n k))
    (λ i lt.
    let within : i < n = omega (arith, length-bits_of n (k % 2 ^ n)) in
    get_or-bits_of n (k % 2 ^ n) i within ∙ bit_at-rest n k i within ∙ sym (get_or-bits_of n k i within))

-- the first n bits of the list that a word holds
pub bits_of-first : (n w : ℕ) (bits : List ℕ) → n ≤ length bits → bits_of (length bits) w ≡ bits
    → bits_of n (w % 2 ^ n) ≡ take n bits
bits_of-first n w bits le held =
    bits_of-rest n w ∙ sym (take-bits_of n (length bits) w le) ∙ ap (take n) held

-- there is a bit for each output pad
pub length-outputs : (config : ConfigValue) (x y : List ℕ) → FabOut config x y → length y ≡ config.geometry.output_pads
length-outputs config x y out =
    ap length out.2
    ∙ length-list_of config.geometry.output_pads
    (λ pad. tapped_bit (channel out.0 config.geometry.columns) (output_word config pad))
