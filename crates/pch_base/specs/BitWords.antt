-- A list of bits and its word determine each other.
use Rattle.std.proofs.Common.{◌≡◌, ℕ, zero, suc, ◌*◌, ◌/◌, ◌^◌, ◌<◌, length, refl, ap, arith}
use Rattle.std.proofs.Math.Nat.{pow-suc}
use Rattle.pch_base.specs.BitLists.{bits_of, word_of}

-- the list of the lowest n bits has n bits
pub length-bits_of : (n w : ℕ) → length (bits_of n w) ≡ n
length-bits_of zero w = refl
length-bits_of (suc n) w = ap suc (length-bits_of n (w / 2))

-- half of a number below twice p is below p
half_below : (n w p : ℕ) → w < p * 2 → w / 2 < p
half_below n w p h = omega arith

-- the word of the first n bits of a word that has no more
pub word_of-bits_of : (n w : ℕ) → w < 2 ^ n → word_of (bits_of n w) ≡ w
word_of-bits_of zero w h = omega arith
word_of-bits_of (suc n) w h =
    let below : w < 2 ^ n * 2 = rw pow-suc at h in
    omega (arith, word_of-bits_of n (w / 2) (half_below n w (2 ^ n) below))
