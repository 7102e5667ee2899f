-- Tables that are filled bit by bit.
use Rattle.std.proofs.Common.{◌≡◌, ℕ, ◌+◌, ◌<◌, ◌≤◌, ◌*◌, ◌%◌, ◌^◌, List, length, get_or, set, ap, sym, subst, ◌∙◌, ⊎_elim, arith}
use Rattle.std.proofs.lemmas.List.{length-set, get_or-set_same, get_or-set_other}
use Rattle.std.proofs.lemmas.Bool.{cases_eq}
use Rattle.pch_base.specs.BitLists.{bits_of, word_of}
use Rattle.pch_base.specs.BitWords.{length-bits_of}
use Rattle.fabric_defs.specs.Numbered.{list_of}
use Rattle.std.proofs.lemmas.Nat.{one_shl}
use Rattle.map_laws.proofs.TableLemmas.{bits_of-mod}
use Rattle.fabric_laws.proofs.NumberedLemmas.{list_of_elements}

-- of so many bits the first k are the function's values
pub record IsFilled (count : ℕ) (f : ℕ → ℕ) (bits : List ℕ) (k : ℕ) : Type 0 where
  pub as_many : length bits ≡ count
  pub each : (j : ℕ) → j < k → get_or bits j 0 ≡ f j

-- at first none is filled
pub filled_none : (count : ℕ) (f : ℕ → ℕ) (bits : List ℕ) → bits ≡ bits_of count 0 → IsFilled count f bits 0
filled_none count f bits e = record {
  as_many = ap length e ∙ length-bits_of count 0;
  each = λ j lt. absurd (omega arith);
}

-- one more bit is filled
pub filled_more : (count : ℕ) (f : ℕ → ℕ) (bits new : List ℕ) (k b : ℕ) → IsFilled count f bits k → k < count → f k ≡ b → new ≡ set bits k b
    → IsFilled count f new (k + 1)
filled_more count f bits new k b h lt e written =
    let P : List ℕ → Type 0 = λ l. IsFilled count f l (k + 1) in
    subst P (sym written) (record {
      as_many = length-set bits k b ∙ h.as_many;
      each = λ j below. ⊎_elim
          (λ same. ap (λ m. get_or (set bits k b) m 0) same ∙ get_or-set_same bits k b 0 (omega (arith, h.as_many)) ∙ sym e ∙ ap f (sym same))
          (λ other. get_or-set_other bits k j b 0 other ∙ h.each j (omega arith))
          (cases_eq j k);
    })

-- once all are filled, they are the bits of the table
pub filled_word : (count : ℕ) (f : ℕ → ℕ) (bits : List ℕ) (k : ℕ) → IsFilled count f bits k → count ≤ k → word_of bits ≡ word_of (list_of count f)
filled_word count f bits k h le =
    ap word_of (list_of_elements count f bits 0 h.as_many (λ i lt. h.each i (omega arith)))

-- the first bits of a number, from its rest
pub pattern_bits : (k pins : ℕ) → pins ≤ 6 → bits_of pins (k % (1 * 2 ^ pins % 2 ^ 64)) ≡ bits_of pins k
pattern_bits k pins le = ap (λ m. bits_of pins (k % m)) (one_shl pins 64 (omega arith)) ∙ bits_of-mod pins k
