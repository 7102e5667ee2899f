-- What is computed of a word is what the word spells.
use Rattle.std.proofs.Common.{◌≡◌, ℕ, ◌≤◌, ◌==◌, inl, inr, Bool, true, false, List, [], ◌∷◌, decimal, Option, Some, None, option_map, refl, sym, ap, subst, ◌∙◌, arith}
use Rattle.std.proofs.lemmas.Bool.{cases_Bool, eqb-true}
use Rattle.clause_defs.specs.declared.verdict.TheConstants.{MAX_VARIABLE, MAX_INDEX}
use Rattle.clause_defs.specs.Literals.{Literal}
use Rattle.text_defs.specs.Numbers.{positive_within}
use Rattle.text_defs.proofs.NumberLemmas.{positive_within-spelled, spelled-positive_within, positive_within-other}
use Rattle.sat_text_defs.specs.Words.{zero_word, sign_word, literal_word, SpellsIndex, SpellsLiteral, IsIndexWord, IsLiteralWord}
use Rattle.sat_text_defs.specs.Spellings.{is_byte, is_zero, is_sign, index_in, literal, literal_in}

-- ---- the words `0` and `*`

-- a word that passes the test for one byte is that byte alone
is_byte-word : (byte : ℕ) (w : List ℕ) → is_byte byte w ≡ true → w ≡ byte ∷ []
is_byte-word byte [] h = absurd (cc)
is_byte-word byte (b ∷ []) h = let first : b ≡ byte = eqb-true b byte h in cc
is_byte-word byte (b ∷ c ∷ bs) h = absurd (cc)

-- a word that is read as 0 is `0`
pub is_zero-word : (w : List ℕ) → is_zero w ≡ true → w ≡ zero_word
is_zero-word w h = is_byte-word 48 w h

-- `0` is read as 0
pub word_zero : (w : List ℕ) → w ≡ zero_word → is_zero w ≡ true
word_zero w e = ap is_zero e

-- a word that is read as the sign is `*`
pub is_sign-word : (w : List ℕ) → is_sign w ≡ true → w ≡ sign_word
is_sign-word w h = is_byte-word 42 w h

-- `*` is read as the sign
pub word_sign : (w : List ℕ) → w ≡ sign_word → is_sign w ≡ true
word_sign w e = ap is_sign e

-- a word that is read as something isn't a word that is read as nothing
never : {X : Type 0} (read : List ℕ → Option X) (w z : List ℕ) (x : X) → read w ≡ Some x → read z ≡ None → w ≡ z → ⊥
never read w z x some none e = let same : read w ≡ read z = ap read e in absurd (cc)

-- ---- indices

-- the index that is computed of a word is the one that the word spells
pub index_in-word : (w : List ℕ) (n : ℕ) → index_in w ≡ Some n → SpellsIndex w n
index_in-word w n h = positive_within-spelled MAX_INDEX n w (omega arith) h

-- an index is computed of the word that spells it
pub word_index : (w : List ℕ) (n : ℕ) → SpellsIndex w n → index_in w ≡ Some n
word_index w n h = spelled-positive_within MAX_INDEX n w (omega arith) h.0 h.1 h.2

-- of a word that spells no index none is computed
pub no_index : (w : List ℕ) → index_in w ≡ None → IsIndexWord w → ⊥
no_index w e h = let some : index_in w ≡ Some h.0 = word_index w h.0 h.1 in absurd (cc)

-- the word 0 is no index
index_zero : index_in zero_word ≡ None
index_zero = positive_within-other MAX_INDEX 48 [] (inl (omega arith))

-- an index isn't `0`
pub index_nonzero : (w : List ℕ) (n : ℕ) → SpellsIndex w n → is_zero w ≡ false
index_nonzero w n h = elim (cases_Bool (is_zero w)) [
  | inl z ↦ absurd (never index_in w zero_word n (word_index w n h) index_zero (is_zero-word w z))
  | inr z ↦ z
]

-- ---- literals

-- a mapped number comes from a number
option_map-some : {X Y : Type 0} (g : X → Y) (o : Option X) (y : Y) → option_map g o ≡ Some y → (x : X) × (o ≡ Some x) × (g x ≡ y)
option_map-some g None y h = absurd (cc)
option_map-some g (Some x) y h = (x, refl, cc)

-- a word that is read as a literal spells it, with the minus sign or without
literal_from : (b : ℕ) (bs : List ℕ) (l : Literal) (t : Bool) → (b == 45) ≡ t → literal_in (b ∷ bs) ≡ Some l → SpellsLiteral (b ∷ bs) l
literal_from b bs l true e h =
    let computes : literal_in (b ∷ bs) ≡ option_map (literal false) (positive_within MAX_VARIABLE bs) = rw e refl in
    let found = option_map-some (literal false) (positive_within MAX_VARIABLE bs) l (sym computes ∙ h) in
    let spelled = positive_within-spelled MAX_VARIABLE found.0 bs (omega arith) found.1 in
    let first : b ≡ 45 = eqb-true b 45 e in
    let rest : bs ≡ decimal found.0 = spelled.0 in
    let word : (b ∷ bs) ≡ (45 ∷ decimal found.0) = cc in
    subst (λ (x : Literal). SpellsLiteral (b ∷ bs) x) found.2 ((spelled.1, spelled.2), word)
literal_from b bs l false e h =
    let computes : literal_in (b ∷ bs) ≡ option_map (literal true) (positive_within MAX_VARIABLE (b ∷ bs)) = rw e refl in
    let found = option_map-some (literal true) (positive_within MAX_VARIABLE (b ∷ bs)) l (sym computes ∙ h) in
    let spelled = positive_within-spelled MAX_VARIABLE found.0 (b ∷ bs) (omega arith) found.1 in
    subst (λ (x : Literal). SpellsLiteral (b ∷ bs) x) found.2 ((spelled.1, spelled.2), spelled.0)

-- the literal that is computed of a word is the one that the word spells
pub literal_in-word : (w : List ℕ) (l : Literal) → literal_in w ≡ Some l → SpellsLiteral w l
literal_in-word [] l h = absurd (cc)
literal_in-word (b ∷ bs) l h = literal_from b bs l (b == 45) refl h

-- a word that is read as a positive number doesn't begin with the minus sign
unsigned : (b : ℕ) (bs : List ℕ) (n : ℕ) → positive_within MAX_VARIABLE (b ∷ bs) ≡ Some n → (b == 45) ≡ false
unsigned b bs n h = elim (cases_Bool (b == 45)) [
  | inl e ↦
      let none : positive_within MAX_VARIABLE (b ∷ bs) ≡ None = positive_within-other MAX_VARIABLE b bs (inl (omega (arith, eqb-true b 45 e))) in
      absurd (cc)
  | inr e ↦ e
]

-- a positive number up to the greatest variable is read as that variable
positive_literal : (w : List ℕ) (n : ℕ) → positive_within MAX_VARIABLE w ≡ Some n → literal_in w ≡ Some (literal true n)
positive_literal [] n h = absurd (cc)
positive_literal (b ∷ bs) n h = rw (unsigned b bs n h) (ap (option_map (literal true)) h)

-- the word of a literal within the limits is read as that literal
signed_literal : (p : Bool) (n : ℕ) → 1 ≤ n → n ≤ MAX_VARIABLE → literal_in (literal_word (literal p n)) ≡ Some (literal p n)
signed_literal true n low high = positive_literal (decimal n) n (spelled-positive_within MAX_VARIABLE n (decimal n) (omega arith) refl low high)
signed_literal false n low high = ap (option_map (literal false)) (spelled-positive_within MAX_VARIABLE n (decimal n) (omega arith) refl low high)

-- a literal is computed of the word that spells it
pub word_literal : (w : List ℕ) (l : Literal) → SpellsLiteral w l → literal_in w ≡ Some l
word_literal w l h = ap literal_in h.1 ∙ signed_literal l.positive l.variable h.0.0 h.0.1

-- of a word that spells no literal none is computed
pub no_literal : (w : List ℕ) → literal_in w ≡ None → IsLiteralWord w → ⊥
no_literal w e h = let some : literal_in w ≡ Some h.0 = word_literal w h.0 h.1 in absurd (cc)

-- a byte below the digits 1 to 9 that isn't the minus sign is no literal
other_byte : (b : ℕ) → (b == 45) ≡ false → (b ≤ 48) → literal_in (b ∷ []) ≡ None
other_byte b e low = rw e (ap (option_map (literal true)) (positive_within-other MAX_VARIABLE b [] (inl low)))

-- a literal isn't `0`
pub literal_nonzero : (w : List ℕ) (l : Literal) → SpellsLiteral w l → is_zero w ≡ false
literal_nonzero w l h = elim (cases_Bool (is_zero w)) [
  | inl z ↦ absurd (never literal_in w zero_word l (word_literal w l h) (other_byte 48 refl (omega arith)) (is_zero-word w z))
  | inr z ↦ z
]

-- a literal isn't `*`
pub literal_unsigned : (w : List ℕ) (l : Literal) → SpellsLiteral w l → is_sign w ≡ false
literal_unsigned w l h = elim (cases_Bool (is_sign w)) [
  | inl z ↦ absurd (never literal_in w sign_word l (word_literal w l h) (other_byte 42 refl (omega arith)) (is_sign-word w z))
  | inr z ↦ z
]

-- `0` isn't `*`
pub zero_unsigned : (w : List ℕ) → w ≡ zero_word → is_sign w ≡ false
zero_unsigned w e = ap is_sign e
