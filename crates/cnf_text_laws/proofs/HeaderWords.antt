-- The words of a header, and that a word spells one thing.
use Rattle.std.proofs.Common.{◌≡◌, ℕ, ◌^◌, ◌<◌, ◌==◌, true, List, [], ◌∷◌, refl}
use Rattle.std.proofs.lemmas.Bool.{and_parts, and_from, eq-eqb, eqb-true}
use Rattle.clause_defs.specs.Literals.{Literal}
use Rattle.text_defs.proofs.NumberLemmas.{spelled-number_within}
use Rattle.sat_text_defs.specs.Words.{SpellsNumber, SpellsLiteral}
use Rattle.sat_text_defs.specs.CnfReading.{same_word}
use Rattle.sat_text_defs.proofs.WordLemmas.{word_literal}

-- a word is the same as itself
pub same_word-itself : (w : List ℕ) → same_word w w ≡ true
same_word-itself [] = refl
same_word-itself (b ∷ bs) = and_from (b == b) (same_word bs bs) (eq-eqb b b refl) (same_word-itself bs)

-- words that are the same are equal
pub same_word-equal : (v w : List ℕ) → same_word v w ≡ true → v ≡ w
same_word-equal [] [] h = refl
same_word-equal [] (b ∷ bs) h = absurd (cc)
same_word-equal (a ∷ us) [] h = absurd (cc)
same_word-equal (a ∷ us) (b ∷ bs) h =
    let parts = and_parts (a == b) (same_word us bs) h in
    let first : a ≡ b = eqb-true a b parts.0 in
    let rest : us ≡ bs = same_word-equal us bs parts.1 in
    cc

-- a word spells one literal
pub one_literal : (w : List ℕ) (l m : Literal) → SpellsLiteral w l → SpellsLiteral w m → l ≡ m
one_literal w l m h k = let first = word_literal w l h in let second = word_literal w m k in cc

-- a word spells one number
pub one_number : (max : ℕ) (w : List ℕ) (m n : ℕ) → max < 2 ^ 64 → SpellsNumber max w m → SpellsNumber max w n → m ≡ n
one_number max w m n small h k =
    let first = spelled-number_within max m w small h.0 h.1 in
    let second = spelled-number_within max n w small k.0 k.1 in
    cc
