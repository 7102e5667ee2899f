use Rattle.std.proofs.Common.{◌≡◌, ℕ, ◌^◌, ◌<◌, List, length, sym, ap, ◌∙◌, subst}
use Rattle.pch_base.specs.BitLists.{bits_of, word_of}
use Rattle.pch_base.specs.BitWords.{length-bits_of, word_of-bits_of}
use Rattle.pch_base.proofs.bits.Bits.word.Goals as goal

-- the word is the number of its list of bits
pub returns-clause-word : goal.returns-clause-word
returns-clause-word c = sym (word_of-bits_of c.self.inside.len c.self.inside.word c.self.invariant.1) ∙ ap word_of c.self.view_is

-- the word has no bit above its length
pub returns-clause-within : goal.returns-clause-within
returns-clause-within c =
    subst (λ (bs : List ℕ). c.self.inside.word < 2 ^ length bs) c.self.view_is
    (rw (length-bits_of c.self.inside.len c.self.inside.word) c.self.invariant.1)

-- the word's bits are the list
pub returns-clause-bits : goal.returns-clause-bits
returns-clause-bits c =
    subst (λ (bs : List ℕ). bits_of (length bs) c.self.inside.word ≡ bs) c.self.view_is
    (ap (λ n. bits_of n c.self.inside.word) (length-bits_of c.self.inside.len c.self.inside.word))
