use Rattle.std.proofs.Common.{ℕ, ◌≤◌, List, length, sym, ap, ◌∙◌, subst}
use Rattle.clause_defs.specs.Clauses.{Has}
use Rattle.pch_base.specs.BitWords.{length-bits_of}
use Rattle.pch_base.proofs.BitLemmas.{bits_of-small}
use Rattle.pch_base.proofs.bits.Bits.len.Goals as goal

-- the list has as many bits as the word is wide
pub returns-clause-len : goal.returns-clause-len
returns-clause-len c = sym (length-bits_of c.self.inside.len c.self.inside.word) ∙ ap length c.self.view_is

-- each of them is 0 or 1
pub returns-clause-bits : goal.returns-clause-bits
returns-clause-bits c =
    subst (λ (bs : List ℕ). (b : ℕ) → Has bs b → b ≤ 1) c.self.view_is
    (bits_of-small c.self.inside.len c.self.inside.word)
