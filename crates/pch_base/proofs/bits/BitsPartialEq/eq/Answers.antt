use Rattle.pch_base.proofs.BitLemmas.{pointwise-lengths, pointwise-other}
use Rattle.pch_base.proofs.bits.BitsPartialEq.eq.Goals as goal

-- words of the same width and number have the same lists
pub returns-then-word : goal.returns-then-word
returns-then-word c =
    pointwise-lengths c.args.self.now c.args.other.now _ _ _ _ c.word.ensures.bits c.word-2.ensures.bits
    c.if-word.true c.len.ensures.len c.len-then-word.ensures.len

-- words that differ in width or number have different lists
pub returns-else-word : goal.returns-else-word
returns-else-word c =
    pointwise-other c.args.self.now c.args.other.now _ _ c.word.ensures.word c.word-2.ensures.word c.if-word.false
