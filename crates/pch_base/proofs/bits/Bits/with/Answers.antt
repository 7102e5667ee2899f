use Rattle.std.proofs.Common.{◌≡◌, ℕ, ◌<◌, List, length, set, sym, ap, ◌∙◌, arith}
use Rattle.pch_base.specs.BitLists.{bits_of}
use Rattle.pch_base.specs.BitWords.{length-bits_of}
use Rattle.pch_base.proofs.BitLemmas.{bits_of-set, set_below, bits_of-clear, clear_below}
use Rattle.pch_base.proofs.bits.Bits.with.Goals as goal
use Rattle.pch_base.proofs.bits.Bits.with.Goals.{then-b, else-b}

-- a place in a list of n bits is below n
within : (n w i : ℕ) (bs : List ℕ) → bits_of n w ≡ bs → i < length bs → i < n
within n w i bs e lt = let long : length bs ≡ n = ap length (sym e) ∙ length-bits_of n w in omega arith

-- the new word has no bit above its width
pub invariant_of-result : goal.invariant_of-result
invariant_of-result c =
    let i_within : c.args.i < c.self.inside.len = within c.self.inside.len c.self.inside.word c.args.i c.args.self c.self.view_is c.requires in
    elim c.if-b.branch [
      | then-b w ↦ (c.self.invariant.0, rw w.word-is (set_below c.self.inside.len c.self.inside.word c.args.i c.self.invariant.0 i_within c.self.invariant.1))
      | else-b w ↦ (c.self.invariant.0, rw w.word-is (clear_below c.self.inside.len c.self.inside.word c.args.i c.self.invariant.1))
    ]

-- the new word's list has the one bit exchanged
pub returns : goal.returns
returns c =
    let i_within : c.args.i < c.self.inside.len = within c.self.inside.len c.self.inside.word c.args.i c.args.self c.self.view_is c.requires in
    elim c.if-b.branch [
      | then-b w ↦ rw (w.word-is, w.if-b.true) (bits_of-set c.self.inside.len c.self.inside.word c.args.i c.self.invariant.0 i_within ∙ ap (λ bs. set bs c.args.i 1) c.self.view_is)
      | else-b w ↦ rw (w.word-is, w.if-b.false) (bits_of-clear c.self.inside.len c.self.inside.word c.args.i c.self.invariant.0 i_within ∙ ap (λ bs. set bs c.args.i 0) c.self.view_is)
    ]
