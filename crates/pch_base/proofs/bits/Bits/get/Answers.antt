use Rattle.std.proofs.Common.{◌≡◌, ℕ, ◌/◌, ◌^◌, ◌<◌, List, length, get_or, bit_and, nat_eq, if◌then◌else◌, sym, ap, ◌∙◌, subst, arith}
use Rattle.pch_base.specs.BitWords.{length-bits_of}
use Rattle.pch_base.proofs.BitLemmas.{get_or-tested}
use Rattle.pch_base.proofs.bits.Bits.get.Goals as goal

-- bit i of the word is bit i of its list
pub returns : goal.returns
returns c =
    let e : length c.args.self ≡ c.self.inside.len = ap length (sym c.self.view_is) ∙ length-bits_of c.self.inside.len c.self.inside.word in
    let within : c.args.i < c.self.inside.len = omega arith in
    subst (λ (bs : List ℕ). get_or bs c.args.i 0 ≡ (if nat_eq (bit_and (c.self.inside.word / 2 ^ c.args.i) 1) 1 then 1 else 0)) c.self.view_is
    (get_or-tested c.self.inside.len c.self.inside.word c.args.i within)
