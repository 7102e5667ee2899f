use Rattle.std.proofs.Common.{◌≡◌, ℕ, ◌+◌, ◌*◌, ◌^◌, ◌<◌, ◌%◌, drop, get_or, ap, sym, ◌∙◌, arith, subst}
use Rattle.fabric_defs.specs.declared.limits.TheConstants.{WORD_BITS}
use Rattle.fabric_defs.specs.Configurations.{number_behind}
use Rattle.fabric.proofs.TableReads.{number_behind-more, number-more, number-shifted}
use Rattle.fabric.proofs.config.number_of.Goals as goal

-- one word more is the lowest part of the number
pub loop-word-preserved : goal.loop-word-preserved
loop-word-preserved c =
    let words = c.args.words.now in
    let number : ℕ = c.loop-word.number in
    let i : ℕ = c.loop-word.word-index in
    let word : ℕ = get_or words i 0 in
    let lt = c.loop-word-test.true in
    let short : word < 2 ^ WORD_BITS = (c.type_inv.words i).fits in
    let next : number * 2 ^ WORD_BITS % 2 ^ 64 + c.from.result ≡ number * 2 ^ WORD_BITS + word =
    omega (arith, number-shifted number i c.loop-word.invariant.below (omega (arith, c.requires)), c.from.ensures) in
    let B : ℕ → Type 0 = λ n. n < 2 ^ (WORD_BITS * (i + 1)) in
    record {
      value = ap (λ n. number_behind n (drop (i + 1) words)) next ∙ sym (number_behind-more number words i lt) ∙ c.loop-word.invariant.value;
      below = subst B (sym next) (number-more number word i c.loop-word.invariant.below short);
    }
