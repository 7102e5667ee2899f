use Rattle.std.proofs.Common.{ℕ, ◌+◌, ◌==◌, List, length, ap, ◌∙◌, arith}
use Rattle.sat_values.proofs.CompactedLemmas.{compacted-signed, compacted-before, compacted-last}
use Rattle.sat_values.proofs.compaction.takes_sign.Goals as goal

-- a clause with the sign keeps it
pub returns-then-is_compact-clause-copy : goal.returns-then-is_compact-clause-copy
returns-then-is_compact-clause-copy c = compacted-signed c.args.t.now c.args.k c.requires.within (c.is_compact.ensures.sign.0 c.if-is_compact.true)

-- a clause with the sign has antecedents
pub returns-then-is_compact-clause-derived : goal.returns-then-is_compact-clause-derived
returns-then-is_compact-clause-derived c e = c.is_compact.ensures.trace.derived c.args.k c.requires.within (c.is_compact.ensures.sign.0 c.if-is_compact.true)

-- a derived clause before the last derived one takes the sign
pub returns-then-k-saturating_sub-clause-copy : goal.returns-then-k-saturating_sub-clause-copy
returns-then-k-saturating_sub-clause-copy c =
    let none = c.if-is_compact.false in
    let past = c.if-k-saturating_sub.true in
    let less = c.saturating_sub.ensures in
    compacted-last c.args.t.now c.args.k c.args.last c.requires.within (c.requires.last (c.args.k + 1)) (omega arith)
    (λ sign. let is = c.is_compact.ensures.sign.1 sign in absurd (cc))

-- from the last derived clause on, stated literals stay
pub returns-clause-copy : goal.returns-clause-copy
returns-clause-copy c =
    let none = c.if-is_compact.false in
    let before = c.if-k-saturating_sub.false in
    let less = c.saturating_sub.ensures in
    compacted-before c.args.t.now c.args.k c.args.last c.is_empty.result c.requires.within (c.requires.last (c.args.k + 1)) (omega arith)
    (c.is_empty.ensures ∙ ap (λ (ps : List ℕ). length ps == 0) c.antecedents.ensures.antecedents)
    (λ sign. let is = c.is_compact.ensures.sign.1 sign in absurd (cc))
