use Rattle.std.proofs.Common.{◌≤◌, List, length, ap, subst, arith, leb-true}
use mathlib.Core.List.{IsPrefix}
use Rattle.journal_defs.specs.Journals.{EntryValue}
use Rattle.live_table.proofs.Prefixes.{prefix_shorter}
use Rattle.live_table.proofs.front.Front.has.Goals as goal

-- of two beginnings of one history the shorter begins the longer
pub returns : goal.returns
returns c less =
    let both = c.learn.new.self.log in
    let mine : IsPrefix c.self.inside.seen.log both =
    subst (λ (l : List EntryValue). IsPrefix l both) (ap (λ s. s.log) c.again-both.ensures) c.learn.ensures.2 in
    let least = leb-true c.other.inside.entries c.self.inside.entries less in
    let short : length c.other.inside.seen.log ≤ length c.self.inside.seen.log =
    omega (arith, least, c.self.invariant, c.other.invariant) in
    rw (← c.self.view_is, ← c.other.view_is)
    (prefix_shorter c.other.inside.seen.log c.self.inside.seen.log both c.learn.ensures.3 mine short)
