use Rattle.std.proofs.Common.{List, set, get_or, refl, sym, subst}
use Rattle.search_defs.specs.declared.standing.Standing.{Standing}
use Rattle.search_defs.specs.declared.standing.Standing.TheVariants.{Learned, Forgotten}
use Rattle.search_defs.specs.Solving.{Solving, StandsAs, IsSolving}
use Rattle.cdcl_log.proofs.ForgettingLemmas.{forgot_number}
use Rattle.cdcl_log.proofs.forgetting.forget.Goals as goal

-- the search keeps what it keeps
pub returns-then-place-len-clause-solving : goal.returns-then-place-len-clause-solving
returns-then-place-len-clause-solving c =
    let log = c.args.log.now in
    let s : Solving = record { limit = c.args.limit; trail = c.args.trail.now; indices = c.args.indices.now; standings = c.args.standings.now.items } in
    let index = get_or c.args.indices.now c.args.number 0 in
    let stands = subst (λ (ss : List Standing). StandsAs log ss index Learned) c.deref.ensures.value c.in-Some.ensures.learned in
    subst
    (λ p. IsSolving log (record { limit = s.limit; trail = c.forget.new.self; indices = s.indices; standings = set s.standings p Forgotten }))
    (sym c.in-Some.ensures.some)
    (forgot_number log s c.requires.solving c.present.ensures.known c.args.number index c.requires.live refl stands c.forget.new.self
    c.forget.ensures.clauses c.forget.ensures.values)
