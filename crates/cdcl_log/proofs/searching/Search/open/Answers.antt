use Rattle.std.proofs.Common.{List, sym, ◌≡◌, ◌/◌, length, ap, ◌∙◌, subst, arith}
use Rattle.clause_defs.specs.Formulas.{Formula}
use Rattle.trail_defs.specs.Trails.{IsOpened}
use Rattle.search_defs.specs.declared.standing.Standing.{Standing}
use Rattle.search_defs.specs.Solving.{IsSolving}
use Rattle.search_defs.proofs.OpenLemmas.{solving_opened}
use Rattle.cdcl_log.proofs.searching.Search.open.Goals as goal

-- the search begins with the clauses of the formula
pub returns-clause-solving : goal.returns-clause-solving
returns-clause-solving c nothing =
    let log = c.args.log.now in
    let limit = c.args.limit in
    let count : c.len.result ≡ length log.originals.clauses =
    c.len.ensures.len ∙ ap (λ (f : Formula). length f.clauses) c.originals-set.ensures.originals in
    let size = c.in_ok-own_indices.ensures.size in
    subst
    (λ (ss : List Standing). IsSolving log (record { limit = limit; trail = c.in_ok-open.field-0; indices = c.in_ok-own_indices.field-0.items; standings = ss }))
    (sym c.in_ok-with_capacity.ensures.items)
    (solving_opened log limit c.in_ok-open.field-0 c.in_ok-own_indices.field-0.items nothing c.requires
    (subst (λ (f : Formula). IsOpened f.variables f.clauses limit (limit / 4) c.in_ok-open.field-0) c.originals-set.ensures.originals
    c.in_ok-open.ensures.opened) (omega arith) (λ k low. c.in_ok-own_indices.ensures.own k (omega arith)))
