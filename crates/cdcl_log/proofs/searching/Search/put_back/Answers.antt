use Rattle.std.proofs.Common.{◌≡◌, ◌-◌, length, set, sum_by, sym, ap, ◌∙◌, subst, arith}
use Rattle.clause_defs.specs.Clauses.{Lits, Has}
use Rattle.clause_defs.specs.Formulas.{Formula}
use Rattle.log_defs.specs.Logs.{clause_of_log}
use Rattle.pch_region.specs.Blocks.{size}
use Rattle.settled_levels.specs.Levels.{IsTaught}
use Rattle.search_defs.specs.declared.standing.Standing.TheVariants.{Forgotten, Back}
use Rattle.search_defs.specs.Solving.{Solving, StandsAs, IsSolving}
use Rattle.search_defs.proofs.BackLemmas.{stands_there}
use Rattle.search_defs.proofs.ReasonLemmas.{clause_within}
use Rattle.cdcl_log.specs.Steps.{IsPut}
use Rattle.cdcl_log.proofs.StepLemmas.{words_owed, comes_back}
use Rattle.cdcl_log.proofs.searching.Search.put_back.Goals as goal

-- the clause is over the variables
pub put-requires-clause-within : goal.put-requires-clause-within
put-requires-clause-within c l h =
    let log = c.args.log.now in
    let s : Solving = record { limit = c.self.inside.limit; trail = c.self.inside.trail; indices = c.self.inside.indices.items; standings = c.self.inside.standings.items } in
    let solving = subst (IsSolving log) (sym c.self.view_is) c.requires.solving in
    let stands = subst (λ (v : Solving). StandsAs log v.standings c.args.index Forgotten) (sym c.self.view_is) c.requires.forgotten in
    let there = stands_there log s.standings solving.each_stands c.args.index Forgotten stands in
    let within = clause_within log s solving c.present.ensures.known c.args.index there l (subst (λ (d : Lits). Has d l) c.clause.ensures.lits h) in
    let over = solving.knows.over in
    let same = c.back_to.ensures.same.variables in omega arith

-- and the trail has the words that it is owed
pub put-requires-clause-words : goal.put-requires-clause-words
put-requires-clause-words c =
    let log = c.args.log.now in
    let s : Solving = record { limit = c.self.inside.limit; trail = c.self.inside.trail; indices = c.self.inside.indices.items; standings = c.self.inside.standings.items } in
    let solving = subst (IsSolving log) (sym c.self.view_is) c.requires.solving in
    let stands = subst (λ (v : Solving). StandsAs log v.standings c.args.index Forgotten) (sym c.self.view_is) c.requires.forgotten in
    let owed = words_owed log s solving c.args.index stands in
    let held = ap (λ os. sum_by size os) c.back_to.ensures.same.clauses in
    let words = c.back_to.ensures.same.words in
    let long = ap (λ (ls : Lits). length ls) c.clause.ensures.lits in omega arith

-- once it is there, the search goes on
pub returns-clause-solving : goal.returns-clause-solving
returns-clause-solving c =
    let log = c.args.log.now in
    let s : Solving = record { limit = c.self.inside.limit; trail = c.self.inside.trail; indices = c.self.inside.indices.items; standings = c.self.inside.standings.items } in
    let solving = subst (IsSolving log) (sym c.self.view_is) c.requires.solving in
    let stands = subst (λ (v : Solving). StandsAs log v.standings c.args.index Forgotten) (sym c.self.view_is) c.requires.forgotten in
    let u = c.requires.taught.0 in
    let taught = subst (λ (v : Solving). IsTaught v.trail (clause_of_log log c.args.index) u c.args.level) (sym c.self.view_is) c.requires.taught.1 in
    let count : c.len.result ≡ length log.originals.clauses =
    c.len.ensures.len ∙ ap (λ (f : Formula). length f.clauses) c.originals.ensures.originals in
    subst
    (λ n. IsSolving log (record { limit = s.limit; trail = c.put.new.trail; indices = c.put.new.indices.items; standings = set s.standings (c.args.index - n - 1) Back }))
    (sym count)
    (comes_back log s solving c.args.index stands c.present.ensures.known u c.args.level taught c.back_to.new.trail c.back_to.ensures.lits
    c.back_to.ensures.levels c.back_to.ensures.present c.back_to.ensures.same c.put.new.trail c.put.new.indices.items
    (subst (λ (ls : Lits). IsPut ls c.args.index c.back_to.new.trail s.indices c.put.new.trail c.put.new.indices.items) c.clause.ensures.lits
    c.put.ensures.put))
