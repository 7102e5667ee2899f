use Rattle.std.proofs.Common.{[], length, replicate, ap, ◌∙◌, arith}
use Rattle.std.proofs.lemmas.List.{length-map}
use Rattle.clause_defs.specs.Clauses.{Lits}
use Rattle.chain_check.specs.ByPlace.{ClausesByPlace, part_of}
use Rattle.chain_check.proofs.PartLemmas.{parts_empty}
use Rattle.chain_check.proofs.computed.Computed.clear.Goals as goal

-- the part of no literals at each place is no literals
pub returns-clause-clauses : goal.returns-clause-clauses
returns-clause-clauses c =
    let same = ap (λ (v : ClausesByPlace). length v.clauses) c.self.view_is in
    let long = length-map c.self.inside.spans.items (part_of c.self.inside.lits.items) in
    parts_empty c.clear.new.self.items c.fill.new.self.items c.clear.ensures.items
    ∙ ap (λ n. replicate {A = Lits} n []) (let len = c.fill.ensures.len in let counted = c.self.inside.spans.ok.0 in omega arith)
