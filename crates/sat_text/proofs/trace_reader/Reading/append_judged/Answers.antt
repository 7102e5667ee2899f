use Rattle.std.proofs.Common.{◌≡◌, ℕ, List, [], length, subst, sym, ap, ◌∙◌, arith}
use Rattle.clause_defs.specs.Clauses.{Has}
use Rattle.trace_places.proofs.PlaceLemmas.{places_from-length}
use Rattle.sat_text.proofs.Judging.{index_is_other, places_are_earlier}
use Rattle.sat_text.proofs.trace_reader.Reading.append_judged.Goals as goal

pub push_clause-requires-clause-other : goal.push_clause-requires-clause-other
push_clause-requires-clause-other c = index_is_other c.args.self.now.trace c.args.self.now.places c.args.clause.now.index c.requires.places c.requires.other

pub push_clause-requires-clause-derived : goal.push_clause-requires-clause-derived
push_clause-requires-clause-derived c sign none =
    let some = c.requires.derived sign in
    let empty : length c.args.self.now.found.items ≡ 0 = ap length (sym c.deref.ensures.value ∙ none) in
    let found = places_from-length c.args.self.now.places [] c.args.clause.now.antecedents.items c.args.self.now.found.items c.requires.found in
    omega arith

pub push_clause-requires-clause-earlier : goal.push_clause-requires-clause-earlier
push_clause-requires-clause-earlier c = λ p h.
    places_are_earlier c.args.self.now.trace c.args.self.now.places c.args.clause.now.antecedents.items c.args.self.now.found.items
    c.requires.places c.requires.found p (subst (λ (l : List ℕ). Has l p) c.deref.ensures.value h)
