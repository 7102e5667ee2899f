use Rattle.std.proofs.Common.{◌+◌, map, subst, sym, arith}
use Rattle.clause_defs.specs.Resolution.{Resolves}
use Rattle.log_defs.specs.Logs.{LogValue, IsIndexOf, clause_of_log}
use Rattle.log_defs.specs.Deriving.{IsNew, IsTaken}
use Rattle.proof_log.proofs.KeptLemmas.{has_place, kept_push, taken, log_of}
use Rattle.proof_log.proofs.log.Log.derive.Goals as goal

pub insert-requires-clause-clauses : goal.insert-requires-clause-clauses
insert-requires-clause-clauses c =
    let words = c.words-need.ensures.words in
    let fits = c.if-need-self.false in
    (has_place _ _ _ _ _ c.self.invariant (record { lits = c.args.lits.now; antecedents = c.args.ants.now }) (omega arith)).next_clause

pub insert-requires-clause-literals : goal.insert-requires-clause-literals
insert-requires-clause-literals c =
    let words = c.words-need.ensures.words in
    let fits = c.if-need-self.false in
    (has_place _ _ _ _ _ c.self.invariant (record { lits = c.args.lits.now; antecedents = c.args.ants.now }) (omega arith)).literals

pub insert-requires-clause-few : goal.insert-requires-clause-few
insert-requires-clause-few c =
    let words = c.words-need.ensures.words in
    let fits = c.if-need-self.false in
    (has_place _ _ _ _ _ c.self.invariant (record { lits = c.args.lits.now; antecedents = c.args.ants.now }) (omega arith)).few_literals

pub push_reserved-requires-clause-few_items : goal.push_reserved-requires-clause-few_items
push_reserved-requires-clause-few_items c =
    let words = c.words-need.ensures.words in
    let fits = c.if-need-self.false in
    (has_place _ _ _ _ _ c.self.invariant (record { lits = c.args.lits.now; antecedents = c.args.ants.now }) (omega arith)).few_items

pub push_reserved-requires-clause-list_room : goal.push_reserved-requires-clause-list_room
push_reserved-requires-clause-list_room c =
    let words = c.words-need.ensures.words in
    let fits = c.if-need-self.false in
    (has_place _ _ _ _ _ c.self.invariant (record { lits = c.args.lits.now; antecedents = c.args.ants.now }) (omega arith)).next_list

pub push_reserved-requires-clause-item_room : goal.push_reserved-requires-clause-item_room
push_reserved-requires-clause-item_room c =
    let words = c.words-need.ensures.words in
    let fits = c.if-need-self.false in
    (has_place _ _ _ _ _ c.self.invariant (record { lits = c.args.lits.now; antecedents = c.args.ants.now }) (omega arith)).items

pub invariant_of-self : goal.invariant_of-self
invariant_of-self c =
    let fits = c.if-need-self.false in
    kept_push _ _ _ _ _ c.self.invariant c.args.lits.now c.args.ants.now c.insert.new.self c.push_reserved.new.self c.words-need.result c.words-need.ensures.clause
    (λ index h. subst (λ (l : LogValue). IsIndexOf l index) (sym c.self.view_is) (c.requires.indices index h))
    (subst (λ (l : LogValue). Resolves (map (clause_of_log l) c.args.ants.now) c.args.lits.now) (sym c.self.view_is) c.requires.resolves)
    (subst (λ (l : LogValue). IsNew l c.args.lits.now) (sym c.self.view_is) c.in_default.ensures.none)
    c.words-need.ensures.words (omega arith) c.insert.ensures.clauses c.insert.ensures.clause_room c.insert.ensures.literal_room
    c.push_reserved.ensures.lists c.push_reserved.ensures.list_room c.push_reserved.ensures.item_room

pub returns : goal.returns
returns c =
    let words = c.words-need.ensures.words in
    let fits = c.if-need-self.false in
    let originals = c.len.ensures.len in
    let all = c.len-2.ensures.len in
    subst
    (λ (l : LogValue). IsTaken l (record { lits = c.args.lits.now; antecedents = c.args.ants.now }) (c.len.result + c.len-2.result)
    (log_of c.self.inside.originals c.insert.new.self c.push_reserved.new.self c.self.inside.budget)) c.self.view_is
    (taken _ _ _ _ _ c.self.invariant c.args.lits.now c.args.ants.now c.insert.new.self c.push_reserved.new.self (c.len.result + c.len-2.result)
    (subst (λ (l : LogValue). IsNew l c.args.lits.now) (sym c.self.view_is) c.in_default.ensures.none)
    (omega arith) (omega arith) c.insert.ensures.clauses c.push_reserved.ensures.lists)
