use Rattle.std.proofs.Common.{ℕ, true, [], ◌∷◌, Result, sym, ◌∙◌, ap, subst, arith}
use Rattle.std.proofs.lemmas.List.{get_or_append_left}
use Rattle.clause_defs.specs.Clauses.{Has}
use Rattle.log_defs.specs.Logs.{all_clauses, clause_of_log}
use Rattle.log_laws.proofs.TraceOfLemmas.{Has-get_or}
use Rattle.leaf_defs.specs.Evaluated.{Evaluated, IsEvaluated, IsFalseAmong}
use Rattle.leaf_chain.specs.Growing.{with_implied}
use Rattle.leaf_chain.specs.Leaves.{LeafEnds}
use Rattle.leaf_chain.proofs.RunningLemmas.{evaluated_few}
use Rattle.miter_defs.specs.Numberings.{signal_variable}
use Rattle.miter_values.specs.Parts.{bit_of}
use Rattle.tree_defs.specs.declared.tree_end.TreeEnd.{TreeEnd}
use Rattle.tree_refute.specs.Branches.{BranchEnds, most_words}
use Rattle.tree_refute.proofs.BranchLemmas.{join_without, join_false, leaf_ends}
use Rattle.tree_refute.proofs.Halves.{CanJoin, can_join, Implies, first_implies}
use Rattle.tree_refute.proofs.search.Search.join.Goals as goal

pub imply-requires : goal.imply-requires
imply-requires c =
    let f = all_clauses c.args.log.now.originals.clauses c.args.log.now.derived in
    let can : CanJoin c.args.self.now f c.args.x c.args.i c.choose_first.new.e =
    can_join c.args.self.now _ f c.args.x c.args.i _ c.choose_first.new.e c.requires.input c.requires.bits
    c.self.invariant.are c.self.invariant.places c.self.view_is c.choose_first.ensures.places (c.choose_first.ensures.chosen f) in
    join_without c.args.x c.args.i c.args.first f c.choose_first.new.e can.chosen can.within can.places

pub derive_chosen-requires-clause-evaluated : goal.derive_chosen-requires-clause-evaluated
derive_chosen-requires-clause-evaluated c =
    let f = all_clauses c.args.log.now.originals.clauses c.args.log.now.derived in
    let can : CanJoin c.args.self.now f c.args.x c.args.i c.choose_first.new.e =
    can_join c.args.self.now _ f c.args.x c.args.i _ c.choose_first.new.e c.requires.input c.requires.bits
    c.self.invariant.are c.self.invariant.places c.self.view_is c.choose_first.ensures.places (c.choose_first.ensures.chosen f) in
    let implies : Implies f c.args.i c.args.first c.choose_first.new.e =
    first_implies c.args.self.now c.args.log.now c.args.x c.args.i c.args.first c.choose_first.new.e can c.requires.first c.requires.first_under c.requires.first_has in
    subst (IsEvaluated f) (sym c.imply.ensures) implies.grows.evaluated

pub derive_chosen-requires-clause-all_false : goal.derive_chosen-requires-clause-all_false
derive_chosen-requires-clause-all_false c =
    let f = all_clauses c.args.log.now.originals.clauses c.args.log.now.derived in
    let can : CanJoin c.args.self.now f c.args.x c.args.i c.choose_first.new.e =
    can_join c.args.self.now _ f c.args.x c.args.i _ c.choose_first.new.e c.requires.input c.requires.bits
    c.self.invariant.are c.self.invariant.places c.self.view_is c.choose_first.ensures.places (c.choose_first.ensures.chosen f) in
    let implies : Implies f c.args.i c.args.first c.choose_first.new.e =
    first_implies c.args.self.now c.args.log.now c.args.x c.args.i c.args.first c.choose_first.new.e can c.requires.first c.requires.first_under c.requires.first_has in
    subst (λ (a : Evaluated). IsFalseAmong a.values a.order (clause_of_log c.args.log.now c.args.second)) (sym c.imply.ensures)
    (join_false c.args.x c.args.i c.args.first f c.choose_first.new.e can.chosen can.within can.places (clause_of_log c.args.log.now c.args.second)
    c.requires.second_under implies.grows implies.value)

pub returns-clause-ends : goal.returns-clause-ends
returns-clause-ends c =
    let t = c.args.self.now in
    let x = c.args.x in
    let i = c.args.i in
    let e = c.choose_first.new.e in
    let log = c.args.log.now in
    let f = all_clauses log.originals.clauses log.derived in
    let can : CanJoin t f x i e =
    can_join t _ f x i _ e c.requires.input c.requires.bits c.self.invariant.are c.self.invariant.places c.self.view_is c.choose_first.ensures.places
    (c.choose_first.ensures.chosen f) in
    let implies : Implies f i c.args.first e = first_implies t log x i c.args.first e can c.requires.first c.requires.first_under c.requires.first_has in
    let chosen = can.chosen in
    let total = can.total in
    let grows = implies.grows in
    let within = can.within in
    let after = with_implied e (signal_variable i) true c.args.first in
    let few = evaluated_few f after grows.evaluated (let same = grows.places in omega arith) in
    let ends = subst (λ (a : Evaluated). LeafEnds a log c.derive_chosen.result c.derive_chosen.new.log) c.imply.ensures c.derive_chosen.ensures.ends in
    subst (λ (r : Result ℕ TreeEnd). BranchEnds t x i (most_words t) log r c.derive_chosen.new.log) (sym c.ended.ensures)
    (leaf_ends t x i after log c.derive_chosen.new.log c.derive_chosen.result chosen.chosen
    (λ j lt. get_or_append_left e.order (signal_variable i ∷ []) 0 j (let count = chosen.count in omega arith) ∙ chosen.order j lt)
    (λ j lt.
    let known : Has e.order (signal_variable j) = subst (Has e.order) (chosen.order j lt) (Has-get_or e.order j 0 (let count = chosen.count in omega arith)) in
    ap bit_of (grows.values (signal_variable j) known) ∙ chosen.bits j lt)
    (let same = grows.places in omega arith) ends)
