use Rattle.std.proofs.Common.{◌≡◌, ◌<◌, true, false, length, ap, sym, ◌∙◌, arith}
use Rattle.miter_cnf.specs.Circuits.{Circuits}
use Rattle.tree_refute.proofs.BranchLemmas.{first_lacks, second_lacks, half_bits}
use Rattle.tree_refute.proofs.Halves.{input_left, has_first, second_begins, second_ends, has_both, first_under, first_has, both_end}
use Rattle.tree_refute.proofs.search.Search.+branch.Goals as goal

pub branch-self-requires : goal.branch-self-requires
branch-self-requires t-1 c =
    let t = c.args.self.now in
    let left : c.args.i < length t.net.inputs =
    input_left t _ c.args.i _ c.requires.input c.self.invariant.inputs_are c.self.view_is c.if-i-self.false in
    (omega arith, (omega arith, (half_bits (length t.net.inputs) c.args.x c.with.result c.args.i 0 c.with.ensures (omega arith) c.requires.bits, c.requires.miter)))

pub returns-then-not-has_variable-clause-ends : goal.returns-then-not-has_variable-clause-ends
returns-then-not-has_variable-clause-ends t-1 c =
    let one =
    has_first c.args.self.now _ _ c.args.x c.with.result c.args.i _ c.args.log.now c.branch-self.new.log c.in_ok-first.first
    c.requires.input c.self.invariant.inputs_are c.self.view_is c.if-i-self.false c.with.ensures c.in_ok-first.ensures.ends c.in_ok-first.ensures.circuits in
    first_lacks c.args.self.now c.args.x c.with.result c.args.i 0 c.args.log.now c.branch-self.new.log c.in_ok-first.first one.left one.half one.branch
    (λ h. let e : true ≡ false = sym (c.has_variable.ensures.1 h) ∙ c.if-not-has_variable.true in absurd (cc))

pub branch-second-requires : goal.branch-second-requires
branch-second-requires t-1 c =
    let t = c.args.self.now in
    let one =
    has_first t _ _ c.args.x c.with.result c.args.i _ c.args.log.now c.branch-self.new.log c.in_ok-first.first
    c.requires.input c.self.invariant.inputs_are c.self.view_is c.if-i-self.false c.with.ensures c.in_ok-first.ensures.ends c.in_ok-first.ensures.circuits in
    let left : c.args.i < length t.net.inputs = one.left in
    let own : length c.branch-self.new.self.net.inputs ≡ length t.net.inputs = ap (λ (u : Circuits). length u.net.inputs) one.same in
    (omega arith, (omega arith, second_begins _ _ _ _ _ _ _ _ _ one c.requires.bits c.requires.miter c.with-2.ensures))

pub returns-in_Err-second-clause-ends : goal.returns-in_Err-second-clause-ends
returns-in_Err-second-clause-ends t-1 c =
    let one =
    has_first c.args.self.now _ _ c.args.x c.with.result c.args.i _ c.args.log.now c.branch-self.new.log c.in_ok-first.first
    c.requires.input c.self.invariant.inputs_are c.self.view_is c.if-i-self.false c.with.ensures c.in_ok-first.ensures.ends c.in_ok-first.ensures.circuits in
    second_ends _ _ _ _ c.with-2.result _ _ _ c.branch-second.new.log _ c.in_Err-second.end one c.in_Err-second.ensures.ends

pub returns-then-not-has_variable-2-clause-ends : goal.returns-then-not-has_variable-2-clause-ends
returns-then-not-has_variable-2-clause-ends t-1 c =
    let one =
    has_first c.args.self.now _ _ c.args.x c.with.result c.args.i _ c.args.log.now c.branch-self.new.log c.in_ok-first.first
    c.requires.input c.self.invariant.inputs_are c.self.view_is c.if-i-self.false c.with.ensures c.in_ok-first.ensures.ends c.in_ok-first.ensures.circuits in
    let both =
    has_both _ _ _ _ _ c.with-2.result _ _ _ c.branch-second.new.log _ c.in_Ok-second.second one
    (c.has_variable.ensures.0 c.if-not-has_variable.false) c.with-2.ensures c.in_Ok-second.ensures.ends c.in_Ok-second.ensures.circuits in
    second_lacks _ _ _ _ c.args.i 1 _ _ _ _ _ one.left both.half one.branch both.has both.branch
    (λ h. let e : true ≡ false = sym (c.has_variable-2.ensures.1 h) ∙ c.if-not-has_variable-2.true in absurd (cc))

pub join-requires-clause-first_under : goal.join-requires-clause-first_under
join-requires-clause-first_under t-1 c =
    let one =
    has_first c.args.self.now _ _ c.args.x c.with.result c.args.i _ c.args.log.now c.branch-self.new.log c.in_ok-first.first
    c.requires.input c.self.invariant.inputs_are c.self.view_is c.if-i-self.false c.with.ensures c.in_ok-first.ensures.ends c.in_ok-first.ensures.circuits in
    first_under _ _ _ _ _ _ _ _ _ _ _ _
    (has_both _ _ _ _ _ c.with-2.result _ _ _ c.branch-second.new.log _ c.in_Ok-second.second one
    (c.has_variable.ensures.0 c.if-not-has_variable.false) c.with-2.ensures c.in_Ok-second.ensures.ends c.in_Ok-second.ensures.circuits)

pub join-requires-clause-first_has : goal.join-requires-clause-first_has
join-requires-clause-first_has t-1 c =
    let one =
    has_first c.args.self.now _ _ c.args.x c.with.result c.args.i _ c.args.log.now c.branch-self.new.log c.in_ok-first.first
    c.requires.input c.self.invariant.inputs_are c.self.view_is c.if-i-self.false c.with.ensures c.in_ok-first.ensures.ends c.in_ok-first.ensures.circuits in
    first_has _ _ _ _ _ _ _ _ _ _ _ _
    (has_both _ _ _ _ _ c.with-2.result _ _ _ c.branch-second.new.log _ c.in_Ok-second.second one
    (c.has_variable.ensures.0 c.if-not-has_variable.false) c.with-2.ensures c.in_Ok-second.ensures.ends c.in_Ok-second.ensures.circuits)

pub returns-clause-ends : goal.returns-clause-ends
returns-clause-ends t-1 c =
    let one =
    has_first c.args.self.now _ _ c.args.x c.with.result c.args.i _ c.args.log.now c.branch-self.new.log c.in_ok-first.first
    c.requires.input c.self.invariant.inputs_are c.self.view_is c.if-i-self.false c.with.ensures c.in_ok-first.ensures.ends c.in_ok-first.ensures.circuits in
    both_end _ _ _ _ _ _ _ _ _ _ _ _
    (has_both _ _ _ _ _ c.with-2.result _ _ _ c.branch-second.new.log _ c.in_Ok-second.second one
    (c.has_variable.ensures.0 c.if-not-has_variable.false) c.with-2.ensures c.in_Ok-second.ensures.ends c.in_Ok-second.ensures.circuits)
    c.join.new.log c.join.result (c.has_variable-2.ensures.0 c.if-not-has_variable-2.false) c.join.ensures.ends
