use Rattle.std.proofs.Common.{◌≡◌, ◌+◌, ◌-◌, get_or, set, ap, sym, ◌∙◌, subst, arith}
use Rattle.std.specs.Vec.{vec_capacity}
use Rattle.std.proofs.lemmas.List.{get_or_default}
use Rattle.clause_defs.specs.Literals.{code}
use Rattle.chain_check.proofs.MarkLemmas.{one_if}
use Rattle.conflict_chain.specs.Conflicts.{Chained}
use Rattle.conflict_chain.specs.Kept.{is_running, is_present, IsKept}
use Rattle.conflict_chain.proofs.MarkLemmas.{code_within, kept_set, marks_set, some_counted, few_counted, one_if_is, at_most_one}
use Rattle.conflict_chain.proofs.chain.ConflictChain.set.Goals as goal

pub overflow_add-self : goal.overflow_add-self
overflow_add-self c =
    let most = few_counted c.self.inside.variables c.self.inside.marks.items c.self.inside.count _ c.self.invariant in
    let one = c.counted.ensures in
    let small = at_most_one (is_present c.args.mark) in
    let size = c.self.invariant.size in
    let few = c.self.invariant.few in omega arith

-- the mark that stood there
pub overflow_sub-self : goal.overflow_sub-self
overflow_sub-self c =
    let marks = c.self.inside.marks.items in
    let size = ap (λ (v : Chained). v.variables) c.self.view_is in
    let within = code_within c.args.l c.self.inside.variables (let h = c.requires in omega arith) in
    let old : get_or marks (code c.args.l) 0 ≡ c.index.result.now =
    get_or_default marks (code c.args.l) 0 c.index.result.now (let many = c.self.invariant.size in omega arith)
    ∙ sym (subst (λ n. c.index.result.now ≡ get_or marks n c.index.result.now) c.code-place.ensures.code c.index.ensures) in
    let some = some_counted c.self.inside.variables marks c.self.inside.count _ c.self.invariant c.args.l (let h = c.requires in omega arith) in
    let is = one_if_is (is_present c.index.result.now) in
    let same = ap (λ n. one_if (is_present n)) old in
    let two = c.counted-2.ensures in omega arith

pub invariant_of-self : goal.invariant_of-self
invariant_of-self c =
    let marks = c.self.inside.marks.items in
    let size = ap (λ (v : Chained). v.variables) c.self.view_is in
    let within = code_within c.args.l c.self.inside.variables (let h = c.requires in omega arith) in
    let old : get_or marks (code c.args.l) 0 ≡ c.index.result.now =
    get_or_default marks (code c.args.l) 0 c.index.result.now (let many = c.self.invariant.size in omega arith)
    ∙ sym (subst (λ n. c.index.result.now ≡ get_or marks n c.index.result.now) c.code-place.ensures.code c.index.ensures) in
    let some = some_counted c.self.inside.variables marks c.self.inside.count _ c.self.invariant c.args.l (let h = c.requires in omega arith) in
    let is = one_if_is (is_present c.index.result.now) in
    let same = ap (λ n. one_if (is_present n)) old in
    let two = c.counted-2.ensures in
    let new = one_if_is (is_present c.args.mark) in
    let one = c.counted.ensures in
    subst (λ p. IsKept c.self.inside.variables (set marks p c.args.mark) (c.self.inside.count + c.counted.result - c.counted-2.result) (vec_capacity c.self.inside.antecedents))
    (sym c.code-place.ensures.code)
    (kept_set c.self.inside.variables marks c.self.inside.count (vec_capacity c.self.inside.antecedents) c.self.invariant c.args.l c.args.mark
    (c.self.inside.count + c.counted.result - c.counted-2.result) (let h = c.requires in omega arith) c.code-place.ensures.within_limits (omega arith))

-- the literal alone changes
pub returns-clause-lits : goal.returns-clause-lits
returns-clause-lits c =
    let size = ap (λ (v : Chained). v.variables) c.self.view_is in
    marks_set is_running c.self.inside.marks.items c.self.inside.variables c.code-place.result c.args.mark c.args.l c.args.self.now.lits
    (let h = c.requires in omega arith) c.self.invariant.size c.code-place.ensures.code (ap (λ (v : Chained). v.lits) c.self.view_is)

pub returns-clause-present : goal.returns-clause-present
returns-clause-present c =
    let size = ap (λ (v : Chained). v.variables) c.self.view_is in
    marks_set is_present c.self.inside.marks.items c.self.inside.variables c.code-place.result c.args.mark c.args.l c.args.self.now.present
    (let h = c.requires in omega arith) c.self.invariant.size c.code-place.ensures.code (ap (λ (v : Chained). v.present) c.self.view_is)
