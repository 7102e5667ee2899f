use Rattle.std.proofs.Common.{◌≡◌, Bool, true, false, get_or, sym, subst, ◌∙◌, arith}
use Rattle.std.proofs.lemmas.List.{get_or_default}
use Rattle.par_check.proofs.ProgressLemmas.{ready_more}
use Rattle.par_check.proofs.progress.Progress.is_ready.Goals as goal

-- one more antecedent is done
pub loop-p-preserved : goal.loop-p-preserved
loop-p-preserved c =
    let done = c.args.self.now.done.items in
    let ps = c.antecedents-p-items.result.now in
    let i = c.loop-p.p-index in
    let p = get_or ps i 0 in
    let set_at = sym (subst (λ (b : Bool). b ≡ get_or done p b) c.if-not-index.false c.index.ensures) in
    ready_more done ps i p c.loop-p-test.true (get_or_default ps i 0 p c.loop-p-test.true)
    (get_or_default done p false true (let low = c.if-p-len.false in let len = c.len-in-loop-p.ensures in omega arith) ∙ set_at) c.loop-p.invariant
