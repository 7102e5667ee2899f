use Rattle.std.proofs.Common.{◌≡◌, ◌+◌, ◌-◌, length, ap, sym, subst, arith}
use Rattle.leaf_defs.specs.Evaluated.{variable_at}
use Rattle.leaf_chain.specs.Marks.{Chaining, IsMarked, IsRunning}
use Rattle.leaf_chain.proofs.RunningLemmas.{running_pass, unmarked}
use Rattle.leaf_chain.proofs.chains.Chains.resolve.Goals as goal

pub loop-i-preserved : goal.loop-i-preserved
loop-i-preserved c =
    let e = c.args.e.now in
    let i = c.loop-i.i - 1 in
    let test = c.loop-i-test.true in
    let high = c.loop-i.invariant.high in
    let chosen = c.chosen.ensures.chosen in
    let at : c.loop-i.i ≡ i + 1 = omega arith in
    let running : IsRunning e c.args.log.now c.loop-i.self.marks c.loop-i.self.antecedents (i + 1) =
    subst (IsRunning e c.args.log.now c.loop-i.self.marks c.loop-i.self.antecedents) at c.loop-i.invariant.running in
    let within = c.variable.ensures.within.1 in
    let places = ap (λ (k : Chaining). length k.marks) c.self.view_is in
    let none = unmarked c.self.inside.marks.items c.variable.result c.index.result.now (omega (arith, running.all_variables)) c.index.ensures c.if-index.false in
    let here : IsMarked c.loop-i.self.marks (variable_at e.order i) → ⊥ =
    λ m. none (subst (λ (k : Chaining). IsMarked k.marks c.variable.result) (sym c.self.view_is) (subst (IsMarked c.loop-i.self.marks) (sym c.variable.ensures.variable) m)) in
    record {
      running = running_pass e c.args.log.now c.loop-i.self.marks c.loop-i.self.antecedents i running (omega arith) here;
      low = omega arith;
      high = omega arith;
    }
