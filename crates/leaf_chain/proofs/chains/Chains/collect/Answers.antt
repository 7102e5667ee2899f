use Rattle.std.proofs.Common.{◌≡◌, ◌+◌, List, [], ◌∷◌, ◌++◌, Bool, false, not, length, ap, sym, ◌∙◌, subst, arith}
use Rattle.std.specs.Global.{Vec}
use Rattle.std.proofs.lemmas.List.{get_or_default}
use Rattle.leaf_defs.specs.Evaluated.{variable_at, false_literal}
use Rattle.leaf_chain.specs.Marks.{Chaining, IsMarked, IsCollected}
use Rattle.leaf_chain.proofs.RunningLemmas.{collected_pass, collected_more, collected_all, unmarked, lower_before}
use Rattle.leaf_chain.proofs.chains.Chains.collect.Goals as goal

-- a variable that isn't marked
pub loop-i-preserved-then-not-index : goal.loop-i-preserved-then-not-index
loop-i-preserved-then-not-index c =
    let e = c.args.e.now in
    let marks = c.loop-i.self-inside.marks.items in
    let test = c.loop-i-test.true in
    let first = c.chosen-i-end.ensures.first in
    let within = c.variable-variable.ensures.within.1 in
    let places = ap (λ (k : Chaining). length k.marks) c.self.view_is in
    let same = ap (λ (ms : Vec Bool). length ms.items) c.loop-i.invariant.marks in
    let none = unmarked marks c.variable-variable.result c.index.result.now (omega (arith, c.requires.room)) c.index.ensures c.if-not-index.true in
    record {
      collected = collected_pass e marks c.loop-i.i c.loop-i.self-inside.lits.items c.loop-i.invariant.collected (omega arith)
          (λ m. none (subst (IsMarked marks) (sym c.variable-variable.ensures.variable) m));
      marks = c.loop-i.invariant.marks;
      antecedents = c.loop-i.invariant.antecedents;
      room = c.loop-i.invariant.room;
    }

-- a marked one
pub loop-i-preserved : goal.loop-i-preserved
loop-i-preserved c =
    let e = c.args.e.now in
    let marks = c.loop-i.self-inside.marks.items in
    let v = variable_at e.order c.loop-i.i in
    let test = c.loop-i-test.true in
    let first = c.chosen-i-end.ensures.first in
    let chosen = c.chosen-i-end.ensures.chosen in
    let within = c.variable-variable.ensures.within.1 in
    let places = ap (λ (k : Chaining). length k.marks) c.self.view_is in
    let same = ap (λ (ms : Vec Bool). length ms.items) c.loop-i.invariant.marks in
    let there : IsMarked marks v =
    subst (IsMarked marks) c.variable-variable.ensures.variable
    (get_or_default marks c.variable-variable.result false c.index.result.now (omega (arith, c.requires.room)) ∙ sym c.index.ensures ∙ c.if-not-index.false) in
    let literal : c.from_parts.result ≡ false_literal e.values v =
    c.from_parts.ensures.parts ∙ ap (λ b. record { variable = c.variable-variable.result; positive = not b }) c.value-positive.ensures
    ∙ ap (false_literal e.values) c.variable-variable.ensures.variable in
    let items : c.push_reserved.new.self.items ≡ c.loop-i.self-inside.lits.items ++ false_literal e.values v ∷ [] =
    c.push_reserved.ensures.items ∙ ap (λ l. c.loop-i.self-inside.lits.items ++ l ∷ []) literal in
    record {
      collected = subst (IsCollected e marks (c.loop-i.i + 1)) (sym items)
          (collected_more e marks c.loop-i.i c.loop-i.self-inside.lits.items c.loop-i.invariant.collected (omega arith) there
          (λ u h. lower_before e.order e.chosen c.loop-i.i u c.requires.ordered (omega arith) h));
      marks = c.loop-i.invariant.marks;
      antecedents = c.loop-i.invariant.antecedents;
      room = c.push_reserved.ensures.capacity ∙ c.loop-i.invariant.room;
    }

-- all marked variables are among the chosen ones
pub returns-clause-same : goal.returns-clause-same
returns-clause-same c =
    let e = c.args.e.now in
    let marks = c.loop-i.self-inside.marks.items in
    let test = c.loop-i-test.false in
    let chosen = c.chosen-i-end.ensures.chosen in
    let end = c.loop-i.auto.i-end in
    let places = ap (λ (k : Chaining). length k.marks) c.self.view_is in
    let own : marks ≡ c.args.self.now.marks = ap (λ (ms : Vec Bool). ms.items) c.loop-i.invariant.marks ∙ ap (λ (k : Chaining). k.marks) c.self.view_is in
    let all : IsCollected e c.args.self.now.marks e.chosen c.loop-i.self-inside.lits.items =
    subst (λ (ms : List Bool). IsCollected e ms e.chosen c.loop-i.self-inside.lits.items) own
    (subst (λ n. IsCollected e marks n c.loop-i.self-inside.lits.items) (omega arith) c.loop-i.invariant.collected) in
    collected_all e c.args.self.now.marks e.chosen c.loop-i.self-inside.lits.items all c.requires.chosen c.requires.room
