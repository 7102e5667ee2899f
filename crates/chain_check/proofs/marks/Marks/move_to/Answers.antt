use Rattle.std.proofs.Common.{◌+◌, ◌↔◌, ◌⊎◌, [], ◌∷◌, length, take, vec_capacity, Vec, Global, sym, ◌∙◌, ap, subst, arith, length-append}
use Rattle.std.proofs.lemmas.Bool.{true≢false}
use Rattle.clause_defs.specs.Literals.{Literal}
use Rattle.clause_defs.specs.Clauses.{Lits, Has}
use Rattle.pch_base.specs.declared.lit.Lit.{Lit}
use Rattle.chain_check.proofs.ClauseLists.{Has-get, left_more, moved_more, moved_same}
use Rattle.chain_check.proofs.marks.Marks.move_to.Goals as goal
use Rattle.chain_check.proofs.marks.Marks.move_to.Goals.{then-remove, else-remove}

-- each literal of the clause is over the marks' variables
pub remove-requires-clause-within : goal.remove-requires-clause-within
remove-requires-clause-within c =
    let there = Has-get c.args.c.now c.loop-l.l-index c.l-item.result c.loop-l-test.true c.l-item.is in
    let within = c.requires.within c.l-item.result there in
    let same = c.loop-l.invariant.variables in omega arith

-- one more literal is moved, or isn't in the running clause
pub loop-l-preserved : goal.loop-l-preserved
loop-l-preserved c =
    let inv = c.loop-l.invariant in
    let s = c.args.self.now.running in
    let r = c.loop-l.self.running in
    let o = c.loop-l.list.items in
    let q = c.args.list.now.items in
    let d = c.args.c.now in
    let i = c.loop-l.l-index in
    let l = c.l-item.result in
    let Holds : Lits → Type 0 = λ o. (x : Literal) → Has o x ↔ (Has q x ⊎ (Has s x × Has (take (i + 1) d) x)) in
    record {
      variables = c.remove.ensures.variables ∙ inv.variables;
      fresh = c.remove.ensures.fresh;
      left = c.remove.ensures.left ∙ inv.left;
      running = left_more s r o q d i l c.loop-l-test.true c.l-item.is inv.running c.remove.new.self.running c.remove.ensures.running;
      moved = elim c.if-remove.branch [
        | then-remove w ↦ subst Holds (sym (ap (λ (v : Vec Lit Global). v.items) w.list-is ∙ w.push_reserved.ensures.items))
            (moved_more s r o q d i l c.loop-l-test.true c.l-item.is inv.running inv.moved (c.remove.ensures.found.0 w.if-remove.true))
        | else-remove w ↦ subst Holds (sym (ap (λ (v : Vec Lit Global). v.items) w.list-is))
            (moved_same s r o q d i l c.loop-l-test.true c.l-item.is inv.running inv.moved (λ h. true≢false (sym (c.remove.ensures.found.1 h) ∙ w.if-remove.false)))
      ];
      all = let before = inv.all in elim c.if-remove.branch [
        | then-remove w ↦
            let items = ap length (ap (λ (v : Vec Lit Global). v.items) w.list-is ∙ w.push_reserved.ensures.items) in
            let fewer = (w.if-remove.ensures {u = tt}).fewer in
            let more = length-append o (l ∷ []) in omega arith
        | else-remove w ↦
            let items = ap (λ (v : Vec Lit Global). length v.items) w.list-is in
            let same = ap length (w.if-remove.ensures {u = tt}).same in omega arith
      ];
      room = let before = inv.room in elim c.if-remove.branch [
        | then-remove w ↦ ap vec_capacity w.list-is ∙ w.push_reserved.ensures.capacity ∙ before
        | else-remove w ↦ ap vec_capacity w.list-is ∙ before
      ];
    }
