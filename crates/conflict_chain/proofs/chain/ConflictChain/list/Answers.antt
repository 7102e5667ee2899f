use Rattle.std.proofs.Common.{length, ap, sym, ◌∙◌, subst, arith}
use Rattle.std.proofs.lemmas.List.{take_all}
use Rattle.clause_defs.specs.Literals.{Literal, negation}
use Rattle.clause_defs.specs.Clauses.{Lits, Has, IsOrdered}
use Rattle.chain_check.proofs.MarkLemmas.{IsOrdered-literals_where}
use Rattle.chain_check.specs.Marks.{literals_where}
use Rattle.conflict_chain.specs.Conflicts.{Chained}
use Rattle.conflict_chain.specs.Kept.{is_running}
use Rattle.conflict_chain.proofs.MarkLemmas.{listed_pass, listed_more, listed_room, literals_few}
use Rattle.conflict_chain.proofs.chain.ConflictChain.list.Goals as goal

-- a code without a mark
pub loop-code-preserved-then-index-eq-ABSENT : goal.loop-code-preserved-then-index-eq-ABSENT
loop-code-preserved-then-index-eq-ABSENT c = record {
  listed =
      listed_pass c.self.inside.marks.items c.loop-code.code c.index.result.now c.loop-code.lits.items
      (let test = c.loop-code-test.true in let end = c.len-code-end.ensures in omega arith) c.index.ensures c.if-index-eq-ABSENT.true c.loop-code.invariant.listed;
  room = c.loop-code.invariant.room;
}

pub push_reserved-requires : goal.push_reserved-requires
push_reserved-requires c =
    let more =
    listed_room c.self.inside.marks.items c.loop-code.code c.index.result.now c.loop-code.lits.items
    (let test = c.loop-code-test.true in let end = c.len-code-end.ensures in omega arith) c.index.ensures
    c.if-index-eq-ABSENT.false c.loop-code.invariant.listed in
    let few =
    literals_few c.self.inside.variables c.self.inside.marks.items c.self.inside.count _ c.self.invariant
    (subst (λ (ls : Lits). (l : Literal) → Has ls l → Has ls (negation l) → ⊥) (sym (ap (λ (v : Chained). v.lits) c.self.view_is)) c.requires.consistent) in
    let same = ap (λ (v : Chained). v.variables) c.self.view_is in
    let room = c.loop-code.invariant.room in
    let kept = c.clear.ensures.capacity in
    let enough = c.requires.room in omega arith

-- one with a mark
pub loop-code-preserved : goal.loop-code-preserved
loop-code-preserved c = record {
  listed = c.push_reserved.ensures.items
      ∙ listed_more c.self.inside.marks.items c.loop-code.code c.index.result.now c.loop-code.lits.items c.from_parts.result
      (let test = c.loop-code-test.true in let end = c.len-code-end.ensures in omega arith) c.index.ensures c.if-index-eq-ABSENT.false c.from_parts.ensures.parts c.loop-code.invariant.listed;
  room = c.push_reserved.ensures.capacity ∙ c.loop-code.invariant.room;
}

-- the literals are in their order
pub returns-clause-ordered : goal.returns-clause-ordered
returns-clause-ordered c =
    let marks = c.self.inside.marks.items in
    let test = c.loop-code-test.false in
    let end = c.len-code-end.ensures in
    subst IsOrdered (sym (c.loop-code.invariant.listed ∙ ap (literals_where is_running 0) (take_all c.loop-code.code marks (omega arith))))
    (IsOrdered-literals_where is_running 0 marks)

-- and no more than variables
pub returns-clause-few : goal.returns-clause-few
returns-clause-few c =
    let marks = c.self.inside.marks.items in
    let test = c.loop-code-test.false in
    let end = c.len-code-end.ensures in
    let few =
    literals_few c.self.inside.variables marks c.self.inside.count _ c.self.invariant
    (subst (λ (ls : Lits). (l : Literal) → Has ls l → Has ls (negation l) → ⊥) (sym (ap (λ (v : Chained). v.lits) c.self.view_is)) c.requires.consistent) in
    let same = ap (λ (v : Chained). v.variables) c.self.view_is in
    let is = ap length (c.loop-code.invariant.listed ∙ ap (literals_where is_running 0) (take_all c.loop-code.code marks (omega arith))) in
    omega arith
