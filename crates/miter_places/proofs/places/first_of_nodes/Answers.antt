use Rattle.std.proofs.Common.{◌∷◌, ◌++◌, [], ℕ, List, length, sym, ap, ◌∙◌, arith, length-append}
use Rattle.fabric_defs.specs.Numbered.{joined, list_of}
use Rattle.fabric_laws.proofs.NumberedLemmas.{joined-more, list_of-more}
use Rattle.miter_defs.specs.Miters.{node_clauses}
use Rattle.clause_defs.specs.Clauses.{Lits}
use Rattle.miter_places.specs.Places.{first_of_node}
use Rattle.miter_places.proofs.SizeLemmas.{node_within}
use Rattle.miter_places.proofs.places.first_of_nodes.Goals as goal

pub clauses_of_node-next-requires-clause-few : goal.clauses_of_node-next-requires-clause-few
clauses_of_node-next-requires-clause-few c =
    let test = c.loop-v-test.true in
    let all = node_within c.args.net.now c.loop-v.v (omega (arith, c.nodes-v-end.ensures.count)) in
    omega (arith, c.requires)

pub overflow_add-next : goal.overflow_add-next
overflow_add-next c =
    let test = c.loop-v-test.true in
    let all = node_within c.args.net.now c.loop-v.v (omega (arith, c.nodes-v-end.ensures.count)) in
    omega (arith, c.requires, c.loop-v.invariant.next, c.clauses_of_node-next.ensures)

pub loop-v-preserved : goal.loop-v-preserved
loop-v-preserved c =
    let net = c.args.net.now in
    let v = c.loop-v.v in
    record {
      firsts =
          c.in_ok-push.ensures.items ∙ ap (λ (xs : List ℕ). xs ++ c.loop-v.next ∷ []) c.loop-v.invariant.firsts
          ∙ ap (λ n. list_of v (first_of_node net) ++ n ∷ []) c.loop-v.invariant.next
          ∙ sym (list_of-more v (first_of_node net));
      next =
          let more = ap (λ (cs : List Lits). length cs) (joined-more v (node_clauses net)) in
          omega (arith, c.loop-v.invariant.next, c.clauses_of_node-next.ensures, length-append (joined v (node_clauses net)) (node_clauses net v));
    }
