use Rattle.std.proofs.Common.{◌≡◌, ◌+◌, ◌<◌, ◌≤◌, ℕ, Bool, Option, Some, None, length, ap, refl, sym, ◌∙◌, subst, inl, inr, arith}
use Rattle.clause_defs.specs.Clauses.{Has}
use Rattle.net_defs.specs.Networks.{Network, node_at}
use Rattle.miter_cnf.specs.Circuits.{Circuits}
use Rattle.miter_defs.specs.Numberings.{node_variable, row_variable, variable_count}
use Rattle.leaf_defs.specs.Evaluated.{Evaluated}
use Rattle.leaf_chain.specs.Growing.{IsWithout, with_implied}
use Rattle.miter_values.specs.Growing.{Grows}
use Rattle.miter_values.specs.Parts.{circuits_of, IsRowOf, IsOfNode, IsHit, cover_place, node_value}
use Rattle.miter_values.proofs.GrowLemmas.{grows_both, grows_by}
use Rattle.miter_values.proofs.ClauseNumbers.{rows_few}
use Rattle.miter_values.proofs.NodeLemmas.{cover_step}
use Rattle.miter_values.proofs.values.MiterValues.evaluate_node.Goals as goal

-- a row that hits is one of the rows
place_few : (net : Network) (v rows : ℕ) (e : Evaluated) (hit : Option ℕ) → IsHit net v e rows hit → cover_place hit ≤ rows
place_few net v rows e (Some r) h = let less = h.0 in omega arith
place_few net v rows e None h = omega arith

pub place_of-requires : goal.place_of-requires
place_of-requires c =
    let few = ap (λ (t : Circuits). length (circuits_of t.net t.cells)) c.self.view_is in
    let most = place_few c.args.self.now.net c.args.v (length (node_at c.args.self.now.net c.args.v).rows) c.evaluate_rows-rows.new.e c.evaluate_rows-rows.result.hit c.evaluate_rows-rows.ensures.hit in
    let less = rows_few c.args.self.now.net c.args.self.now.cells c.args.v c.requires.node in
    omega (arith, c.self.invariant.few)

pub overflow_add-rows : goal.overflow_add-rows
overflow_add-rows c =
    let few = ap (λ (t : Circuits). length (circuits_of t.net t.cells)) c.self.view_is in
    let step = cover_step c.args.self.now.net c.args.self.now.cells c.args.v c.evaluate_rows-rows.result.next c.evaluate_rows-rows.new.e c.evaluate_rows-rows.result.hit
    c.requires.node c.evaluate_rows-rows.ensures.next c.evaluate_rows-rows.ensures.hit
    (λ r less. (c.evaluate_rows-rows.ensures.grows.known (row_variable c.args.self.now.net c.args.v r)).1 (inr (omega arith, omega arith))) in
    let most = step.0 in
    omega (arith, c.self.invariant.few, c.place_of.ensures)

-- the node has no value yet
without : (t : Circuits) (before after : Evaluated) (v : ℕ) → v < length t.net.nodes → length before.values ≡ variable_count t.net t.cells + 1
    → ((u : ℕ) → Has before.order u → IsOfNode t.net v u → ⊥)
    → Grows (circuits_of t.net t.cells) before after (IsRowOf t.net v (length (node_at t.net v).rows)) → IsWithout after (node_variable t.net v)
without t before after v lt places fresh grows = record {
  low = omega arith;
  high = let same = grows.places in omega arith;
  fresh = λ h. elim ((grows.known (node_variable t.net v)).0 h) [
    | inl old ↦ fresh (node_variable t.net v) old (inr refl)
    | inr row ↦ let low = row.0 in absurd (omega arith)
  ];
}

pub imply-requires : goal.imply-requires
imply-requires c =
    let variable = c.node.ensures.variable c.self.inside.net.now c.self.inside.cells.now c.self.invariant.numbered.numbering
    ∙ ap (λ (t : Circuits). node_variable t.net c.args.v) c.self.view_is in
    subst (IsWithout c.evaluate_rows-rows.new.e) (sym variable)
    (without c.args.self.now c.args.e.now c.evaluate_rows-rows.new.e c.args.v c.requires.node c.requires.valued.places c.requires.fresh c.evaluate_rows-rows.ensures.grows)

pub returns : goal.returns
returns c =
    let net = c.args.self.now.net in
    let f = circuits_of net c.args.self.now.cells in
    let rows = c.evaluate_rows-rows.ensures in
    let variable = c.node.ensures.variable c.self.inside.net.now c.self.inside.cells.now c.self.invariant.numbered.numbering
    ∙ ap (λ (t : Circuits). node_variable t.net c.args.v) c.self.view_is in
    let step = cover_step net c.args.self.now.cells c.args.v c.evaluate_rows-rows.result.next c.evaluate_rows-rows.new.e c.evaluate_rows-rows.result.hit
    c.requires.node rows.next rows.hit
    (λ r less. (rows.grows.known (row_variable net c.args.v r)).1 (inr (omega arith, omega arith))) in
    let value : c.node_value-value.result ≡ node_value (node_at net c.args.v).on c.evaluate_rows-rows.result.hit =
    c.node_value-value.ensures ∙ ap (λ (b : Bool). node_value b c.evaluate_rows-rows.result.hit) (c.on.ensures ∙ ap (λ (t : Circuits). (node_at t.net c.args.v).on) c.self.view_is) in
    let number : c.evaluate_rows-rows.result.next + c.place_of.result ≡ c.evaluate_rows-rows.result.next + cover_place c.evaluate_rows-rows.result.hit =
    ap (λ n. c.evaluate_rows-rows.result.next + n) c.place_of.ensures in
    let node = grows_by f c.evaluate_rows-rows.new.e c.imply.new.self (node_variable net c.args.v) c.node.result
    (c.evaluate_rows-rows.result.next + cover_place c.evaluate_rows-rows.result.hit) (node_value (node_at net c.args.v).on c.evaluate_rows-rows.result.hit)
    (c.imply.ensures ∙ ap (λ b. with_implied c.evaluate_rows-rows.new.e c.node.result b (c.evaluate_rows-rows.result.next + c.place_of.result)) value
    ∙ ap (λ n. with_implied c.evaluate_rows-rows.new.e c.node.result (node_value (node_at net c.args.v).on c.evaluate_rows-rows.result.hit) n) number)
    variable rows.grows.evaluated
    (without c.args.self.now c.args.e.now c.evaluate_rows-rows.new.e c.args.v c.requires.node c.requires.valued.places c.requires.fresh rows.grows)
    (let at = rows.next in omega arith) step.0 step.1 in
    grows_both f c.args.e.now c.evaluate_rows-rows.new.e c.imply.new.self (IsRowOf net c.args.v (length (node_at net c.args.v).rows)) (λ u. u ≡ node_variable net c.args.v)
    (IsOfNode net c.args.v) rows.grows node.0 (λ u. (λ h. h, λ h. h))
