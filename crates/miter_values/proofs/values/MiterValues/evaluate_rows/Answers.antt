use Rattle.std.proofs.Common.{◌≡◌, ◌+◌, List, length, get_or, ap, sym, ◌∙◌, subst, inr, arith}
use Rattle.blif_defs.specs.declared.mark.Mark.{Mark}
use Rattle.net_defs.specs.Networks.{node_at}
use Rattle.fabric_laws.proofs.NumberedLemmas.{length-list_of, get_or-list_of}
use Rattle.miter_cnf.specs.Circuits.{Circuits}
use Rattle.miter_defs.specs.Numberings.{row_variable}
use Rattle.miter_places.specs.Places.{PlacesValue, first_of_node}
use Rattle.miter_values.specs.Parts.{circuits_of, IsRowOf, IsHit}
use Rattle.miter_values.proofs.GrowLemmas.{grows_none, grows_both}
use Rattle.miter_values.proofs.ClauseNumbers.{rows_few}
use Rattle.miter_values.proofs.NodeLemmas.{hit_more, row_more}
use Rattle.miter_values.proofs.values.MiterValues.evaluate_rows.Goals as goal

pub node-number-requires : goal.node-number-requires
node-number-requires c =
    let many = ap (λ (p : PlacesValue). length p.nodes) c.self.invariant.places in
    let own = ap (λ (t : Circuits). length t.net.nodes) c.self.view_is in
    omega (arith, c.requires.node, length-list_of (length c.self.inside.net.now.nodes) (first_of_node c.self.inside.net.now))

pub overflow_cast-r-end : goal.overflow_cast-r-end
overflow_cast-r-end c =
    let few = ap (λ (t : Circuits). length (circuits_of t.net t.cells)) c.self.view_is in
    let rows = ap (λ (rs : List (List Mark)). length rs) (c.node_rows.ensures ∙ ap (λ (t : Circuits). (node_at t.net c.args.v).rows) c.self.view_is) in
    let less = rows_few c.args.self.now.net c.args.self.now.cells c.args.v c.requires.node in
    omega (arith, c.self.invariant.few)

pub loop-r-init : goal.loop-r-init
loop-r-init c =
    let own = ap (λ (t : Circuits). length t.net.nodes) c.self.view_is in
    let number : c.node-number.result ≡ first_of_node c.args.self.now.net c.args.v =
    c.node-number.ensures ∙ ap (λ (p : PlacesValue). get_or p.nodes c.args.v 0) c.self.invariant.places
    ∙ get_or-list_of (length c.self.inside.net.now.nodes) (first_of_node c.self.inside.net.now) c.args.v 0 (omega (arith, c.requires.node))
    ∙ ap (λ (t : Circuits). first_of_node t.net c.args.v) c.self.view_is in
    record {
      grows = grows_none (circuits_of c.args.self.now.net c.args.self.now.cells) c.args.e.now (IsRowOf c.args.self.now.net c.args.v 0) c.requires.valued.evaluated
          (λ u h. let low = h.0 in let high = h.1 in absurd (omega arith));
      hit = λ r less. absurd (omega arith);
      number = omega arith;
    }

pub loop-r-preserved : goal.loop-r-preserved
loop-r-preserved c =
    let net = c.args.self.now.net in
    let f = circuits_of net c.args.self.now.cells in
    let before = c.loop-r.invariant in
    let row = c.evaluate_row-row.ensures in
    record {
      grows = grows_both f c.args.e.now c.loop-r.e c.evaluate_row-row.new.e (IsRowOf net c.args.v c.loop-r.r) (λ u. u ≡ row_variable net c.args.v c.loop-r.r)
          (IsRowOf net c.args.v (c.loop-r.r + 1)) before.grows row.grows (row_more net c.args.v c.loop-r.r);
      hit = subst (IsHit net c.args.v c.evaluate_row-row.new.e (c.loop-r.r + 1)) (sym c.later-hit.ensures)
          (hit_more net c.args.v c.loop-r.r c.loop-r.e c.evaluate_row-row.new.e c.loop-r.hit c.evaluate_row-row.result.hits before.hit
          (λ u h. row.grows.values u ((before.grows.known u).1 (inr h))) row.value);
      number = row.next;
    }
