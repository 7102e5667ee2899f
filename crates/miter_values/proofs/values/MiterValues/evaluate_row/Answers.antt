use Rattle.std.proofs.Common.{◌≡◌, ◌+◌, ◌<◌, ℕ, [], List, length, get_or, ap, ◌∙◌, subst, arith}
use Rattle.std.proofs.lemmas.List.{get_or_default}
use Rattle.blif_defs.specs.declared.mark.Mark.{Mark}
use Rattle.clause_defs.specs.Clauses.{Has}
use Rattle.net_defs.specs.Networks.{Network, node_at}
use Rattle.net_defs.specs.Nets.{IsNet}
use Rattle.miter_cnf.specs.Circuits.{Circuits}
use Rattle.miter_defs.specs.Numberings.{row_variable, variable_count}
use Rattle.miter_defs.specs.Miters.{row_at}
use Rattle.leaf_defs.specs.Evaluated.{Evaluated}
use Rattle.leaf_chain.specs.Growing.{IsWithout}
use Rattle.miter_values.specs.Parts.{circuits_of}
use Rattle.miter_values.proofs.GrowLemmas.{grows_by}
use Rattle.miter_values.proofs.ClauseNumbers.{row_next}
use Rattle.miter_values.proofs.NodeLemmas.{row_step, rows_within}
use Rattle.miter_values.proofs.values.MiterValues.evaluate_row.Goals as goal

-- the marks that are read
row_is : (net other : Network) (v r : ℕ) (rows : List (List Mark)) (row marks : List Mark) → other ≡ net → rows ≡ (node_at other v).rows
    → r < length (node_at net v).rows → row ≡ get_or rows r row → marks ≡ row → marks ≡ row_at net v r
row_is net other v r rows row marks own e lt read same =
    same ∙ read ∙ ap (λ (rs : List (List Mark)). get_or rs r row) (e ∙ ap (λ (n : Network). (node_at n v).rows) own)
    ∙ get_or_default (node_at net v).rows r row [] lt

-- the variable is within the places
within : (c : Circuits) (e : Evaluated) (v r : ℕ) → v < length c.net.nodes → r < length (node_at c.net v).rows
    → length e.values ≡ variable_count c.net c.cells + 1 → row_variable c.net v r < length e.values
within c e v r lt row places = let rows = rows_within c.net v lt in omega arith

pub overflow_add-number : goal.overflow_add-number
overflow_add-number c =
    let own = ap (λ (t : Circuits). t.net) c.self.view_is in
    let few = ap (λ (t : Circuits). length (circuits_of t.net t.cells)) c.self.view_is in
    let marks = row_is c.args.self.now.net c.self.inside.net.now c.args.v c.args.r c.node_rows-rows.result.now c.index-rows-r.result c.marks-marks.result.now own
    c.node_rows-rows.ensures c.requires.row c.index-rows-r.is c.marks-marks.ensures in
    let fan_ins = c.fan_ins.ensures ∙ ap (λ (n : Network). (node_at n c.args.v).fan_ins) own in
    let step = row_step c.args.self.now.net c.args.self.now.cells c.args.v c.args.r c.args.number c.row_value-value.result.asked c.args.e.now
    c.row_value-value.result.hits c.marks-marks.result.now c.fan_ins.result.now c.requires.node c.requires.row c.requires.number c.row_value-value.ensures marks fan_ins in
    let most = step.0 in
    omega (arith, c.self.invariant.few)

pub imply-requires : goal.imply-requires
imply-requires c =
    let variable = c.row.ensures.variable c.self.inside.net.now c.self.inside.cells.now c.self.invariant.numbered.numbering
    ∙ ap (λ (t : Circuits). row_variable t.net c.args.v c.args.r) c.self.view_is in
    let low = c.row.ensures.within.0 in
    let high = within c.args.self.now c.args.e.now c.args.v c.args.r c.requires.node c.requires.row c.requires.valued.places in
    record {
      low = low;
      high = omega arith;
      fresh = λ h. c.requires.fresh (subst (Has c.args.e.now.order) variable h);
    }

pub overflow_add-result : goal.overflow_add-result
overflow_add-result c =
    let own = ap (λ (t : Circuits). t.net) c.self.view_is in
    let few = ap (λ (t : Circuits). length (circuits_of t.net t.cells)) c.self.view_is in
    let net = subst IsNet own c.self.invariant.numbered.circuits.is_net in
    let marks = row_is c.args.self.now.net c.self.inside.net.now c.args.v c.args.r c.node_rows-rows.result.now c.index-rows-r.result c.marks-marks.result.now own
    c.node_rows-rows.ensures c.requires.row c.index-rows-r.is c.marks-marks.ensures in
    let next = row_next c.args.self.now.net c.args.self.now.cells c.args.v c.args.r c.args.number c.asked.result c.marks-marks.result.now net
    c.requires.node c.requires.row c.requires.number c.asked.ensures marks in
    let most = next.1 in
    omega (arith, c.self.invariant.few)

pub overflow_add-result-2 : goal.overflow_add-result-2
overflow_add-result-2 c =
    let own = ap (λ (t : Circuits). t.net) c.self.view_is in
    let few = ap (λ (t : Circuits). length (circuits_of t.net t.cells)) c.self.view_is in
    let net = subst IsNet own c.self.invariant.numbered.circuits.is_net in
    let marks = row_is c.args.self.now.net c.self.inside.net.now c.args.v c.args.r c.node_rows-rows.result.now c.index-rows-r.result c.marks-marks.result.now own
    c.node_rows-rows.ensures c.requires.row c.index-rows-r.is c.marks-marks.ensures in
    let next = row_next c.args.self.now.net c.args.self.now.cells c.args.v c.args.r c.args.number c.asked.result c.marks-marks.result.now net
    c.requires.node c.requires.row c.requires.number c.asked.ensures marks in
    let most = next.1 in
    omega (arith, c.self.invariant.few)

pub returns : goal.returns
returns c =
    let own = ap (λ (t : Circuits). t.net) c.self.view_is in
    let net = subst IsNet own c.self.invariant.numbered.circuits.is_net in
    let marks = row_is c.args.self.now.net c.self.inside.net.now c.args.v c.args.r c.node_rows-rows.result.now c.index-rows-r.result c.marks-marks.result.now own
    c.node_rows-rows.ensures c.requires.row c.index-rows-r.is c.marks-marks.ensures in
    let fan_ins = c.fan_ins.ensures ∙ ap (λ (n : Network). (node_at n c.args.v).fan_ins) own in
    let step = row_step c.args.self.now.net c.args.self.now.cells c.args.v c.args.r c.args.number c.row_value-value.result.asked c.args.e.now
    c.row_value-value.result.hits c.marks-marks.result.now c.fan_ins.result.now c.requires.node c.requires.row c.requires.number c.row_value-value.ensures marks fan_ins in
    let variable = c.row.ensures.variable c.self.inside.net.now c.self.inside.cells.now c.self.invariant.numbered.numbering
    ∙ ap (λ (t : Circuits). row_variable t.net c.args.v c.args.r) c.self.view_is in
    let low = c.row.ensures.within.0 in
    let high = within c.args.self.now c.args.e.now c.args.v c.args.r c.requires.node c.requires.row c.requires.valued.places in
    let without : IsWithout c.args.e.now (row_variable c.args.self.now.net c.args.v c.args.r) = record { low = omega arith; high = high; fresh = c.requires.fresh } in
    let both = grows_by (circuits_of c.args.self.now.net c.args.self.now.cells) c.args.e.now c.imply.new.self (row_variable c.args.self.now.net c.args.v c.args.r)
    c.row.result (c.args.number + c.row_value-value.result.asked) c.row_value-value.result.hits c.imply.ensures variable c.requires.valued.evaluated without
    (let at = c.requires.number in omega arith) step.0 step.1 in
    let next = row_next c.args.self.now.net c.args.self.now.cells c.args.v c.args.r c.args.number c.asked.result c.marks-marks.result.now net
    c.requires.node c.requires.row c.requires.number c.asked.ensures marks in
    record { grows = both.0; value = both.1; next = next.0 }
