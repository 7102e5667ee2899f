use Rattle.std.proofs.Common.{◌≡◌, ◌<◌, List, slice_get, Some, ap, sym, subst, ◌∙◌}
use Rattle.std.specs.Result.{OnOk}
use Rattle.std.proofs.lemmas.Option.{get_or_from_slice_get}
use Rattle.clause_defs.specs.Literals.{Literal}
use Rattle.clause_defs.specs.Clauses.{Lits}
use Rattle.net_defs.specs.Networks.{signals}
use Rattle.net_defs.specs.Evaluation.{output_signals}
use Rattle.fabric_defs.specs.Geometries.{cell_count}
use Rattle.cell_defs.specs.Cells.{IsSourceBelow}
use Rattle.cell_defs.specs.declared.source.Source.TheVariants.{Zero as NoSource}
use Rattle.miter_defs.specs.Numberings.{signal_variable, source_variable}
use Rattle.miter_cnf.specs.Circuits.{Circuits}
use Rattle.miter_cnf.specs.Writing.{Adds}
use Rattle.miter_cnf.proofs.OutputLemmas.{output_signal-is, output_signal-below, source-holds, difference_clauses-same}
use Rattle.miter_cnf.proofs.circuits.Circuits.write_output.Goals as goal

-- an output shows a signal of the net
pub signal-signal-requires : goal.signal-signal-requires
signal-signal-requires c =
    let P : Circuits → Type 0 = λ s. c.output_signal.result < signals s.net in
    subst P c.self.view_is
    (output_signal-below c.self.inside.net.now c.args.o c.output_signal.result
    c.self.invariant.circuits.is_net.output_signals c.output_signal.ensures)

-- an output pad listens to a cell of the fabric or a pad of it
pub source-source-requires : goal.source-source-requires
source-source-requires c =
    let P : Circuits → Type 0 = λ s. IsSourceBelow s.cells.geometry.input_pads (cell_count s.cells.geometry) c.output.result in
    let g = c.self.inside.cells.now.geometry in
    subst P c.self.view_is
    (source-holds (IsSourceBelow g.input_pads (cell_count g)) c.self.inside.cells.now.outputs c.args.o c.output.result
    c.output.ensures.known.cells.outputs c.output.ensures.value)

-- the difference is that of the output and its pad
pub returns : goal.returns
returns c =
    let net = c.args.self.now.net in
    let l = c.args.self.now.cells in
    let variable = λ (m : Literal). m.variable in
    let output : slice_get (output_signals net) c.args.o ≡ Some c.output_signal.result =
    ap (λ (s : Circuits). slice_get (output_signals s.net) c.args.o) (sym c.self.view_is) ∙ c.output_signal.ensures in
    let pad : slice_get l.outputs c.args.o ≡ Some c.output.result =
    ap (λ (s : Circuits). slice_get s.cells.outputs c.args.o) (sym c.self.view_is) ∙ c.output.ensures.value in
    let P : List Lits → Type 0 = λ cs. OnOk c.write_difference.result (Adds c.args.w.now.clauses cs c.write_difference.new.w.clauses) in
    subst P
    (difference_clauses-same _ _ _ _ _ _
    (ap variable c.difference.ensures)
    (ap variable c.signal-signal.ensures ∙ ap signal_variable (output_signal-is net c.args.o c.output_signal.result output))
    (ap variable c.source-source.ensures
    ∙ ap (source_variable net l) (sym (get_or_from_slice_get l.outputs c.args.o c.output.result NoSource pad))))
    c.write_difference.ensures
