-- The values of the outputs and of their differences.
use Rattle.std.proofs.Common.{◌≡◌, ℕ, ◌+◌, ◌*◌, ◌<◌, ◌≤◌, inl, inr, Bool, true, false, [], length, get_or, slice_get, Some, refl, sym, ◌∙◌, ap, subst, arith}
use Rattle.std.proofs.lemmas.Bool.{cases_lt, lt-ltb, le-ltb}
use Rattle.std.proofs.lemmas.List.{get_or-map}
use Rattle.std.proofs.lemmas.Option.{get_or_from_slice_get}
use Rattle.clause_defs.specs.Clauses.{Has}
use Rattle.log_laws.proofs.TraceOfLemmas.{Has-get_or}
use Rattle.net_defs.specs.Networks.{Output, Network, signals}
use Rattle.net_defs.specs.Nets.{IsNet}
use Rattle.net_defs.specs.Evaluation.{output_signals}
use Rattle.cell_defs.specs.declared.source.Source.{Source}
use Rattle.cell_defs.specs.declared.source.Source.TheVariants.{Zero as NoSource, Pad, Cell}
use Rattle.cell_defs.specs.Cells.{CellsValue, IsSourceBelow}
use Rattle.cell_defs.specs.Cones.{in_cone}
use Rattle.cell_laws.proofs.SourceBits.{All-Has}
use Rattle.fabric_defs.specs.Geometries.{cell_count}
use Rattle.miter_cnf.specs.Circuits.{Circuits, AreCircuits}
use Rattle.miter_defs.specs.Numberings.{signal_variable, source_variable, difference_variable}
use Rattle.miter_defs.specs.Miters.{literal, no_output, difference_clauses, output_clauses}
use Rattle.leaf_defs.specs.Evaluated.{Evaluated, value_of, clause_numbered}
use Rattle.miter_places.specs.Places.{first_of_output}
use Rattle.miter_values.specs.Growing.{IsFalseIn, IsForced, Grows}
use Rattle.miter_values.specs.Parts.{circuits_of, bit_of, AreDone, AreSame, IsDifference, output_signal, output_source}
use Rattle.miter_values.proofs.GrowLemmas.{forced_set, grows_both}
use Rattle.miter_values.proofs.ClauseNumbers.{output_number}

-- the signal of an output, as it is read
pub signal_is : (net : Network) (o s : ℕ) → o < length net.outputs → slice_get (output_signals net) o ≡ Some s → output_signal net o ≡ s
signal_is net o s lt read =
    sym (get_or-map (λ (p : Output). p.signal) net.outputs o no_output 0 lt) ∙ get_or_from_slice_get (output_signals net) o _ _ read

-- it is a signal
pub signal_within : (net : Network) (o : ℕ) → IsNet net → o < length net.outputs → output_signal net o < signals net
signal_within net o n lt = n.output_signals o no_output lt

-- the source of an output pad, as it is read
pub source_is : (cells : CellsValue) (o : ℕ) (s : Source) → slice_get cells.outputs o ≡ Some s → output_source cells o ≡ s
source_is cells o s read = get_or_from_slice_get cells.outputs o _ _ read

-- it is one of the pad's sources
source_there : (c : Circuits) (o : ℕ) → AreCircuits c.net c.cells → o < length c.net.outputs → Has c.cells.outputs (output_source c.cells o)
source_there c o are lt =
    let pads = are.are_cells.cells.pads in
    let fits = are.fits.outputs in
    Has-get_or c.cells.outputs o NoSource (omega arith)

-- a cell to which it listens is in the cone
pub source_inside : (c : Circuits) (o k : ℕ) (s : Source) → AreCircuits c.net c.cells → o < length c.net.outputs → output_source c.cells o ≡ s → s ≡ Cell k
    → in_cone c.cells k ≡ true
source_inside c o k s are lt is e = are.are_cells.cone.cone.closed.outputs k (subst (Has c.cells.outputs) (is ∙ e) (source_there c o are lt))

-- and has a value
pub source_known : (c : Circuits) (e : Evaluated) (o : ℕ) → AreCircuits c.net c.cells → o < length c.net.outputs → AreDone c e
    → Has e.order (source_variable c.net c.cells (output_source c.cells o))
source_known c e o are lt done = by (output_source c.cells o) (source_there c o are lt)
  where
    by : (s : Source) → Has c.cells.outputs s → Has e.order (source_variable c.net c.cells s)
    by NoSource here = done.zero_known
    by (Pad p) here = elim (cases_lt p (length c.net.inputs)) [
      | inl input ↦ rw (lt-ltb p (length c.net.inputs) input) (done.signals_known p (omega arith))
      | inr past ↦ rw (le-ltb p (length c.net.inputs) past) done.zero_known
    ]
    by (Cell k) here =
        done.cells_known k (All-Has (IsSourceBelow c.cells.geometry.input_pads (cell_count c.cells.geometry)) c.cells.outputs (Cell k) are.are_cells.cells.outputs here)
        (are.are_cells.cone.cone.closed.outputs k here)

-- ---- the clause that gives a difference its value

-- where both have the same value, the clause for this value leaves the difference false
forced_difference : (d a b : ℕ) (e : Evaluated) (value : Bool) → Has e.order a → Has e.order b → value ≡ value_of e.values a → value ≡ value_of e.values b
    → IsForced e (literal d false) (get_or (difference_clauses d a b) (bit_of value) [])
forced_difference d a b e true known_a known_b first second = record {
  implied = inl refl;
  others = λ m here. elim here [
    | inl same ↦ inl (sym same)
    | inr rest ↦ elim rest [
      | inl same ↦ inr (subst (IsFalseIn e) same (record { known = known_a; value = sym first }))
      | inr last ↦ elim last [
        | inl same ↦ inr (subst (IsFalseIn e) same (record { known = known_b; value = sym second }))
        | inr none ↦ absurd none
      ]
    ]
  ];
}
forced_difference d a b e false known_a known_b first second = record {
  implied = inl refl;
  others = λ m here. elim here [
    | inl same ↦ inl (sym same)
    | inr rest ↦ elim rest [
      | inl same ↦ inr (subst (IsFalseIn e) same (record { known = known_a; value = sym first }))
      | inr last ↦ elim last [
        | inl same ↦ inr (subst (IsFalseIn e) same (record { known = known_b; value = sym second }))
        | inr none ↦ absurd none
      ]
    ]
  ];
}

-- a value as a bit is below four
bit_few : (b : Bool) → bit_of b < 4
bit_few true = omega arith
bit_few false = omega arith

-- the number of that clause in the miter, and that it leaves that value
pub output_step : (c : Circuits) (o number : ℕ) (e : Evaluated) (value : Bool) → o < length c.net.outputs → number ≡ first_of_output c.net c.cells 0
    → Has e.order (signal_variable (output_signal c.net o)) → Has e.order (source_variable c.net c.cells (output_source c.cells o))
    → value ≡ value_of e.values (signal_variable (output_signal c.net o)) → value ≡ value_of e.values (source_variable c.net c.cells (output_source c.cells o))
    → (number + 4 * o + bit_of value ≤ length (circuits_of c.net c.cells))
    × IsForced e (literal (difference_variable c.net c.cells o) false) (clause_numbered (circuits_of c.net c.cells) (number + 4 * o + bit_of value))
output_step c o number e value lt at known_a known_b first second =
    let d = difference_variable c.net c.cells o in
    let forced = forced_difference d (signal_variable (output_signal c.net o)) (source_variable c.net c.cells (output_source c.cells o)) e value known_a known_b first second in
    let numbered = output_number c.net c.cells o (bit_of value) lt (bit_few value) in
    let same : number + 4 * o + bit_of value ≡ first_of_output c.net c.cells 0 + 4 * o + bit_of value = omega arith in
    let most = numbered.0 in (
      omega arith,
      subst (IsForced e (literal d false)) (sym (ap (clause_numbered (circuits_of c.net c.cells)) same ∙ numbered.1))
          (forced_set e (literal d false) (get_or (output_clauses c.net c.cells o) (bit_of value) []) forced),
    )

-- ---- all outputs

-- one more output is the same
pub same_more : (c : Circuits) (before e after : Evaluated) (o : ℕ) → AreSame c before e o
    → Grows (circuits_of c.net c.cells) e after (λ u. u ≡ difference_variable c.net c.cells o)
    → value_of after.values (difference_variable c.net c.cells o) ≡ false → AreSame c before after (o + 1)
same_more c before e after o h grows own = record {
  grows = grows_both (circuits_of c.net c.cells) before e after (IsDifference c.net c.cells o) (λ u. u ≡ difference_variable c.net c.cells o)
      (IsDifference c.net c.cells (o + 1)) h.grows grows
      (λ u. (
        λ k. let low = k.0 in let high = k.1 in elim (cases_lt u (difference_variable c.net c.cells o)) [ inl below ↦ inl (low, below) | inr past ↦ inr (omega arith) ],
        λ k. elim k [ inl old ↦ (old.0, let high = old.1 in omega arith) | inr same ↦ (omega arith, omega arith) ],
      ));
  all_false = λ p less. elim (cases_lt p o) [
    | inl below ↦ grows.values (difference_variable c.net c.cells p) ((h.grows.known (difference_variable c.net c.cells p)).1 (inr (omega arith, omega arith))) ∙ h.all_false p below
    | inr past ↦ ap (λ n. value_of after.values (difference_variable c.net c.cells n)) (let same : p ≡ o = omega arith in same) ∙ own
  ];
}
