-- Values that differ are outputs that differ.
use Rattle.std.proofs.Common.{◌≡◌, ℕ, zero, suc, ◌-◌, ◌<◌, inl, inr, Bool, true, false, not, if◌then◌else◌, List, [], ◌∷◌, length, get_or, take, slice_get, Some, refl, sym, ◌∙◌, ap, subst, arith}
use Rattle.std.proofs.lemmas.Bool.{cases_lt}
use Rattle.std.proofs.lemmas.List.{length-map, get_or-map, get_or-take}
use Rattle.clause_defs.specs.Literals.{Literal}
use Rattle.clause_defs.specs.Clauses.{Lits, Has, Satisfies, IsTrueUnder}
use Rattle.clause_laws.proofs.LiteralLemmas.{literal_cases}
use Rattle.log_laws.proofs.TraceOfLemmas.{Has-get_or}
use Rattle.net_defs.specs.Networks.{Output}
use Rattle.net_defs.specs.Evaluation.{Settles, output_signals, bits_at}
use Rattle.net_defs.proofs.AssignmentLemmas.{assignment_exists}
use Rattle.fabric_defs.specs.Bits.{IsBits}
use Rattle.fabric_defs.specs.Configurations.{ConfigValue, IsConfig}
use Rattle.cell_defs.specs.declared.source.Source.TheVariants.{Zero}
use Rattle.cell_defs.specs.Sources.{AreCellsOf}
use Rattle.cell_defs.specs.Evaluation.{source_bit, output_bits, CellBits}
use Rattle.cell_laws.proofs.CellEquations.{bits-exist}
use Rattle.cell_laws.proofs.CellsLemmas.{some_wiring, cells-outputs}
use Rattle.miter_cnf.specs.Circuits.{Circuits, AreCircuits}
use Rattle.miter_defs.specs.Numberings.{signal_variable, source_variable}
use Rattle.miter_defs.specs.Miters.{no_output}
use Rattle.miter_laws.specs.Extensions.{GivesBit}
use Rattle.miter_laws.proofs.Assignment.{assignment, gives_all, gives_source}
use Rattle.miter_laws.proofs.Circuits.{Extended, circuits-hold}
use Rattle.leaf_defs.specs.Evaluated.{Evaluated, value_of, true_literal, variable_at, IsReason, IsEvaluated, clause_numbered}
use Rattle.leaf_chain.proofs.RunningLemmas.{place_in_take}
use Rattle.miter_values.specs.Parts.{circuits_of, bit_of, HasInputs, DifferHere, output_signal, output_source}
use Rattle.miter_values.proofs.OutputLemmas.{signal_within, source_inside}
use Rattle.tree_defs.specs.Trees.{DiffersAt}

-- a member of a list stands at a place
place_in : (xs : List ℕ) (v : ℕ) → Has xs v → (i : ℕ) × (i < length xs) × (get_or xs i 0 ≡ v)
place_in [] v h = absurd h
place_in (y ∷ ys) v (inl e) = (0, omega arith, e)
place_in (y ∷ ys) v (inr h) = let rest = place_in ys v h in (suc rest.0, (let lt = rest.1 in omega arith), rest.2)

-- a value as a bit
bit_if : (b : Bool) → (if b then 1 else 0) ≡ bit_of b
bit_if true = refl
bit_if false = refl

-- what is there is the same
some_same : (m n : ℕ) → Some m ≡ Some n → m ≡ n
some_same m n e = cc

-- no value has the bit of its negation
bit_not : (b : Bool) → bit_of b ≡ (if not b then 1 else 0) → ⊥
bit_not true e = absurd (omega arith)
bit_not false e = absurd (omega arith)

-- values with the same bit are the same
same_bits : (a b : Bool) → bit_of a ≡ bit_of b → a ≡ b
same_bits true true e = refl
same_bits true false e = absurd (omega arith)
same_bits false true e = absurd (omega arith)
same_bits false false e = refl

module _ (c : Circuits) (config : ConfigValue) (x : List ℕ) (e : Evaluated) (are : AreCircuits c.net c.cells) (is_config : IsConfig config)
    (of : AreCellsOf config c.cells) (bits : IsBits (length c.net.inputs) x) (inputs : HasInputs c.net x e) (evaluated : IsEvaluated (circuits_of c.net c.cells) e) where
  -- the bits of the signals at the input x
  settled : (s : List ℕ) × Settles c.net x s
  settled = assignment_exists c.net x are.is_net.acyclic bits.count

  -- the bits of the cells at x
  celled : (b : List ℕ) × CellBits c.cells x b
  celled = bits-exist c.cells x are.are_cells.cells

  -- the assignment of both to the variables of the miter
  whole : List ℕ
  whole = assignment c.net c.cells x settled.0 celled.0

  -- it extends the input
  extended : Extended c.net c.cells x settled.0 celled.0 whole
  unfolding whole
  extended = record {
    is_net = are.is_net;
    are_cells = are.are_cells.cells;
    closed = are.are_cells.cone.cone.closed;
    outputs = are.fits.outputs;
    bits = bits;
    settles = settled.1;
    cell_bits = celled.1;
    gives = gives_all c.net c.cells x settled.0 celled.0 settled.1.all_signals;
  }

  -- an input has its bit
  input_given : (i : ℕ) → i < length c.net.inputs → GivesBit whole (signal_variable i) (bit_of (value_of e.values (signal_variable i)))
  input_given i lt =
      extended.gives.signals i (omega arith)
      ∙ ap Some (sym (get_or-take (length c.net.inputs) settled.0 i 0 lt) ∙ ap (λ ys. get_or ys i 0) settled.1.inputs ∙ sym (inputs.bits i lt))

  -- the assignment gives the variable the bit of its value
  Given : ℕ → Type 0
  Given v = GivesBit whole v (bit_of (value_of e.values v))

  -- a reason leaves no other bit
  forced_given : (known : List ℕ) (v : ℕ) (k : Lits) → IsReason e.values known v k → Satisfies whole k → ((u : ℕ) → Has known u → Given u) → Given v
  unfolding Given
  forced_given known v k reason satisfied given =
      let l = satisfied.0 in
      elim (literal_cases l (true_literal e.values v)) [
        | inl same ↦ subst (λ (m : Literal). IsTrueUnder whole m) same satisfied.2 ∙ ap Some (bit_if (value_of e.values v))
        | inr other ↦
            let own = reason.others l satisfied.1 other in
            let read : slice_get whole (l.variable - 1) ≡ Some (if not (value_of e.values l.variable) then 1 else 0) =
            satisfied.2 ∙ ap (λ (m : Literal). Some (if m.positive then 1 else 0)) own.0 in
            absurd (bit_not (value_of e.values l.variable) (some_same _ _ (sym (given l.variable own.1) ∙ read)))
      ]

  -- so all variables have the bits of their values
  all_given : (n i : ℕ) → i < n → i < length e.order → Given (variable_at e.order i)
  unfolding Given
  all_given zero i lt within = absurd (omega arith)
  all_given (suc n) i lt within = elim (cases_lt i e.chosen) [
    | inl chosen ↦
        let below : i < length c.net.inputs = (let same = inputs.chosen in omega arith) in
        subst (λ v. GivesBit whole v (bit_of (value_of e.values v))) (sym (inputs.order i below)) (input_given i below)
    | inr past ↦
        let range = evaluated.numbers i past within in
        let low = range.0 in
        let high = range.1 in
        let f = circuits_of c.net c.cells in
        let number = get_or e.reasons i 0 in
        forced_given (take i e.order) (variable_at e.order i) (clause_numbered f number) (evaluated.reasons i past within)
        (circuits-hold c.net c.cells x settled.0 celled.0 whole extended (clause_numbered f number) (Has-get_or f (number - 1) [] (omega arith)))
        (λ u here.
        let at = place_in_take e.order i u here in
        subst (λ v. GivesBit whole v (bit_of (value_of e.values v))) at.3 (all_given n at.0 (let less = at.1 in omega arith) at.2))
  ]

  -- so it does with each variable that has a value
  known_given : (v : ℕ) → Has e.order v → Given v
  unfolding Given
  known_given v here = let at = place_in e.order v here in subst (λ u. GivesBit whole u (bit_of (value_of e.values u))) at.2 (all_given (suc at.0) at.0 (omega arith) at.1)

  -- output o differs
  pub differs_at : (o : ℕ) → DifferHere c e o → DiffersAt c.net config x
  unfolding Given
  differs_at o h =
      let s = settled.0 in
      let b = celled.0 in
      let source = output_source c.cells o in
      let first : bit_of (value_of e.values (signal_variable (output_signal c.net o))) ≡ get_or s (output_signal c.net o) 0 =
      some_same _ _ (sym (known_given (signal_variable (output_signal c.net o)) h.signal_known)
      ∙ extended.gives.signals (output_signal c.net o) (signal_within c.net o are.is_net h.within)) in
      let second : bit_of (value_of e.values (source_variable c.net c.cells source)) ≡ source_bit x b source =
      some_same _ _ (sym (known_given (source_variable c.net c.cells source) h.source_known)
      ∙ gives_source c.net c.cells x s b whole extended.gives settled.1 bits source (λ k is. source_inside c o k source are h.within refl is)) in
      let w = some_wiring config x is_config in
      let pads : List ℕ = output_bits c.cells x b in
      let places = are.are_cells.cells.pads in
      let fits = are.fits.outputs in
      record {
        width = bits;
        outputs = bits_at s (output_signals c.net);
        pads = pads;
        of_network = (s, settled.1, refl);
        of_fabric = (w.0, w.1, cells-outputs config c.cells x b w.0 is_config of.sources w.1 celled.1);
        other = λ same. h.other (same_bits _ _ (
            first
            ∙ sym (ap (λ i. get_or s i 0) (get_or-map (λ (p : Output). p.signal) c.net.outputs o no_output 0 h.within))
            ∙ sym (get_or-map (λ i. get_or s i 0) (output_signals c.net) o 0 0 (let lt = h.within in omega (arith, length-map c.net.outputs (λ (p : Output). p.signal))))
            ∙ ap (λ ys. get_or ys o 0) (sym same)
            ∙ get_or-take (length c.net.outputs) pads o 0 h.within
            ∙ get_or-map (source_bit x b) c.cells.outputs o Zero 0 (let lt = h.within in omega arith)
            ∙ sym second
            ));
      }
