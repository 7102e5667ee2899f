-- Each input extends to an assignment, and so a miter that nothing satisfies shows equality.
use Rattle.std.proofs.Common.{◌≡◌, ◌≢◌, ℕ, ◌<◌, ◌≤◌, ◌⊎◌, inl, inr, true, List, [], ◌∷◌, ◌++◌, length, take, get_or, Some, refl, ap, sym, ◌∙◌, arith}
use Rattle.std.proofs.lemmas.Bool.{cases_eq, ne_eqb}
use Rattle.std.proofs.lemmas.List.{length-map, length-take, get_or-map, get_or-take, same_lists}
use Rattle.clause_defs.specs.Clauses.{Satisfies, Unsat, clause_of}
use Rattle.net_defs.specs.Networks.{Output, Network}
use Rattle.net_defs.specs.Evaluation.{bits_at, output_signals, Settles}
use Rattle.net_defs.specs.Nets.{IsNet}
use Rattle.net_defs.proofs.AssignmentLemmas.{assignment_exists, assignment_is_unique}
use Rattle.fabric_defs.specs.Bits.{IsBits}
use Rattle.fabric_defs.specs.Geometries.{GeometryValue}
use Rattle.fabric_defs.specs.Configurations.{ConfigValue, IsConfig}
use Rattle.cell_defs.specs.declared.source.Source.TheVariants.{Zero}
use Rattle.cell_defs.specs.Cells.{CellsValue, AreCells}
use Rattle.cell_defs.specs.Cones.{in_cone, IsClosed}
use Rattle.cell_defs.specs.Sources.{AreSourcesOf}
use Rattle.cell_defs.specs.Evaluation.{source_bit, CellBits, output_bits}
use Rattle.cell_laws.proofs.CellEquations.{bits-exist, bits-unique}
use Rattle.cell_laws.proofs.CellsLemmas.{cells_of_config, cells-outputs}
use Rattle.miter_defs.specs.Equality.{FitsPads, Equal}
use Rattle.miter_defs.specs.Numberings.{variable_count, difference_variable}
use Rattle.miter_defs.specs.Miters.{positive, no_output, circuit_clauses, some_difference, Miter}
use Rattle.miter_laws.specs.Extensions.{OutputsDiffer, Extends}
use Rattle.miter_laws.proofs.Membership.{Has-map_of, list_of-has, Each, each_one, each_append, each_map}
use Rattle.miter_laws.proofs.Truth.{difference, true_literal}
use Rattle.miter_laws.proofs.Tables.{agree_or_differ}
use Rattle.miter_laws.proofs.Assignment.{assignment, net_output, pad_output, gives_all, is_assignment}
use Rattle.miter_laws.proofs.Circuits.{Extended, circuits-hold, Satisfies-clause_of}

-- ---- the last clause

-- output pads that agree with the outputs place by place are the outputs
outputs-same : (net : Network) (cells : CellsValue) (x s b : List ℕ) → length net.outputs ≤ length cells.outputs
    → ((o : ℕ) → o < length net.outputs → pad_output cells x b o ≡ net_output net s o)
    → take (length net.outputs) (output_bits cells x b) ≡ bits_at s (output_signals net)
outputs-same net cells x s b fits same =
    let signal = λ (o : Output). o.signal in
    let pads : List ℕ = output_bits cells x b in
    let pad_count : length pads ≡ length cells.outputs = length-map cells.outputs (source_bit x b) in
    let signal_count : length (output_signals net) ≡ length net.outputs = length-map net.outputs signal in
    let bit_count : length (bits_at s (output_signals net)) ≡ length (output_signals net) = length-map (output_signals net) _ in
    let taken : length (take (length net.outputs) pads) ≡ length net.outputs =
    length-take (length net.outputs) pads ∙ omega arith in
    same_lists (take (length net.outputs) pads) (bits_at s (output_signals net))
    (omega arith)
    (λ o d lt. let below : o < length net.outputs = omega arith in
    get_or-take (length net.outputs) pads o d below
    ∙ get_or-map (source_bit x b) cells.outputs o Zero d (omega arith)
    ∙ same o below
    ∙ ap (λ i. get_or s i 0) (sym (get_or-map signal net.outputs o no_output 0 below))
    ∙ sym (get_or-map (λ i. get_or s i 0) (output_signals net) o 0 d (omega arith)))

-- the difference of bits that differ is 1
difference-one : (p q : ℕ) → (q ≢ p) → difference p q ≡ 1
difference-one p q ne = rw (ne_eqb p q (λ e. ne (sym e))) refl

-- where outputs differ, some difference is true
some_difference-holds : (net : Network) (cells : CellsValue) (x s b a : List ℕ) → Extended net cells x s b a
    → OutputsDiffer net cells x → Satisfies a (some_difference net cells)
some_difference-holds net cells x s b a h d =
    let n = h.is_net in
    let cs = h.are_cells in
    let fits = h.outputs in
    let spec = d.2 in
    let signals-same : spec.0 ≡ s = assignment_is_unique net x spec.0 s n.acyclic spec.1 h.settles in
    let cells-same : d.1 ≡ b = bits-unique cells x d.1 b h.are_cells d.3 h.cell_bits in
    elim (agree_or_differ (pad_output cells x b) (net_output net s) (length net.outputs)) [
      | inl same ↦ absurd (d.4 (ap (λ bits. take (length net.outputs) (output_bits cells x bits)) cells-same
          ∙ outputs-same net cells x s b (omega (arith, cs.pads)) same
          ∙ ap (λ bits. bits_at bits (output_signals net)) (sym signals-same)
          ∙ sym spec.2))
      | inr found ↦ (
        positive (difference_variable net cells found.0),
        list_of-has (length net.outputs) (λ o. positive (difference_variable net cells o)) found.0 found.1,
        true_literal a (difference_variable net cells found.0) (difference (net_output net s found.0) (pad_output cells x b found.0)) true
            (h.gives.differences found.0 found.1)
            (difference-one (net_output net s found.0) (pad_output cells x b found.0) found.2),
      )
    ]

-- ---- the extension

-- the assignment by places comes from the equations of both circuits
extended : (net : Network) (cells : CellsValue) (x s b : List ℕ) → IsNet net → AreCells cells → IsClosed cells (in_cone cells)
    → length net.outputs ≤ cells.geometry.output_pads → IsBits (length net.inputs) x → Settles net x s → CellBits cells x b
    → Extended net cells x s b (assignment net cells x s b)
extended net cells x s b n are_cells closed fits bits settles cell_bits = record {
  is_net = n;
  are_cells = are_cells;
  closed = closed;
  outputs = fits;
  bits = bits;
  settles = settles;
  cell_bits = cell_bits;
  gives = gives_all net cells x s b settles.all_signals;
}

-- so it extends the input
extends : (net : Network) (cells : CellsValue) (x s b : List ℕ) → Extended net cells x s b (assignment net cells x s b)
    → Extends net cells x (assignment net cells x s b)
extends net cells x s b h =
    let a : List ℕ = assignment net cells x s b in
    record {
      assignment = is_assignment net cells x s b h.bits h.settles h.cell_bits;
      inputs = λ i lt. h.gives.signals i (omega arith)
          ∙ ap Some (sym (get_or-take (length net.inputs) s i 0 lt) ∙ ap (λ ys. get_or ys i 0) h.settles.inputs);
      circuits = circuits-hold net cells x s b a h;
      difference = λ d. Satisfies-clause_of a (some_difference net cells) (some_difference-holds net cells x s b a h d);
    }

-- there is an extension of each input
pub input_extends : (net : Network) (cells : CellsValue) (x : List ℕ) → IsNet net → AreCells cells → IsClosed cells (in_cone cells)
    → length net.outputs ≤ cells.geometry.output_pads → IsBits (length net.inputs) x → (a : List ℕ) × Extends net cells x a
input_extends net cells x n are_cells closed fits bits =
    let s = assignment_exists net x n.acyclic bits.count in
    let b = bits-exist cells x are_cells in
    (assignment net cells x s.0 b.0, extends net cells x s.0 b.0 (extended net cells x s.0 b.0 n are_cells closed fits bits s.1 b.1))

-- where outputs differ, the extension satisfies the whole miter
all-hold : (net : Network) (cells : CellsValue) (x a : List ℕ) → Extends net cells x a → OutputsDiffer net cells x
    → Each (Satisfies a) (Miter net cells).clauses
all-hold net cells x a h d =
    each_map (Satisfies a) clause_of (circuit_clauses net cells ++ some_difference net cells ∷ [])
    (each_append (λ c. Satisfies a (clause_of c)) (circuit_clauses net cells) (some_difference net cells ∷ [])
    (λ c has. h.circuits (clause_of c) (Has-map_of clause_of (circuit_clauses net cells) c has))
    (each_one (λ c. Satisfies a (clause_of c)) (some_difference net cells) (h.difference d)))

-- ---- equality

-- two lists of numbers are the same or not
same_or_not : (xs ys : List ℕ) → (xs ≡ ys) ⊎ (xs ≢ ys)
same_or_not [] [] = inl refl
same_or_not [] (y ∷ ys) = inr (λ e. cc)
same_or_not (x ∷ xs) [] = inr (λ e. cc)
same_or_not (x ∷ xs) (y ∷ ys) =
    elim (cases_eq x y) [
      | inr other ↦ inr (λ e. other cc)
      | inl first ↦ elim (same_or_not xs ys) [
        | inr other ↦ inr (λ e. other cc)
        | inl rest ↦ inl cc
      ]
    ]

-- an input where outputs differ would satisfy the miter
pub equal-from_unsat : (net : Network) (config : ConfigValue) (cells : CellsValue) → IsNet net → IsConfig config → AreSourcesOf config cells
    → IsClosed cells (in_cone cells) → FitsPads net config.geometry
    → Unsat (variable_count net cells) (Miter net cells).clauses → Equal net config
equal-from_unsat net config cells n is_config of closed pads unsat = record {
  fits = pads;
  same = λ x y z bits spec fabric.
      let are_cells : AreCells cells = cells_of_config config cells is_config of in
      let fits : length net.outputs ≤ cells.geometry.output_pads =
      omega (arith, pads.outputs, ap (λ (g : GeometryValue). g.output_pads) of.geometry) in
      let b = bits-exist cells x are_cells in
      let pads : output_bits cells x b.0 ≡ z = cells-outputs config cells x b.0 fabric.0 is_config of fabric.1 b.1 ∙ sym fabric.2 in
      let extension = input_extends net cells x n are_cells closed fits bits in
      let extends_x = extension.1 in
      elim (same_or_not (take (length net.outputs) (output_bits cells x b.0)) y) [
        | inl same ↦ ap (take (length net.outputs)) (sym pads) ∙ same
        | inr other ↦ absurd (unsat extension.0 extends_x.assignment
            (all-hold net cells x extension.0 extension.1 (y, b.0, spec, b.1, other)))
      ];
}
