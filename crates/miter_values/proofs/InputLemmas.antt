-- From the values of the inputs to those of all variables.
use Rattle.std.proofs.Common.{◌≡◌, ℕ, ◌+◌, ◌-◌, ◌<◌, ◌≤◌, inl, inr, Bool, true, false, not, if◌then◌else◌, Option, Some, None, IfNone, List, [], ◌∷◌, ◌++◌, length, get_or, set, refl, sym, ◌∙◌, ap, subst, arith, length-append}
use Rattle.std.proofs.lemmas.Bool.{cases_lt}
use Rattle.std.proofs.lemmas.List.{get_or-set_same, get_or-set_other, get_or_append_left}
use Rattle.std.proofs.lemmas.List.Sums.{sum_by-take-le}
use Rattle.std.proofs.Math.Seq.{get_or-append_seam}
use Rattle.clause_defs.specs.Literals.{Literal}
use Rattle.clause_defs.specs.Clauses.{Lits, Has, clause_of}
use Rattle.clause_laws.proofs.ClauseOf.{SameSet-clause_of}
use Rattle.chain_check.proofs.ClauseLists.{Has-snoc}
use Rattle.log_laws.proofs.TraceOfLemmas.{Has-get_or}
use Rattle.net_defs.specs.Networks.{Network, signals}
use Rattle.net_defs.specs.Nets.{row_count}
use Rattle.fabric_defs.specs.Geometries.{cell_count}
use Rattle.miter_cnf.specs.Circuits.{Circuits, AreCircuits}
use Rattle.miter_defs.specs.Numberings.{zero_variable, signal_variable, cell_variable, cone_before, cone_size, difference_variable}
use Rattle.miter_defs.specs.Miters.{positive, some_difference}
use Rattle.leaf_defs.specs.Evaluated.{Evaluated, value_of, variable_at, false_literal, IsFalseAmong, IsEvaluated}
use Rattle.leaf_chain.specs.Growing.{CanChoose, with_chosen}
use Rattle.leaf_chain.proofs.GrowingLemmas.{evaluated_chosen}
use Rattle.miter_values.specs.Growing.{Grows}
use Rattle.miter_values.specs.Parts.{circuits_of, bit_of, IsOfNode, IsOfSomeNode, IsOfCells, AreDone, AreSame, AreChosen, HasInputs}
use Rattle.miter_values.proofs.NodeLemmas.{rows_within}
use Rattle.miter_values.proofs.CellLemmas.{cone_less, listed_in}

-- nothing was chosen
pub chosen_none : (f : List Lits) (x : List ℕ) (e : Evaluated) → IsEvaluated f e → e.order ≡ [] → AreChosen f x 0 e
chosen_none f x e h none =
    let count = ap (λ (xs : List ℕ). length xs) none in
    let first = h.chosen_first in
    record {
      evaluated = h;
      chosen = omega arith;
      count = omega arith;
      order = λ i lt. absurd (omega arith);
      known = λ u here. absurd (subst (λ (xs : List ℕ). Has xs u) none here);
      bits = λ i lt. absurd (omega arith);
    }

-- a value as a bit is the bit that it was read from
bit_back : (b : Bool) (n : ℕ) → n ≡ (if b then 1 else 0) → bit_of b ≡ n
bit_back true n e = sym e
bit_back false n e = sym e

-- the next input can be chosen
pub chosen_fresh : (f : List Lits) (x : List ℕ) (n : ℕ) (e : Evaluated) → AreChosen f x n e → n + 2 < length e.values → CanChoose e (signal_variable n)
chosen_fresh f x n e h within = record {
  without = record {
    low = omega arith;
    high = omega arith;
    fresh = λ here. let high = (h.known (signal_variable n) here).1 in absurd (omega arith);
  };
  all_chosen = h.count ∙ sym h.chosen;
  lower = λ u here. let high = (h.known u here).1 in omega arith;
}

-- one input more
pub chosen_more : (f : List Lits) (x : List ℕ) (n : ℕ) (e : Evaluated) (value : Bool) → AreChosen f x n e → n + 2 < length e.values
    → get_or x n 0 ≡ (if value then 1 else 0) → AreChosen f x (n + 1) (with_chosen e (signal_variable n) value)
chosen_more f x n e value h within bit =
    let v : ℕ = signal_variable n in
    let can = chosen_fresh f x n e h within in
    let longer = length-append e.order (v ∷ []) in
    let count = h.count in
    let old : (i : ℕ) → i < n → variable_at (e.order ++ v ∷ []) i ≡ signal_variable i =
    λ i lt. get_or_append_left e.order (v ∷ []) 0 i (omega arith) ∙ h.order i lt in
    record {
      evaluated = evaluated_chosen f e v value h.evaluated can.without can.all_chosen can.lower;
      chosen = ap (λ m. m + 1) h.chosen;
      count = omega arith;
      order = λ i lt. elim (cases_lt i n) [
        | inl below ↦ old i below
        | inr past ↦
            let same : i ≡ length e.order = omega arith in
            ap (λ m. get_or (e.order ++ v ∷ []) m 0) same ∙ get_or-append_seam e.order v [] 0 ∙ ap signal_variable (let e : n ≡ i = omega arith in e)
      ];
      known = λ u here. elim ((Has-snoc e.order v u).0 here) [
        | inl before ↦ let range = h.known u before in (range.0, let high = range.1 in omega arith)
        | inr same ↦ (omega arith, omega arith)
      ];
      bits = λ i lt. elim (cases_lt i n) [
        | inl below ↦
            ap bit_of (get_or-set_other e.values v (signal_variable i) value false (λ same. absurd (omega arith))) ∙ h.bits i below
        | inr past ↦
            let same : i ≡ n = omega arith in
            ap (λ m. bit_of (value_of (set e.values v value) (signal_variable m))) same
            ∙ ap bit_of (get_or-set_same e.values v value false can.without.high)
            ∙ bit_back value (get_or x n 0) bit ∙ ap (λ m. get_or x m 0) (sym same)
      ];
    }

-- the inputs stay where more variables get values
pub inputs_grow : (net : Network) (f : List Lits) (x : List ℕ) (a b : Evaluated) (news : ℕ → Type 0) → HasInputs net x a → Grows f a b news → HasInputs net x b
inputs_grow net f x a b news h grows =
    let longer = ap (λ (xs : List ℕ). length xs) grows.order in
    let many = h.many in
    let all = length-append a.order grows.more in
    record {
      chosen = grows.chosen ∙ h.chosen;
      order = λ i lt. ap (λ (xs : List ℕ). variable_at xs i) grows.order ∙ get_or_append_left a.order grows.more 0 i (omega arith) ∙ h.order i lt;
      bits = λ i lt.
          let known : Has a.order (signal_variable i) = subst (Has a.order) (h.order i lt) (Has-get_or a.order i 0 (omega arith)) in
          ap bit_of (grows.values (signal_variable i) known) ∙ h.bits i lt;
      many = omega arith;
    }

-- where just the inputs have values, they have the bits that were chosen
pub inputs_begin : (net : Network) (f : List Lits) (x : List ℕ) (e : Evaluated) → AreChosen f x (length net.inputs) e → HasInputs net x e
inputs_begin net f x e h = record { chosen = h.chosen; order = h.order; bits = h.bits; many = let count = h.count in omega arith }

-- ---- what is known on the way

-- the variables of a node come before those of the cells
node_high : (net : Network) (v u : ℕ) → v < length net.nodes → IsOfNode net v u → u < 2 + signals net + row_count net
node_high net v u lt (inl p) = let high = p.1 in let rows = rows_within net v lt in omega arith
node_high net v u lt (inr p) = omega arith

module _ (c : Circuits) (x : List ℕ) (start zeroed noded celled : Evaluated) (are : AreCircuits c.net c.cells)
    (chosen : AreChosen (circuits_of c.net c.cells) x (length c.net.inputs) start)
    (zero_grows : Grows (circuits_of c.net c.cells) start zeroed (λ u. u ≡ zero_variable)) where
  -- the inputs have values once the variable zero has its own
  pub zeroed_inputs : (i : ℕ) → i < length c.net.inputs → Has zeroed.order (signal_variable i)
  zeroed_inputs i lt = (zero_grows.known (signal_variable i)).1 (inl (subst (Has start.order) (chosen.order i lt) (Has-get_or start.order i 0 (let count = chosen.count in omega arith))))

  -- and no variable behind the inputs has one yet
  pub zeroed_low : (u : ℕ) → Has zeroed.order u → u < 2 + length c.net.inputs
  zeroed_low u here = elim ((zero_grows.known u).0 here) [
    | inl old ↦ (chosen.known u old).1
    | inr same ↦ omega arith
  ]

  module _ (node_grows : Grows (circuits_of c.net c.cells) zeroed noded (IsOfSomeNode c.net)) where
    -- the inputs have values still where the nodes have theirs
    pub noded_inputs : (i : ℕ) → i < length c.net.inputs → Has noded.order (signal_variable i)
    noded_inputs i lt = (node_grows.known (signal_variable i)).1 (inl (zeroed_inputs i lt))

    -- and so has the variable zero
    pub noded_zero : Has noded.order zero_variable
    noded_zero = (node_grows.known zero_variable).1 (inl ((zero_grows.known zero_variable).1 (inr refl)))

    -- no variable behind those of the nodes has one yet
    pub noded_low : (u : ℕ) → Has noded.order u → u < 2 + signals c.net + row_count c.net
    noded_low u here = elim ((node_grows.known u).0 here) [
      | inl old ↦ let low = zeroed_low u old in omega arith
      | inr new ↦ node_high c.net new.0 u new.1 new.2
    ]

    -- once the cells have values too, both circuits are done
    pub celled_done : Grows (circuits_of c.net c.cells) noded celled (IsOfCells c.net c.cells (cell_count c.cells.geometry)) → AreDone c celled
    celled_done grows =
        let count = are.are_cells.cone.count in
        record {
          signals_known = λ s lt. (grows.known (signal_variable s)).1 (inl (elim (cases_lt s (length c.net.inputs)) [
            | inl input ↦ noded_inputs s input
            | inr past ↦ (node_grows.known (signal_variable s)).1 (inr (s - length c.net.inputs, omega arith, inr (omega arith)))
          ]));
          zero_known = (grows.known zero_variable).1 (inl noded_zero);
          cells_known = λ k lt inside.
              let less = cone_less c.cells k (cell_count c.cells.geometry) lt (omega arith) inside in
              (grows.known (cell_variable c.net c.cells k)).1 (inr (omega arith, omega arith));
          fresh = λ u here. elim ((grows.known u).0 here) [
            | inl old ↦ let low = noded_low u old in omega arith
            | inr new ↦
                let high = new.1 in
                let most : cone_before c.cells (cell_count c.cells.geometry) ≤ cone_size c.cells = sum_by-take-le _ c.cells.cone (cell_count c.cells.geometry) in
                omega arith
          ];
        }

-- where all outputs are the same the last clause is false
pub last_is_false : (c : Circuits) (before e : Evaluated) → AreSame c before e (length c.net.outputs)
    → IsFalseAmong e.values e.order (clause_of (some_difference c.net c.cells))
last_is_false c before e h l here =
    let at = listed_in (length c.net.outputs) (λ o. positive (difference_variable c.net c.cells o)) l ((SameSet-clause_of (some_difference c.net c.cells) l).0 here) in
    let d : ℕ = difference_variable c.net c.cells at.0 in
    let less = at.1 in
    let known : Has e.order d = (h.grows.known d).1 (inr (omega arith, omega arith)) in
    let own : positive d ≡ false_literal e.values d = ap (λ b. record { variable = d; positive = not b }) (sym (h.all_false at.0 at.1)) in
    subst (λ (m : Literal). (m ≡ false_literal e.values m.variable) × Has e.order m.variable) (sym at.2) (own, known)

-- what is said of no answer, said in other words
pub none_as : {P Q : Type 0} (r : Option ℕ) → (P → Q) → IfNone r P → IfNone r Q
none_as None f h = f h
none_as (Some o) f h = h
