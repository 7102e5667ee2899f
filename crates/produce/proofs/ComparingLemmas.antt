-- Bits are compared one after another, and the bits of inputs are listed one after another.
use Rattle.std.proofs.Common.{◌≡◌, ◌≢◌, ℕ, ◌+◌, ◌<◌, ◌≤◌, ◌↔◌, ◌==◌, inl, inr, Bool, IsTrue, true, false, if◌then◌else◌, List, length, take, get_or, set, slice_index, refl, sym, ap, subst, ◌∙◌, arith}
use Rattle.std.proofs.lemmas.Bool.{cases_lt}
use Rattle.std.proofs.lemmas.List.{length-map, get_or-set_same, get_or-set_other}
use Rattle.clause_defs.specs.Clauses.{Lits, Has}
use Rattle.net_defs.specs.Networks.{Network, Output}
use Rattle.net_defs.specs.Evaluation.{SpecOut, output_signals}
use Rattle.fabric_defs.specs.Configurations.{ConfigValue, output_word}
use Rattle.fabric_defs.specs.Wirings.{FabOut, channel, tapped_bit}
use Rattle.fabric_laws.proofs.NumberedLemmas.{length-list_of}
use Rattle.miter_defs.specs.Equality.{FitsPads}
use Rattle.miter_defs.specs.Numberings.{signal_variable}
use Rattle.produce.specs.Learning.{AreCompared}

-- the first bits are the same
abbrev pub AreSameTo : List ℕ → List ℕ → ℕ → Type 0
AreSameTo outputs pads o = (k : ℕ) → k < o → get_or outputs k 0 ≡ get_or pads k 0

-- the network has so many outputs, and the configuration so many pads
outputs_count : (net : Network) (x y : List ℕ) → SpecOut net x y → length y ≡ length net.outputs
outputs_count net x y h =
    ap (λ (l : List ℕ). length l) h.2 ∙ length-map (output_signals net) (λ s. slice_index h.0 s) ∙ length-map net.outputs (λ (o : Output). o.signal)

pads_count : (config : ConfigValue) (x z : List ℕ) → FabOut config x z → length z ≡ config.geometry.output_pads
pads_count config x z h =
    ap (λ (l : List ℕ). length l) h.2
    ∙ length-list_of config.geometry.output_pads (λ pad. tapped_bit (channel h.0 config.geometry.columns) (output_word config pad))

-- there is a pad for each output
pub pads_enough : (net : Network) (config : ConfigValue) (x y z : List ℕ) → FitsPads net config.geometry → SpecOut net x y
    → FabOut config x z → length y ≤ length z
pads_enough net config x y z fits of_network of_fabric =
    let outputs = outputs_count net x y of_network in
    let pads = pads_count config x z of_fabric in
    let enough = fits.outputs in
    omega arith

-- what was compared are the outputs and the pads
pub compared : (net : Network) (config : ConfigValue) (x y z : List ℕ) (other : Bool) → SpecOut net x y → FabOut config x z
    → (IsTrue other ↔ (take (length y) z ≢ y)) → AreCompared net config x other
compared net config x y z other of_network of_fabric is = record {
  outputs = y;
  pads = z;
  of_network = of_network;
  of_fabric = of_fabric;
  other_is = subst (λ n. IsTrue other ↔ (take n z ≢ y)) (outputs_count net x y of_network) is;
}

-- the first bits are those of their variables among the true literals
abbrev pub HaveValues : Lits → List ℕ → ℕ → Type 0
HaveValues lits x n = (i : ℕ) → i < n → Has lits (record { variable = signal_variable i; positive = get_or x i 0 == 1 })

-- a truth value is that of its bit
value_of_bit : (b : Bool) → ((if b then 1 else 0) == 1) ≡ b
value_of_bit true = refl
value_of_bit false = refl

-- and its bit is 0 or 1
pub bit_small : (b : Bool) → (if b then 1 else 0) ≤ 1
bit_small true = omega arith
bit_small false = omega arith

-- with one bit more they still are
pub values_more : (lits : Lits) (x y : List ℕ) (i : ℕ) (b : Bool) → i < length x → y ≡ set x i (if b then 1 else 0) → HaveValues lits x i
    → Has lits (record { variable = signal_variable i; positive = b }) → HaveValues lits y (i + 1)
values_more lits x y i b within is values here k lt = elim (cases_lt k i) [
  | inl before ↦
      let same : get_or y k 0 ≡ get_or x k 0 =
      ap (λ (l : List ℕ). get_or l k 0) is ∙ get_or-set_other x i k (if b then 1 else 0) 0 (λ e. omega arith) in
      subst (λ n. Has lits (record { variable = signal_variable k; positive = n == 1 })) (sym same) (values k before)
  | inr last ↦
      let e : k ≡ i = omega arith in
      let same : get_or y i 0 ≡ (if b then 1 else 0) =
      ap (λ (l : List ℕ). get_or l i 0) is ∙ get_or-set_same x i (if b then 1 else 0) 0 within in
      let value : (get_or y i 0 == 1) ≡ b = ap (λ n. n == 1) same ∙ value_of_bit b in
      subst (λ n. Has lits (record { variable = signal_variable n; positive = get_or y n 0 == 1 })) (sym e)
      (subst (λ p. Has lits (record { variable = signal_variable i; positive = p })) (sym value) here)
]
