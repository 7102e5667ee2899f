-- A configuration that places the reference mapping of a network computes the network.
use Rattle.std.proofs.Common.{◌≡◌, ℕ, ◌↔◌, List, length, take, Result, Ok, Err, IfOk, inl, inr, refl, ap, sym, ◌∙◌, arith}
use Rattle.std.proofs.lemmas.List.{length-map}
use Rattle.text_defs.specs.Memory.{OrMemory}
use Rattle.net_defs.specs.Networks.{Network, Output}
use Rattle.net_defs.specs.Evaluation.{SpecOut, output_signals}
use Rattle.fabric_defs.specs.Bits.{AreBits, IsBits}
use Rattle.fabric_defs.specs.Geometries.{GeometryValue}
use Rattle.fabric_defs.specs.Configurations.{ConfigValue}
use Rattle.fabric_defs.specs.Wirings.{FabOut}
use Rattle.cell_defs.specs.Evaluation.{source_bits}
use Rattle.miter_defs.specs.Equality.{Equal}
use Rattle.map_defs.specs.Mapped.{MappedValue, AreMapped, AreSettled}
use Rattle.map_defs.specs.Outputs.{LutOut}
use Rattle.map_defs.specs.Reference.{RefMap, signal_source}
use Rattle.map_laws.proofs.BitsLemmas.{bits-unique}
use Rattle.route_defs.specs.declared.faults.RouteError.{RouteError}
use Rattle.route_defs.specs.declared.faults.RouteError.TheVariants.{Unroutable, NoMemory}
use Rattle.route_defs.specs.Routes.{RouteOf}
use Rattle.route_defs.specs.Placed.{PlacedOf}
use Rattle.place_net.specs.Placings.{PlacingOf}

-- what is placed is the reference mapping, and what is wanting is wanting for it
pub placing_of : (net : Network) (l : MappedValue) (g : GeometryValue) (r : Result ConfigValue RouteError) → RefMap net l
    → OrMemory NoMemory (RouteOf l g) r → OrMemory NoMemory (PlacingOf net g) r
placing_of net l g (Ok config) ref h = ((l, ref, h.0), (l, ref, h.1))
placing_of net l g (Err NoMemory) ref h = inl refl
placing_of net l g (Err (Unroutable resource place need have)) ref (inl same) = inl same
placing_of net l g (Err (Unroutable resource place need have)) ref (inr over) = inr (l, ref, over)

-- the mapping has the inputs of the network
inputs-reference : (net : Network) (l : MappedValue) → RefMap net l → l.inputs ≡ length net.inputs
inputs-reference net l ref = ap (λ (m : MappedValue). m.inputs) ref.2

-- and as many outputs
outputs-reference : (net : Network) (l : MappedValue) → RefMap net l → length l.outputs ≡ length net.outputs
outputs-reference net l ref =
    ap (λ (m : MappedValue). length m.outputs) ref.2
    ∙ length-map (output_signals net) (signal_source net ref.0)
    ∙ length-map net.outputs (λ (o : Output). o.signal)

-- mapped cells have one list of outputs
outputs-unique : (l : MappedValue) (x y z : List ℕ) → AreSettled l → LutOut l x y → LutOut l x z → y ≡ z
outputs-unique l x y z settled p q =
    p.2 ∙ ap (λ a. source_bits x a l.outputs) (bits-unique l x p.0 q.0 settled p.1 q.1) ∙ sym q.2

-- a configuration that places the mapping is equal to the network
pub equal_of : (net : Network) (l : MappedValue) (g : GeometryValue) (config : ConfigValue) → RefMap net l → AreMapped l
    → ((x y : List ℕ) → IsBits (length net.inputs) x → (LutOut l x y ↔ SpecOut net x y))
    → PlacedOf l g config
    → ((x z : List ℕ) → AreBits x → FabOut config x z → LutOut l x (take (length l.outputs) z))
    → Equal net config
equal_of net l g config ref mapped outputs placed fab = record {
  fits = record {
    inputs = omega (arith, inputs-reference net l ref, placed.6.room.input_pads);
    outputs = omega (arith, outputs-reference net l ref, placed.6.room.output_pads);
  };
  same = λ x y z bits out wired.
      ap (λ n. take n z) (sym (outputs-reference net l ref))
      ∙ outputs-unique l x (take (length l.outputs) z) y mapped.settled
      (fab x z bits.bits wired) ((outputs x y bits).1 out);
}

-- the same of an answer
pub equal_if : (net : Network) (l : MappedValue) (g : GeometryValue) (r : Result ConfigValue RouteError) → RefMap net l → AreMapped l
    → ((x y : List ℕ) → IsBits (length net.inputs) x → (LutOut l x y ↔ SpecOut net x y))
    → OrMemory NoMemory (RouteOf l g) r
    → IfOk r (λ config. (x z : List ℕ) → AreBits x → FabOut config x z → LutOut l x (take (length l.outputs) z))
    → IfOk r (Equal net)
equal_if net l g (Ok config) ref mapped outputs route fab =
    equal_of net l g config ref mapped outputs route.1 fab
equal_if net l g (Err e) ref mapped outputs route fab = tt
