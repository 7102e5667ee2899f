-- A design has one network or one first fault, and never both.
use Rattle.std.proofs.Common.{◌≡◌, ℕ, zero, suc, ◌-◌, ◌<◌, ◌⊎◌, inl, inr, ⊎_elim, Bool, true, List, [], ◌∷◌, length, take, get_or, All, Contains, Result, Ok, Err, refl, ap, sym, subst, ◌∙◌, arith}
use Rattle.std.proofs.lemmas.Bool.{cases_lt, cases_order}
use Rattle.std.proofs.lemmas.List.{get_or-take, length-take-le}
use Rattle.std.proofs.lemmas.List.Elements.{All-nil, All-cons, All-head, All-tail}
use Rattle.std.specs.List.{AllZip}
use Rattle.blif_defs.specs.declared.mark.Mark.{Mark}
use Rattle.blif_defs.specs.Values.{CoverValue, BlifValue, IsBlif}
use Rattle.net_defs.specs.Names.{IsFirstMissing}
use Rattle.net_defs.specs.Networks.{Node, Output, Network, node_at}
use Rattle.net_defs.specs.Settling.{Settled}
use Rattle.net_defs.specs.Interfaces.{StandAt}
use Rattle.net_defs.specs.NetOf.{signal_names, no_cover, IsNameOf, IsNodeOf, IsOutputOf, IsNetworkOf, HasDrivenPins, IsFirstUndrivenPin, IsFirstUnsettled, NetOf}
use Rattle.net_defs.specs.declared.faults.NetError.{NetError}
use Rattle.net_defs.specs.declared.faults.NetError.TheVariants.{UndrivenPin, UndrivenOutput, Cycle, NoMemory}
use Rattle.net_laws.proofs.PlaceLemmas.{zip_unique, zip_all_left, same_place, Contains-standing}
use Rattle.net_laws.proofs.PairingLemmas.{places_or_missing, missing_not_all, missing_unique}

-- ---- one network

-- a node is what it has
same_node : (n m : Node) → n.fan_ins ≡ m.fan_ins → n.on ≡ m.on → n.rows ≡ m.rows → n ≡ m
same_node n m f o r =
    let make : List ℕ → Bool → List (List Mark) → Node = λ fan_ins on rows. record { fan_ins = fan_ins; on = on; rows = rows } in
    ap (λ x. make x n.on n.rows) f ∙ ap (λ x. make m.fan_ins x n.rows) o ∙ ap (λ x. make m.fan_ins m.on x) r

-- an output is what it has
same_output : (o p : Output) → o.name ≡ p.name → o.signal ≡ p.signal → o ≡ p
same_output o p n s =
    let make : List ℕ → ℕ → Output = λ name signal. record { name = name; signal = signal } in
    ap (λ x. make x o.signal) n ∙ ap (λ x. make p.name x) s

-- a network is what it has
same_network : (net other : Network) → net.inputs ≡ other.inputs → net.nodes ≡ other.nodes → net.outputs ≡ other.outputs → net ≡ other
same_network net other i n o =
    let make : List (List ℕ) → List Node → List Output → Network = λ inputs nodes outputs. record { inputs = inputs; nodes = nodes; outputs = outputs } in
    ap (λ x. make x net.nodes net.outputs) i ∙ ap (λ x. make other.inputs x net.outputs) n ∙ ap (λ x. make other.inputs other.nodes x) o

-- a cover has one node
node_unique : (b : BlifValue) → IsBlif b → (c : CoverValue) (n m : Node) → IsNodeOf b c n → IsNodeOf b c m → n ≡ m
node_unique b is c n m h k =
    same_node n m
    (zip_unique (IsNameOf b) (λ name s t at_s at_t. same_place (signal_names b) name s t is.signals_differ at_s at_t) c.ins n.fan_ins m.fan_ins h.fan_ins k.fan_ins)
    (h.on ∙ sym k.on) (h.rows ∙ sym k.rows)

-- a name has one output
output_unique : (b : BlifValue) → IsBlif b → (name : List ℕ) (o p : Output) → IsOutputOf b name o → IsOutputOf b name p → o ≡ p
output_unique b is name o p h k =
    same_output o p (h.name ∙ sym k.name) (same_place (signal_names b) name o.signal p.signal is.signals_differ h.signal k.signal)

-- a design has one network
pub network_unique : (b : BlifValue) (net other : Network) → IsBlif b → IsNetworkOf b net → IsNetworkOf b other → net ≡ other
network_unique b net other is h k =
    same_network net other (h.inputs ∙ sym k.inputs)
    (zip_unique (IsNodeOf b) (node_unique b is) b.covers net.nodes other.nodes h.nodes k.nodes)
    (zip_unique (IsOutputOf b) (output_unique b is) b.outputs net.outputs other.outputs h.outputs k.outputs)

-- ---- what a network says of the names

-- what has a signal is the name of one
driven_by : (b : BlifValue) (name : List ℕ) (s : ℕ) → IsNameOf b name s → Contains (signal_names b) name
driven_by b name s h = Contains-standing (signal_names b) s name h

-- a cover with a node has driven pins
node_driven : (b : BlifValue) (c : CoverValue) (node : Node) → IsNodeOf b c node → HasDrivenPins b c
node_driven b c node h = zip_all_left (IsNameOf b) (Contains (signal_names b)) c.ins node.fan_ins (driven_by b) h.fan_ins 0

-- covers with nodes have driven pins
pub nodes_driven : (b : BlifValue) (covers : List CoverValue) (nodes : List Node) → AllZip (IsNodeOf b) covers nodes → All (HasDrivenPins b) covers
nodes_driven b covers nodes h =
    zip_all_left (IsNodeOf b) (HasDrivenPins b) covers nodes (node_driven b) h record { fan_ins = []; on = true; rows = [] }

-- names with outputs are driven
pub outputs_driven : (b : BlifValue) (names : List (List ℕ)) (outputs : List Output) → AllZip (IsOutputOf b) names outputs
    → All (Contains (signal_names b)) names
outputs_driven b names outputs h =
    zip_all_left (IsOutputOf b) (Contains (signal_names b)) names outputs (λ name o at. driven_by b name o.signal at.signal) h record { name = []; signal = 0 }

-- ---- one fault

-- where a pin is the first that is undriven, not all pins are driven
pin_not_all : (b : BlifValue) (node pin : ℕ) → IsFirstUndrivenPin b node pin → All (HasDrivenPins b) b.covers → ⊥
pin_not_all b node pin h all =
    missing_not_all (signal_names b) (get_or b.covers node no_cover).ins pin h.here (all node no_cover h.within)

-- of two first undriven pins neither is in an earlier node
pin_not_earlier : (b : BlifValue) (node pin other place : ℕ) → IsFirstUndrivenPin b node pin → IsFirstUndrivenPin b other place → node < other → ⊥
pin_not_earlier b node pin other place h k below =
    let size = length-take-le other b.covers (omega (arith, k.within)) in
    let P : CoverValue → Type 0 = λ c. HasDrivenPins b c in
    missing_not_all (signal_names b) (get_or b.covers node no_cover).ins pin h.here
    (subst P (get_or-take other b.covers node no_cover below) (k.earlier node no_cover (omega (arith, size))))

-- one node has the first undriven pin
pin_node_unique : (b : BlifValue) (node pin other place : ℕ) → IsFirstUndrivenPin b node pin → IsFirstUndrivenPin b other place → node ≡ other
pin_node_unique b node pin other place h k =
    ⊎_elim (λ e. e)
    (λ apart. ⊎_elim (λ below. absurd (pin_not_earlier b node pin other place h k below)) (λ above. absurd (pin_not_earlier b other place node pin k h above)) apart)
    (cases_order node other)

-- and it is one pin
pin_unique : (b : BlifValue) (node pin other place : ℕ) → IsFirstUndrivenPin b node pin → IsFirstUndrivenPin b other place → pin ≡ place
pin_unique b node pin other place h k =
    let P : ℕ → Type 0 = λ n. IsFirstMissing (signal_names b) (get_or b.covers n no_cover).ins pin in
    missing_unique (signal_names b) (get_or b.covers other no_cover).ins pin place (subst P (pin_node_unique b node pin other place h k) h.here) k.here

-- one node is the first that isn't settled
unsettled_unique : (net : Network) (v w : ℕ) → IsFirstUnsettled net v → IsFirstUnsettled net w → v ≡ w
unsettled_unique net v w h k =
    ⊎_elim (λ e. e)
    (λ apart. ⊎_elim (λ below. absurd (h.here (k.earlier v below))) (λ above. absurd (k.here (h.earlier w above))) apart)
    (cases_order v w)

-- the first node that isn't settled, in the design's one network
cycle_at : (b : BlifValue) (net other : Network) (v : ℕ) → IsBlif b → IsNetworkOf b net → IsNetworkOf b other → IsFirstUnsettled other v → IsFirstUnsettled net v
cycle_at b net other v is h k at =
    let P : Network → Type 0 = λ n. IsFirstUnsettled n v in subst P (network_unique b other net is k h) at

-- a design has no two of these
pub net_is_unique : (b : BlifValue) (r s : Result Network NetError) → IsBlif b → NetOf b r → NetOf b s → r ≡ s
net_is_unique b (Ok net) (Ok other) is h k = ap Ok (network_unique b net other is h.0 k.0)
net_is_unique b (Ok net) (Err (UndrivenPin n p)) is h k = absurd (pin_not_all b n p k (nodes_driven b b.covers net.nodes h.0.nodes))
net_is_unique b (Ok net) (Err (UndrivenOutput p)) is h k =
    absurd (missing_not_all (signal_names b) b.outputs p k.1 (outputs_driven b b.outputs net.outputs h.0.outputs))
net_is_unique b (Ok net) (Err (Cycle v)) is h k =
    let at = cycle_at b net k.0 v is h.0 k.1 k.2 in absurd (at.here (h.1 v at.within))
net_is_unique b (Ok net) (Err NoMemory) is h k = absurd k
net_is_unique b (Err (UndrivenPin n p)) (Ok net) is h k = absurd (pin_not_all b n p h (nodes_driven b b.covers net.nodes k.0.nodes))
net_is_unique b (Err (UndrivenPin n p)) (Err (UndrivenPin m q)) is h k =
    ap (λ x. Err (UndrivenPin x p)) (pin_node_unique b n p m q h k) ∙ ap (λ x. Err (UndrivenPin m x)) (pin_unique b n p m q h k)
net_is_unique b (Err (UndrivenPin n p)) (Err (UndrivenOutput q)) is h k = absurd (pin_not_all b n p h k.0)
net_is_unique b (Err (UndrivenPin n p)) (Err (Cycle v)) is h k = absurd (pin_not_all b n p h (nodes_driven b b.covers k.0.nodes k.1.nodes))
net_is_unique b (Err (UndrivenPin n p)) (Err NoMemory) is h k = absurd k
net_is_unique b (Err (UndrivenOutput p)) (Ok net) is h k =
    absurd (missing_not_all (signal_names b) b.outputs p h.1 (outputs_driven b b.outputs net.outputs k.0.outputs))
net_is_unique b (Err (UndrivenOutput p)) (Err (UndrivenPin m q)) is h k = absurd (pin_not_all b m q k h.0)
net_is_unique b (Err (UndrivenOutput p)) (Err (UndrivenOutput q)) is h k =
    ap (λ x. Err (UndrivenOutput x)) (missing_unique (signal_names b) b.outputs p q h.1 k.1)
net_is_unique b (Err (UndrivenOutput p)) (Err (Cycle v)) is h k =
    absurd (missing_not_all (signal_names b) b.outputs p h.1 (outputs_driven b b.outputs k.0.outputs k.1.outputs))
net_is_unique b (Err (UndrivenOutput p)) (Err NoMemory) is h k = absurd k
net_is_unique b (Err (Cycle v)) (Ok net) is h k =
    let at = cycle_at b net h.0 v is k.0 h.1 h.2 in absurd (at.here (k.1 v at.within))
net_is_unique b (Err (Cycle v)) (Err (UndrivenPin m q)) is h k = absurd (pin_not_all b m q k (nodes_driven b b.covers h.0.nodes h.1.nodes))
net_is_unique b (Err (Cycle v)) (Err (UndrivenOutput q)) is h k =
    absurd (missing_not_all (signal_names b) b.outputs q k.1 (outputs_driven b b.outputs h.0.outputs h.1.outputs))
net_is_unique b (Err (Cycle v)) (Err (Cycle w)) is h k =
    ap (λ x. Err (Cycle x)) (unsettled_unique h.0 v w h.2 (cycle_at b h.0 k.0 w is h.1 k.1 k.2))
net_is_unique b (Err (Cycle v)) (Err NoMemory) is h k = absurd k
net_is_unique b (Err NoMemory) s is h k = absurd h

-- ---- a network or a fault

-- places of names are names of signals
names_at_places : (b : BlifValue) (places : List ℕ) (names : List (List ℕ)) → StandAt (signal_names b) places names → AllZip (IsNameOf b) names places
names_at_places b [] [] h = tt
names_at_places b [] (x ∷ names) h = absurd h
names_at_places b (p ∷ places) [] h = absurd h
names_at_places b (p ∷ places) (x ∷ names) h = (h.0, names_at_places b places names h.1)

-- in a list of covers, this is the first pin that is undriven
record IsFirstUndriven (b : BlifValue) (covers : List CoverValue) (node pin : ℕ) : Type 0 where
  within : node < length covers
  earlier : All (HasDrivenPins b) (take node covers)
  here : IsFirstMissing (signal_names b) (get_or covers node no_cover).ins pin

-- the covers have nodes, or one of their pins is the first that is undriven
nodes_or_pin : (b : BlifValue) (covers : List CoverValue)
    → ((node : ℕ) × (pin : ℕ) × IsFirstUndriven b covers node pin) ⊎ ((nodes : List Node) × AllZip (IsNodeOf b) covers nodes)
nodes_or_pin b [] = inr ([], tt)
nodes_or_pin b (c ∷ covers) =
    ⊎_elim
    (λ missing. inl (0, missing.0, record { within = omega arith; earlier = All-nil (HasDrivenPins b); here = missing.1 }))
    (λ found. let node : Node = record { fan_ins = found.0; on = c.on; rows = c.rows } in
    let made : IsNodeOf b c node = record { fan_ins = names_at_places b found.0 c.ins found.1; on = refl; rows = refl } in
    ⊎_elim
    (λ later. inl (
      suc later.0,
      later.1,
      record {
        within = omega (arith, later.2.within);
        earlier = All-cons (HasDrivenPins b) c (take later.0 covers) (node_driven b c node made) later.2.earlier;
        here = later.2.here;
      },
    ))
    (λ nodes. inr (node ∷ nodes.0, (made, nodes.1)))
    (nodes_or_pin b covers))
    (places_or_missing (signal_names b) c.ins)

-- outputs at places of their names
outputs_at : (b : BlifValue) (names : List (List ℕ)) (places : List ℕ) → StandAt (signal_names b) places names
    → (outputs : List Output) × AllZip (IsOutputOf b) names outputs
outputs_at b [] [] h = ([], tt)
outputs_at b [] (p ∷ places) h = absurd h
outputs_at b (x ∷ names) [] h = absurd h
outputs_at b (x ∷ names) (p ∷ places) h =
    let rest = outputs_at b names places h.1 in (record { name = x; signal = p } ∷ rest.0, (record { name = refl; signal = h.0 }, rest.1))

-- all elements have a property, or not all have it
all_or_not : {X : Type 0} (P : X → Type 0) → ((x : X) → P x ⊎ (P x → ⊥)) → (xs : List X) → All P xs ⊎ (All P xs → ⊥)
all_or_not P decided [] = inl (All-nil P)
all_or_not P decided (x ∷ xs) =
    ⊎_elim
    (λ here. ⊎_elim (λ rest. inl (All-cons P x xs here rest)) (λ none. inr (λ all. none (All-tail P x xs all))) (all_or_not P decided xs))
    (λ none. inr (λ all. none (All-head P x xs all)))
    (decided x)

-- a node is settled after so many rounds or not
settled_or_not : (net : Network) (k v : ℕ) → Settled net k v ⊎ (Settled net k v → ⊥)
settled_or_not net zero v = inr (λ h. h)
settled_or_not net (suc k) v =
    let P : ℕ → Type 0 = λ s. (s < length net.inputs) ⊎ Settled net k (s - length net.inputs) in
    let decided : (s : ℕ) → P s ⊎ (P s → ⊥) = λ s.
    ⊎_elim (λ input. inl (inl input))
    (λ past. ⊎_elim (λ settled. inl (inr settled)) (λ none. inr (λ known. ⊎_elim (λ input. omega arith) none known)) (settled_or_not net k (s - length net.inputs)))
    (cases_lt s (length net.inputs)) in
    ⊎_elim
    (λ lt. ⊎_elim (λ all. inl (lt, all)) (λ none. inr (λ h. none h.1)) (all_or_not P decided (node_at net v).fan_ins))
    (λ past. inr (λ h. let lt : v < length net.nodes = h.0 in omega arith))
    (cases_lt v (length net.nodes))

-- all numbers below m have a property, or one of them is the first without it
first_without : (P : ℕ → Type 0) → ((v : ℕ) → P v ⊎ (P v → ⊥)) → (m : ℕ)
    → ((u : ℕ) → u < m → P u) ⊎ ((v : ℕ) × (v < m) × ((u : ℕ) → u < v → P u) × (P v → ⊥))
first_without P decided zero = inl (λ u lt. absurd (omega arith))
first_without P decided (suc m) =
    ⊎_elim
    (λ all. ⊎_elim
    (λ here. inl (λ u lt. ⊎_elim (λ below. all u below) (λ past. let e : m ≡ u = omega arith in subst P e here) (cases_lt u m)))
    (λ none. inr (m, omega arith, all, none))
    (decided m))
    (λ first. let below : first.0 < m = first.1 in inr (first.0, omega arith, first.2, first.3))
    (first_without P decided m)

-- a network is acyclic, or one of its nodes is the first that isn't settled
acyclic_or_not : (b : BlifValue) (net : Network) → IsNetworkOf b net → (r : Result Network NetError) × NetOf b r
acyclic_or_not b net h =
    ⊎_elim
    (λ all. (Ok net, (h, λ v lt. all v lt)))
    (λ first. (Err (Cycle first.0), (net, h, record { within = first.1; earlier = first.2; here = first.3 })))
    (first_without (Settled net (length net.nodes)) (settled_or_not net (length net.nodes)) (length net.nodes))

-- a design has a network, or a first fault
pub net_exists : (b : BlifValue) → (r : Result Network NetError) × NetOf b r
net_exists b =
    ⊎_elim
    (λ pin. (Err (UndrivenPin pin.0 pin.1), record { within = pin.2.within; earlier = pin.2.earlier; here = pin.2.here }))
    (λ nodes. ⊎_elim
    (λ missing. (Err (UndrivenOutput missing.0), (nodes_driven b b.covers nodes.0 nodes.1, missing.1)))
    (λ found. let outputs = outputs_at b b.outputs found.0 found.1 in
    acyclic_or_not b (record { inputs = b.inputs; nodes = nodes.0; outputs = outputs.0 }) (record { inputs = refl; nodes = nodes.1; outputs = outputs.1 }))
    (places_or_missing (signal_names b) b.outputs))
    (nodes_or_pin b b.covers)
