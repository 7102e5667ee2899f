-- The network of a design that was read is within the limits.
use Rattle.std.proofs.Common.{◌≡◌, ℕ, ◌<◌, ◌≤◌, ⊎_elim, inl, inr, false, List, [], ◌∷◌, ◌++◌, length, map, get_or, All, sum_by, refl, ap, sym, subst, ◌∙◌, arith, Err, length-append}
use Rattle.std.proofs.lemmas.List.{get_or_append_left, get_or_past}
use Rattle.std.proofs.lemmas.List.Elements.{All-from_recursion}
use Rattle.std.proofs.lemmas.List.Sums.{sum_by-cons}
use Rattle.std.proofs.lemmas.Option.{slice_get_within}
use Rattle.std.proofs.lemmas.Map.Keys.{apart_from_distinct, IsDistinct-from_apart}
use Rattle.std.proofs.lemmas.Bool.{cases_lt}
use Rattle.std.specs.List.{AllZip, IsDistinct}
use Rattle.std.specs.Str.{bytes_eq}
use Rattle.blif_defs.specs.Values.{CoverValue, BlifValue, IsCover, IsBlif, rows_size}
use Rattle.blif_defs.specs.declared.mark.TheConstants.{MAX_SIGNALS}
use Rattle.net_defs.specs.Networks.{Node, Output, Network, no_node, node_at, signals}
use Rattle.net_defs.specs.Settling.{IsAcyclic}
use Rattle.net_defs.specs.Nets.{IsNode, IsNet}
use Rattle.net_defs.specs.NetOf.{signal_names, no_cover, IsNameOf, IsNodeOf, IsOutputOf, IsNetworkOf, NetOf}
use Rattle.net_defs.specs.declared.faults.NetError.{NetError}
use Rattle.net_defs.specs.declared.faults.NetError.TheVariants.{NoMemory}
use Rattle.text_defs.specs.Memory.{OrMemory}
use Rattle.netlist.specs.Resolving.{NodesOf, OutputsOf, NetworkOf}
use Rattle.netlist.specs.Orders.{OrderOf}
use Rattle.netlist.specs.Sortings.{HasFanInsWithin, HasShortNodes}
use Rattle.netlist.proofs.IndexLemmas.{length-signals_of}
use Rattle.netlist.proofs.ZipLemmas.{all_zip-right}
use Rattle.net_laws.proofs.PlaceLemmas.{zip_at, zip_length}
use Rattle.net_laws.proofs.NetworkLemmas.{nodes_driven}

-- there are as many signals as names of signals
length-signal_names : (b : BlifValue) (net : Network) → IsNetworkOf b net → length (signal_names b) ≡ signals net
length-signal_names b net h =
    let e = length-signals_of b.inputs b.covers in
    let n = zip_length (IsNodeOf b) b.covers net.nodes h.nodes in
    let i = ap length h.inputs in
    omega (arith, e, n, i)

-- a signal with a name is one of the network
named_within : (b : BlifValue) (net : Network) (name : List ℕ) (s : ℕ) → IsNetworkOf b net → IsNameOf b name s → s < signals net
named_within b net name s h at = omega (arith, slice_get_within (signal_names b) s name at, length-signal_names b net h)

-- so are the fan-ins of a node
fan_ins_within : (b : BlifValue) (net : Network) (cover : CoverValue) (node : Node) → IsNetworkOf b net → IsNodeOf b cover node
    → All (λ s. s < signals net) node.fan_ins
fan_ins_within b net cover node h at =
    all_zip-right (IsNameOf b) (λ s. s < signals net) cover.ins node.fan_ins (λ name s. named_within b net name s h) at.fan_ins []

-- each cover of a design is one within the limits
cover_at : (b : BlifValue) (v : ℕ) → IsBlif b → v < length b.covers → (d : CoverValue) → IsCover (get_or b.covers v d)
cover_at b v is lt d = All-from_recursion IsCover b.covers is.covers v d lt

-- a node that is built of a cover is within the limits
is_node : (b : BlifValue) (net : Network) (cover : CoverValue) (node : Node) → IsNetworkOf b net → IsCover cover → IsNodeOf b cover node
    → IsNode (signals net) node
is_node b net cover node h is at =
    let size : length node.fan_ins ≡ length cover.ins = zip_length (IsNameOf b) cover.ins node.fan_ins at.fan_ins in
    let P : List (List _) → Type 0 = λ rows. All (λ row. length row ≡ length node.fan_ins) rows in
    let Q : ℕ → Type 0 = λ n. All (λ row. length row ≡ n) cover.rows in
    record {
      fan_ins_within = omega (arith, is.within, size);
      fan_ins = fan_ins_within b net cover node h at;
      rows = subst P (sym at.rows) (subst Q (sym size) (All-from_recursion (λ row. length row ≡ length cover.ins) cover.rows is.rows));
      on = λ none. at.on ∙ is.on (sym at.rows ∙ none);
    }

-- so are all nodes of a network that is built
all_nodes : (b : BlifValue) (net : Network) → IsNetworkOf b net → IsBlif b → All (IsNode (signals net)) net.nodes
all_nodes b net h is = λ v d lt.
    let lt2 : v < length b.covers = omega (arith, zip_length (IsNodeOf b) b.covers net.nodes h.nodes) in
    is_node b net (get_or b.covers v no_cover) (get_or net.nodes v d) h (cover_at b v is lt2 no_cover)
    (zip_at (IsNodeOf b) b.covers net.nodes v no_cover d h.nodes lt2)

-- no node has more fan-ins than a cover may have
pub HasShortNodes-built : (b : BlifValue) (net : Network) → IsNetworkOf b net → IsBlif b → HasShortNodes net
HasShortNodes-built b net h is = λ v d lt. (all_nodes b net h is v d lt).fan_ins_within

-- every fan-in is a signal
pub HasFanInsWithin-built : (b : BlifValue) (net : Network) → IsNetworkOf b net → IsBlif b → HasFanInsWithin net
HasFanInsWithin-built b net h is v k k_lt =
    ⊎_elim
    (λ lt. (all_nodes b net h is v no_node lt).fan_ins k 0 k_lt)
    (λ past. let e : node_at net v ≡ no_node = get_or_past net.nodes v no_node past in
    let P : Node → Type 0 = λ n. k < length n.fan_ins in
    let none : k < 0 = subst P e k_lt in absurd (omega arith))
    (cases_lt v (length net.nodes))

-- there are no more nodes than signals
pub few_nodes-built : (b : BlifValue) (net : Network) → IsNetworkOf b net → IsBlif b → length net.nodes ≤ MAX_SIGNALS
few_nodes-built b net h is = omega (arith, is.signals_within, zip_length (IsNodeOf b) b.covers net.nodes h.nodes)

-- a front of distinct names has distinct names
IsDistinct-front : (xs ys : List (List ℕ)) → IsDistinct bytes_eq (xs ++ ys) → IsDistinct bytes_eq xs
IsDistinct-front xs ys h = IsDistinct-from_apart bytes_eq xs (λ i j d below lt.
    let e = get_or_append_left xs ys d i (omega arith) in
    let f = get_or_append_left xs ys d j lt in
    let P : List ℕ → Type 0 = λ l. bytes_eq l (get_or xs j d) ≡ false in
    let Q : List ℕ → Type 0 = λ l. bytes_eq (get_or (xs ++ ys) i d) l ≡ false in
    subst P e (subst Q f (apart_from_distinct bytes_eq (xs ++ ys) i j d h below (omega (arith, length-append xs ys)))))

-- the outputs that are built have the names of the design's
output_names-of : (b : BlifValue) (names : List (List ℕ)) (outputs : List Output) → AllZip (IsOutputOf b) names outputs
    → map (λ (o : Output). o.name) outputs ≡ names
output_names-of b [] [] h = refl
output_names-of b [] (o ∷ os) h = absurd h
output_names-of b (n ∷ ns) [] h = absurd h
output_names-of b (n ∷ ns) (o ∷ os) h = ap (λ l. o.name ∷ l) (output_names-of b ns os h.1) ∙ ap (λ m. m ∷ ns) h.0.name

-- the rows that are built are as many and as long as those of the covers
same_size : (b : BlifValue) (covers : List CoverValue) (nodes : List Node) → AllZip (IsNodeOf b) covers nodes
    → sum_by (λ (node : Node). rows_size node.rows) nodes ≡ sum_by (λ (c : CoverValue). rows_size c.rows) covers
same_size b [] [] h = refl
same_size b [] (n ∷ ns) h = absurd h
same_size b (c ∷ cs) [] h = absurd h
same_size b (c ∷ cs) (n ∷ ns) h =
    let e = sum_by-cons (λ (node : Node). rows_size node.rows) n ns in
    let f = sum_by-cons (λ (d : CoverValue). rows_size d.rows) c cs in
    let g = same_size b cs ns h.1 in
    let r : rows_size n.rows ≡ rows_size c.rows = ap rows_size h.0.rows in
    omega (arith, e, f, g, r)

-- an acyclic network of a design that was read is a net
pub IsNet-built : (b : BlifValue) (net : Network) → IsNetworkOf b net → IsBlif b → IsAcyclic net → IsNet net
IsNet-built b net h is acyclic =
    let inputs_size : length net.inputs ≡ length b.inputs = ap length h.inputs in
    let outputs_size : length net.outputs ≡ length b.outputs = zip_length (IsOutputOf b) b.outputs net.outputs h.outputs in
    let nodes_size : length net.nodes ≡ length b.covers = zip_length (IsNodeOf b) b.covers net.nodes h.nodes in
    let P : List (List ℕ) → Type 0 = λ l. IsDistinct bytes_eq l in
    record {
      inputs_within = omega (arith, inputs_size, is.inputs_within);
      inputs_differ = subst P (sym h.inputs) (IsDistinct-front b.inputs (map (λ (c : CoverValue). c.out) b.covers) is.signals_differ);
      outputs_some = omega (arith, outputs_size, is.outputs_some);
      outputs_within = omega (arith, outputs_size, is.outputs_within);
      outputs_differ = subst P (sym (output_names-of b b.outputs net.outputs h.outputs)) is.outputs_differ;
      output_signals = all_zip-right (IsOutputOf b) (λ (o : Output). o.signal < signals net) b.outputs net.outputs
          (λ name o at. named_within b net name o.signal h at.signal) h.outputs [];
      signals_within = omega (arith, inputs_size, nodes_size, is.signals_within);
      nodes = all_nodes b net h is;
      rows_within = omega (arith, same_size b b.covers net.nodes h.nodes, is.rows_within);
      acyclic = acyclic;
    }

-- the fault of the nodes, or of the outputs, is that of the network
pub NetworkOf-nodes : (b : BlifValue) (e : NetError) → OrMemory NoMemory (NodesOf b) (Err e) → OrMemory NoMemory (NetworkOf b) (Err e)
NetworkOf-nodes b e h =
    let P : NetError → Type 0 = λ f. NetOf b (Err f) in
    ⊎_elim (λ memory. inl memory) (λ fault. inr (subst P (sym fault.2) fault.3)) h

-- the fault of the outputs, where the nodes are made
pub NetworkOf-outputs : (b : BlifValue) (nodes : List Node) (e : NetError) → AllZip (IsNodeOf b) b.covers nodes → OrMemory NoMemory (OutputsOf b) (Err e)
    → OrMemory NoMemory (NetworkOf b) (Err e)
NetworkOf-outputs b nodes e made h =
    let P : NetError → Type 0 = λ f. NetOf b (Err f) in
    ⊎_elim (λ memory. inl memory) (λ fault. inr (subst P (sym fault.1) (nodes_driven b b.covers nodes made, fault.2))) h

-- an order's fault is that of the design
pub NetOf-order : (b : BlifValue) (net : Network) (e : NetError) → IsNetworkOf b net → OrMemory NoMemory (OrderOf net) (Err e) → OrMemory NoMemory (NetOf b) (Err e)
NetOf-order b net e is h =
    let P : NetError → Type 0 = λ f. NetOf b (Err f) in
    ⊎_elim (λ memory. inl memory) (λ fault. inr (subst P (sym fault.1) (net, is, fault.2))) h
