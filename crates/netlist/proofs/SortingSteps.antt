-- The three steps of the search for an order keep its invariant.
use Rattle.std.proofs.Common.{◌≡◌, ℕ, ◌+◌, ◌<◌, ◌≤◌, inl, inr, ⊎_elim, List, [], ◌∷◌, ◌++◌, length, set, take, get_or, All, Contains, ap, sym, subst, ◌∙◌, arith}
use Rattle.std.proofs.lemmas.List.{get_or-set_same, get_or-set_other, get_or_append_left, get_or_push, get_or-take, length_push, length-set, length-take-le, get_or_default, take-append-le, take_at}
use Rattle.std.proofs.lemmas.List.Elements.{Contains-append_left, Contains-push, All-push}
use Rattle.std.proofs.lemmas.Bool.{cases_eq, cases_lt}
use Rattle.net_defs.specs.Networks.{Network, node_at}
use Rattle.net_defs.specs.Orders.{IsKnown}
use Rattle.netlist.specs.Sortings.{state_at, IsReady, IsSorting}
use Rattle.netlist.specs.declared.order.State.{State}
use Rattle.netlist.specs.declared.order.State.TheVariants.{New, Open, Done}
use Rattle.netlist.proofs.StateLemmas.{state_at-set_same, state_at-set_other, within_from_open, StaysDone-set, IsReady-later, not_done_from_new, not_done_from_open, count_new-opened, count_new-closed, Contains-front}

-- the pin of node v that is looked at is ready
pub IsSorting-passed : (net : Network) (states : List State) (left stack order : List ℕ) (v p : ℕ)
    → IsSorting net states left stack order → v < length net.nodes → get_or left v 0 ≡ p + 1
    → IsReady net states (get_or (node_at net v).fan_ins p 0)
    → IsSorting net states (set left v p) stack order
IsSorting-passed net states left stack order v p h lt at ready = record {
  all_states = h.all_states;
  all_left = length-set left v p ∙ h.all_left;
  left_within = λ u u_lt. ⊎_elim
      (λ e. let same : get_or (set left v p) u 0 ≡ p = ap (λ m. get_or (set left v p) m 0) e ∙ get_or-set_same left v p 0 (omega (arith, h.all_left)) in
      let old : get_or left v 0 ≤ length (node_at net v).fan_ins = h.left_within v lt in
      let P : ℕ → Type 0 = λ m. get_or (set left v p) m 0 ≤ length (node_at net m).fan_ins in
      subst P (sym e) (let same2 : get_or (set left v p) v 0 ≡ p = get_or-set_same left v p 0 (omega (arith, h.all_left)) in omega arith))
      (λ ne. let same : get_or (set left v p) u 0 ≡ get_or left u 0 = get_or-set_other left v u p 0 ne in
      let old : get_or left u 0 ≤ length (node_at net u).fan_ins = h.left_within u u_lt in omega arith)
      (cases_eq u v);
  passed = λ u k u_lt le k_lt. ⊎_elim
      (λ e. let same : get_or (set left v p) v 0 ≡ p = get_or-set_same left v p 0 (omega (arith, h.all_left)) in
      let P : ℕ → Type 0 = λ m. get_or (set left v p) m 0 ≤ k → k < length (node_at net m).fan_ins → IsReady net states (get_or (node_at net m).fan_ins k 0) in
      subst P (sym e)
      (λ le2 k_lt2. ⊎_elim
      (λ here. let Q : ℕ → Type 0 = λ m. IsReady net states (get_or (node_at net v).fan_ins m 0) in subst Q (sym here) ready)
      (λ ne. h.passed v k lt (omega arith) k_lt2)
      (cases_eq k p)) le k_lt)
      (λ ne. let same : get_or (set left v p) u 0 ≡ get_or left u 0 = get_or-set_other left v u p 0 ne in
      h.passed u k u_lt (omega arith) k_lt)
      (cases_eq u v);
  stack_open = h.stack_open;
  stack_distinct = h.stack_distinct;
  open_stacked = h.open_stacked;
  path = h.path;
  done_ordered = h.done_ordered;
  order_within = h.order_within;
  order_done = h.order_done;
  order_distinct = h.order_distinct;
  after = h.after;
  counted = h.counted;
}

-- a new node that the last open one needs is opened
pub IsSorting-opened : (net : Network) (states : List State) (left stack order : List ℕ) (w : ℕ)
    → IsSorting net states left stack order → w < length net.nodes → state_at states w ≡ New
    → ((i : ℕ) → i + 1 ≡ length stack → Contains (node_at net (get_or stack i 0)).fan_ins (length net.inputs + w))
    → IsSorting net (set states w Open) left (stack ++ w ∷ []) order
IsSorting-opened net states left stack order w h lt fresh needed =
    let in_states : w < length states = omega (arith, h.all_states) in
    let stays = StaysDone-set states w Open (not_done_from_new states w fresh) in
    let apart : (i : ℕ) → i < length stack → get_or stack i 0 ≡ w → ⊥ =
    (λ i i_lt e. let is_open : state_at states w ≡ Open = ap (λ m. state_at states m) (sym e) ∙ h.stack_open i i_lt in cc) in
    record {
      all_states = length-set states w Open ∙ h.all_states;
      all_left = h.all_left;
      left_within = h.left_within;
      passed = λ u k u_lt le k_lt. IsReady-later net states _ _ stays (h.passed u k u_lt le k_lt);
      stack_open = λ i i_lt. ⊎_elim
          (λ inside. ap (λ m. state_at (set states w Open) m) (get_or_append_left stack (w ∷ []) 0 i inside)
          ∙ state_at-set_other states w _ Open (apart i inside) ∙ h.stack_open i inside)
          (λ past. let at : length stack ≡ i = omega (arith, length_push stack w) in
          ap (λ m. state_at (set states w Open) m) (get_or_push stack w 0 i at) ∙ state_at-set_same states w Open in_states)
          (cases_lt i (length stack));
      stack_distinct = λ i j below j_lt e. ⊎_elim
          (λ inside. h.stack_distinct i j below inside
          (sym (get_or_append_left stack (w ∷ []) 0 i (omega arith)) ∙ e ∙ get_or_append_left stack (w ∷ []) 0 j inside))
          (λ past. let at : length stack ≡ j = omega (arith, length_push stack w) in
          apart i (omega arith)
          (sym (get_or_append_left stack (w ∷ []) 0 i (omega arith)) ∙ e ∙ get_or_push stack w 0 j at))
          (cases_lt j (length stack));
      open_stacked = λ u is_open. ⊎_elim
          (λ e. let P : ℕ → Type 0 = λ m. Contains (stack ++ w ∷ []) m in subst P (sym e) (Contains-push stack w))
          (λ ne. Contains-append_left stack (w ∷ []) u (h.open_stacked u (sym (state_at-set_other states w u Open ne) ∙ is_open)))
          (cases_eq u w);
      path = λ i i_lt. ⊎_elim
          (λ inside. let P : ℕ → ℕ → Type 0 = λ a b. Contains (node_at net a).fan_ins (length net.inputs + b) in
          let e = sym (get_or_append_left stack (w ∷ []) 0 i (omega arith)) in
          let f = sym (get_or_append_left stack (w ∷ []) 0 (i + 1) inside) in
          let Pa : ℕ → Type 0 = λ a. P a (get_or (stack ++ w ∷ []) (i + 1) 0) in
          let Pb : ℕ → Type 0 = λ b. P (get_or stack i 0) b in
          subst Pa e (subst Pb f (h.path i inside)))
          (λ past. let at : i + 1 ≡ length stack = omega (arith, length_push stack w) in
          let P : ℕ → ℕ → Type 0 = λ a b. Contains (node_at net a).fan_ins (length net.inputs + b) in
          let e = sym (get_or_append_left stack (w ∷ []) 0 i (omega arith)) in
          let f = sym (get_or_push stack w 0 (i + 1) (sym at)) in
          let Pa : ℕ → Type 0 = λ a. P a (get_or (stack ++ w ∷ []) (i + 1) 0) in
          let Pb : ℕ → Type 0 = λ b. P (get_or stack i 0) b in
          subst Pa e (subst Pb f (needed i at)))
          (cases_lt (i + 1) (length stack));
      done_ordered = λ u is_done. ⊎_elim
          (λ e. let was : state_at (set states w Open) u ≡ Open = ap (λ m. state_at (set states w Open) m) e ∙ state_at-set_same states w Open in_states in absurd cc)
          (λ ne. h.done_ordered u (sym (state_at-set_other states w u Open ne) ∙ is_done))
          (cases_eq u w);
      order_within = h.order_within;
      order_done = λ i d i_lt. stays _ (h.order_done i d i_lt);
      order_distinct = h.order_distinct;
      after = h.after;
      counted = omega (arith, h.counted, count_new-opened states w in_states fresh, length_push stack w);
    }

-- the last open node, whose fan-ins are all ready, goes into the order
pub IsSorting-closed : (net : Network) (states : List State) (left stack order : List ℕ) (v n : ℕ)
    → IsSorting net states left stack order → length stack ≡ n + 1 → get_or stack n 0 ≡ v → get_or left v 0 ≡ 0
    → IsSorting net (set states v Done) left (take n stack) (order ++ v ∷ [])
IsSorting-closed net states left stack order v n h size top none =
    let v_open : state_at states v ≡ Open = ap (λ m. state_at states m) (sym top) ∙ h.stack_open n (omega arith) in
    let in_states : v < length states = within_from_open states v v_open in
    let v_lt : v < length net.nodes = omega (arith, h.all_states) in
    let stays = StaysDone-set states v Done (not_done_from_open states v v_open) in
    let size2 : length (take n stack) ≡ n = length-take-le n stack (omega arith) in
    let apart : (i : ℕ) → i < length order → get_or order i 0 ≡ v → ⊥ =
    (λ i i_lt e. let is_done : state_at states v ≡ Done = ap (λ m. state_at states m) (sym e) ∙ h.order_done i 0 i_lt in cc) in
    let at_front : (i : ℕ) → i < n → get_or (take n stack) i 0 ≡ get_or stack i 0 = (λ i i_lt. get_or-take n stack i 0 i_lt) in
    record {
      all_states = length-set states v Done ∙ h.all_states;
      all_left = h.all_left;
      left_within = h.left_within;
      passed = λ u k u_lt le k_lt. IsReady-later net states _ _ stays (h.passed u k u_lt le k_lt);
      stack_open = λ i i_lt. let inside : i < n = omega arith in
          ap (λ m. state_at (set states v Done) m) (at_front i inside)
          ∙ state_at-set_other states v _ Done (λ e. h.stack_distinct i n inside (omega arith) (e ∙ sym top))
          ∙ h.stack_open i (omega arith);
      stack_distinct = λ i j below j_lt e. h.stack_distinct i j below (omega arith)
          (sym (at_front i (omega arith)) ∙ e ∙ at_front j (omega arith));
      open_stacked = λ u is_open. ⊎_elim
          (λ e. let was : state_at (set states v Done) u ≡ Done = ap (λ m. state_at (set states v Done) m) e ∙ state_at-set_same states v Done in_states in absurd cc)
          (λ ne. Contains-front stack n u size (h.open_stacked u (sym (state_at-set_other states v u Done ne) ∙ is_open)) (λ e. ne (e ∙ top)))
          (cases_eq u v);
      path = λ i i_lt.
          let P : ℕ → ℕ → Type 0 = λ a b. Contains (node_at net a).fan_ins (length net.inputs + b) in
          let e = sym (at_front i (omega arith)) in
          let f = sym (at_front (i + 1) (omega arith)) in
          let Pa : ℕ → Type 0 = λ a. P a (get_or (take n stack) (i + 1) 0) in
          let Pb : ℕ → Type 0 = λ b. P (get_or stack i 0) b in
          subst Pa e (subst Pb f (h.path i (omega arith)));
      done_ordered = λ u is_done. ⊎_elim
          (λ e. let P : ℕ → Type 0 = λ m. Contains (order ++ v ∷ []) m in subst P (sym e) (Contains-push order v))
          (λ ne. Contains-append_left order (v ∷ []) u (h.done_ordered u (sym (state_at-set_other states v u Done ne) ∙ is_done)))
          (cases_eq u v);
      order_within = All-push (λ u. u < length net.nodes) order v h.order_within v_lt;
      order_done = All-push (λ u. state_at (set states v Done) u ≡ Done) order v (λ i d i_lt. stays _ (h.order_done i d i_lt))
          (state_at-set_same states v Done in_states);
      order_distinct = λ i j below j_lt e. ⊎_elim
          (λ inside. h.order_distinct i j below inside
          (sym (get_or_append_left order (v ∷ []) 0 i (omega arith)) ∙ e ∙ get_or_append_left order (v ∷ []) 0 j inside))
          (λ past. let at : length order ≡ j = omega (arith, length_push order v) in
          apart i (omega arith) (sym (get_or_append_left order (v ∷ []) 0 i (omega arith)) ∙ e ∙ get_or_push order v 0 j at))
          (cases_lt j (length order));
      after = λ j j_lt. ⊎_elim
          (λ inside.
          let Pn : ℕ → Type 0 = λ m. All (IsKnown net (take j (order ++ v ∷ []))) (node_at net m).fan_ins in
          let Pt : List ℕ → Type 0 = λ l. All (IsKnown net l) (node_at net (get_or order j 0)).fan_ins in
          subst Pn (sym (get_or_append_left order (v ∷ []) 0 j inside))
          (subst Pt (sym (take-append-le j order (v ∷ []) (omega arith))) (h.after j inside)))
          (λ past. let at : length order ≡ j = omega (arith, length_push order v) in
          let Pn : ℕ → Type 0 = λ m. All (IsKnown net (take j (order ++ v ∷ []))) (node_at net m).fan_ins in
          let Pt : List ℕ → Type 0 = λ l. All (IsKnown net l) (node_at net v).fan_ins in
          subst Pn (sym (get_or_push order v 0 j at))
          (subst Pt (sym (take_at order (v ∷ []) j at))
          (λ k d k_lt.
          let Ps : ℕ → Type 0 = λ s. IsKnown net order s in
          subst Ps (get_or_default (node_at net v).fan_ins k 0 d k_lt)
          (⊎_elim (λ here. inl here) (λ is_done. inr (h.done_ordered _ is_done))
          (h.passed v k v_lt (omega arith) k_lt)))))
          (cases_lt j (length order));
      counted = omega (arith, h.counted, count_new-closed states v in_states v_open, length_push order v);
    }
