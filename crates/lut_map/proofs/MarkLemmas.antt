-- Marks on nodes, and the pass that finds the needed ones.
use Rattle.std.proofs.Common.{◌≡◌, ℕ, suc, ◌+◌, ◌-◌, ◌<◌, ◌≤◌, ◌↔◌, ◌⊎◌, inl, inr, ⊎_elim, Bool, true, false, List, [], ◌∷◌, ◌++◌, length, take, get_or, slice_get, Some, set, refl, ap, sym, subst, ◌∙◌, arith}
use Rattle.std.proofs.lemmas.List.{length-map, get_or-set_same, get_or-set_other, take_more, get_or-take, get_or_default, length-take-le}
use Rattle.std.proofs.lemmas.Bool.{cases_eq, cases_lt}
use Rattle.std.proofs.lemmas.Option.{get_or_from_slice_get}
use Rattle.net_defs.specs.Nets.{IsNet}
use Rattle.map_laws.proofs.MappingLemmas.{outputs-within}
use Rattle.clause_defs.specs.Clauses.{Has}
use Rattle.net_defs.specs.Networks.{Output, Network, node_at, signals}
use Rattle.net_defs.specs.Evaluation.{output_signals}
use Rattle.net_defs.specs.Orders.{IsKnown, IsOrder}
use Rattle.map_defs.specs.Needed.{HasFanIns, IsNeeded}
use Rattle.lut_map.specs.Marks.{is_marked, IsMarked}

-- the members of a list with one more element
pub Has-push : (xs : List ℕ) (x y : ℕ) → Has (xs ++ x ∷ []) y ↔ (Has xs y ⊎ (x ≡ y))
Has-push [] x y = (λ h. ⊎_elim (λ e. inr e) (λ n. absurd n) h, λ h. ⊎_elim (λ n. absurd n) (λ e. inl e) h)
Has-push (z ∷ xs) x y =
    let rest = Has-push xs x y in (
      λ h. ⊎_elim (λ e. inl (inl e)) (λ more. ⊎_elim (λ m. inl (inr m)) (λ e. inr e) (rest.0 more)) h,
      λ h. ⊎_elim (λ m. ⊎_elim (λ e. inl e) (λ more. inr (rest.1 (inl more))) m) (λ e. inr (rest.1 (inr e))) h,
    )

-- a mark that is set
pub marked-set : (marks : List Bool) (k v : ℕ) → k < length marks → IsMarked (set marks k true) v ↔ (IsMarked marks v ⊎ (k ≡ v))
marked-set marks k v lt =
    ⊎_elim
    (λ (same : v ≡ k). (
      λ _. inr (sym same),
      λ _. ap (λ m. get_or (set marks k true) m false) same ∙ get_or-set_same marks k true false lt,
    ))
    (λ (other : v ≡ k → ⊥). (
      λ h. inl (sym (get_or-set_other marks k v true false other) ∙ h),
      λ h. ⊎_elim (λ m. get_or-set_other marks k v true false other ∙ m) (λ e. absurd (other (sym e))) h,
    ))
    (cases_eq v k)

-- the node of a signal that isn't an input is marked
pub node_marked : (marks : List Bool) (inputs signal v : ℕ) → inputs ≤ signal → signal < inputs + length marks
    → IsMarked (set marks (signal - inputs) true) v ↔ (IsMarked marks v ⊎ (signal ≡ inputs + v))
node_marked marks inputs signal v le lt =
    let h = marked-set marks (signal - inputs) v (omega arith) in (
      λ m. ⊎_elim (λ old. inl old) (λ e. inr (omega arith)) (h.0 m),
      λ m. ⊎_elim (λ old. h.1 (inl old)) (λ e. h.1 (inr (omega arith))) m,
    )

-- an input marks nothing
pub input_marks : (marks : List Bool) (inputs signal v : ℕ) → signal < inputs → IsMarked marks v ↔ (IsMarked marks v ⊎ (signal ≡ inputs + v))
input_marks marks inputs signal v lt = (λ m. inl m, λ m. ⊎_elim (λ old. old) (λ e. absurd (omega arith)) m)

-- beside those that were marked before, the nodes among these signals are
pub record AreMarked (inputs : ℕ) (before : List Bool) (ss : List ℕ) (marks : List Bool) : Type 0 where
  pub count : length marks ≡ length before
  pub marked : (v : ℕ) → IsMarked marks v ↔ (IsMarked before v ⊎ Has ss (inputs + v))

-- no signal marks nothing
pub marked_none : (inputs : ℕ) (marks : List Bool) → AreMarked inputs marks [] marks
marked_none inputs marks = record {
  count = refl;
  marked = λ v. (λ m. inl m, λ m. ⊎_elim (λ old. old) (λ e. absurd e) m);
}

-- one more signal marks its node
pub marked_more : (inputs : ℕ) (before : List Bool) (ss : List ℕ) (i s : ℕ) (marks new : List Bool) → i < length ss → get_or ss i s ≡ s
    → AreMarked inputs before (take i ss) marks → length new ≡ length marks
    → ((v : ℕ) → IsMarked new v ↔ (IsMarked marks v ⊎ (s ≡ inputs + v)))
    → AreMarked inputs before (take (i + 1) ss) new
marked_more inputs before ss i s marks new lt at h count marked =
    let P : List ℕ → Type 0 = λ l. AreMarked inputs before l new in
    subst P (sym (take_more ss i s lt ∙ ap (λ x. take i ss ++ x ∷ []) at)) (record {
      count = count ∙ h.count;
      marked = λ v.
          let push = Has-push (take i ss) s (inputs + v) in
          let old = h.marked v in
          let now = marked v in (
            λ m. ⊎_elim (λ o. ⊎_elim (λ b. inl b) (λ has. inr (push.1 (inl has))) (old.0 o)) (λ e. inr (push.1 (inr e))) (now.0 m),
            λ m. ⊎_elim (λ b. now.1 (inl (old.1 (inl b))))
                (λ has. ⊎_elim (λ has2. now.1 (inl (old.1 (inr has2)))) (λ e. now.1 (inr e)) (push.0 has)) m,
          );
    })

-- the nodes from place j of the order on that are marked have their fan-ins marked, and nothing is marked that isn't in every such set
pub record IsSwept (net : Network) (order : List ℕ) (j : ℕ) (marks : List Bool) : Type 0 where
  pub count : length marks ≡ length net.nodes
  pub outputs : (v : ℕ) → Has (output_signals net) (length net.inputs + v) → IsMarked marks v
  pub fan_ins : (m v : ℕ) → j ≤ m → m < length order → IsMarked marks (get_or order m 0)
      → Has (node_at net (get_or order m 0)).fan_ins (length net.inputs + v) → IsMarked marks v
  pub least : (other : ℕ → Bool) → HasFanIns net other → (v : ℕ) → v < length net.nodes → IsMarked marks v → other v ≡ true

-- once the outputs are marked
pub swept_none : (net : Network) (order : List ℕ) (j : ℕ) (before marks : List Bool) → length before ≡ length net.nodes
    → ((v : ℕ) → IsMarked before v → ⊥) → AreMarked (length net.inputs) before (output_signals net) marks → length order ≤ j
    → IsSwept net order j marks
swept_none net order j before marks size none h le = record {
  count = h.count ∙ size;
  outputs = λ v has. (h.marked v).1 (inr has);
  fan_ins = λ m v le2 lt mark has. absurd (omega arith);
  least = λ other closed v lt mark. ⊎_elim (λ b. absurd (none v b)) (λ has. closed.outputs v lt has) ((h.marked v).0 mark);
}

-- where a member stands
place_of : (xs : List ℕ) (x : ℕ) → Has xs x → (k : ℕ) × (k < length xs) × (get_or xs k 0 ≡ x)
place_of [] x h = absurd h
place_of (y ∷ xs) x (inl e) = (0, omega arith, e)
place_of (y ∷ xs) x (inr m) = let at = place_of xs x m in (suc at.0, let lt : at.0 < length xs = at.1 in omega arith, at.2)

-- a place that isn't before another, and isn't the same, is behind it
later_than : (j m : ℕ) → j ≤ m → (m ≡ j → ⊥) → j < m
later_than j m le other = ⊎_elim (λ lt. lt) (λ ge. absurd (other (omega arith))) (cases_lt j m)

-- no test is true and false
both_ways : {b : Bool} → b ≡ false → b ≡ true → ⊥
both_ways e f = cc

-- a node earlier in the order isn't a later one
earlier : (net : Network) (order : List ℕ) (j m s : ℕ) → IsOrder net order → j < length order → j < m → m < length order
    → Has (node_at net (get_or order j 0)).fan_ins (length net.inputs + get_or order m 0) → ⊥
earlier net order j m s h lt less within has =
    let at = place_of (node_at net (get_or order j 0)).fan_ins (length net.inputs + get_or order m 0) has in
    let k : ℕ = at.0 in
    let known = h.after j lt k 0 at.1 in
    let P : ℕ → Type 0 = λ t. IsKnown net (take j order) t in
    ⊎_elim
    (λ input. absurd (omega arith))
    (λ inside. let i : ℕ = inside.0 in
    let size : length (take j order) ≡ j = length-take-le j order (omega arith) in
    let i_lt : i < j = omega (arith, inside.1) in
    let e : length net.inputs + get_or order m 0 - length net.inputs ≡ get_or order m 0 = omega arith in
    let found : get_or order i 0 ≡ get_or order m 0 =
    get_or_default order i 0 _ (omega arith) ∙ sym (get_or-take j order i _ i_lt) ∙ inside.2 ∙ e in
    h.nodes.distinct i m (omega arith) (let size2 = h.nodes.as_many in omega arith) found)
    (subst P at.2 known)

-- a marked node at place j has its fan-ins marked
pub swept_more : (net : Network) (order : List ℕ) (j : ℕ) (marks new : List Bool) → IsOrder net order → j < length order
    → IsMarked marks (get_or order j 0) → IsSwept net order (j + 1) marks
    → length new ≡ length marks
    → ((v : ℕ) → IsMarked new v ↔ (IsMarked marks v ⊎ Has (node_at net (get_or order j 0)).fan_ins (length net.inputs + v)))
    → IsSwept net order j new
swept_more net order j marks new h lt here old count marked = record {
  count = count ∙ old.count;
  outputs = λ v has. (marked v).1 (inl (old.outputs v has));
  fan_ins = λ m v le within mark has.
      ⊎_elim
      (λ (same : m ≡ j). let P : ℕ → Type 0 = λ k. Has (node_at net (get_or order k 0)).fan_ins (length net.inputs + v) in
      (marked v).1 (inr (subst P same has)))
      (λ other. let later : j < m = later_than j m le other in
      ⊎_elim
      (λ before. (marked v).1 (inl (old.fan_ins m v (omega arith) within before has)))
      (λ fresh. absurd (earlier net order j m 0 h lt later within fresh))
      ((marked (get_or order m 0)).0 mark))
      (cases_eq m j);
  least = λ other closed v v_lt mark.
      let j_lt : get_or order j 0 < length net.nodes = h.nodes.within j 0 lt in
      ⊎_elim
      (λ before. old.least other closed v v_lt before)
      (λ has. closed.fan_ins (get_or order j 0) v j_lt v_lt (old.least other closed (get_or order j 0) j_lt here) has)
      ((marked v).0 mark);
}

-- and one that isn't marked needs nothing
pub swept_unmarked : (net : Network) (order : List ℕ) (j : ℕ) (marks : List Bool) → is_marked marks (get_or order j 0) ≡ false
    → IsSwept net order (j + 1) marks → IsSwept net order j marks
swept_unmarked net order j marks off old = record {
  count = old.count;
  outputs = old.outputs;
  fan_ins = λ m v le within mark has.
      ⊎_elim
      (λ (same : m ≡ j). let P : ℕ → Type 0 = λ k. IsMarked marks (get_or order k 0) in absurd (both_ways off (subst P same mark)))
      (λ other. let later : j < m = later_than j m le other in old.fan_ins m v (omega arith) within mark has)
      (cases_eq m j);
  least = old.least;
}

-- when all nodes are passed, the marked ones are the needed ones
pub swept_all : (net : Network) (order : List ℕ) (j : ℕ) (marks : List Bool) → IsOrder net order → j ≡ 0 → IsSwept net order j marks → IsNeeded net (is_marked marks)
swept_all net order j marks h e old = record {
  closed = record {
    outputs = λ v lt has. old.outputs v has;
    fan_ins = λ u v u_lt v_lt mark has.
        let at = h.nodes.complete u u_lt in
        let m : ℕ = at.0 in
        let is : get_or order m 0 ≡ u = get_or_default order m 0 u at.1 ∙ at.2 in
        let P : ℕ → Type 0 = λ k. IsMarked marks k in
        let Q : ℕ → Type 0 = λ k. Has (node_at net k).fan_ins (length net.inputs + v) in
        old.fan_ins m v (omega arith) at.1 (subst P (sym is) mark) (subst Q (sym is) has);
  };
  least = old.least;
}

-- the signal of an output
pub record IsOutputSignal (net : Network) (o s : ℕ) : Type 0 where
  pub within : s < signals net
  pub place : o < length (output_signals net)
  pub read : get_or (output_signals net) o s ≡ s

-- the signal of an output is one of the network's
pub output_signal-read : (net : Network) (o s : ℕ) → IsNet net → o < length net.outputs → slice_get (output_signals net) o ≡ Some s → IsOutputSignal net o s
output_signal-read net o s h lt read =
    let outs = output_signals net in
    let place : o < length outs = omega (arith, length-map net.outputs (λ (p : Output). p.signal)) in
    let at : get_or outs o s ≡ s = get_or_from_slice_get outs o s s read in
    let P : ℕ → Type 0 = λ t. t < signals net in
    record {
      within = subst P at (outputs-within net h o s place);
      place = place;
      read = at;
    }
