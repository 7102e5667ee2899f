-- States after a write, and signals that are known or ready.
use Rattle.std.proofs.Common.{◌≡◌, ℕ, ◌+◌, ◌<◌, inl, inr, ⊎_elim, List, [], ◌∷◌, length, set, take, get_or, count_by, cond, All, Contains, refl, ap, sym, ◌∙◌, arith}
use Rattle.std.proofs.lemmas.List.{get_or-set_same, get_or-set_other, get_or_past, get_or-take, length-take-le, get_or_default}
use Rattle.std.proofs.lemmas.List.Sums.{sum_by-set, sum_by-cons}
use Rattle.std.proofs.lemmas.List.Elements.{All-head, All-tail}
use Rattle.std.proofs.lemmas.Bool.{cases_eq, cases_lt}
use Rattle.net_defs.specs.Networks.{Network}
use Rattle.netlist.specs.Sortings.{is_new, state_at, IsReady, StaysDone}
use Rattle.netlist.specs.declared.order.State.{State}
use Rattle.netlist.specs.declared.order.State.TheVariants.{New, Open, Done}

-- the state that was written
pub state_at-set_same : (states : List State) (v : ℕ) (s : State) → v < length states → state_at (set states v s) v ≡ s
state_at-set_same states v s lt = get_or-set_same states v s New lt

-- the states of other nodes stay
pub state_at-set_other : (states : List State) (v u : ℕ) (s : State) → (u ≡ v → ⊥) → state_at (set states v s) u ≡ state_at states u
state_at-set_other states v u s ne = get_or-set_other states v u s New ne

-- a node that was met is one of the nodes
pub within_from_open : (states : List State) (v : ℕ) → state_at states v ≡ Open → v < length states
within_from_open states v h =
    ⊎_elim (λ lt. lt) (λ le. let e : state_at states v ≡ New = get_or_past states v New le in absurd cc) (cases_lt v (length states))

-- a node that is done is one of the nodes
pub within_from_done : (states : List State) (v : ℕ) → state_at states v ≡ Done → v < length states
within_from_done states v h =
    ⊎_elim (λ lt. lt) (λ le. let e : state_at states v ≡ New = get_or_past states v New le in absurd cc) (cases_lt v (length states))

-- a node that wasn't done may be set to any state, or one that is met closed
pub StaysDone-set : (states : List State) (v : ℕ) (s : State) → (state_at states v ≡ Done → ⊥) → StaysDone states (set states v s)
StaysDone-set states v s ne u h =
    ⊎_elim (λ e. absurd (ne (ap (λ m. state_at states m) (sym e) ∙ h)))
    (λ other. state_at-set_other states v u s other ∙ h) (cases_eq u v)

-- what is ready stays so
pub IsReady-later : (net : Network) (old new : List State) (s : ℕ) → StaysDone old new → IsReady net old s → IsReady net new s
IsReady-later net old new s stays h = ⊎_elim (λ here. inl here) (λ done. inr (stays _ done)) h

-- a new node is counted once less when it is met
pub count_new-opened : (states : List State) (v : ℕ) → v < length states → state_at states v ≡ New
    → count_by is_new (set states v Open) + 1 ≡ count_by is_new states
count_new-opened states v lt h =
    let e = sum_by-set (λ s. cond (is_new s) 1 0) states v Open New lt in
    let f : cond (is_new (state_at states v)) 1 0 ≡ 1 = ap {B = ℕ} (λ s. cond (is_new s) 1 0) h in
    omega (arith, e, f)

-- and not again when it is closed
pub count_new-closed : (states : List State) (v : ℕ) → v < length states → state_at states v ≡ Open
    → count_by is_new (set states v Done) ≡ count_by is_new states
count_new-closed states v lt h =
    let e = sum_by-set (λ s. cond (is_new s) 1 0) states v Done New lt in
    let f : cond (is_new (state_at states v)) 1 0 ≡ 0 = ap {B = ℕ} (λ s. cond (is_new s) 1 0) h in
    omega (arith, e, f)

-- once all nodes are done, none is new
pub count_new-done : (states : List State) → All (λ s. s ≡ Done) states → count_by is_new states ≡ 0
count_new-done [] h = refl
count_new-done (s ∷ states) h =
    let e = sum_by-cons (λ t. cond (is_new t) 1 0) s states in
    let f : cond (is_new s) 1 0 ≡ 0 = ap {B = ℕ} (λ t. cond (is_new t) 1 0) (All-head (λ t. t ≡ Done) s states h) in
    omega (arith, e, f, count_new-done states (All-tail (λ t. t ≡ Done) s states h))

-- what is in a list but isn't its last element is in the rest
pub Contains-front : (xs : List ℕ) (n x : ℕ) → length xs ≡ n + 1 → Contains xs x → (x ≡ get_or xs n 0 → ⊥) → Contains (take n xs) x
Contains-front xs n x e h ne =
    let k : ℕ = h.0 in
    ⊎_elim
    (λ lt. (
      k,
      let l : k < length (take n xs) = omega (arith, length-take-le n xs (omega arith)) in l,
      get_or-take n xs k x lt ∙ h.2,
    ))
    (λ le. let at : k ≡ n = omega (arith, h.1) in
    absurd (ne (sym h.2 ∙ ap (λ m. get_or xs m x) at ∙ get_or_default xs n x 0 (omega arith))))
    (cases_lt k n)

-- a new node isn't done
pub not_done_from_new : (states : List State) (v : ℕ) → state_at states v ≡ New → state_at states v ≡ Done → ⊥
not_done_from_new states v h k = cc

-- nor is an open one
pub not_done_from_open : (states : List State) (v : ℕ) → state_at states v ≡ Open → state_at states v ≡ Done → ⊥
not_done_from_open states v h k = cc
