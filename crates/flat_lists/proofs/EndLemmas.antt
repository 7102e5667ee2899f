-- Parts of a list that grows and shrinks at its end.
use Rattle.std.proofs.Common.{◌≡◌, ℕ, zero, suc, ◌+◌, ◌-◌, ◌^◌, ◌<◌, ◌≤◌, if◌then◌else◌, List, [], ◌∷◌, ◌++◌, length, get_or, take, drop, slice_get, Some, Result, Ok, Err, IsOk, is_ok, refl, sym, ap, ◌∙◌, subst, arith, length-append, length-take, length-drop}
use Rattle.std.proofs.lemmas.List.{length-take-le, drop_at, take_all, take-append-le, drop-append-le, take-take, drop-take}
use Rattle.std.proofs.lemmas.List.Sums.{sum_by-cons}
use Rattle.flat_lists.specs.Flat.{Flat, total}
use Rattle.flat_lists.specs.Ends.{parts, begin_of, EndsInOrder, IsFlat}

-- no part begins behind the end
pub begins_before_end : (from : ℕ) (ends : List ℕ) (end : ℕ) → EndsInOrder from ends end → from ≤ end
begins_before_end from [] end h = omega arith
begins_before_end from (e ∷ es) end h = let rest = begins_before_end e es end h.1 in let le = h.0 in omega arith

-- there are as many lists as ends
pub length-parts : {T : Type 0} (from : ℕ) (ends : List ℕ) (items : List T) → length (parts from ends items) ≡ length ends
length-parts from [] items = refl
length-parts from (e ∷ es) items = ap suc (length-parts e es items)

-- the parts have all items from the first part's beginning on
pub total-parts : {T : Type 0} (from : ℕ) (ends : List ℕ) (items : List T) → EndsInOrder from ends (length items)
    → total (parts from ends items) + from ≡ length items
total-parts from [] items h = omega arith
total-parts from (e ∷ es) items h =
    let le = h.0 in
    let within : e ≤ length items = begins_before_end e es (length items) h.1 in
    let first : length (take (e - from) (drop from items)) ≡ e - from = simp (length-take, length-drop) (omega arith) in
    let cons : total (parts from (e ∷ es) items) ≡ length (take (e - from) (drop from items)) + total (parts e es items) = sum_by-cons length (take (e - from) (drop from items)) (parts e es items) in
    omega (arith, total-parts e es items h.1, first, cons)

-- list k is what stands between the end before it and its own
pub slice_get-parts : {T : Type 0} (from : ℕ) (ends : List ℕ) (items : List T) (k : ℕ) → k < length ends
    → slice_get (parts from ends items) k ≡ Some (take (get_or ends k 0 - begin_of from ends k) (drop (begin_of from ends k) items))
slice_get-parts from [] items k lt = absurd (omega arith)
slice_get-parts from (e ∷ es) items zero lt = refl
slice_get-parts from (e ∷ es) items (suc zero) lt = slice_get-parts e es items zero (omega arith)
slice_get-parts from (e ∷ es) items (suc (suc k)) lt = slice_get-parts e es items (suc k) (omega arith)

-- a list begins no later than it ends, and ends within the items
pub begin_le_end : (from : ℕ) (ends : List ℕ) (end k : ℕ) → EndsInOrder from ends end → k < length ends
    → (begin_of from ends k ≤ get_or ends k 0) × (get_or ends k 0 ≤ end)
begin_le_end from [] end k h lt = absurd (omega arith)
begin_le_end from (e ∷ es) end zero h lt = (h.0, begins_before_end e es end h.1)
begin_le_end from (e ∷ es) end (suc zero) h lt = begin_le_end e es end zero h.1 (omega arith)
begin_le_end from (e ∷ es) end (suc (suc k)) h lt = begin_le_end e es end (suc k) h.1 (omega arith)

-- a part that is put behind the others
pub parts-push : {T : Type 0} (from : ℕ) (ends : List ℕ) (items xs : List T) → EndsInOrder from ends (length items)
    → parts from (ends ++ (length items + length xs) ∷ []) (items ++ xs) ≡ parts from ends items ++ xs ∷ []
parts-push from [] items xs h =
    let behind : drop from (items ++ xs) ≡ xs = drop_at items xs from (sym h) in
    ap (λ ys. ys ∷ []) (rw behind (take_all (length items + length xs - from) xs (omega (arith, h))))
parts-push from (e ∷ es) items xs h =
    let le = h.0 in
    let within : e ≤ length items = begins_before_end e es (length items) h.1 in
    let behind : drop from (items ++ xs) ≡ drop from items ++ xs = drop-append-le from items xs (omega arith) in
    let first : take (e - from) (drop from (items ++ xs)) ≡ take (e - from) (drop from items) =
    rw behind (take-append-le (e - from) (drop from items) xs (omega (arith, length-drop from items))) in
    let rest = parts-push e es items xs h.1 in
    cc

-- ends in order stay so with a later one behind them
pub ordered-push : (from : ℕ) (ends : List ℕ) (end later : ℕ) → EndsInOrder from ends end → end ≤ later
    → EndsInOrder from (ends ++ later ∷ []) later
ordered-push from [] end later h le = (omega arith, refl)
ordered-push from (e ∷ es) end later h le = (h.0, ordered-push e es end later h.1 le)

-- no part begins before the first one
pub begins_after : (from : ℕ) (ends : List ℕ) (end k : ℕ) → EndsInOrder from ends end → k ≤ length ends → from ≤ begin_of from ends k
begins_after from ends end zero h le = omega arith
begins_after from [] end (suc k) h le = absurd (omega arith)
begins_after from (e ∷ es) end (suc zero) h le = h.0
begins_after from (e ∷ es) end (suc (suc k)) h le =
    let first = h.0 in omega (arith, begins_after e es end (suc k) h.1 (omega arith))

-- a list begins within the items
pub begin_within : (from : ℕ) (ends : List ℕ) (end k : ℕ) → EndsInOrder from ends end → k ≤ length ends → begin_of from ends k ≤ end
begin_within from ends end zero h le = begins_before_end from ends end h
begin_within from [] end (suc k) h le = absurd (omega arith)
begin_within from (e ∷ es) end (suc zero) h le = begins_before_end e es end h.1
begin_within from (e ∷ es) end (suc (suc k)) h le = begin_within e es end (suc k) h.1 (omega arith)

-- a list that ends before a cut is the same after the cut
first_kept : {T : Type 0} (from e b : ℕ) (items : List T) → from ≤ e → e ≤ b
    → take (e - from) (drop from (take b items)) ≡ take (e - from) (drop from items)
first_kept from e b items le below =
    let split : b ≡ from + (b - from) = omega arith in
    ap (λ n. take (e - from) (drop from (take n items))) split
    ∙ ap (take (e - from)) (drop-take from (b - from) items)
    ∙ take-take (e - from) (b - from) (drop from items) (omega arith)

-- the first k parts
pub parts-take : {T : Type 0} (from : ℕ) (ends : List ℕ) (items : List T) (k : ℕ) → EndsInOrder from ends (length items) → k ≤ length ends
    → parts from (take k ends) (take (begin_of from ends k) items) ≡ take k (parts from ends items)
parts-take from ends items zero h le = refl
parts-take from [] items (suc k) h le = refl
parts-take from (e ∷ es) items (suc zero) h le =
    ap (λ ys. ys ∷ []) (first_kept from e e items h.0 (omega arith))
parts-take from (e ∷ es) items (suc (suc k)) h le =
    let first = first_kept from e (begin_of e es (suc k)) items h.0 (begins_after e es (length items) (suc k) h.1 (omega arith)) in
    let rest = parts-take e es items (suc k) h.1 (omega arith) in
    cc

-- the first k ends are in order, up to where list k begins
pub ordered-take : (from : ℕ) (ends : List ℕ) (end k : ℕ) → EndsInOrder from ends end → k ≤ length ends
    → EndsInOrder from (take k ends) (begin_of from ends k)
ordered-take from ends end zero h le = refl
ordered-take from [] end (suc k) h le = absurd (omega arith)
ordered-take from (e ∷ es) end (suc zero) h le = (h.0, refl)
ordered-take from (e ∷ es) end (suc (suc k)) h le = (h.0, ordered-take e es end (suc k) h.1 (omega arith))

-- a list behind another begins where that one ends
pub begin_of_later : (ends : List ℕ) (k : ℕ) → 0 < k → get_or ends (k - 1) 0 ≡ begin_of 0 ends k
begin_of_later ends zero h = absurd (omega arith)
begin_of_later ends (suc k) h = ap (λ n. get_or ends n 0) (let e : suc k - 1 ≡ k = omega arith in e)

-- part k, cut out of the items
pub cut-parts : {T : Type 0} (ends : List ℕ) (items : List T) (k start end : ℕ) → EndsInOrder 0 ends (length items) → k < length ends
    → start ≡ begin_of 0 ends k → end ≡ get_or ends k 0
    → slice_get (parts 0 ends items) k ≡ Some (drop start (take end items))
cut-parts ends items k start end h lt s e =
    let range = begin_le_end 0 ends (length items) k h lt in
    let low = range.0 in
    let split : end ≡ start + (end - start) = omega arith in
    slice_get-parts 0 ends items k lt
    ∙ ap Some (ap (λ n. take (n - begin_of 0 ends k) (drop (begin_of 0 ends k) items)) (sym e) ∙ ap (λ n. take (end - n) (drop n items)) (sym s)
    ∙ sym (drop-take start (end - start) items) ∙ ap (λ n. drop start (take n items)) (sym split))

-- after a push
pub IsFlat-push : {T : Type 0} (ends later : List ℕ) (items xs more : List T) (end : ℕ) → IsFlat ends (length items)
    → length items + length xs < 2 ^ 32 → length ends + 1 < 2 ^ 32
    → later ≡ ends ++ end ∷ [] → more ≡ items ++ xs → end ≡ length more → IsFlat later (length more)
IsFlat-push ends later items xs more end h few_items few_lists e f g =
    let longer : length more ≡ length items + length xs = ap length f ∙ length-append items xs in
    let more_lists : length later ≡ length ends + 1 = ap length e ∙ length-append ends (end ∷ []) in
    record {
      ordered = subst (λ es. EndsInOrder 0 es (length more)) (sym e) (subst (λ n. EndsInOrder 0 (ends ++ n ∷ []) (length more)) (sym g) (ordered-push 0 ends (length items) (length more) h.ordered (omega arith)));
      few_items = omega arith;
      few_lists = omega arith;
    }

-- items with an end behind them are one more list
pub parts-pushed : {T : Type 0} (ends later : List ℕ) (items xs more : List T) (end : ℕ) → IsFlat ends (length items)
    → later ≡ ends ++ end ∷ [] → more ≡ items ++ xs → end ≡ length more
    → parts 0 later more ≡ parts 0 ends items ++ xs ∷ []
parts-pushed ends later items xs more end h e f g =
    let end_is : end ≡ length items + length xs = g ∙ ap length f ∙ length-append items xs in
    ap (λ es. parts 0 es more) e ∙ ap (λ n. parts 0 (ends ++ n ∷ []) more) end_is
    ∙ ap (parts 0 (ends ++ (length items + length xs) ∷ [])) f ∙ parts-push 0 ends items xs h.ordered

-- after a pop
pub IsFlat-pop : {T : Type 0} (ends fewer : List ℕ) (items less : List T) (k begin : ℕ) → IsFlat ends (length items)
    → k ≤ length ends → begin ≡ begin_of 0 ends k → fewer ≡ take k ends → less ≡ take begin items → IsFlat fewer (length less)
IsFlat-pop ends fewer items less k begin h le b e f =
    let within : begin_of 0 ends k ≤ length items = begin_within 0 ends (length items) k h.ordered le in
    let shorter : length less ≡ begin_of 0 ends k = ap length f ∙ simp length-take (omega arith) in
    let fewer_lists : length fewer ≡ k = ap length e ∙ length-take-le k ends le in
    let few_items = h.few_items in
    let few_lists = h.few_lists in
    record {
      ordered = subst (λ es. EndsInOrder 0 es (length less)) (sym e) (subst (λ n. EndsInOrder 0 (take k ends) n) (sym shorter) (ordered-take 0 ends (length items) k h.ordered le));
      few_items = omega arith;
      few_lists = omega arith;
    }

-- the first k ends and the items up to there are the first k lists
pub parts-popped : {T : Type 0} (ends fewer : List ℕ) (items less : List T) (k begin : ℕ) → IsFlat ends (length items)
    → k ≤ length ends → begin ≡ begin_of 0 ends k → fewer ≡ take k ends → less ≡ take begin items
    → parts 0 fewer less ≡ take k (parts 0 ends items)
parts-popped ends fewer items less k begin h le b e f =
    ap (λ es. parts 0 es less) e ∙ ap (parts 0 (take k ends)) (f ∙ ap (λ n. take n items) b) ∙ parts-take 0 ends items k h.ordered le

-- what the lists show of the arrays
pub record Shows {T : Type 0} (f : Flat T) (ends : List ℕ) (items : List T) (list_room item_room : ℕ) : Type 0 where
  pub all : total f.lists ≡ length items
  pub many : length f.lists ≡ length ends
  pub list_room_is : f.list_room ≡ list_room
  pub item_room_is : f.item_room ≡ item_room

-- lists that are seen from these arrays have as many items and as much room as they
pub shows : {T : Type 0} (f : Flat T) (ends : List ℕ) (items : List T) (list_room item_room : ℕ) → IsFlat ends (length items)
    → record { lists = parts 0 ends items; list_room = list_room; item_room = item_room } ≡ f → Shows f ends items list_room item_room
shows {T} f ends items list_room item_room h e =
    let lists_are : parts 0 ends items ≡ f.lists = ap (λ (g : Flat T). g.lists) e in
    record {
      all = ap total (sym lists_are) ∙ (let parted = total-parts 0 ends items h.ordered in omega arith);
      many = ap length (sym lists_are) ∙ length-parts 0 ends items;
      list_room_is = ap (λ (g : Flat T). g.list_room) (sym e);
      item_room_is = ap (λ (g : Flat T). g.item_room) (sym e);
    }

-- what an extension that succeeded left
pub after_ok : {T E X : Type 0} (r : Result T E) (now after before : X) → IsOk r → now ≡ (if is_ok r then after else before) → now ≡ after
after_ok (Ok x) now after before h e = e
after_ok (Err x) now after before h e = absurd (cc)
