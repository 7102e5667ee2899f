-- What the trace keeps when a judged clause is appended.
use Rattle.std.proofs.Common.{◌≡◌, ◌≢◌, ℕ, zero, suc, ◌<◌, List, [], ◌∷◌, length, get_or, None, Ok, refl, sym, ap, ◌∙◌, arith}
use Rattle.clause_defs.specs.Clauses.{Has}
use Rattle.clause_defs.specs.Traces.{Entry, index_at, place_of}
use Rattle.sat_text_defs.specs.TraceReading.{places_from, indices_of}
use Rattle.trace_places.proofs.PlaceLemmas.{place_of-none, places_from-below}

-- the index of clause k is number k of the indices
index_at-indices : (t : List Entry) (k : ℕ) → index_at t k ≡ get_or (indices_of t) k 0
index_at-indices [] k = refl
index_at-indices (e ∷ es) zero = refl
index_at-indices (e ∷ es) (suc k) = index_at-indices es k

-- there are as many indices as clauses
length-indices : (t : List Entry) → length (indices_of t) ≡ length t
length-indices [] = refl
length-indices (e ∷ es) = ap suc (length-indices es)

-- an index without a place is that of no clause
pub index_is_other : (t : List Entry) (indices : List ℕ) (x : ℕ) → indices ≡ indices_of t → place_of indices x ≡ None
    → (k : ℕ) → k < length t → index_at t k ≢ x
index_is_other t indices x e none k h same =
    let none_of : place_of (indices_of t) x ≡ None = ap (λ (is : List ℕ). place_of is x) (sym e) ∙ none in
    let lengths = length-indices t in
    place_of-none (indices_of t) x none_of k (omega arith) (sym (index_at-indices t k) ∙ same)

-- the places that are found are those of clauses
pub places_are_earlier : (t : List Entry) (indices xs qs : List ℕ) → indices ≡ indices_of t → places_from indices [] xs ≡ Ok qs
    → (p : ℕ) → Has qs p → p < length t
places_are_earlier t indices xs qs e found p h =
    let below : p < length indices = places_from-below indices [] xs qs (λ q k. absurd k) found p h in
    let lengths = length-indices t in
    let same : length indices ≡ length (indices_of t) = ap length e in omega arith
