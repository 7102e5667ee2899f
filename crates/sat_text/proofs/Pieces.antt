-- Printing one piece after another.
use Rattle.std.proofs.Common.{◌≡◌, ℕ, zero, suc, ◌+◌, ◌<◌, List, [], ◌∷◌, ◌++◌, length, get_or, drop, slice_get, Some, refl, sym, ap, ◌∙◌, append_assoc, add-one, arith, inl, inr}
use Rattle.std.specs.List.{flat_map}
use Rattle.std.proofs.lemmas.List.{drop_more}
use Rattle.clause_defs.specs.Clauses.{Has, Lits}
use Rattle.clause_defs.specs.Traces.{Entry, index_at, stated_at, antecedents_at, index_of, stated_of, antecedents_of}
use Rattle.sat_text_defs.specs.Printed.{trace_line, entry_text, line_of}

-- what was printed with one more element's text, and the texts of the rest, are the whole
piece : {X : Type 0} (f : X → List ℕ) (xs rest : List X) (x : X) (out next whole : List ℕ) → xs ≡ x ∷ rest → next ≡ out ++ f x
    → out ++ flat_map f xs ≡ whole → next ++ flat_map f rest ≡ whole
piece f xs rest x out next whole e n h =
    ap (λ (l : List ℕ). l ++ flat_map f rest) n
    ∙ append_assoc out (f x) (flat_map f rest)
    ∙ sym (ap (λ l. out ++ flat_map f l) e)
    ∙ h

-- one more piece was printed
pub piece_more : {X : Type 0} (f : X → List ℕ) (xs : List X) (i : ℕ) (x : X) (out next whole : List ℕ) → i < length xs → x ≡ get_or xs i x → next ≡ out ++ f x
    → out ++ flat_map f (drop i xs) ≡ whole → next ++ flat_map f (drop (i + 1) xs) ≡ whole
piece_more f xs i x out next whole h e n so_far =
    piece f (drop i xs) (drop (i + 1) xs) x out next whole (drop_more xs i x h ∙ ap (λ y. y ∷ drop (i + 1) xs) (sym e)) n so_far

-- the element at a place of a list
pub at_place : {X : Type 0} (xs : List X) (k : ℕ) → k < length xs → (x : X) × (drop k xs ≡ x ∷ drop (suc k) xs) × (slice_get xs k ≡ Some x)
at_place [] k h = absurd (omega arith)
at_place (x ∷ xs) zero h = (x, refl, refl)
at_place (x ∷ xs) (suc k) h = let rest = at_place xs k (omega arith) in (rest.0, rest.1, rest.2)

-- one more clause of the trace was printed
pub entry_more : (t : List Entry) (k : ℕ) (out next whole : List ℕ) → k < length t → next ≡ out ++ entry_text t (index_at t k) (stated_at t k) (antecedents_at t k)
    → out ++ flat_map (trace_line t) (drop k t) ≡ whole → next ++ flat_map (trace_line t) (drop (k + 1) t) ≡ whole
entry_more t k out next whole h n so_far =
    let e = at_place t k h in
    let same : entry_text t (index_at t k) (stated_at t k) (antecedents_at t k) ≡ trace_line t e.0 =
    ap (λ o. entry_text t (index_of o) (stated_of o) (antecedents_of o)) e.2 in
    rw add-one (piece (trace_line t) (drop k t) (drop (suc k) t) e.0 out next whole e.1 (n ∙ ap (λ (l : List ℕ). out ++ l) same) so_far)

-- one more clause of the list was printed
pub line_more : (f : List Lits) (k : ℕ) (c : Lits) (out next whole : List ℕ) → k < length f → slice_get f k ≡ Some c → next ≡ out ++ line_of c
    → out ++ flat_map line_of (drop k f) ≡ whole → next ++ flat_map line_of (drop (k + 1) f) ≡ whole
line_more f k c out next whole h is n so_far =
    let e = at_place f k h in
    let same : e.0 ≡ c = cc in
    rw add-one (piece line_of (drop k f) (drop (suc k) f) e.0 out next whole e.1 (n ∙ ap (λ (x : Lits). out ++ line_of x) (sym same)) so_far)

-- what stands at a place of a list is in it
pub Has-get_or : (xs : List ℕ) (i : ℕ) → i < length xs → Has xs (get_or xs i 0)
Has-get_or [] i h = absurd (omega arith)
Has-get_or (x ∷ xs) zero h = inl refl
Has-get_or (x ∷ xs) (suc i) h = inr (Has-get_or xs i (omega arith))
