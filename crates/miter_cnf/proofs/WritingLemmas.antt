-- Clauses that are written one after another.
use Rattle.std.proofs.Common.{◌≡◌, ℕ, ◌+◌, List, [], ◌∷◌, ◌++◌, map, ap, sym, subst, ◌∙◌, append_assoc}
use Rattle.std.proofs.lemmas.List.{append-nil, map-append}
use Rattle.clause_defs.specs.Clauses.{Lits, clause_of}
use Rattle.fabric_defs.specs.Numbered.{list_of, joined}
use Rattle.fabric_laws.proofs.NumberedLemmas.{list_of-more, joined-more}
use Rattle.miter_cnf.specs.Writing.{Adds}

-- nothing is added
pub Adds-none : (old : List Lits) → Adds old [] old
Adds-none old = sym (append-nil old)

-- what is added later stands behind
pub Adds-more : (old mid new xs ys : List Lits) → Adds old xs mid → Adds mid ys new → Adds old (xs ++ ys) new
Adds-more old mid new xs ys p q =
    q ∙ ap (λ cs. cs ++ map clause_of ys) p ∙ append_assoc old (map clause_of xs) (map clause_of ys)
    ∙ ap (λ cs. old ++ cs) (sym (map-append clause_of xs ys))

-- one more part
pub Adds-joined : (old mid new : List Lits) (n : ℕ) (f : ℕ → List Lits) → Adds old (joined n f) mid → Adds mid (f n) new
    → Adds old (joined (n + 1) f) new
Adds-joined old mid new n f p q =
    let P : List Lits → Type 0 = λ cs. Adds old cs new in
    subst P (sym (joined-more n f)) (Adds-more old mid new (joined n f) (f n) p q)

-- one more clause
pub Adds-list_of : (old mid new : List Lits) (n : ℕ) (f : ℕ → Lits) → Adds old (list_of n f) mid → Adds mid (f n ∷ []) new
    → Adds old (list_of (n + 1) f) new
Adds-list_of old mid new n f p q =
    let P : List Lits → Type 0 = λ cs. Adds old cs new in
    subst P (sym (list_of-more n f)) (Adds-more old mid new (list_of n f) (f n ∷ []) p q)

-- the image of one more element
pub map-list_of-more : {X Y : Type 0} (g : X → Y) (n : ℕ) (f : ℕ → X)
    → map g (list_of (n + 1) f) ≡ map g (list_of n f) ++ g (f n) ∷ []
map-list_of-more g n f = ap (λ xs. map g xs) (list_of-more n f) ∙ map-append g (list_of n f) (f n ∷ [])

-- one more clause of a list that is made of another
pub Adds-map_list_of : (old mid new : List Lits) (g : ℕ → Lits) (n : ℕ) (f : ℕ → ℕ) → Adds old (map g (list_of n f)) mid
    → Adds mid (g (f n) ∷ []) new → Adds old (map g (list_of (n + 1) f)) new
Adds-map_list_of old mid new g n f p q =
    let P : List Lits → Type 0 = λ cs. Adds old cs new in
    subst P (sym (map-list_of-more g n f)) (Adds-more old mid new (map g (list_of n f)) (g (f n) ∷ []) p q)
