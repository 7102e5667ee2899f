-- What the first marks of a row ask.
use Rattle.std.proofs.Common.{◌≡◌, ℕ, zero, suc, ◌+◌, ◌<◌, List, [], ◌∷◌, ◌++◌, length, map, take, get_or, ap, sym, subst, ◌∙◌, append_assoc, arith}
use Rattle.std.proofs.lemmas.List.{append-nil, map-append}
use Rattle.blif_defs.specs.declared.mark.Mark.{Mark}
use Rattle.clause_defs.specs.Literals.{Literal, negation}
use Rattle.clause_defs.specs.Clauses.{Lits}
use Rattle.miter_defs.specs.Miters.{mark_literals, row_literals}
use Rattle.miter_cnf.specs.Writing.{Adds}
use Rattle.miter_cnf.proofs.WritingLemmas.{Adds-more}

-- what one more mark asks
pub row_literals-more : (row : List Mark) (ss : List ℕ) (i : ℕ) (d : Mark) → i < length row → i < length ss
    → row_literals (take (i + 1) row) ss ≡ row_literals (take i row) ss ++ mark_literals (get_or row i d) (get_or ss i 0)
row_literals-more [] ss i d lt within = absurd (omega arith)
row_literals-more (m ∷ ms) [] i d lt within = absurd (omega arith)
row_literals-more (m ∷ ms) (s ∷ ss) zero d lt within = append-nil (mark_literals m s)
row_literals-more (m ∷ ms) (s ∷ ss) (suc i) d lt within =
    let more : suc i + 1 ≡ suc (i + 1) = omega arith in
    ap (λ n. row_literals (take n (m ∷ ms)) (s ∷ ss)) more
    ∙ ap (λ ls. mark_literals m s ++ ls) (row_literals-more ms ss i d (omega arith) (omega arith))
    ∙ sym (append_assoc (mark_literals m s) (row_literals (take i ms) ss) (mark_literals (get_or ms i d) (get_or ss i 0)))

-- its image
pub map-row_literals-more : {Y : Type 0} (g : Literal → Y) (row : List Mark) (ss : List ℕ) (i : ℕ) (d : Mark) → i < length row
    → i < length ss
    → map g (row_literals (take (i + 1) row) ss)
    ≡ map g (row_literals (take i row) ss) ++ map g (mark_literals (get_or row i d) (get_or ss i 0))
map-row_literals-more g row ss i d lt within =
    ap (λ ls. map g ls) (row_literals-more row ss i d lt within)
    ∙ map-append g (row_literals (take i row) ss) (mark_literals (get_or row i d) (get_or ss i 0))

-- the clauses that one more mark makes
pub Adds-row_literals : (old mid new : List Lits) (g : Literal → Lits) (row : List Mark) (ss : List ℕ) (i : ℕ) (d : Mark)
    → i < length row → i < length ss → Adds old (map g (row_literals (take i row) ss)) mid
    → Adds mid (map g (mark_literals (get_or row i d) (get_or ss i 0))) new
    → Adds old (map g (row_literals (take (i + 1) row) ss)) new
Adds-row_literals old mid new g row ss i d lt within p q =
    let P : List Lits → Type 0 = λ cs. Adds old cs new in
    subst P (sym (map-row_literals-more g row ss i d lt within))
    (Adds-more old mid new (map g (row_literals (take i row) ss)) (map g (mark_literals (get_or row i d) (get_or ss i 0))) p q)

-- the literals that one more mark adds
pub added-row_literals : (old mid new : Lits) (row : List Mark) (ss : List ℕ) (i : ℕ) (d : Mark) → i < length row → i < length ss
    → mid ≡ old ++ map negation (row_literals (take i row) ss)
    → new ≡ mid ++ map negation (mark_literals (get_or row i d) (get_or ss i 0))
    → new ≡ old ++ map negation (row_literals (take (i + 1) row) ss)
added-row_literals old mid new row ss i d lt within p q =
    let more = map negation (mark_literals (get_or row i d) (get_or ss i 0)) in
    q ∙ ap (λ ls. ls ++ more) p ∙ append_assoc old (map negation (row_literals (take i row) ss)) more
    ∙ ap (λ ls. old ++ ls) (sym (map-row_literals-more negation row ss i d lt within))
