-- The bits of sources under two lists of cell bits.
use Rattle.std.proofs.Common.{◌≡◌, ℕ, suc, List, [], ◌∷◌, get_or, All, refl, ap, subst, ◌∙◌, inl, inr, arith}
use Rattle.clause_defs.specs.Clauses.{Has}
use Rattle.cell_defs.specs.declared.source.Source.{Source}
use Rattle.cell_defs.specs.declared.source.Source.TheVariants.{Zero, Pad, Cell}
use Rattle.cell_defs.specs.Evaluation.{source_bit, source_bits}

-- what holds of all elements holds of each
pub All-Has : {X : Type 0} (P : X → Type 0) (xs : List X) (x : X) → All P xs → Has xs x → P x
All-Has P [] x h m = absurd m
All-Has P (y ∷ ys) x h (inl e) = subst P e (h 0 y (omega arith))
All-Has P (y ∷ ys) x h (inr m) = All-Has P ys x (λ k d lt. h (suc k) d (omega arith)) m

-- lists that agree at the cell that is the source give the source the same bit
source_bit-same : (x a b : List ℕ) (s : Source) → ((k : ℕ) → s ≡ Cell k → get_or a k 0 ≡ get_or b k 0)
    → source_bit x a s ≡ source_bit x b s
source_bit-same x a b Zero h = refl
source_bit-same x a b (Pad p) h = refl
source_bit-same x a b (Cell k) h = h k refl

-- lists that agree at the cells among these sources give the sources the same bits
pub source_bits-same : (x a b : List ℕ) (ss : List Source) → ((k : ℕ) → Has ss (Cell k) → get_or a k 0 ≡ get_or b k 0)
    → source_bits x a ss ≡ source_bits x b ss
source_bits-same x a b [] h = refl
source_bits-same x a b (s ∷ ss) h =
    ap (λ n. n ∷ source_bits x a ss) (source_bit-same x a b s (λ k e. h k (inl e)))
    ∙ ap (λ l. source_bit x b s ∷ l) (source_bits-same x a b ss (λ k m. h k (inr m)))
