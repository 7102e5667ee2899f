-- A trace with one more clause is spelled as before, and then this clause.
use Rattle.std.proofs.Common.{◌≡◌, ℕ, suc, List, [], ◌∷◌, ◌++◌, None, ◌∙◌}
use Rattle.clause_defs.specs.Traces.{Entry, IsTrace, stated_of, antecedents_at}
use Rattle.clause_defs.specs.Compaction.{AllStated}
use Rattle.clause_laws.proofs.TraceLemmas.{AreWithin, indices-before, within_own, each_after}
use Rattle.sat_text_defs.specs.TraceText.{Spelled, IsSpelled, AreSpelled}

-- the antecedents of these clauses are places in the trace
abbrev pub EachWithin : List Entry → List Entry → Type 0
EachWithin t es = (k : ℕ) → AreWithin t (antecedents_at es k)

-- clauses are spelled in the longer trace as before
pub AreSpelled-before : (t : List Entry) (n : Entry) (ss : List Spelled) (es : List Entry) → EachWithin t es
    → AreSpelled t ss es → AreSpelled (t ++ n ∷ []) ss es
AreSpelled-before t n [] [] within h = tt
AreSpelled-before t n [] (e ∷ es) within h = absurd h
AreSpelled-before t n (s ∷ ss) [] within h = absurd h
AreSpelled-before t n (s ∷ ss) (e ∷ es) within h = (
  record { index = h.0.index; stated = h.0.stated; antecedents = h.0.antecedents ∙ indices-before t n e.antecedents (within 0) },
  AreSpelled-before t n ss es (λ k. within (suc k)) h.1,
)

-- one more clause is spelled behind the others
pub AreSpelled-snoc : (t : List Entry) (s : Spelled) (e : Entry) (ss : List Spelled) (es : List Entry) → AreSpelled t ss es → IsSpelled t s e
    → AreSpelled t (ss ++ s ∷ []) (es ++ e ∷ [])
AreSpelled-snoc t s e [] [] h one = (one, tt)
AreSpelled-snoc t s e [] (d ∷ es) h one = absurd h
AreSpelled-snoc t s e (r ∷ ss) [] h one = absurd h
AreSpelled-snoc t s e (r ∷ ss) (d ∷ es) h one = (h.0, AreSpelled-snoc t s e ss es h.1 one)

-- the antecedents of a trace are places in it
pub EachWithin-own : (t : List Entry) → IsTrace t → EachWithin t t
EachWithin-own t h = within_own t h

-- where each clause and the new one has its literals stated, each clause of the longer trace has
pub AllStated-snoc : (t : List Entry) (e : Entry) → AllStated t → (e.stated ≡ None → ⊥) → AllStated (t ++ e ∷ [])
AllStated-snoc t e h new = each_after (λ o. stated_of o ≡ None → ⊥) t e h new
