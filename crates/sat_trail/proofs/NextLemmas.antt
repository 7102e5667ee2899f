-- After one more watch was visited.
use Rattle.std.proofs.Common.{◌≡◌, ◌≢◌, ℕ, zero, suc, ◌≤◌, List, [], ◌∷◌, ◌++◌, set, Option, Some, None, IfSome, IfNone, inl, sym, subst, arith}
use Rattle.clause_defs.specs.Literals.{Literal, negation}
use Rattle.clause_defs.specs.Clauses.{Lits, Has}
use Rattle.pch_base.proofs.SetLemmas.{Has-append}
use Rattle.link_lists.specs.Linked.{Linked, list_at}
use Rattle.trail_defs.specs.Trails.{IsReason}
use Rattle.sat_trail.specs.Watching.{AreOver, HasSizes, AreWatches, AreVisited}
use Rattle.sat_trail.specs.Stages.{Grows}
use Rattle.sat_trail.specs.Visits.{IsInConflict, IsVisit}
use Rattle.sat_trail.specs.Looks.{IsVisiting, HasMarks, Keeps}
use Rattle.sat_trail.specs.declared.visit.Step.{Step}
use Rattle.sat_trail.proofs.LookLemmas.{keeps_moved, keeps_put, keeps_on}

-- an implied literal is one of the variables'
pub reason_within : (variables : ℕ) (clauses : List (Option Lits)) → AreOver variables clauses → (t : Lits) (k : ℕ) (l : Literal) → IsReason clauses t k l → l.variable ≤ variables
reason_within variables clauses over t zero l reason = absurd (let e = reason.1 in cc)
reason_within variables clauses over t (suc b) l reason = (over b reason.0 reason.1).1 l reason.2.implied

-- and its reason is a number of a clause
pub reason_some : (clauses : List (Option Lits)) (t : Lits) (k : ℕ) (l : Literal) → IsReason clauses t k l → k ≢ 0
reason_some clauses t zero l reason e = absurd (let f = reason.1 in cc)
reason_some clauses t (suc b) l reason e = absurd (omega arith)

-- what grew has what there was
pub grown_has : (t u : Lits) (levels levels1 reasons reasons1 : List ℕ) (level : ℕ) → Grows t u levels levels1 reasons reasons1 level → (l : Literal) → Has t l → Has u l
grown_has t u levels levels1 reasons reasons1 level grows l h = subst (λ s. Has s l) (sym grows.is) ((Has-append t grows.more l).1 (inl h))

-- a clause in conflict stays so
pub conflict_more : (clauses : List (Option Lits)) (t u : Lits) (k : ℕ) → ((l : Literal) → Has t l → Has u l) → IsInConflict clauses t k → IsInConflict clauses u k
conflict_more clauses t u k more conflict = (conflict.0, conflict.1, λ l h. more (negation l) (conflict.2 l h))

pub conflicts_more : (clauses : List (Option Lits)) (t u : Lits) (r : Option ℕ) → ((l : Literal) → Has t l → Has u l)
    → IfSome r (λ k. IsInConflict clauses t k) → IfSome r (λ k. IsInConflict clauses u k)
conflicts_more clauses t u None more h = h
conflicts_more clauses t u (Some k) more h = conflict_more clauses t u k more h

module _ (clauses : List (Option Lits)) (variables level : ℕ) (t : Lits) (levels reasons : List ℕ) (x : Literal) (watch later : Lits) (links links2 : Linked) (step : Step)
    (v : IsVisit clauses t x watch links.lists later links2.lists step) where
  pub visiting_after : IsVisiting clauses variables watch links x → HasSizes clauses variables links2 → IsVisiting clauses variables later links2 x
  visiting_after visiting sizes = record {
    over = visiting.over;
    sizes = sizes;
    watches = subst (λ loose. AreWatches clauses loose later) (sym v.loose) v.watches;
    visited = subst (λ loose. AreVisited clauses loose later links2.lists x) (sym v.loose) v.visited;
  }

  pub keeps_visit : Keeps clauses variables level (list_at links.lists 1) (list_at links2.lists 1) watch t levels reasons later t levels reasons
  keeps_visit = subst (λ loose. Keeps clauses variables level (list_at links.lists 1) loose watch t levels reasons later t levels reasons) (sym v.loose)
      (keeps_moved clauses variables level (list_at links.lists 1) (list_at links.lists 1) (list_at links.lists 1) watch later t levels reasons v.stages)

-- two changes, one after the other
pub keeps_then : {clauses : List (Option Lits)} {variables n level : ℕ} {loose loose1 loose2 : List ℕ} {watch t watch1 t1 watch2 t2 : Lits}
    {levels reasons levels1 reasons1 levels2 reasons2 : List ℕ} → n ≡ variables
    → Keeps clauses variables level loose loose1 watch t levels reasons watch1 t1 levels1 reasons1
    → Keeps clauses n level loose1 loose2 watch1 t1 levels1 reasons1 watch2 t2 levels2 reasons2
    → Keeps clauses variables level loose loose2 watch t levels reasons watch2 t2 levels2 reasons2
keeps_then {clauses = clauses} {variables = variables} {n = n} {level = level} {loose = loose} {loose1 = loose1} {loose2 = loose2}
    {watch = watch} {t = t} {watch1 = watch1} {t1 = t1} {watch2 = watch2} {t2 = t2} {levels = levels} {reasons = reasons}
    {levels1 = levels1} {reasons1 = reasons1} {levels2 = levels2} {reasons2 = reasons2} e first second =
    keeps_on clauses variables level loose loose1 loose2 watch t levels reasons watch1 t1 levels1 reasons1 watch2 t2 levels2 reasons2 first
    (subst (λ k. Keeps clauses k level loose1 loose2 watch1 t1 levels1 reasons1 watch2 t2 levels2 reasons2) e second)

-- what is false stays so
pub keeps_has : {clauses : List (Option Lits)} {variables level : ℕ} {loose loose1 : List ℕ} {watch t watch1 t1 : Lits} {levels reasons levels1 reasons1 : List ℕ}
    → Keeps clauses variables level loose loose1 watch t levels reasons watch1 t1 levels1 reasons1 → (l : Literal) → Has t l → Has t1 l
keeps_has {t = t} {t1 = t1} keeps l h = subst (λ s. Has s l) (sym keeps.grows.is) ((Has-append t keeps.grows.more l).1 (inl h))

-- where there is no answer yet, what held goes on
pub none_on : {A B : Type 0} (r : Option ℕ) → IfNone r A → (A → B) → IfNone r B
none_on None a f = f a
none_on (Some k) a f = tt

-- the literal came with its level and its reason
pub keeps_forced : (clauses : List (Option Lits)) (variables level : ℕ) (loose loose2 : List ℕ) (watch later t : Lits) (levels reasons : List ℕ) (number : ℕ) (l : Literal)
    → Keeps clauses variables level loose loose2 watch t levels reasons later t levels reasons
    → HasMarks variables levels reasons → l.variable ≤ variables
    → (Has t l → ⊥) × (Has t (negation l) → ⊥) → IsReason clauses t number l
    → (u : Lits) (levels2 reasons2 : List ℕ) → u ≡ t ++ l ∷ [] → levels2 ≡ set levels l.variable level → reasons2 ≡ set reasons l.variable number
    → Keeps clauses variables level loose loose2 watch t levels reasons later u levels2 reasons2
keeps_forced clauses variables level loose loose2 watch later t levels reasons number l keeps marks within free reason u levels2 reasons2 eu el er =
    subst (λ s. Keeps clauses variables level loose loose2 watch t levels reasons later s levels2 reasons2) (sym eu)
    (subst (λ ks. Keeps clauses variables level loose loose2 watch t levels reasons later (t ++ l ∷ []) ks reasons2) (sym el)
    (subst (Keeps clauses variables level loose loose2 watch t levels reasons later (t ++ l ∷ []) (set levels l.variable level)) (sym er)
    (keeps_on clauses variables level loose loose2 loose2 watch t levels reasons later t levels reasons later (t ++ l ∷ []) (set levels l.variable level) (set reasons l.variable number)
    keeps
    (keeps_put clauses variables level loose2 loose2 loose2 later t levels reasons l number free within marks.level_size marks.reason_size (reason_some clauses t number l reason) reason))))
