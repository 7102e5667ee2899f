-- What a visit reads: literals of its clause, all over the variables.
use Rattle.std.proofs.Common.{◌≡◌, ℕ, ◌+◌, ◌*◌, ◌/◌, ◌<◌, ◌≤◌, Bool, true, false, not, true≢false, if◌then◌else◌, List, [], ◌∷◌, length, set, get_or, Option, Some, None, inl, inr, refl, sym, ap, ◌∙◌, subst, arith, length-set}
use Rattle.std.proofs.lemmas.List.{get_or_read}
use Rattle.clause_defs.specs.Literals.{Literal, negation, code}
use Rattle.clause_defs.specs.Clauses.{Lits, Has}
use Rattle.link_lists.specs.Linked.{Linked, list_at}
use Rattle.trail_defs.specs.Assignments.{AreApart, IsAssignmentOf}
use Rattle.sat_trail.specs.Watching.{no_literal, lit_at, other, lits_in, lits_at, IsBound, AreOver}
use Rattle.sat_trail.specs.Looks.{IsVisiting}
use Rattle.sat_trail.proofs.OtherLemmas.{other_inside, bound_other}

-- no truth is its opposite
pub not_same : (b : Bool) → b ≡ not b → ⊥
not_same true e = true≢false e
not_same false e = true≢false (sym e)

apart_consistent : (t : Lits) → AreApart t → (l : Literal) → Has t l → Has t (negation l) → ⊥
apart_consistent [] apart l has neg = has
apart_consistent (k ∷ ks) apart l (inl e) (inl f) = not_same l.positive (ap (λ (x : Literal). x.positive) (sym e ∙ f))
apart_consistent (k ∷ ks) apart l (inl e) (inr g) = apart.0 (negation l) g (ap (λ (x : Literal). x.variable) (sym e))
apart_consistent (k ∷ ks) apart l (inr h) (inl f) = apart.0 l h (ap (λ (x : Literal). x.variable) (sym f))
apart_consistent (k ∷ ks) apart l (inr h) (inr g) = apart_consistent ks apart.1 l h g

-- no literal is true and false
pub consistent : (variables : ℕ) (t : Lits) → IsAssignmentOf variables t → (l : Literal) → Has t l → Has t (negation l) → ⊥
consistent variables t known = apart_consistent t known.apart

-- the clause at a place, as it was read
pub clause_is : (clauses : List (Option Lits)) (n b : ℕ) (c : Lits) → n ≡ b → get_or clauses n None ≡ Some c → lits_at clauses b ≡ c
clause_is clauses n b c e is = ap (λ k. lits_in (get_or clauses k None)) (sym e) ∙ ap lits_in is

within_in : (variables : ℕ) (clauses : List (Option Lits)) → AreOver variables clauses → (b : ℕ) (l : Literal) (o : Option Lits)
    → get_or clauses b None ≡ o → Has (lits_in o) l → l.variable ≤ variables
within_in variables clauses over b l None e none = absurd none
within_in variables clauses over b l (Some c) e has = (over b c e).1 l has

-- a literal of a clause is one of the variables'
pub lit_within : (variables : ℕ) (clauses : List (Option Lits)) → AreOver variables clauses → (b : ℕ) (l : Literal) → Has (lits_at clauses b) l → l.variable ≤ variables
lit_within variables clauses over b l has = within_in variables clauses over b l (get_or clauses b None) refl has

code_top : (v : ℕ) (b : Bool) → 2 * v + (if b then 1 else 0) ≤ 2 * v + 1
code_top v true = omega arith
code_top v false = omega arith

-- its code has a list
pub code_listed : (variables n : ℕ) (l : Literal) → l.variable ≤ variables → n ≡ 2 * variables + 4 → code l < n
code_listed variables n l le e = let a = code_top l.variable l.positive in omega arith

module _ (clauses : List (Option Lits)) (variables : ℕ) (watch : Lits) (links : Linked) (x : Literal) (visiting : IsVisiting clauses variables watch links x)
    (popped : List (List ℕ)) (w : ℕ) (first : list_at links.lists 0 ≡ w ∷ list_at popped 0) (rest : popped ≡ set links.lists 0 (list_at popped 0))
    (below : w < links.size) where
  in_hand : IsBound clauses (list_at links.lists 1) w × (lit_at watch w ≡ x)
  in_hand = visiting.visited.left w (subst (λ ws. Has ws w) (sym first) (inl refl))

  pub visited_inside : w < length watch
  visited_inside = let a = visiting.sizes.size in let b = visiting.watches.size in omega arith

  -- the other watch is read
  pub beside_is : (o : ℕ) (b : Literal) → o ≡ other w → b ≡ get_or watch o b → b ≡ lit_at watch (other w)
  beside_is o b e read =
      let n = visiting.sizes.size in
      let m = visiting.watches.size in
      let inside = other_inside w (length clauses) (omega arith) in
      get_or_read watch o b (omega arith) read no_literal ∙ ap (lit_at watch) e

  pub beside_within : (lit_at watch (other w)).variable ≤ variables
  beside_within = lit_within variables clauses visiting.over (other w / 2) (lit_at watch (other w))
      (visiting.watches.members (other w) (bound_other clauses (list_at links.lists 1) w in_hand.0))

  pub x_within : x.variable ≤ variables
  x_within = subst (λ (l : Literal). l.variable ≤ variables) in_hand.1
      (lit_within variables clauses visiting.over (w / 2) (lit_at watch w) (visiting.watches.members w in_hand.0))

  -- a literal over the variables has a list
  pub list_inside : (l : Literal) → l.variable ≤ variables → code l < length popped
  list_inside l le =
      let long = ap length rest ∙ length-set links.lists 0 (list_at popped 0) in
      let lists = visiting.sizes.lists in
      code_listed variables (length popped) l le (omega arith)
