-- While a region is loaded each clause fits, and gets the next name.
use Rattle.std.proofs.Common.{◌≡◌, ◌⊎◌, ℕ, ◌+◌, ◌-◌, ◌<◌, ◌≤◌, List, [], length, set, get_or, take, sum_by, Option, Some, Result, Ok, Err, IfOk, IfErr, inl, inr, ap, ◌∙◌, arith, length-take-le, get_or-take, take-take}
use Rattle.std.proofs.lemmas.List.Sums.{sum_by_more_le}
use Rattle.clause_defs.specs.Clauses.{Lits}
use Rattle.pch_region.specs.Blocks.{next_name, AreAllNames, words_of, blocks_of}
use Rattle.pch_region.specs.declared.block.Block.{Block}
use Rattle.pch_region.specs.declared.block.Full.{Full}
use Rattle.sat_trail.specs.Loading.{IsLoading}

-- a clause that isn't refused is the block of the next name
pub held_of : (r : Result Block Full) (unused : List ℕ) (old new : List (Option Lits)) (c : Lits) (P : Type 0) → IfOk r (λ b. b.name ≡ next_name unused)
    → IfOk r (λ b. new ≡ set old b.name (Some c)) → IfErr r (λ _. P) → (P → ⊥) → new ≡ set old (next_name unused) (Some c)
held_of (Ok b) unused old new c P name put refused fits = put ∙ ap (λ n. set old n (Some c)) name
held_of (Err f) unused old new c P name put refused fits = absurd (fits refused)

pub fact_of : (r : Result Block Full) (P Q : Type 0) → IfOk r (λ _. Q) → IfErr r (λ _. P) → (P → ⊥) → Q
fact_of (Ok b) P Q fact refused fits = fact
fact_of (Err f) P Q fact refused fits = absurd (fits refused)

module _ (blocks k : ℕ) (all u : List ℕ) (names : AreAllNames blocks all) (below : k < blocks) (is : u ≡ take (blocks - k) all) where
  long : length u ≡ blocks - k
  long = ap length is ∙ length-take-le (blocks - k) all (let a = names.many in omega arith)

  -- the next name is the number of clauses so far
  pub next_is : next_name u ≡ k
  next_is =
      let a : get_or u (length u - 1) 0 ≡ get_or u (blocks - k - 1) 0 = ap (λ n. get_or u (n - 1) 0) long in
      let b : get_or u (blocks - k - 1) 0 ≡ get_or (take (blocks - k) all) (blocks - k - 1) 0 = ap (λ v. get_or v (blocks - k - 1) 0) is in
      let d = get_or-take (blocks - k) all (blocks - k - 1) 0 (omega arith) in
      let e = names.falling (blocks - k - 1) (omega arith) in
      a ∙ b ∙ d ∙ e ∙ (let f : blocks - 1 - (blocks - k - 1) ≡ k = omega arith in f)

  pub names_more : take (length u - 1) u ≡ take (blocks - (k + 1)) all
  names_more =
      let a : take (length u - 1) u ≡ take (blocks - (k + 1)) u = ap (λ n. take n u) (let l = long in omega arith) in
      a ∙ ap (take (blocks - (k + 1))) is ∙ take-take (blocks - (k + 1)) (blocks - k) all (omega arith)

-- there is room for each of the first clauses
pub never_full : (cs : List Lits) (blocks k count words : ℕ) (held : List (Option Lits)) (c : Lits) → IsLoading cs blocks k held → c ≡ get_or cs k [] → k < count → count ≤ blocks
    → count ≤ length cs → sum_by length (take count cs) ≤ words → (words < words_of held + length c) ⊎ (length held ≤ blocks_of held) → ⊥
never_full cs blocks k count words held c loading is lt few_blocks few fits full =
    let next = sum_by_more_le length (take count cs) k [] (let a = length-take-le count cs few in omega arith) in
    let front = ap (sum_by length) (take-take k count cs (omega arith)) in
    let same = ap length (get_or-take count cs k [] lt) in
    let mine = ap length is in
    let sums = loading.words in
    let counts = loading.counted in
    let many = loading.many in
    elim full [
      | inl long ↦ omega arith
      | inr none ↦ omega arith
    ]
