-- Joined lists whose parts have different lengths.
use Rattle.std.proofs.Common.{◌≡◌, ℕ, zero, suc, ◌+◌, ◌<◌, ◌≤◌, inl, inr, List, ◌++◌, length, get_or, sym, ◌∙◌, ap, arith, length-append}
use Rattle.std.proofs.lemmas.Bool.{cases_lt}
use Rattle.std.proofs.lemmas.List.{get_or_append_left, get_or-append-add}
use Rattle.fabric_defs.specs.Numbered.{joined}

-- the parts up to one, and it, are among all parts
pub joined_part : {X : Type 0} (n k : ℕ) (f : ℕ → List X) → k < n → length (joined k f) + length (f k) ≤ length (joined n f)
joined_part zero k f lt = absurd (omega arith)
joined_part (suc n) k f lt =
    let all = length-append (joined n f) (f n) in
    elim (cases_lt k n) [
      | inl below ↦ let rest = joined_part n k f below in omega arith
      | inr past ↦
          let same : k ≡ n = omega arith in
          let own = ap (λ m. length (joined m f) + length (f m)) same in omega arith
    ]

-- fewer parts have no more elements
pub joined_fewer : {X : Type 0} (n k : ℕ) (f : ℕ → List X) → k ≤ n → length (joined k f) ≤ length (joined n f)
joined_fewer n k f le = elim (cases_lt k n) [
  | inl below ↦ let part = joined_part n k f below in omega arith
  | inr past ↦ let same = ap (λ m. length (joined m f)) (let e : k ≡ n = omega arith in e) in omega arith
]

-- element j of part k stands behind the parts before it
pub get_joined : {X : Type 0} (n k j : ℕ) (f : ℕ → List X) (d : X) → k < n → j < length (f k)
    → get_or (joined n f) (length (joined k f) + j) d ≡ get_or (f k) j d
get_joined zero k j f d lt within = absurd (omega arith)
get_joined (suc n) k j f d lt within = elim (cases_lt k n) [
  | inl below ↦
      let part = joined_part n k f below in
      get_or_append_left (joined n f) (f n) d (length (joined k f) + j) (omega arith) ∙ get_joined n k j f d below within
  | inr past ↦
      let same : k ≡ n = omega arith in
      ap (λ m. get_or (joined n f ++ f n) (length (joined m f) + j) d) same
      ∙ get_or-append-add (joined n f) (f n) j d
      ∙ ap (λ m. get_or (f m) j d) (sym same)
]
