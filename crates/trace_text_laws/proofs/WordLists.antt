-- Lists of words and tokens: one more at the end, and what stands before it.
use Rattle.std.proofs.Common.{◌≡◌, ◌⊎◌, inl, inr, ℕ, List, [], ◌∷◌, ◌++◌, refl, sym, ap, subst, ◌∙◌}
use Rattle.std.proofs.lemmas.List.{append-nil, append_assoc, map-append}
use Rattle.std.specs.List.{flat_map}
use Rattle.text_defs.specs.Tokens.{Token}
use Rattle.sat_text_defs.specs.Words.{words_of, bytes_of}
use Rattle.sat_text_defs.specs.TraceText.{CanStand, EachCanStand}

-- the words of tokens with one more token
pub words_of-snoc : (ts : List Token) (w : Token) → words_of (ts ++ w ∷ []) ≡ words_of ts ++ w.bytes ∷ []
words_of-snoc ts w = map-append bytes_of ts (w ∷ [])

-- the first token of the rest, moved behind the tokens before it
pub one_more : (all before ts : List Token) (w : Token) → all ≡ before ++ (w ∷ ts) → all ≡ (before ++ w ∷ []) ++ ts
one_more all before ts w e = e ∙ sym (append_assoc before (w ∷ []) ts)

-- what the elements of a list with one more at its end are mapped to
pub flat_map-snoc : {X Y : Type 0} (f : X → List Y) (xs : List X) (x : X) → flat_map f (xs ++ x ∷ []) ≡ flat_map f xs ++ f x
flat_map-snoc {Y = Y} f [] x = append-nil (f x)
flat_map-snoc {Y = Y} f (y ∷ xs) x =
    ap (λ (zs : List Y). f y ++ zs) (flat_map-snoc f xs x) ∙ sym (append_assoc (f y) (flat_map f xs) (f x))

-- nothing has no token in it
pub not_empty : (front : List Token) (t : Token) (after : List Token) → [] ≡ front ++ (t ∷ after) → ⊥
not_empty [] t after e = absurd (cc)
not_empty (c ∷ front) t after e = absurd (cc)

-- a token of a list with one more is the last one or stands before it
pub snoc_split : (xs : List Token) (w : Token) (front : List Token) (t : Token) (after : List Token) → xs ++ w ∷ [] ≡ front ++ (t ∷ after)
    → ((xs ≡ front) × (w ≡ t)) ⊎ ((before : List Token) × (xs ≡ front ++ (t ∷ before)))
snoc_split [] w [] t after e = inl (refl, cc)
snoc_split [] w (c ∷ front) t after e = let rest : [] ≡ front ++ (t ∷ after) = cc in absurd (not_empty front t after rest)
snoc_split (x ∷ xs) w [] t after e = let one : x ≡ t = cc in inr (xs, ap (λ (y : Token). y ∷ xs) one)
snoc_split (x ∷ xs) w (c ∷ front) t after e =
    let one : x ≡ c = cc in
    let rest : xs ++ w ∷ [] ≡ front ++ (t ∷ after) = cc in
    elim (snoc_split xs w front t after rest) [
      | inl last ↦ let same : xs ≡ front = last.0 in inl ((let both : x ∷ xs ≡ c ∷ front = cc in both), last.1)
      | inr more ↦ inr (more.0, (let same : xs ≡ front ++ (t ∷ more.0) = more.1 in let both : x ∷ xs ≡ c ∷ (front ++ (t ∷ more.0)) = cc in both))
    ]

-- tokens that can all stand, with one more that can stand behind them
pub EachCanStand-snoc : (v : ℕ) (xs : List Token) (w : Token) → EachCanStand v xs → CanStand v (words_of xs) w.bytes → EachCanStand v (xs ++ w ∷ [])
EachCanStand-snoc v xs w h one front t after e = elim (snoc_split xs w front t after e) [
  | inl last ↦ subst (λ (u : Token). CanStand v (words_of front) u.bytes) last.1 (subst (λ (ys : List Token). CanStand v (words_of ys) w.bytes) last.0 one)
  | inr more ↦ h front t more.0 more.1
]

-- no tokens can all stand
pub EachCanStand-empty : (v : ℕ) → EachCanStand v []
EachCanStand-empty v front t after e = absurd (not_empty front t after e)
