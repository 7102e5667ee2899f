-- The tokens of a text stand in its order, so all of them stand behind a line's end if the first one does.
use Rattle.std.proofs.Common.{◌≡◌, ℕ, ◌+◌, ◌≤◌, inl, inr, Bool, true, false, if◌then◌else◌, List, [], ◌∷◌, ◌++◌, refl, ap, arith}
use Rattle.clause_defs.specs.Clauses.{Has}
use Rattle.text_defs.specs.Tokens.{Token, tokens, begins_with_token, lengthened}
use Rattle.sat_text_defs.specs.Words.{separates}
use Rattle.sat_text_defs.specs.CnfText.{tokens_of, uncommented, first}

-- ---- the order of tokens

-- each token stands before all later ones
abbrev pub InOrder : List Token → Type 0
InOrder [] = Unit {0}
InOrder (t ∷ ts) = ((u : Token) → Has ts u → t.at ≤ u.at) × InOrder ts

-- tokens in order, none of which begins before this offset
record Placed (at : ℕ) (ts : List Token) : Type 0 where
  from : (t : Token) → Has ts t → at ≤ t.at
  order : InOrder ts

-- tokens from a place on are from the place before it on
placed_later : (at : ℕ) (ts : List Token) → Placed (at + 1) ts → Placed at ts
placed_later at ts h = record { from = λ t k. (let le : at + 1 ≤ t.at = h.from t k in omega arith); order = h.order }

-- a token at a place, and others behind the place, are in order
placed_cons : (at : ℕ) (bytes : List ℕ) (ts : List Token) → Placed (at + 1) ts → Placed at (record { at = at; bytes = bytes } ∷ ts)
placed_cons at bytes ts h = record {
  from = λ t k. elim k [
    | inl e ↦ (let same : at ≡ t.at = ap (λ (u : Token). u.at) e in omega arith)
    | inr j ↦ (let le : at + 1 ≤ t.at = h.from t j in omega arith)
  ];
  order = (λ u k. (let le : at + 1 ≤ u.at = h.from u k in omega arith), h.order);
}

-- tokens are still in order where the first one begins a byte earlier
placed_lengthened : (at b : ℕ) (ts : List Token) → Placed (at + 1) ts → Placed at (lengthened at b ts)
placed_lengthened at b [] h = placed_cons at (b ∷ []) [] h
placed_lengthened at b (t ∷ ts) h = placed_cons at (b ∷ t.bytes) ts (record { from = λ u k. h.from u (inr k); order = h.order.1 })

-- with one more byte in front, separator or not, tokens are in order from its place on
placed_if : (at b : ℕ) (ts : List Token) (x y : Bool) → Placed (at + 1) ts
    → Placed at (if x then ts else (if y then lengthened at b ts else (record { at = at; bytes = b ∷ [] } ∷ ts)))
placed_if at b ts true y h = placed_later at ts h
placed_if at b ts false true h = placed_lengthened at b ts h
placed_if at b ts false false h = placed_cons at (b ∷ []) ts h

-- the tokens of a text stand in order
placed_tokens : (s : ℕ → Bool) (at : ℕ) (bs : List ℕ) → Placed at (tokens s at bs)
placed_tokens s at [] = record { from = λ t k. absurd k; order = tt }
placed_tokens s at (b ∷ bs) = placed_if at b (tokens s (at + 1) bs) (s b) (begins_with_token s bs) (placed_tokens s (at + 1) bs)

-- no token begins before the text does
pub tokens_from : (s : ℕ → Bool) (at : ℕ) (bs : List ℕ) (t : Token) → Has (tokens s at bs) t → at ≤ t.at
tokens_from s at bs = (placed_tokens s at bs).from

-- the tokens of a text stand in its order
pub tokens_in_order : (text : List ℕ) → InOrder (tokens_of text)
tokens_in_order text = (placed_tokens separates 0 (uncommented first text)).order

-- ---- the end of a line

-- no token is left, or the next one stands behind the end of the line
abbrev pub BeginsBehind : ℕ → List Token → Type 0
BeginsBehind line [] = Unit {0}
BeginsBehind line (t ∷ ts) = line ≤ t.at

-- each token stands behind the end of the line
abbrev pub AllBehind : ℕ → List Token → Type 0
AllBehind line [] = Unit {0}
AllBehind line (t ∷ ts) = (line ≤ t.at) × AllBehind line ts

-- tokens of which each is behind the line are all behind it
behind_each : (line : ℕ) (ts : List Token) → ((t : Token) → Has ts t → line ≤ t.at) → AllBehind line ts
behind_each line [] h = tt
behind_each line (t ∷ ts) h = (h t (inl refl), behind_each line ts (λ u k. h u (inr k)))

-- tokens in order stand behind the line's end where the first one does
pub all_behind : (line : ℕ) (ts : List Token) → InOrder ts → BeginsBehind line ts → AllBehind line ts
all_behind line [] o b = tt
all_behind line (t ∷ ts) o b = (b, behind_each line ts (λ u k. (let le : t.at ≤ u.at = o.0 u k in let low : line ≤ t.at = b in omega arith)))

-- the first of tokens behind the line's end is behind it
pub begins_behind : (line : ℕ) (ts : List Token) → AllBehind line ts → BeginsBehind line ts
begins_behind line [] h = tt
begins_behind line (t ∷ ts) h = h.0

-- so it is where each one is
pub begins_each : (line : ℕ) (ts : List Token) → ((t : Token) → Has ts t → line ≤ t.at) → BeginsBehind line ts
begins_each line [] h = tt
begins_each line (t ∷ ts) h = h t (inl refl)

-- each of tokens behind the line's end is behind it
pub each_is_behind : (line : ℕ) (ts : List Token) → AllBehind line ts → (t : Token) → Has ts t → line ≤ t.at
each_is_behind line [] h t k = absurd k
each_is_behind line (u ∷ us) h t (inl e) = let same : u.at ≡ t.at = ap (λ (x : Token). x.at) e in let le : line ≤ u.at = h.0 in omega arith
each_is_behind line (u ∷ us) h t (inr k) = each_is_behind line us h.1 t k

-- and each of the first ones
pub behind_before : (line : ℕ) (before rest : List Token) → AllBehind line (before ++ rest) → AllBehind line before
behind_before line [] rest h = tt
behind_before line (u ∷ us) rest h = (h.0, behind_before line us rest h.1)

-- and the one behind these
pub behind_next : (line : ℕ) (before : List Token) (t : Token) (after : List Token) → AllBehind line (before ++ (t ∷ after)) → line ≤ t.at
behind_next line [] t after h = h.0
behind_next line (u ∷ us) t after h = behind_next line us t after h.1
