-- Numbers that are too great, and what a number read of a text says.
use Rattle.std.proofs.Common.{◌≡◌, ℕ, ◌+◌, ◌-◌, ◌*◌, ◌^◌, ◌<◌, ◌≤◌, true, nat_le, List, ◌∷◌, length, get_or, drop, inl, inr, Option, Some, None, IfSome, IfNone, refl, sym, ap, ◌∙◌, arith}
use Rattle.std.specs.Char.{is_ascii_digit}
use Rattle.std.proofs.lemmas.Bool.{lt-leb, leb-true, leb-false, cases_Bool}
use Rattle.std.proofs.lemmas.List.{drop_more}
use Rattle.text_defs.specs.Numbers.{Spells, number_from, number_in, at_most}
use Rattle.text_defs.proofs.NumberLemmas.{number_from-le, number_in-spelled, spelled_from-number_in}

-- where each number that there may be is above the greatest, there is none
above : (max m : ℕ) (o : Option ℕ) → max < m → ((k : ℕ) → o ≡ Some k → m ≤ k) → None ≡ at_most max o
above max m None lt le = refl
above max m (Some k) lt le = let far = le k refl in rw (lt-leb k max (omega arith)) refl

-- the digits up to here make a number above the greatest
pub at_most-above : (max n i : ℕ) (text : List ℕ) → i < length text → is_ascii_digit (get_or text i 0) ≡ true
    → max < 10 * n + (get_or text i 0 - 48) → number_from n (drop i text) ≡ number_from 0 text
    → None ≡ at_most max (number_from 0 text)
at_most-above max n i text lt digit far e =
    let b = get_or text i 0 in
    let rest = drop (i + 1) text in
    let step : number_from n (b ∷ rest) ≡ number_from (10 * n + (b - 48)) rest = rw digit refl in
    let all : number_from (10 * n + (b - 48)) rest ≡ number_from 0 text = sym step ∙ ap (number_from n) (sym (drop_more text i 0 lt)) ∙ e in
    above max (10 * n + (b - 48)) (number_from 0 text) far (λ k is. number_from-le (10 * n + (b - 48)) rest k (all ∙ is))

-- a number of the text that is at most the greatest is spelled by the text
some_within : (max : ℕ) (text : List ℕ) (o : Option ℕ) → max < 2 ^ 64 → number_in text ≡ o → IfSome (at_most max o) (λ n. Spells text n × (n ≤ max))
some_within max text None small e = tt
some_within max text (Some n) small e =
    elim (cases_Bool (nat_le n max)) [
      | inl t ↦ rw t (spelled_from-number_in text n (let le = leb-true n max t in omega arith) e, leb-true n max t)
      | inr f ↦ rw f tt
    ]

-- the number that is read is spelled
pub spelled_at_most : (max : ℕ) (text : List ℕ) → max < 2 ^ 64 → IfSome (at_most max (number_in text)) (λ n. Spells text n × (n ≤ max))
spelled_at_most max text small = some_within max text (number_in text) small refl

-- a number that is at most the greatest isn't left out
none_from : (max : ℕ) (o : Option ℕ) (n : ℕ) → o ≡ Some n → n ≤ max → at_most max o ≡ None → ⊥
none_from max None n e le none = cc
none_from max (Some k) n e le none =
    elim (cases_Bool (nat_le k max)) [
      | inl t ↦ let h : Some k ≡ None = rw t at none in cc
      | inr f ↦ let same : k ≡ n = cc in let far = leb-false k max f in omega arith
    ]

-- where none is read, none is spelled
pub none_spelled : (max : ℕ) (text : List ℕ) (r : Option ℕ) → max < 2 ^ 64 → r ≡ at_most max (number_in text) → IfNone r ((n : ℕ) → Spells text n → n ≤ max → ⊥)
none_spelled max text None small e =
    λ n spells le. none_from max (number_in text) n (number_in-spelled text n (omega arith) spells) le (sym e)
none_spelled max text (Some k) small e = tt
