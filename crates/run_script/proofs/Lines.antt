-- How one goes along a text, line after line.
use Rattle.std.proofs.Common.{◌≡◌, ℕ, suc, ◌+◌, Bool, true, false, List, [], ◌∷◌, take, drop, refl, sym, ap, subst, ◌∙◌, arith}
use Rattle.std.specs.Prelude.{◌==◌}
use Rattle.std.specs.List.{position_or_len}
use Rattle.script_defs.specs.Lines.{onto_line, lines}

-- a line feed
abbrev pub is_feed : ℕ → Bool
is_feed b = b == 10

-- a line feed at the beginning ends an empty line
feed_first : (b : ℕ) (bs : List ℕ) → is_feed b ≡ true → lines (b ∷ bs) ≡ [] ∷ lines bs
feed_first b bs e = rw e refl

-- any other byte stands in front of the first line of what follows
no_feed : (b : ℕ) (bs : List ℕ) → is_feed b ≡ false → lines (b ∷ bs) ≡ onto_line b (lines bs)
no_feed b bs e = rw e refl

-- the first n bytes are a line, and behind the byte after them are the other lines
abbrev BeginsWithLine : ℕ → List ℕ → Type 0
BeginsWithLine n text = lines text ≡ take n text ∷ lines (drop 1 (drop n text))

-- so with such a byte in front the first line is longer by one
line_longer : (b : ℕ) (bs : List ℕ) (n : ℕ) → is_feed b ≡ false → BeginsWithLine n bs → BeginsWithLine (suc n) (b ∷ bs)
line_longer b bs n e h = no_feed b bs e ∙ ap (onto_line b) h

-- the first line of a text that isn't empty, and the lines behind it
pub lines_next : (b : ℕ) (bs : List ℕ) → BeginsWithLine (position_or_len is_feed (b ∷ bs)) (b ∷ bs)
lines_next b [] = by (is_feed b) refl
  where
    by : (t : Bool) → is_feed b ≡ t → BeginsWithLine (position_or_len is_feed (b ∷ [])) (b ∷ [])
    by true e = rw e refl
    by false e = rw e refl
lines_next b (c ∷ cs) = by (is_feed b) refl (lines_next c cs)
  where
    by : (t : Bool) → is_feed b ≡ t → BeginsWithLine (position_or_len is_feed (c ∷ cs)) (c ∷ cs) → BeginsWithLine (position_or_len is_feed (b ∷ c ∷ cs)) (b ∷ c ∷ cs)
    by true e ih = rw e refl
    by false e ih =
        let s : 1 + position_or_len is_feed (c ∷ cs) ≡ suc (position_or_len is_feed (c ∷ cs)) = omega arith in
        let n-is : position_or_len is_feed (b ∷ c ∷ cs) ≡ suc (position_or_len is_feed (c ∷ cs)) = rw e s in
        subst (λ (n : ℕ). BeginsWithLine n (b ∷ c ∷ cs)) (sym n-is) (line_longer b (c ∷ cs) (position_or_len is_feed (c ∷ cs)) e ih)
