-- Lines that have another number of words than a fabric.
use Rattle.std.proofs.Common.{◌≡◌, ℕ, ◌<◌, ◌≤◌, Bool, true, false, cond, List, [], ◌∷◌, length, Option, None, Bor, refl, sym, arith}
use Rattle.std.specs.Prelude.{codes}
use Rattle.std.specs.Str.{bytes_eq}
use Rattle.script_defs.specs.Commands.{fabric_in, fabric_line}
use Rattle.blif_read.specs.Views.{texts}

-- fewer than five words say no fabric
few_words : (ws : List (Bor (List ℕ))) → length ws < 5 → fabric_in (texts ws) ≡ None
few_words [] h = refl
few_words (c ∷ []) h = refl
few_words (c ∷ r ∷ []) h = refl
few_words (c ∷ r ∷ t ∷ []) h = refl
few_words (c ∷ r ∷ t ∷ i ∷ []) h = refl
few_words (c ∷ r ∷ t ∷ i ∷ o ∷ ws) h = absurd (omega (arith, h))

-- nor do more than five
many_words : (ws : List (Bor (List ℕ))) → 6 ≤ length ws → fabric_in (texts ws) ≡ None
many_words [] h = absurd (omega (arith, h))
many_words (c ∷ []) h = absurd (omega (arith, h))
many_words (c ∷ r ∷ []) h = absurd (omega (arith, h))
many_words (c ∷ r ∷ t ∷ []) h = absurd (omega (arith, h))
many_words (c ∷ r ∷ t ∷ i ∷ []) h = absurd (omega (arith, h))
many_words (c ∷ r ∷ t ∷ i ∷ o ∷ []) h = absurd (omega (arith, h))
many_words (c ∷ r ∷ t ∷ i ∷ o ∷ w ∷ ws) h = refl

-- whether a test passes or not, no value is let through where there is none
no_value : {X : Type 0} (b : Bool) (o : Option X) → o ≡ None → None ≡ cond b o None
no_value true o e = sym e
no_value false o e = refl

-- a line of fewer words says no fabric
pub few_no_fabric : (first : List ℕ) (ws : List (Bor (List ℕ))) → length ws < 5 → None ≡ fabric_line first (texts ws)
few_no_fabric first ws h = no_value (bytes_eq first (codes "fabric")) (fabric_in (texts ws)) (few_words ws h)

-- nor does one of more words
pub many_no_fabric : (first : List ℕ) (ws : List (Bor (List ℕ))) → 6 ≤ length ws → None ≡ fabric_line first (texts ws)
many_no_fabric first ws h = no_value (bytes_eq first (codes "fabric")) (fabric_in (texts ws)) (many_words ws h)
