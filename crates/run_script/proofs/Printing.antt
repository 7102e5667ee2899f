-- What holds of all elements holds at a place.
use Rattle.std.proofs.Common.{◌≡◌, ℕ, ◌<◌, List, length, map, get_or, sym, ap, subst, ◌∙◌, arith}
use Rattle.std.specs.Prelude.{All}
use Rattle.std.proofs.lemmas.List.{get_or-map, length-map}

-- what holds of all images holds of that of the element at a place
pub at_image : {X Y : Type 0} (P : Y → Type 0) (f : X → Y) (xs : List X) (i : ℕ) (x : X) → All P (map f xs) → i < length xs → x ≡ get_or xs i x → P (f x)
at_image P f xs i x all lt is =
    subst P (get_or-map f xs i x (f x) lt ∙ ap f (sym is)) (all i (f x) (omega (arith, length-map xs f)))
