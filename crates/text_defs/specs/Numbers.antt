-- The one spelling of a number: `0`, or a digit 1 to 9 followed by digits 0 to 9.
use Rattle.std.specs.Prelude.{◌≡◌, ℕ, ◌+◌, ◌-◌, ◌*◌, ◌==◌, nat_le, List, [], ◌∷◌, decimal, Option, Some, None, if◌then◌else◌}
use Rattle.std.specs.Char.{is_ascii_digit}

-- the text is the number's decimal digits, without a leading 0
abbrev pub Spells : List ℕ → ℕ → Type 0
Spells text n = text ≡ decimal n

-- the number whose digits are those of n and then these; none where one of them isn't a digit
abbrev pub number_from : ℕ → List ℕ → Option ℕ
number_from n [] = Some n
number_from n (b ∷ bs) = if is_ascii_digit b then number_from (10 * n + (b - 48)) bs else None

-- the number that the text spells, computed; none where it spells no number
abbrev pub number_in : List ℕ → Option ℕ
number_in [] = None
number_in (b ∷ []) = number_from 0 (b ∷ [])
number_in (b ∷ c ∷ bs) = if b == 48 then None else number_from 0 (b ∷ c ∷ bs)

-- the number, where there is one and it is at most the greatest
abbrev pub at_most : ℕ → Option ℕ → Option ℕ
at_most max None = None
at_most max (Some n) = if nat_le n max then Some n else None

-- the number, where there is one and it isn't 0
abbrev pub at_least_one : Option ℕ → Option ℕ
at_least_one None = None
at_least_one (Some n) = if nat_le 1 n then Some n else None

-- the number from 0 to the greatest that the text spells
abbrev pub number_within : ℕ → List ℕ → Option ℕ
number_within max text = at_most max (number_in text)

-- the number from 1 to the greatest that the text spells
abbrev pub positive_within : ℕ → List ℕ → Option ℕ
positive_within max text = at_least_one (number_within max text)
