-- The pins of a cell, and the number that their bits spell.
use Rattle.std.proofs.Common.{◌≡◌, ℕ, zero, suc, ◌+◌, ◌-◌, ◌*◌, ◌^◌, ◌<◌, ◌≤◌, Bool, true, false, List, ◌∷◌, length, map, drop, get_or, refl, ap, sym, ◌∙◌, arith, subst}
use mir.Val.{bool_byte}
use Rattle.std.proofs.lemmas.List.{drop_more}
use Rattle.std.proofs.lemmas.Nat.{pow-add}
use Rattle.pch_base.specs.BitLists.{word_of}
use Rattle.fabric_defs.specs.Numbered.{list_of}
use Rattle.fabric_defs.specs.Geometries.{pin_count, cell_number}
use Rattle.fabric_defs.specs.Configurations.{ConfigValue, pin_word, pin_words}
use Rattle.fabric_defs.specs.Wirings.{Wiring, Wired, channel, cell_pins, tapped_bit}
use Rattle.fabric_laws.proofs.NumberedLemmas.{get_or-list_of, list_of_elements, map-list_of}
use Rattle.fabric_laws.proofs.LayoutLemmas.{cell_number-lt}
use Rattle.fabric.specs.BitArrays.{bit_of}

-- an element of words that are listed by their places
pub listed_at : (n : ℕ) (f : ℕ → ℕ) (words : List ℕ) (i : ℕ) → words ≡ list_of n f → i < n → get_or words i 0 ≡ f i
listed_at n f words i same lt = ap (λ ws. get_or ws i 0) same ∙ get_or-list_of n f i 0 lt

-- the number of the pins from one on, by the bit of that pin and the number of those after it
pub word_of-drop : (f : ℕ → ℕ) (pins : List ℕ) (i : ℕ) → i < length pins
    → word_of (map f (drop i pins)) ≡ f (get_or pins i 0) + 2 * word_of (map f (drop (i + 1) pins))
word_of-drop f pins i lt = ap (λ l. word_of (map f l)) (drop_more pins i 0 lt)

-- one more bit before a number
pub number_more : (number bit pins pin : ℕ) → number < 2 ^ (pins - pin) → bit ≤ 1 → pin ≤ pins → 1 ≤ pin
    → 2 * number + bit < 2 ^ (pins - (pin - 1))
number_more number bit pins pin lt small within some =
    let e : pins - (pin - 1) ≡ pins - pin + 1 = omega arith in
    let p : 2 ^ (pins - pin + 1) ≡ 2 ^ (pins - pin) * 2 ^ 1 = pow-add 2 (pins - pin) 1 in
    let P : ℕ → Type 0 = λ m. 2 * number + bit < 2 ^ m in
    subst P (sym e) (omega arith)

-- off and tracks as places
pub tapped_at : (tracks : List ℕ) (word : ℕ) → get_or (0 ∷ tracks) word 0 ≡ tapped_bit tracks word
tapped_at tracks zero = refl
tapped_at tracks (suc t) = refl

-- the bits at the words of the pins are those of the pins
pub pins_wired : (config : ConfigValue) (x : List ℕ) (w : Wiring) (tracks : List ℕ) (column row : ℕ) → Wired config x w
    → tracks ≡ 0 ∷ channel w column → column < config.geometry.columns → row < config.geometry.rows
    → map (λ word. get_or tracks word 0) (pin_words config column row) ≡ cell_pins w (cell_number config.geometry column row)
pins_wired config x w tracks column row wired is c_lt r_lt =
    let count : ℕ = pin_count config.geometry in
    let f : ℕ → ℕ = λ word. get_or tracks word 0 in
    let cell : ℕ = cell_number config.geometry column row in
    map-list_of f count (pin_word config column row)
    ∙ sym (list_of_elements count (λ pin. f (pin_word config column row pin)) (cell_pins w cell) 0
    (wired.shape.pins cell (cell_number-lt config.geometry column row c_lt r_lt))
    (λ pin lt. wired.pins column row pin c_lt r_lt lt
    ∙ sym (tapped_at (channel w column) (pin_word config column row pin))
    ∙ ap (λ l. get_or l (pin_word config column row pin) 0) (sym is)))

-- a bit is at most 1
pub bit_of-small : (b : Bool) → bit_of b ≤ 1
bit_of-small true = omega arith
bit_of-small false = omega arith

-- a bit as a byte is its number
pub bool_byte-bit_of : (b : Bool) → bool_byte b ≡ bit_of b
bool_byte-bit_of true = refl
bool_byte-bit_of false = refl
