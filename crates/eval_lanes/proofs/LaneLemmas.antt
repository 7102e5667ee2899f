-- Lanes of words, and words of blocks.
use Rattle.std.proofs.Common.{◌≡◌, ℕ, zero, suc, ◌+◌, ◌%◌, ◌<◌, min, List, [], ◌∷◌, Some, length, map, get_or, set, slice_get, bit_and, bit_xor, refl, ap, sym, ◌∙◌, arith}
use Rattle.std.specs.Int.{bit_at}
use Rattle.std.proofs.lemmas.List.{length-map, map-set, get_or-map}
use Rattle.std.proofs.lemmas.Option.{slice_get-map, get_or_from_slice_get}
use Rattle.std.proofs.lemmas.Simd.{get_or-zip2, length-zip2}
use Rattle.std.specs.Simd.Lanes.{zip2}
use Rattle.std.proofs.lemmas.Nat.Bits.{bit_at-zero, bit_at-lt, bit_at_and, bit_at_xor}
use Rattle.std.specs.Option.{option_map}
use Rattle.fabric_defs.specs.Wirings.{pad_bit}
use Rattle.lanes_defs.specs.Lanes.{lane}
use Rattle.eval_lanes.specs.Blocks.{words_of}
use Rattle.eval_lanes.specs.Levels.{chosen, mux}
use Rattle.eval_lanes.specs.Places.{seen_bit}

-- an element of a lane is the bit of the word there
pub lane_at : (words : List ℕ) (j i : ℕ) → get_or (lane words j) i 0 ≡ bit_at (get_or words i 0) j
lane_at [] j i = sym (bit_at-zero j)
lane_at (w ∷ ws) j zero = refl
lane_at (w ∷ ws) j (suc i) = lane_at ws j i

-- a lane has a bit for each word
pub length-lane : (words : List ℕ) (j : ℕ) → length (lane words j) ≡ length words
length-lane words j = length-map words (λ word. bit_at word j)

-- the word of a block
pub word_at : {W : Type 0} (word : W → ℕ → ℕ) (blocks : List W) (i p : ℕ) (block : W) → slice_get blocks p ≡ Some block
    → get_or (words_of word blocks i) p 0 ≡ word block i
word_at word blocks i p block is =
    get_or_from_slice_get (words_of word blocks i) p (word block i) 0
    (slice_get-map (λ b. word b i) blocks p ∙ ap (option_map (λ b. word b i)) is)

-- the word of a block that is read
pub word_read : {W : Type 0} (word : W → ℕ → ℕ) (blocks : List W) (i p : ℕ) (d : W) → p < length blocks
    → get_or (words_of word blocks i) p 0 ≡ word (get_or blocks p d) i
word_read word blocks i p d lt = get_or-map (λ b. word b i) blocks p d 0 lt

-- what a pin listens to
pub pin_seen : {W : Type 0} (word : W → ℕ → ℕ) (values : List W) (tracks pins : List ℕ) (i j m track place : ℕ) (block : W) → m < length pins
    → track ≡ get_or pins m 0 → slice_get tracks track ≡ Some place → slice_get values place ≡ Some block
    → get_or (map (seen_bit (lane (words_of word values i) j) tracks) pins) m 0 ≡ bit_at (word block i) j
pin_seen word values tracks pins i j m track place block lt is listens has =
    let bits : List ℕ = lane (words_of word values i) j in
    get_or-map (seen_bit bits tracks) pins m 0 0 lt
    ∙ ap (seen_bit bits tracks) (sym is)
    ∙ ap (λ p. get_or bits p 0) (get_or_from_slice_get tracks track place 0 listens)
    ∙ lane_at (words_of word values i) j place
    ∙ ap (λ w. bit_at w j) (word_at word values i place block has)

-- a block is written
pub words_of-set : {W : Type 0} (word : W → ℕ → ℕ) (blocks : List W) (i p : ℕ) (block : W)
    → words_of word (set blocks p block) i ≡ set (words_of word blocks i) p (word block i)
words_of-set word blocks i p block = map-set (λ b. word b i) blocks p block

-- there is a word for each block
pub length-words_of : {W : Type 0} (word : W → ℕ → ℕ) (blocks : List W) (i : ℕ) → length (words_of word blocks i) ≡ length blocks
length-words_of word blocks i = length-map blocks (λ b. word b i)

-- the word of an input pad has its bits
pub pad_lane : (inputs : List ℕ) (j s : ℕ) → bit_at (pad_bit inputs s) j ≡ pad_bit (lane inputs j) s
pad_lane inputs j zero = bit_at-zero j
pad_lane inputs j (suc p) = sym (lane_at inputs j p)

-- what the sum chooses of two bits, case by case
chosen_sum : (even odd pin : ℕ) → even < 2 → odd < 2 → pin < 2 → (even + min pin ((even + odd) % 2)) % 2 ≡ chosen pin odd even
chosen_sum even odd zero e o p = omega arith
chosen_sum even odd (suc zero) e o p = omega arith
chosen_sum even odd (suc (suc pin)) e o p = absurd (omega arith)

-- a multiplexer chooses in every lane
pub mux_lane : (even odd pin j : ℕ) → bit_at (mux odd even pin) j
    ≡ chosen (bit_at pin j) (bit_at odd j) (bit_at even j)
mux_lane even odd pin j =
    bit_at_xor even (bit_and pin (bit_xor even odd)) j
    ∙ ap (λ b. (bit_at even j + b) % 2) (bit_at_and pin (bit_xor even odd) j ∙ ap (min (bit_at pin j)) (bit_at_xor even odd j))
    ∙ chosen_sum (bit_at even j) (bit_at odd j) (bit_at pin j) (bit_at-lt even j) (bit_at-lt odd j) (bit_at-lt pin j)

-- so does a multiplexer of vectors, in each word
pub vector_mux : (n : ℕ) (even odd pin : List ℕ) (i : ℕ) → length even ≡ n → length odd ≡ n → length pin ≡ n → i < n
    → get_or (zip2 bit_xor even (zip2 bit_and pin (zip2 bit_xor even odd))) i 0 ≡ mux (get_or odd i 0) (get_or even i 0) (get_or pin i 0)
vector_mux n even odd pin i e o p lt =
    let inner : length (zip2 bit_xor even odd) ≡ length even = length-zip2 bit_xor even odd (e ∙ sym o) in
    let outer : length (zip2 bit_and pin (zip2 bit_xor even odd)) ≡ length pin =
    length-zip2 bit_and pin (zip2 bit_xor even odd) (p ∙ sym e ∙ sym inner) in
    get_or-zip2 bit_xor even (zip2 bit_and pin (zip2 bit_xor even odd)) i 0 0 0 (omega arith) (omega arith)
    ∙ ap (bit_xor (get_or even i 0))
    (get_or-zip2 bit_and pin (zip2 bit_xor even odd) i 0 0 0 (omega arith) (omega arith)
    ∙ ap (bit_and (get_or pin i 0)) (get_or-zip2 bit_xor even odd i 0 0 0 (omega arith) (omega arith)))

-- a multiplexer of the same words
pub mux_same : (odd even pin odd' even' : ℕ) → odd ≡ odd' → even ≡ even' → mux odd even pin ≡ mux odd' even' pin
mux_same odd even pin odd' even' o e = ap (λ m. mux m even pin) o ∙ ap (λ m. mux odd' m pin) e
