-- Numbers and the bytes that spell them, and lists that are cut into parts.
use Rattle.std.proofs.Common.{◌≡◌, ℕ, ◌+◌, ◌<◌, ◌≤◌, List, ◌++◌, length, take, drop, get_or, sym, ap, ◌∙◌, arith}
use Rattle.std.specs.List.{All}
use Rattle.std.proofs.lemmas.Bool.{cases_lt}
use Rattle.std.proofs.lemmas.List.{take-append-drop, take-take, drop-take, drop-drop, length-take-le, length-drop, get_or-take, get_or-drop, get_or_past}
use Rattle.std.proofs.lemmas.Nat.{be_bytes_2, be_bytes_4}
use Rattle.std.proofs.Common.{inl, inr, lit<}
use Rattle.byteorder.specs.Endian.{big_bytes, big_number}
use Rattle.byteorder.specs.Numbers.{big_from-take}
use Rattle.bundle_defs.specs.Faults.{number_at}

-- the elements are bytes
abbrev pub AreBytes : List ℕ → Type 0
AreBytes xs = (i : ℕ) → get_or xs i 0 < 256

-- past the end nothing is read but 0
pub AreBytes-from_all : (xs : List ℕ) → All (λ (x : ℕ). x < 256) xs → AreBytes xs
AreBytes-from_all xs h i =
    elim (cases_lt i (length xs)) [ inl lt ↦ h i 0 lt | inr ge ↦ rw (get_or_past xs i 0 ge) (lit< tt) ]

-- a part that follows another one
pub take_on : (i n : ℕ) (xs : List ℕ) → take i xs ++ take n (drop i xs) ≡ take (i + n) xs
take_on i n xs =
    let whole = take-append-drop i (take (i + n) xs) in
    let front : take i (take (i + n) xs) ≡ take i xs = take-take i (i + n) xs (omega arith) in
    let back : drop i (take (i + n) xs) ≡ take n (drop i xs) = drop-take i n xs in
    cc

-- the same behind a place
pub part_on : (i m n : ℕ) (xs : List ℕ) → take m (drop i xs) ++ take n (drop (i + m) xs) ≡ take (m + n) (drop i xs)
part_on i m n xs =
    let whole = take_on m n (drop i xs) in
    let moved : drop m (drop i xs) ≡ drop (i + m) xs = drop-drop m i xs in
    cc

-- a part has as many bytes as were asked for
pub length-part : (i n : ℕ) (xs : List ℕ) → i + n ≤ length xs → length (take n (drop i xs)) ≡ n
length-part i n xs h = length-take-le n (drop i xs) (simp length-drop (omega arith))

-- a part of bytes has bytes
part-bytes : (i n : ℕ) (xs : List ℕ) → AreBytes xs → i + n ≤ length xs → AreBytes (take n (drop i xs))
part-bytes i n xs h within k =
    elim (cases_lt k n) [
      | inl lt ↦ rw (get_or-take n (drop i xs) k 0 lt, get_or-drop i xs k 0) (h (i + k))
      | inr ge ↦ rw (get_or_past (take n (drop i xs)) k 0 (omega (arith, length-part i n xs within))) (lit< tt)
    ]

-- two bytes are spelled by their number
spelled_two : (bs : List ℕ) → length bs ≡ 2 → AreBytes bs → big_bytes 2 (big_number 2 bs) ≡ bs
spelled_two bs two h = be_bytes_2 bs (big_number 2 bs) two h (omega arith)

-- four bytes are spelled by their number
spelled_four : (bs : List ℕ) → length bs ≡ 4 → AreBytes bs → big_bytes 4 (big_number 4 bs) ≡ bs
spelled_four bs four h = be_bytes_4 bs (big_number 4 bs) four h (omega arith)

-- two bytes of a list are spelled by the number that is read there
pub small_number-spelled : (i : ℕ) (xs : List ℕ) → AreBytes xs → i + 2 ≤ length xs → big_bytes 2 (number_at i 2 xs) ≡ take 2 (drop i xs)
small_number-spelled i xs h within =
    ap (big_bytes 2) (sym (big_from-take 0 2 2 (drop i xs) (omega arith)))
    ∙ spelled_two (take 2 (drop i xs)) (length-part i 2 xs within) (part-bytes i 2 xs h within)

-- four bytes of a list are spelled by the number that is read there
pub length-spelled : (i : ℕ) (xs : List ℕ) → AreBytes xs → i + 4 ≤ length xs → big_bytes 4 (number_at i 4 xs) ≡ take 4 (drop i xs)
length-spelled i xs h within =
    ap (big_bytes 4) (sym (big_from-take 0 4 4 (drop i xs) (omega arith)))
    ∙ spelled_four (take 4 (drop i xs)) (length-part i 4 xs within) (part-bytes i 4 xs h within)
