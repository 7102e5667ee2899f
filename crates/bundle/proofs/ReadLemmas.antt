-- Bytes in which nothing is faulty are the bundle of their parts.
use Rattle.std.proofs.Common.{◌≡◌, ℕ, ◌+◌, ◌-◌, ◌<◌, ◌≤◌, ◌^◌, List, ◌++◌, length, take, drop, refl, sym, ap, ◌∙◌, arith, subst}
use Rattle.std.proofs.lemmas.List.{take-append-drop, get_or-drop}
use Rattle.byteorder.specs.Endian.{big_bytes}
use Rattle.byteorder.specs.Numbers.{big_from-lt}
use Rattle.sha2.specs.Sha256.{sha256}
use Rattle.fabric_defs.specs.Geometries.{GeometryValue}
use Rattle.bundle_defs.specs.Bundles.{BundleValue, BundleText, magic, geometry_bytes, body}
use Rattle.bundle_defs.specs.Faults.{number_at, version_in, geometry_in, config_length, trace_length, HasHead, HasItsLength, HasItsDigest}
use Rattle.bundle.specs.Parts.{value_in}
use Rattle.bundle.proofs.NumberLemmas.{AreBytes, take_on, part_on, length-part, small_number-spelled, length-spelled}

-- the parts at these places
abbrev pub parts : ℕ → GeometryValue → ℕ → ℕ → ℕ → List ℕ → BundleValue
parts version g n m place bytes = record {
  version = version;
  geometry = g;
  config = take n (drop 20 bytes);
  trace = take m (drop place bytes);
}

-- the five numbers of a geometry that follow one another
five_parts : (xs a b c d e : List ℕ) → a ≡ take 2 (drop 6 xs) → b ≡ take 2 (drop 8 xs) → c ≡ take 2 (drop 10 xs)
    → d ≡ take 2 (drop 12 xs) → e ≡ take 2 (drop 14 xs) → a ++ b ++ c ++ d ++ e ≡ take 10 (drop 6 xs)
five_parts xs a b c d e ea eb ec ed ee =
    let two = part_on 6 2 2 xs in
    let three = part_on 6 4 2 xs in
    let four = part_on 6 6 2 xs in
    let five = part_on 6 8 2 xs in
    cc

-- the numbers that are read spell the bytes of the geometry
geometry-spelled : (bytes : List ℕ) → AreBytes bytes → 16 ≤ length bytes → geometry_bytes (geometry_in bytes) ≡ take 10 (drop 6 bytes)
geometry-spelled bytes h whole =
    five_parts bytes _ _ _ _ _
    (small_number-spelled 6 bytes h (omega arith)) (small_number-spelled 8 bytes h (omega arith))
    (small_number-spelled 10 bytes h (omega arith)) (small_number-spelled 12 bytes h (omega arith))
    (small_number-spelled 14 bytes h (omega arith))

-- all parts before the digest, where c and t are the lengths of the configuration and of the trace
seven_parts : (c t : ℕ) (xs m v g cl co tl tr : List ℕ) → m ≡ take 4 xs → v ≡ take 2 (drop 4 xs) → g ≡ take 10 (drop 6 xs)
    → cl ≡ take 4 (drop 16 xs) → co ≡ take c (drop 20 xs) → tl ≡ take 4 (drop (20 + c) xs) → tr ≡ take t (drop (24 + c) xs)
    → m ++ v ++ g ++ cl ++ co ++ tl ++ tr ≡ take (24 + c + t) xs
seven_parts c t xs m v g cl co tl tr em ev eg ecl eco etl etr =
    let two = take_on 4 2 xs in
    let three = take_on 6 10 xs in
    let four = take_on 16 4 xs in
    let five = take_on 20 c xs in
    let six = take_on (20 + c) 4 xs in
    let seven = take_on (24 + c) t xs in
    let places : 20 + c + 4 ≡ 24 + c = omega arith in
    cc

-- the parts before the digest, by their lengths
body-parts : (bytes : List ℕ) (c t : ℕ) → AreBytes bytes → HasHead bytes → 24 + c + t ≤ length bytes
    → c ≡ number_at 16 4 bytes → t ≡ number_at (20 + c) 4 bytes
    → body (parts (version_in bytes) (geometry_in bytes) c t (24 + c) bytes)
    ≡ take (24 + c + t) bytes
body-parts bytes c t h head within ec et =
    seven_parts c t bytes magic (big_bytes 2 (version_in bytes)) (geometry_bytes (geometry_in bytes))
    (big_bytes 4 (length (take c (drop 20 bytes)))) (take c (drop 20 bytes))
    (big_bytes 4 (length (take t (drop (24 + c) bytes)))) (take t (drop (24 + c) bytes))
    (sym head.version.magic)
    (small_number-spelled 4 bytes h (omega arith))
    (geometry-spelled bytes h head.whole)
    (ap (big_bytes 4) (length-part 20 c bytes (omega arith) ∙ ec) ∙ length-spelled 16 bytes h (omega arith))
    refl
    (ap (big_bytes 4) (length-part (24 + c) t bytes within ∙ et) ∙ length-spelled (20 + c) bytes h (omega arith))
    refl

-- a list that ends with the digest of what stands before
with_digest : (bytes b : List ℕ) (n : ℕ) → length bytes - 32 ≡ n → HasItsDigest bytes → b ≡ take n bytes → bytes ≡ b ++ sha256 b
with_digest bytes b n e digest eb =
    let whole = take-append-drop (length bytes - 32) bytes in
    cc

-- a number of four bytes is below 2 ^ 32
number_within : (n place : ℕ) (bytes part : List ℕ) → AreBytes bytes → n ≡ number_at place 4 bytes → length part ≡ n → length part < 2 ^ 32
number_within n place bytes part h en el =
    let small : number_at place 4 bytes < 256 ^ 4 = big_from-lt 0 4 (drop place bytes) (λ k. rw (get_or-drop place bytes k 0) (h (place + k))) in
    subst (λ (x : ℕ). x < 2 ^ 32) (sym (el ∙ en)) small

-- the same with the lengths by their names
parts-text : (bytes : List ℕ) (c t : ℕ) → AreBytes bytes → HasHead bytes → HasItsDigest bytes
    → length bytes ≡ 24 + c + t + 32 → c ≡ number_at 16 4 bytes → t ≡ number_at (20 + c) 4 bytes
    → BundleText bytes (parts (version_in bytes) (geometry_in bytes) c t (24 + c) bytes)
parts-text bytes c t h head digest whole ec et = record {
  bundle = record {
    version = head.version.version;
    kind = refl;
    geometry = head.geometry;
    config = number_within c 16 bytes (take c (drop 20 bytes)) h ec (length-part 20 c bytes (omega arith));
    trace = number_within t (20 + c) bytes (take t (drop (24 + c) bytes)) h et (length-part (24 + c) t bytes (omega arith));
  };
  text = with_digest bytes _ (24 + c + t) (omega arith) digest (body-parts bytes c t h head (omega arith) ec et);
}

-- bytes in which nothing is faulty are the bundle of their parts
pub value_in-text : (bytes : List ℕ) → AreBytes bytes → HasHead bytes → HasItsLength bytes → HasItsDigest bytes → BundleText bytes (value_in bytes)
value_in-text bytes h head whole digest =
    parts-text bytes (config_length bytes) (trace_length bytes) h head digest whole refl refl

-- two values with the same parts
same_parts : (bytes : List ℕ) (v v' : ℕ) (g g' : GeometryValue) (n n' m m' place place' : ℕ)
    → v ≡ v' → g ≡ g' → n ≡ n' → m ≡ m' → place ≡ place' → parts v g n m place bytes ≡ parts v' g' n' m' place' bytes
same_parts bytes v v' g g' n n' m m' place place' ev eg en em ep =
    ap (λ (x : ℕ). parts x g n m place bytes) ev ∙ ap (λ (x : GeometryValue). parts v' x n m place bytes) eg
    ∙ ap (λ (x : ℕ). parts v' g' x m place bytes) en ∙ ap (λ (x : ℕ). parts v' g' n' x place bytes) em
    ∙ ap (λ (x : ℕ). parts v' g' n' m' x bytes) ep

-- how long the parts are, by the place of the trace's length
lengths_by_place : (whole place c t : ℕ) → place ≡ 20 + c → whole ≡ 24 + c + t + 32
    → (c ≡ place - 20) × (t ≡ whole - 32 - (place + 4)) × (24 + c ≡ place + 4)
lengths_by_place whole place c t ep ew = (omega arith, omega arith, omega arith)

-- the same by the place of the trace's length
pub parts_at-text : (bytes : List ℕ) (version : ℕ) (g : GeometryValue) (place : ℕ) → AreBytes bytes → HasHead bytes
    → HasItsLength bytes → HasItsDigest bytes → version ≡ version_in bytes → g ≡ geometry_in bytes
    → place ≡ 20 + config_length bytes
    → BundleText bytes (parts version g (place - 20) (length bytes - 32 - (place + 4)) (place + 4) bytes)
parts_at-text bytes version g place h head whole digest ev eg ep =
    let lengths = lengths_by_place (length bytes) place (config_length bytes) (trace_length bytes) ep whole in
    subst (BundleText bytes)
    (same_parts bytes (version_in bytes) version (geometry_in bytes) g _ _ _ _ _ _ (sym ev) (sym eg)
    lengths.0 lengths.1 lengths.2)
    (value_in-text bytes h head whole digest)
