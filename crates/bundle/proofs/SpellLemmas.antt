-- What the bytes of a bundle show: no fault, and the value that they spell.
use Rattle.std.proofs.Common.{◌≡◌, ℕ, ◌+◌, ◌-◌, ◌<◌, ◌^◌, List, [], ◌++◌, length, take, drop, refl, sym, ap, ◌∙◌, arith, subst, append_assoc}
use Rattle.std.proofs.lemmas.List.{take_at, drop_at, drop-drop, length-append}
use Rattle.byteorder.specs.Endian.{big_bytes, big_number}
use Rattle.byteorder.specs.Numbers.{big_number-reads_back}
use Rattle.sha2.specs.Sha256.{sha256, digest_bytes, final_hash, initial_hash_256}
use Rattle.fabric_defs.specs.Geometries.{GeometryValue, IsGeometry}
use Rattle.bundle_defs.specs.Bundles.{BundleValue, IsVersion, kind_of_version, IsBundle, BundleText, magic, geometry_bytes, body, bundle_bytes}
use Rattle.bundle_defs.specs.Faults.{number_at, version_in, geometry_in, config_length, trace_length, HasVersion, HasHead, HasItsLength, HasItsDigest}
use Rattle.fabric.specs.Geometry.{geometry_of}
use Rattle.bundle.specs.Parts.{value_in}

-- a digest has 32 bytes, whatever the words of the hash value are
length-digest_bytes : (h : List ℕ) → length (digest_bytes h 8) ≡ 32
unfolding digest_bytes
length-digest_bytes h = refl

-- the same of the digest of a message
pub length-sha256 : (m : List ℕ) → length (sha256 m) ≡ 32
unfolding sha256
length-sha256 m = length-digest_bytes (final_hash initial_hash_256 m)

-- bytes that are followed by their digest
with_digest-digest : (m : List ℕ) → HasItsDigest (m ++ sha256 m)
with_digest-digest m =
    let places : length m ≡ length (m ++ sha256 m) - 32 = omega (arith, length-append m (sha256 m), length-sha256 m) in
    subst (λ (n : ℕ). drop n (m ++ sha256 m) ≡ sha256 (take n (m ++ sha256 m))) places
    (drop_at m (sha256 m) (length m) refl ∙ ap sha256 (sym (take_at m (sha256 m) (length m) refl)))

-- all bytes before the configuration
abbrev front : ℕ → GeometryValue → ℕ → List ℕ
front version g n = magic ++ big_bytes 2 version ++ geometry_bytes g ++ big_bytes 4 n

-- the configuration and all behind it
abbrev back : BundleValue → List ℕ
back v = v.config ++ (big_bytes 4 (length v.trace) ++ (v.trace ++ sha256 (body v)))

-- eight lists, grouped in another way
eight_assoc : (a b c d e f g h : List ℕ) → a ++ b ++ c ++ d ++ e ++ f ++ g ++ h ≡ (a ++ b ++ c ++ d) ++ (e ++ (f ++ (g ++ h)))
eight_assoc a b c d e f g h = simp append_assoc

-- the bytes of a bundle are those before the configuration and those from there on
bundle_bytes-split : (v : BundleValue) → bundle_bytes v ≡ front v.version v.geometry (length v.config) ++ back v
bundle_bytes-split v =
    eight_assoc magic (big_bytes 2 v.version) (geometry_bytes v.geometry) (big_bytes 4 (length v.config)) v.config
    (big_bytes 4 (length v.trace)) v.trace (sha256 (body v))

-- two bytes of the head spell a number
small_read : (n : ℕ) → n < 2 ^ 16 → big_number 2 (big_bytes 2 n) ≡ n
small_read n h = big_number-reads_back 2 n [] h

-- the version is read before any bytes
version_in-front : (version : ℕ) (g : GeometryValue) (n : ℕ) (xs : List ℕ) → IsVersion version
    → version_in (front version g n ++ xs) ≡ version
version_in-front version g n xs h = small_read version (omega (arith, h.1))

-- equal numbers and kinds make equal geometries
same_geometry : (g h : GeometryValue) → g.kind ≡ h.kind → g.columns ≡ h.columns → g.rows ≡ h.rows → g.tracks ≡ h.tracks
    → g.input_pads ≡ h.input_pads → g.output_pads ≡ h.output_pads → g ≡ h
same_geometry g h kind columns rows tracks inputs outputs =
    ap (λ x. geometry_of x g.columns g.rows g.tracks g.input_pads g.output_pads) kind
    ∙ ap (λ (x : ℕ). geometry_of h.kind x g.rows g.tracks g.input_pads g.output_pads) columns
    ∙ ap (λ (x : ℕ). geometry_of h.kind h.columns x g.tracks g.input_pads g.output_pads) rows
    ∙ ap (λ (x : ℕ). geometry_of h.kind h.columns h.rows x g.input_pads g.output_pads) tracks
    ∙ ap (λ (x : ℕ). geometry_of h.kind h.columns h.rows h.tracks x g.output_pads) inputs
    ∙ ap (λ (x : ℕ). geometry_of h.kind h.columns h.rows h.tracks h.input_pads x) outputs

-- the geometry is read before any bytes
geometry_in-front : (version : ℕ) (g : GeometryValue) (n : ℕ) (xs : List ℕ) → IsVersion version
    → g.kind ≡ kind_of_version version → IsGeometry g → geometry_in (front version g n ++ xs) ≡ g
geometry_in-front version g n xs hv kind h =
    same_geometry (geometry_in (front version g n ++ xs)) g
    (ap kind_of_version (version_in-front version g n xs hv) ∙ sym kind)
    (small_read g.columns (omega (arith, h.columns))) (small_read g.rows (omega (arith, h.rows)))
    (small_read g.tracks (omega (arith, h.tracks))) (small_read g.input_pads (omega (arith, h.input_pads)))
    (small_read g.output_pads (omega (arith, h.output_pads)))

-- the first bytes tell the version
front-version : (version : ℕ) (g : GeometryValue) (n : ℕ) (xs : List ℕ) → IsVersion version
    → HasVersion (front version g n ++ xs)
front-version version g n xs h = record {
  magic = refl;
  whole = omega arith;
  version = subst IsVersion (sym (version_in-front version g n xs h)) h;
}

-- the bytes before the configuration are a head
front-head : (version : ℕ) (g : GeometryValue) (n : ℕ) (xs : List ℕ) → IsVersion version
    → g.kind ≡ kind_of_version version → IsGeometry g → HasHead (front version g n ++ xs)
front-head version g n xs hv kind h = record {
  version = front-version version g n xs hv;
  whole = omega arith;
  geometry = subst IsGeometry (sym (geometry_in-front version g n xs hv kind h)) h;
}

-- the length of the configuration is read before any bytes
config_length-front : (version : ℕ) (g : GeometryValue) (n : ℕ) (xs : List ℕ) → n < 2 ^ 32
    → config_length (front version g n ++ xs) ≡ n
config_length-front version g n xs h = big_number-reads_back 4 n [] h

-- places behind the head
drop_front : (version : ℕ) (g : GeometryValue) (n k : ℕ) (xs : List ℕ) → drop (20 + k) (front version g n ++ xs) ≡ drop k xs
drop_front version g n k xs = sym (drop-drop k 20 (front version g n ++ xs))

-- the trace's length behind a configuration
trace_length-behind : (version : ℕ) (g : GeometryValue) (config rest : List ℕ) (n m : ℕ) → length config ≡ n → n < 2 ^ 32 → m < 2 ^ 32
    → trace_length (front version g n ++ (config ++ (big_bytes 4 m ++ rest))) ≡ m
trace_length-behind version g config rest n m e hn hm =
    let bytes = front version g n ++ (config ++ (big_bytes 4 m ++ rest)) in
    ap (λ (k : ℕ). number_at (20 + k) 4 bytes) (config_length-front version g n (config ++ (big_bytes 4 m ++ rest)) hn)
    ∙ ap (big_number 4) (drop_front version g n n (config ++ (big_bytes 4 m ++ rest)) ∙ drop_at config (big_bytes 4 m ++ rest) n e)
    ∙ big_number-reads_back 4 m rest hm

-- what is left behind the trace's length
drop_trace : (version : ℕ) (g : GeometryValue) (config rest : List ℕ) (n m : ℕ) → length config ≡ n
    → drop (24 + n) (front version g n ++ (config ++ (big_bytes 4 m ++ rest))) ≡ rest
drop_trace version g config rest n m e =
    let place : 24 + n ≡ 20 + n + 4 = omega arith in
    let bytes = front version g n ++ (config ++ (big_bytes 4 m ++ rest)) in
    ap (λ (k : ℕ). drop k bytes) place
    ∙ sym (drop-drop 4 (20 + n) bytes)
    ∙ ap (drop 4) (drop_front version g n n (config ++ (big_bytes 4 m ++ rest)) ∙ drop_at config (big_bytes 4 m ++ rest) n e)

-- a value by its parts
abbrev value_of_parts : ℕ → GeometryValue → List ℕ → List ℕ → BundleValue
value_of_parts version g config trace = record { version = version; geometry = g; config = config; trace = trace }

-- equal parts make equal values
same_value : (v w : BundleValue) → v.version ≡ w.version → v.geometry ≡ w.geometry → v.config ≡ w.config → v.trace ≡ w.trace → v ≡ w
same_value v w version geometry config trace =
    ap (λ (x : ℕ). value_of_parts x v.geometry v.config v.trace) version
    ∙ ap (λ (x : GeometryValue). value_of_parts w.version x v.config v.trace) geometry
    ∙ ap (λ (x : List ℕ). value_of_parts w.version w.geometry x v.trace) config
    ∙ ap (λ (x : List ℕ). value_of_parts w.version w.geometry w.config x) trace

-- the bytes of a bundle, whatever stands in the place of the digest
abbrev whole : BundleValue → List ℕ → List ℕ
whole v s =
    front v.version v.geometry (length v.config) ++ (v.config ++ (big_bytes 4 (length v.trace) ++ (v.trace ++ s)))

-- the parts stand where the lengths say
value_in-whole : (v : BundleValue) (s : List ℕ) → IsBundle v → value_in (whole v s) ≡ v
value_in-whole v s h =
    let n = length v.config in
    let m = length v.trace in
    let rest = v.config ++ (big_bytes 4 m ++ (v.trace ++ s)) in
    let bytes = whole v s in
    let en = config_length-front v.version v.geometry n rest h.config in
    let em = trace_length-behind v.version v.geometry v.config (v.trace ++ s) n m refl h.config h.trace in
    same_value (value_in bytes) v
    (version_in-front v.version v.geometry n rest h.version)
    (geometry_in-front v.version v.geometry n rest h.version h.kind h.geometry)
    (ap (λ (k : ℕ). take k rest) en ∙ take_at v.config (big_bytes 4 m ++ (v.trace ++ s)) n refl)
    (ap (λ (k : ℕ). take k (drop (24 + config_length bytes) bytes)) em
    ∙ ap (λ (k : ℕ). take m (drop (24 + k) bytes)) en
    ∙ ap (take m) (drop_trace v.version v.geometry v.config (v.trace ++ s) n m refl)
    ∙ take_at v.trace s m refl)

-- there are as many bytes as the lengths say
length-whole : (v : BundleValue) (s : List ℕ) → length s ≡ 32 → IsBundle v → HasItsLength (whole v s)
length-whole v s es h =
    let n = length v.config in
    let m = length v.trace in
    let bytes = whole v s in
    let en = config_length-front v.version v.geometry n (v.config ++ (big_bytes 4 m ++ (v.trace ++ s))) h.config in
    let em = trace_length-behind v.version v.geometry v.config (v.trace ++ s) n m refl h.config h.trace in
    let count : length bytes ≡ 24 + n + m + 32 =
    omega (arith, length-append v.config (big_bytes 4 m ++ (v.trace ++ s)), length-append v.trace s) in
    count ∙ ap (λ (k : ℕ). 24 + k + m + 32) (sym en) ∙ ap (λ (k : ℕ). 24 + config_length bytes + k + 32) (sym em)

-- the bytes of a bundle have no fault, and the value is that of their parts
pub record Shows (bytes : List ℕ) (v : BundleValue) : Type 0 where
  pub head : HasHead bytes
  pub whole : HasItsLength bytes
  pub digest : HasItsDigest bytes
  pub value : value_in bytes ≡ v

-- printed bytes have no fault, and their parts are those printed
bundle_bytes-shows : (v : BundleValue) → IsBundle v → Shows (bundle_bytes v) v
bundle_bytes-shows v h =
    record {
      head = subst HasHead (sym (bundle_bytes-split v))
          (front-head v.version v.geometry (length v.config) (back v) h.version h.kind h.geometry);
      whole = subst HasItsLength (sym (bundle_bytes-split v)) (length-whole v (sha256 (body v)) (length-sha256 (body v)) h);
      digest = with_digest-digest (body v);
      value = ap value_in (bundle_bytes-split v) ∙ value_in-whole v (sha256 (body v)) h;
    }

-- the same of bytes that are the bundle of a value
pub text-shows : (bytes : List ℕ) (v : BundleValue) → BundleText bytes v → Shows bytes v
text-shows bytes v h = subst (λ (xs : List ℕ). Shows xs v) (sym h.text) (bundle_bytes-shows v h.bundle)
