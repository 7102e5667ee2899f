-- The answer to bytes as tests that follow one another, which is what a bundle or a fault is.
use Rattle.std.proofs.Common.{◌≡◌, ℕ, ◌+◌, ◌-◌, ◌<◌, ◌≤◌, inl, inr, List, length, take, drop, Bool, cond, ◌&&◌, ◌==◌, Result, Ok, Err, refl, sym, ap, ◌∙◌, arith, subst}
use Rattle.std.specs.Bool.{Decides}
use Rattle.std.specs.Str.{bytes_eq}
use Rattle.std.proofs.Math.Dec.{ltb}
use Rattle.std.proofs.lemmas.Bool.{cond-true, cond-false, cond_both, cases_Bool}
use Rattle.std.proofs.lemmas.Bool.Decides.{Decides-eqb, Decides-ltb, Decides-and, Decides-like, not_from_Decides}
use Rattle.std.proofs.lemmas.Slice.Eq.{bytes_eq-Decides}
use Rattle.sha2.specs.Sha256.{sha256}
use Rattle.fabric_defs.specs.Geometries.{GeometryValue, IsGeometry}
use Rattle.bundle_defs.specs.Bundles.{BundleValue, magic, IsVersion}
use Rattle.bundle_defs.specs.Faults.{HasMagic, version_in, geometry_in, config_length, trace_length, HasVersion, HasHead, HasItsLength, HasItsDigest, BundleOf}
use Rattle.bundle_defs.specs.declared.faults.BundleError.{BundleError}
use Rattle.bundle_defs.specs.declared.faults.BundleError.TheVariants.{Magic, Lengths, Version, Geometry, Digest}
use Rattle.bundle.specs.Parts.{value_in}
use Rattle.bundle.proofs.NumberLemmas.{AreBytes}
use Rattle.bundle.proofs.ReadLemmas.{value_in-text}
use Rattle.bundle.proofs.SpellLemmas.{text-shows}

-- a number from 1 to a limit
abbrev in_range : ℕ → ℕ → Bool
in_range most n = ltb 0 n && ltb n (most + 1)

-- the test of a number from 1 to a limit
in_range-Decides : (most n : ℕ) → Decides (in_range most n) ((1 ≤ n) × (n ≤ most))
in_range-Decides most n =
    Decides-like (in_range most n) (λ p. (omega arith, omega arith)) (λ p. (omega arith, omega arith))
    (Decides-and (ltb 0 n) (ltb n (most + 1)) (Decides-ltb 0 n) (Decides-ltb n (most + 1)))

-- whether the numbers are a geometry
abbrev geometry_test : GeometryValue → Bool
geometry_test g =
    in_range 64 g.columns && in_range 64 g.rows && in_range 256 g.tracks && in_range 64 g.input_pads && in_range 64 g.output_pads

-- the test of a geometry
geometry_test-Decides : (g : GeometryValue) → Decides (geometry_test g) (IsGeometry g)
geometry_test-Decides g =
    Decides-like (geometry_test g)
    (λ p. record {
      some_columns = p.0.0.0.0.0;
      columns = p.0.0.0.0.1;
      some_rows = p.0.0.0.1.0;
      rows = p.0.0.0.1.1;
      some_tracks = p.0.0.1.0;
      tracks = p.0.0.1.1;
      some_input_pads = p.0.1.0;
      input_pads = p.0.1.1;
      some_output_pads = p.1.0;
      output_pads = p.1.1;
    })
    (λ h. (
      ((((h.some_columns, h.columns), (h.some_rows, h.rows)), (h.some_tracks, h.tracks)), (h.some_input_pads, h.input_pads)),
      (h.some_output_pads, h.output_pads),
    ))
    (Decides-and _ _ (Decides-and _ _ (Decides-and _ _ (Decides-and _ _ (in_range-Decides 64 g.columns) (in_range-Decides 64 g.rows))
    (in_range-Decides 256 g.tracks)) (in_range-Decides 64 g.input_pads)) (in_range-Decides 64 g.output_pads))

-- the tests, in their order
abbrev magic_test : List ℕ → Bool
magic_test bytes = bytes_eq (take 4 bytes) magic

-- whether there are as many bytes as the lengths say
abbrev length_test : List ℕ → Bool
length_test bytes = length bytes == 24 + config_length bytes + trace_length bytes + 32

-- whether the last bytes are the digest of the others
abbrev digest_test : List ℕ → Bool
digest_test bytes = bytes_eq (drop (length bytes - 32) bytes) (sha256 (take (length bytes - 32) bytes))

-- the answer that the tests give
unfoldable pub answer_in : List ℕ → Result BundleValue BundleError
answer_in bytes =
    cond (magic_test bytes)
    (cond (ltb 5 (length bytes))
    (cond (in_range 3 (version_in bytes))
    (cond (ltb 15 (length bytes))
    (cond (geometry_test (geometry_in bytes))
    (cond (length_test bytes) (cond (digest_test bytes) (Ok (value_in bytes)) (Err Digest)) (Err Lengths))
    (Err Geometry))
    (Err Lengths))
    (Err (Version (version_in bytes))))
    (Err Lengths))
    (Err Magic)

-- a choice whose test is met
met : {P A : Type 0} (b : Bool) (x y : A) → Decides b P → P → cond b x y ≡ x
met b x y d h = cond-true b x y (d.1 h)

-- a choice whose test isn't met
unmet : {P A : Type 0} (b : Bool) (x y : A) → Decides b P → ¬ P → cond b x y ≡ y
unmet b x y d h = elim (cases_Bool b) [ inl e ↦ absurd (h (d.0 e)) | inr e ↦ cond-false b x y e ]

-- what holds either way holds of a choice
either : {P A : Type 0} (Q : A → Type 0) (b : Bool) (x y : A) → Decides b P → (P → Q x) → (¬ P → Q y) → Q (cond b x y)
either Q b x y d h k = cond_both b x y Q (λ e. h (d.0 e)) (λ e. k (not_from_Decides b d e))

-- the test of a whole version
six-Decides : (n : ℕ) → Decides (ltb 5 n) (6 ≤ n)
six-Decides n = Decides-like (ltb 5 n) (λ h. omega arith) (λ h. omega arith) (Decides-ltb 5 n)

-- the test of a whole geometry
sixteen-Decides : (n : ℕ) → Decides (ltb 15 n) (16 ≤ n)
sixteen-Decides n = Decides-like (ltb 15 n) (λ h. omega arith) (λ h. omega arith) (Decides-ltb 15 n)

-- the test of the first four bytes
magic-Decides : (bytes : List ℕ) → Decides (magic_test bytes) (HasMagic bytes)
magic-Decides bytes = bytes_eq-Decides (take 4 bytes) magic

-- the test of the version
version-Decides : (bytes : List ℕ) → Decides (in_range 3 (version_in bytes)) (IsVersion (version_in bytes))
version-Decides bytes = in_range-Decides 3 (version_in bytes)

-- the test of the number of bytes
length-Decides : (bytes : List ℕ) → Decides (length_test bytes) (HasItsLength bytes)
length-Decides bytes = Decides-eqb (length bytes) (24 + config_length bytes + trace_length bytes + 32)

-- the test of the digest
digest-Decides : (bytes : List ℕ) → Decides (digest_test bytes) (HasItsDigest bytes)
digest-Decides bytes = bytes_eq-Decides (drop (length bytes - 32) bytes) (sha256 (take (length bytes - 32) bytes))

-- fewer than k
fewer : (k n : ℕ) → ¬ (k ≤ n) → n < k
fewer k n h = omega arith

-- not as many as k
not_so : (k n : ℕ) → n < k → ¬ (k ≤ n)
not_so k n h = λ (e : k ≤ n). omega arith

-- the tests behind the head
abbrev parts_answer : List ℕ → Result BundleValue BundleError
parts_answer bytes = cond (length_test bytes) (cond (digest_test bytes) (Ok (value_in bytes)) (Err Digest)) (Err Lengths)

-- the tests behind the version
abbrev geometry_answer : List ℕ → Result BundleValue BundleError
geometry_answer bytes =
    cond (ltb 15 (length bytes)) (cond (geometry_test (geometry_in bytes)) (parts_answer bytes) (Err Geometry)) (Err Lengths)

-- bytes with a version are judged by what stands behind it
version-answer : (bytes : List ℕ) → HasVersion bytes → answer_in bytes ≡ geometry_answer bytes
unfolding answer_in
version-answer bytes h =
    met (magic_test bytes) _ _ (magic-Decides bytes) h.magic
    ∙ met (ltb 5 (length bytes)) _ _ (six-Decides (length bytes)) h.whole
    ∙ met (in_range 3 (version_in bytes)) _ _ (version-Decides bytes) h.version

-- bytes with a head are judged by what stands behind it
head-answer : (bytes : List ℕ) → HasHead bytes → answer_in bytes ≡ parts_answer bytes
head-answer bytes h =
    version-answer bytes h.version
    ∙ met (ltb 15 (length bytes)) _ _ (sixteen-Decides (length bytes)) h.whole
    ∙ met (geometry_test (geometry_in bytes)) _ _ (geometry_test-Decides (geometry_in bytes)) h.geometry

-- behind a head, the answer of the tests is right
parts_answer-is : (bytes : List ℕ) → AreBytes bytes → HasHead bytes → BundleOf bytes (parts_answer bytes)
parts_answer-is bytes h head =
    either (BundleOf bytes) (length_test bytes) _ _ (length-Decides bytes)
    (λ whole. either (BundleOf bytes) (digest_test bytes) _ _ (digest-Decides bytes)
    (λ digest. value_in-text bytes h head whole digest)
    (λ not. (head, whole, not)))
    (λ not. inr (inr (head, not)))

-- the answer of the tests is the bundle of the bytes, or their first fault
pub answer_in-is : (bytes : List ℕ) → AreBytes bytes → BundleOf bytes (answer_in bytes)
unfolding answer_in
answer_in-is bytes h =
    either (BundleOf bytes) (magic_test bytes) _ _ (magic-Decides bytes)
    (λ m. either (BundleOf bytes) (ltb 5 (length bytes)) _ _ (six-Decides (length bytes))
    (λ six. either (BundleOf bytes) (in_range 3 (version_in bytes)) _ _ (version-Decides bytes)
    (λ v. either (BundleOf bytes) (ltb 15 (length bytes)) _ _ (sixteen-Decides (length bytes))
    (λ whole. either (BundleOf bytes) (geometry_test (geometry_in bytes)) _ _ (geometry_test-Decides (geometry_in bytes))
    (λ g. parts_answer-is bytes h (record { version = record { magic = m; whole = six; version = v }; whole = whole; geometry = g }))
    (λ not. (record { magic = m; whole = six; version = v }, whole, not)))
    (λ not. inr (inl (record { magic = m; whole = six; version = v }, fewer 16 (length bytes) not))))
    (λ not. (m, six, refl, not)))
    (λ not. inl (m, fewer 6 (length bytes) not)))
    (λ not. not)

-- the answer with a value
abbrev good : BundleValue → Result BundleValue BundleError
good v = Ok v

-- the answer with another version
abbrev other_version : ℕ → Result BundleValue BundleError
other_version found = Err (Version found)

-- no other answer is one
pub answer_in-only : (bytes : List ℕ) (a : Result BundleValue BundleError) → BundleOf bytes a → answer_in bytes ≡ a
unfolding answer_in
answer_in-only bytes (Ok v) text =
    let shows = text-shows bytes v text in
    head-answer bytes shows.head
    ∙ met (length_test bytes) _ _ (length-Decides bytes) shows.whole
    ∙ met (digest_test bytes) _ _ (digest-Decides bytes) shows.digest
    ∙ ap good shows.value
answer_in-only bytes (Err Magic) h = unmet (magic_test bytes) _ _ (magic-Decides bytes) h
answer_in-only bytes (Err Lengths) (inl h) =
    met (magic_test bytes) _ _ (magic-Decides bytes) h.0
    ∙ unmet (ltb 5 (length bytes)) _ _ (six-Decides (length bytes)) (not_so 6 (length bytes) h.1)
answer_in-only bytes (Err Lengths) (inr (inl h)) =
    version-answer bytes h.0
    ∙ unmet (ltb 15 (length bytes)) _ _ (sixteen-Decides (length bytes)) (not_so 16 (length bytes) h.1)
answer_in-only bytes (Err Lengths) (inr (inr h)) =
    head-answer bytes h.0 ∙ unmet (length_test bytes) _ _ (length-Decides bytes) h.1
answer_in-only bytes (Err (Version found)) h =
    met (magic_test bytes) _ _ (magic-Decides bytes) h.0
    ∙ met (ltb 5 (length bytes)) _ _ (six-Decides (length bytes)) h.1
    ∙ unmet (in_range 3 (version_in bytes)) _ _ (version-Decides bytes) (λ e. h.3 (subst IsVersion (sym h.2) e))
    ∙ ap other_version (sym h.2)
answer_in-only bytes (Err Geometry) h =
    version-answer bytes h.0
    ∙ met (ltb 15 (length bytes)) _ _ (sixteen-Decides (length bytes)) h.1
    ∙ unmet (geometry_test (geometry_in bytes)) _ _ (geometry_test-Decides (geometry_in bytes)) h.2
answer_in-only bytes (Err Digest) h =
    head-answer bytes h.0
    ∙ met (length_test bytes) _ _ (length-Decides bytes) h.1
    ∙ unmet (digest_test bytes) _ _ (digest-Decides bytes) h.2
