-- The first fault of bytes that are no bundle: the parts are judged from the front, and the digest last.
use Rattle.std.specs.Prelude.{◌≡◌, ℕ, ◌+◌, ◌-◌, ◌<◌, ◌≤◌, ◌⊎◌, List, length, take, drop, Result, Ok, Err}
use Rattle.byteorder.specs.Endian.{big_number}
use Rattle.sha2.specs.Sha256.{sha256}
use Rattle.fabric_defs.specs.Geometries.{GeometryValue, IsGeometry}
use Rattle.bundle_defs.specs.Bundles.{BundleValue, magic, IsVersion, kind_of_version, BundleText}
use Rattle.bundle_defs.specs.declared.faults.BundleError.{BundleError}
use Rattle.bundle_defs.specs.declared.faults.BundleError.TheVariants.{Magic, Lengths, Version, Geometry, Digest}

-- the first four bytes are `PCHB`
abbrev pub HasMagic : List ℕ → Type 0
HasMagic bytes = take 4 bytes ≡ magic

-- the number in these places, where a byte that isn't there counts as 0
abbrev pub number_at : ℕ → ℕ → List ℕ → ℕ
number_at place count bytes = big_number count (drop place bytes)

-- the number in the place of the version
abbrev pub version_in : List ℕ → ℕ
version_in bytes = number_at 4 2 bytes

-- the numbers in the places of the geometry, with the kind that the version tells
abbrev pub geometry_in : List ℕ → GeometryValue
geometry_in bytes = record {
  kind = kind_of_version (version_in bytes);
  columns = number_at 6 2 bytes;
  rows = number_at 8 2 bytes;
  tracks = number_at 10 2 bytes;
  input_pads = number_at 12 2 bytes;
  output_pads = number_at 14 2 bytes;
}

-- how many bytes the configuration is to have
abbrev pub config_length : List ℕ → ℕ
config_length bytes = number_at 16 4 bytes

-- how many bytes the trace is to have
abbrev pub trace_length : List ℕ → ℕ
trace_length bytes = number_at (20 + config_length bytes) 4 bytes

-- The head with both lengths has 24 bytes, and the digest 32. So where a length isn't there whole, this doesn't
-- hold.
abbrev pub HasItsLength : List ℕ → Type 0
HasItsLength bytes = length bytes ≡ 24 + config_length bytes + trace_length bytes + 32

-- the last 32 bytes are the digest of all before
abbrev pub HasItsDigest : List ℕ → Type 0
HasItsDigest bytes = drop (length bytes - 32) bytes ≡ sha256 (take (length bytes - 32) bytes)

-- `PCHB` and one of the versions
pub record HasVersion (bytes : List ℕ) : Type 0 where
  pub magic : HasMagic bytes
  pub whole : 6 ≤ length bytes
  pub version : IsVersion (version_in bytes)

-- and a geometry within its limits
pub record HasHead (bytes : List ℕ) : Type 0 where
  pub version : HasVersion bytes
  pub whole : 16 ≤ length bytes
  pub geometry : IsGeometry (geometry_in bytes)

-- the value of the bytes, or their first fault
abbrev pub BundleOf : List ℕ → Result BundleValue BundleError → Type 0
BundleOf bytes (Ok v) = BundleText bytes v
BundleOf bytes (Err Magic) = ¬ HasMagic bytes
BundleOf bytes (Err Lengths) =
    (HasMagic bytes × (length bytes < 6))
    ⊎ ((HasVersion bytes × (length bytes < 16))
    ⊎ (HasHead bytes × ¬ HasItsLength bytes))
BundleOf bytes (Err (Version found)) =
    HasMagic bytes × (6 ≤ length bytes) × (found ≡ version_in bytes) × ¬ IsVersion found
BundleOf bytes (Err Geometry) =
    HasVersion bytes × (16 ≤ length bytes) × ¬ IsGeometry (geometry_in bytes)
BundleOf bytes (Err Digest) = HasHead bytes × HasItsLength bytes × ¬ HasItsDigest bytes
