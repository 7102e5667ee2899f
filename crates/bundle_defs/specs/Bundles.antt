-- The bytes of a bundle: `PCHB`, the version, the five numbers of the geometry, the configuration and the
-- trace with their lengths before them, and the digest of all before. Numbers have the more significant byte
-- first.
use Rattle.std.specs.Prelude.{◌≡◌, ℕ, ◌==◌, ◌<◌, ◌≤◌, ◌^◌, List, [], ◌∷◌, ◌++◌, length, if◌then◌else◌}
use Rattle.byteorder.specs.Endian.{big_bytes}
use Rattle.sha2.specs.Sha256.{sha256}
use Rattle.fabric_defs.specs.declared.kind.CellKind.{CellKind}
use Rattle.fabric_defs.specs.declared.kind.CellKind.TheVariants.{FourInputs, SixInputs}
use Rattle.fabric_defs.specs.Geometries.{GeometryValue, IsGeometry}

-- a version, a geometry, and the bytes of a configuration and of a trace
pub record BundleValue : Type 0 where
  pub version : ℕ
  pub geometry : GeometryValue
  pub config : List ℕ
  pub trace : List ℕ

-- `PCHB`
abbrev pub magic : List ℕ
magic = 80 ∷ 67 ∷ 72 ∷ 66 ∷ []

-- there are versions 1, 2 and 3
abbrev pub IsVersion : ℕ → Type 0
IsVersion v = (1 ≤ v) × (v ≤ 3)

-- version 3 is of fabrics with cells of six inputs, the others are of fabrics with cells of four inputs
abbrev pub kind_of_version : ℕ → CellKind
kind_of_version v = if v == 3 then SixInputs else FourInputs

-- the five numbers of a geometry; its kind follows from the version
abbrev pub geometry_bytes : GeometryValue → List ℕ
geometry_bytes g =
    big_bytes 2 g.columns ++ big_bytes 2 g.rows ++ big_bytes 2 g.tracks
    ++ big_bytes 2 g.input_pads ++ big_bytes 2 g.output_pads

-- all bytes before the digest
abbrev pub body : BundleValue → List ℕ
body v =
    magic ++ big_bytes 2 v.version ++ geometry_bytes v.geometry
    ++ big_bytes 4 (length v.config) ++ v.config
    ++ big_bytes 4 (length v.trace) ++ v.trace

-- all bytes
abbrev pub bundle_bytes : BundleValue → List ℕ
bundle_bytes v = body v ++ sha256 (body v)

-- the version is one of the three and tells the kind of the geometry's cells; each part has a length that four
-- bytes can spell
pub record IsBundle (v : BundleValue) : Type 0 where
  pub version : IsVersion v.version
  pub kind : v.geometry.kind ≡ kind_of_version v.version
  pub geometry : IsGeometry v.geometry
  pub config : length v.config < 2 ^ 32
  pub trace : length v.trace < 2 ^ 32

-- these bytes are the bundle of this value
pub record BundleText (bytes : List ℕ) (v : BundleValue) : Type 0 where
  pub bundle : IsBundle v
  pub text : bytes ≡ bundle_bytes v
