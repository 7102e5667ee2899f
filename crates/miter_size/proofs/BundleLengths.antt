-- A bundle of a configuration and of a trace that isn't too long is within the limits of bundles.
use Rattle.std.proofs.Common.{◌≡◌, ℕ, ◌+◌, ◌*◌, ◌≤◌, List, ◌++◌, length, refl, arith, length-append}
use Rattle.byteorder.specs.Endian.{big_bytes}
use Rattle.sha2.specs.Sha256.{sha256}
use Rattle.fabric_defs.specs.Configurations.{ConfigValue, IsConfig}
use Rattle.fabric_defs.specs.Spelling.{bytes_of}
use Rattle.fabric_laws.proofs.NumberedLemmas.{length-joined}
use Rattle.fabric_laws.proofs.LayoutLemmas.{columns-le}
use Rattle.fabric_laws.proofs.LimitLemmas.{length-words}
use Rattle.sat_text_defs.specs.declared.limits.TheConstants.{MAX_TRACE_BYTES}
use Rattle.bundle_defs.specs.Bundles.{BundleValue, magic, geometry_bytes, body, bundle_bytes}
use Rattle.bundle.proofs.SpellLemmas.{length-sha256}
use Rattle.miter_size.specs.Sizes.{bundle_with, BundleFits}

-- each word has two bytes
length-bytes_of : (words : List ℕ) → length (bytes_of words) ≡ length words * 2
length-bytes_of words = length-joined (length words) 2 _ (λ i lt. refl)

-- the bytes of the longest configuration
config-le : (config : ConfigValue) → IsConfig config → length (bytes_of config.words) ≤ 115328
config-le config h =
    omega (
      arith,
      length-bytes_of config.words,
      length-words config h,
      columns-le config.geometry h.geometry,
      h.geometry.tracks,
      h.geometry.output_pads,
    )

-- what stands round the two parts has 56 bytes
length-bundle_bytes : (v : BundleValue) → length (bundle_bytes v) ≡ length v.config + length v.trace + 56
length-bundle_bytes v =
    let head : List ℕ = magic ++ big_bytes 2 v.version ++ geometry_bytes v.geometry ++ big_bytes 4 (length v.config) in
    let size : List ℕ = big_bytes 4 (length v.trace) in
    omega (
      arith,
      length-append (body v) (sha256 (body v)),
      length-sha256 (body v),
      length-append (head ++ v.config ++ size) v.trace,
      length-append (head ++ v.config) size,
      length-append head v.config,
    )

-- a bundle of a configuration and of a trace within its limit
pub bundle-fits : (version : ℕ) (config : ConfigValue) (trace : List ℕ) → IsConfig config → length trace ≤ MAX_TRACE_BYTES
    → BundleFits version config trace
bundle-fits version config trace h short =
    let few = config-le config h in
    record {
      config_part = omega arith;
      trace_part = omega arith;
      whole = omega (arith, length-bundle_bytes (bundle_with version config trace));
    }
