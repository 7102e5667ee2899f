use Rattle.std.proofs.Common.{arith, refl}
use Rattle.bundle.proofs.ReadLemmas.{parts_at-text}
use Rattle.bundle.proofs.reading.read_bundle.Goals as goal

-- the bytes have a head, their length and their digest
pub returns : goal.returns
returns c =
    let version = c.in_ok-version.ensures.version in
    let head = c.in_ok-geometry.ensures.head in
    let place = c.in-Some.ensures {u = tt} in
    let digest = c.if-not-has_its_digest.ensures {u = tt} in
    parts_at-text c.args.b.now c.in_ok-version.version c.in_ok-geometry.geometry c.in-Some.place
    (λ i. omega (arith, c.type_inv.b i)) head.0 (place.some.0 refl) (digest.0 refl)
    version.1 head.1 place.value
