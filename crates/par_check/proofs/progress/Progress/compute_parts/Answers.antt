use Rattle.std.proofs.Common.{◌≡◌, ℕ, ◌+◌, ◌^◌, ◌<◌, ◌-◌, ◌∙◌, length, Option, Result, IfSome, slice_get, sym, ap, subst, arith}
use Rattle.std.specs.List.{range_with_len, AllZip}
use Rattle.std.proofs.lemmas.Slice.Zip.{AllZip-long}
use Rattle.std.proofs.lemmas.List.FromFn.{length-range_with_len}
use Rattle.rayon.specs.Numbers.{nat_range}
use Rattle.rayon.proofs.ToStd.{nat_range-All}
use Rattle.pch_base.specs.declared.memory.NoMemory.{NoMemory}
use Rattle.clause_defs.specs.Literals.{Literal}
use Rattle.flat_lists.specs.Flat.{Flat}
use Rattle.chain_check.specs.Known.{AreOver, literals_at}
use Rattle.par_check.specs.Progress.{IsPart, places_of}
use Rattle.par_check.proofs.ProgressLemmas.{range_zip}
use Rattle.par_check.proofs.progress.Progress.compute_parts.Goals as goal

-- each part may be computed
pub collect-requires-clause-ready : goal.collect-requires-clause-ready
collect-requires-clause-ready g c κs h =
    let ends = c.into_par_iter.ensures in
    let needs = c.requires in
    let t = c.args.self.now.t.now in
    let room = c.args.room.now in
    let inside = nat_range-All (λ i. (i < c.args.parts) × (length c.args.places.now + 1 < 2 ^ 32)
    × ((q : ℕ) → AreOver room.marks.variables (literals_at t room.computed.clauses q))) 0 c.args.parts (λ i low high. (high, needs.few, needs.over)) in
    rw (c.map.ensures.base, c.map.ensures.f, c.with_min_len.ensures.base, ends.0, ends.1) (λ k d lt. (inside k d lt, λ y p. tt))

-- there are as many answers as parts
pub returns-clause-all : goal.returns-clause-all
returns-clause-all g c =
    let t = c.args.self.now.t.now in
    let ends = c.into_par_iter.ensures in
    let h = c.in_ok-found.ensures {u = tt} in
    let numbers = rw (c.map.ensures.base, c.with_min_len.ensures.base) at h.1.1 in
    let each = rw c.map.ensures.f at h.1.2 in
    let whole : c.args.parts - 0 ≡ c.args.parts = omega arith in
    let places = numbers ∙ (λ i. nat_range (ends.0 i) (ends.1 i)) ∙ ap (range_with_len 0) whole in
    let R : ℕ → Result (Option (Flat Literal)) NoMemory → Type 0 = λ p r. IsPart t c.args.room.now.computed.clauses c.args.self.now.done.items (places_of c.args.places.now c.args.parts p) r in
    let zipped = subst (λ xs. AllZip R xs h.0) places each in
    ap length h.2 ∙ AllZip-long R (range_with_len 0 c.args.parts) h.0 zipped ∙ length-range_with_len 0 c.args.parts

-- each answer is that of its part
pub returns-clause-parts : goal.returns-clause-parts
returns-clause-parts g c p =
    let t = c.args.self.now.t.now in
    let ends = c.into_par_iter.ensures in
    let h = c.in_ok-found.ensures {u = tt} in
    let numbers = rw (c.map.ensures.base, c.with_min_len.ensures.base) at h.1.1 in
    let each = rw c.map.ensures.f at h.1.2 in
    let whole : c.args.parts - 0 ≡ c.args.parts = omega arith in
    let places = numbers ∙ (λ i. nat_range (ends.0 i) (ends.1 i)) ∙ ap (range_with_len 0) whole in
    let R : ℕ → Result (Option (Flat Literal)) NoMemory → Type 0 = λ p r. IsPart t c.args.room.now.computed.clauses c.args.self.now.done.items (places_of c.args.places.now c.args.parts p) r in
    let zipped = subst (λ xs. AllZip R xs h.0) places each in
    let from : 0 + p ≡ p = omega arith in
    subst (λ ys. IfSome (slice_get ys p) (R p)) (sym h.2) (subst (λ (q : ℕ). IfSome (slice_get h.0 p) (R q)) from (range_zip R 0 c.args.parts h.0 zipped p))
