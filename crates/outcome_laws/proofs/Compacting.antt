-- `compact` of the bytes of its file comes to one outcome.
use Rattle.std.proofs.Common.{◌≡◌, inl, inr, ℕ, List, length, codes, sym, ap, subst, ◌∙◌}
use Rattle.clause_defs.specs.Traces.{Entry}
use Rattle.sat_text_defs.specs.TraceText.{TraceText, TraceTextFault}
use Rattle.sat_text_defs.specs.declared.errors.TraceError.{TraceError}
use Rattle.trace_text_laws.proofs.OneReading.{only_trace, only_fault, never_both}
use Rattle.bundle_defs.specs.Bundles.{BundleValue, BundleText, bundle_bytes}
use Rattle.bundle_defs.specs.declared.faults.BundleError.TheVariants.{Version}
use Rattle.verify_defs.specs.Compacting.{compacted_bundle}
use Rattle.verify_laws.proofs.Parts.{bundle_unique}
use Rattle.verify_laws.proofs.Delivered.{bundle_not_faulty, bundle_fault_unique}
use Rattle.pch_lines.specs.Lines.{and_word}
use Rattle.pch_lines.specs.FaultLines.{bundle_line, trace_line}
use Rattle.pch_shell.specs.Outcomes.{Outcome, done_with, bad_input, written_line}
use Rattle.pch_shell.specs.Compact.{HasStatedTrace, IsCompaction, HasOtherVersion, TraceIsFaultyIn, CompactDue}

-- the stated trace of a bundle is one
one_stated : (bytes : List ℕ) (v w : BundleValue) (t u : List Entry) → HasStatedTrace bytes v t → HasStatedTrace bytes w u
    → compacted_bundle v t ≡ compacted_bundle w u
one_stated bytes v w t u h k =
    let same : v ≡ w = bundle_unique bytes v w h.text k.text in
    let P : BundleValue → Type 0 = λ (x : BundleValue). TraceText x.trace 1 t in
    let steps : t ≡ u = only_trace w.trace 1 t u (subst P same h.trace) k.trace in
    ap (λ x. compacted_bundle x t) same ∙ ap (λ ts. compacted_bundle w ts) steps

-- so a bundle is compacted to one
one_compaction : (bytes a b : List ℕ) → IsCompaction bytes a → IsCompaction bytes b → a ≡ b
one_compaction bytes a b h k = h.spells ∙ ap bundle_bytes (one_stated bytes h.bundle k.bundle h.steps k.steps h.reads k.reads) ∙ sym k.spells

-- a bundle has one version
one_version : (bytes : List ℕ) (v w : BundleValue) → BundleText bytes v → BundleText bytes w → v.version ≡ w.version
one_version bytes v w h k = ap (λ (x : BundleValue). x.version) (bundle_unique bytes v w h k)

-- the trace of a bundle of version 1 has one fault
one_trace_fault : (bytes : List ℕ) (e f : TraceError) → TraceIsFaultyIn bytes e → TraceIsFaultyIn bytes f → e ≡ f
one_trace_fault bytes e f h k =
    let P : BundleValue → Type 0 = λ (x : BundleValue). TraceTextFault x.trace 1 e in
    only_fault k.bundle.trace 1 e f (subst P (bundle_unique bytes h.bundle k.bundle h.text k.text) h.faulty) k.faulty

-- a bundle that is compacted has no fault in its trace
compaction_not_faulty : (bytes short : List ℕ) (e : TraceError) → IsCompaction bytes short → TraceIsFaultyIn bytes e → ⊥
compaction_not_faulty bytes short e h k =
    let reads = h.reads in
    let P : BundleValue → Type 0 = λ (x : BundleValue). TraceTextFault x.trace 1 e in
    never_both h.bundle.trace 1 h.steps e reads.trace (subst P (bundle_unique bytes k.bundle h.bundle k.text reads.text) k.faulty)

-- a bundle of another version isn't compacted
other_not_compacted : (bytes short : List ℕ) (version : ℕ) → IsCompaction bytes short → HasOtherVersion bytes version → ⊥
other_not_compacted bytes short version h k =
    let reads = h.reads in
    k.other (sym k.is_version ∙ one_version bytes k.bundle h.bundle k.text reads.text ∙ reads.version)

-- nor is its trace looked at
other_not_faulty : (bytes : List ℕ) (version : ℕ) (e : TraceError) → HasOtherVersion bytes version → TraceIsFaultyIn bytes e → ⊥
other_not_faulty bytes version e h k = h.other (sym h.is_version ∙ one_version bytes h.bundle k.bundle h.text k.text ∙ k.version)

-- `compact` of these bytes comes to one outcome
pub compact_one : (name bytes : List ℕ) (o p : Outcome) → CompactDue name bytes o → CompactDue name bytes p → o ≡ p
compact_one name bytes o p (inl h) (inl k) =
    h.2 ∙ ap (λ short. done_with short (written_line (length short))) (one_compaction bytes h.0 k.0 h.1 k.1) ∙ sym k.2
compact_one name bytes o p (inl h) (inr (inl k)) =
    let a = h.1 in let reads = a.reads in absurd (bundle_not_faulty bytes a.bundle k.0 reads.text k.1)
compact_one name bytes o p (inl h) (inr (inr (inl k))) = absurd (other_not_compacted bytes h.0 k.0 h.1 k.1)
compact_one name bytes o p (inl h) (inr (inr (inr k))) = absurd (compaction_not_faulty bytes h.0 k.0 h.1 k.1)
compact_one name bytes o p (inr (inl h)) (inl k) =
    let a = k.1 in let reads = a.reads in absurd (bundle_not_faulty bytes a.bundle h.0 reads.text h.1)
compact_one name bytes o p (inr (inl h)) (inr (inl k)) =
    h.2 ∙ ap (λ e. bad_input (bundle_line (and_word (codes "bundle") name) e)) (bundle_fault_unique bytes h.0 k.0 h.1 k.1) ∙ sym k.2
compact_one name bytes o p (inr (inl h)) (inr (inr (inl k))) = let a = k.1 in absurd (bundle_not_faulty bytes a.bundle h.0 a.text h.1)
compact_one name bytes o p (inr (inl h)) (inr (inr (inr k))) = let a = k.1 in absurd (bundle_not_faulty bytes a.bundle h.0 a.text h.1)
compact_one name bytes o p (inr (inr (inl h))) (inl k) = absurd (other_not_compacted bytes k.0 h.0 k.1 h.1)
compact_one name bytes o p (inr (inr (inl h))) (inr (inl k)) = let a = h.1 in absurd (bundle_not_faulty bytes a.bundle k.0 a.text k.1)
compact_one name bytes o p (inr (inr (inl h))) (inr (inr (inl k))) =
    let a = h.1 in let b = k.1 in
    h.2
    ∙ ap (λ v. bad_input (bundle_line (and_word (codes "bundle") name) (Version v)))
    (sym a.is_version ∙ one_version bytes a.bundle b.bundle a.text b.text ∙ b.is_version)
    ∙ sym k.2
compact_one name bytes o p (inr (inr (inl h))) (inr (inr (inr k))) = absurd (other_not_faulty bytes h.0 k.0 h.1 k.1)
compact_one name bytes o p (inr (inr (inr h))) (inl k) = absurd (compaction_not_faulty bytes k.0 h.0 k.1 h.1)
compact_one name bytes o p (inr (inr (inr h))) (inr (inl k)) = let a = h.1 in absurd (bundle_not_faulty bytes a.bundle k.0 a.text k.1)
compact_one name bytes o p (inr (inr (inr h))) (inr (inr (inl k))) = absurd (other_not_faulty bytes k.0 h.0 k.1 h.1)
compact_one name bytes o p (inr (inr (inr h))) (inr (inr (inr k))) =
    h.2
    ∙ ap (λ e. bad_input (trace_line (and_word (and_word (codes "bundle") name) (codes "trace")) e)) (one_trace_fault bytes h.0 k.0 h.1 k.1)
    ∙ sym k.2
