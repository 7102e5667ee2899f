-- Spans that become longer where something listens to their signals.
use Rattle.std.proofs.Common.{◌≡◌, ℕ, ◌+◌, ◌<◌, ◌≤◌, ◌⊎◌, ◌↔◌, ⊎_elim, List, [], ◌∷◌, ◌++◌, length, map, replicate, take, get_or, inl, inr, refl, ap, subst, sym, ◌∙◌, arith, length-append}
use Rattle.std.proofs.lemmas.Bool.{cases_lt}
use Rattle.std.proofs.lemmas.List.{get_or_append_left, get_or-append-add, get_or-replicate, length-replicate, get_or-map, length-map, take_more, take_all}
use Rattle.clause_defs.specs.Clauses.{Has}
use Rattle.pch_base.proofs.SetLemmas.{Has-append}
use Rattle.cell_defs.specs.declared.source.Source.{Source}
use Rattle.cell_defs.specs.declared.source.Source.TheVariants.{Zero, Pad, Cell}
use Rattle.map_defs.specs.Mapped.{MappedValue, mapped_cell}
use Rattle.route_defs.specs.declared.span.Span.{Span}
use Rattle.route_defs.specs.Spans.{span_at, no_span}
use Rattle.route_defs.specs.Signals.{IsSignal, signal_number, first_channel, span_of, AreSpans}
use Rattle.route_laws.proofs.SignalLemmas.{signal_number-apart}
use Rattle.live_spans.specs.Uses.{entering, IsExtended, AreExtended, IsUsedByFirst, AreSpansSoFar}

-- a source that is nowhere makes nothing live
pub none_extended : (l : MappedValue) (spans : List Span) (end : ℕ) → AreExtended l spans spans (Zero ∷ []) end
none_extended l spans end = record {
  count = refl;
  firsts = λ m. refl;
  ends = λ s c signal. (
    λ h. inl h,
    λ h. ⊎_elim
        (λ before. before)
        (λ after. absurd (⊎_elim (λ e. let P : Source → Type 0 = λ t. IsSignal l t in subst P (sym e) signal) (λ none. none) after.0))
        h,
  );
}

-- a signal becomes live itself, and no other one
pub one_extended : (l : MappedValue) (old new : List Span) (t : Source) (end : ℕ) → IsSignal l t
    → IsExtended old new (signal_number l t) end → AreExtended l old new (t ∷ []) end
one_extended l old new t end is h = record {
  count = h.count;
  firsts = h.firsts;
  ends = λ s c signal. (
    λ x. ⊎_elim
        (λ before. inl before)
        (λ after. inr (inl (signal_number-apart l t s is signal (sym after.0)), after.1))
        ((h.ends (signal_number l s) c).0 x),
    λ x. (h.ends (signal_number l s) c).1
        (⊎_elim
        (λ before. inl before)
        (λ after. inr (⊎_elim (λ e. ap (signal_number l) (sym e)) (λ none. absurd none) after.0, after.1))
        x),
  );
}

-- no sources make nothing live
pub nothing_extended : (l : MappedValue) (spans : List Span) (end : ℕ) → AreExtended l spans spans [] end
nothing_extended l spans end = record {
  count = refl;
  firsts = λ m. refl;
  ends = λ s c signal. (λ h. inl h, λ h. ⊎_elim (λ before. before) (λ after. absurd after.0) h);
}

-- one more source
pub more_extended : (l : MappedValue) (old mid new : List Span) (ss : List Source) (i end : ℕ) (d : Source)
    → AreExtended l old mid (take i ss) end → AreExtended l mid new (get_or ss i d ∷ []) end → i < length ss
    → AreExtended l old new (take (i + 1) ss) end
more_extended l old mid new ss i end d first second lt =
    let P : List Source → Type 0 = λ xs. AreExtended l old new xs end in
    subst P (sym (take_more ss i d lt))
    (record {
      count = second.count ∙ first.count;
      firsts = λ m. second.firsts m ∙ first.firsts m;
      ends = λ t c signal. grind (arith, Has-append (take i ss) (get_or ss i d ∷ []) t, first.ends t c signal, second.ends t c signal);
    })

-- the span of a signal to which nothing listens
entering_at : (l : MappedValue) (columns : List ℕ) (s : Source) → length columns ≡ length l.cells → IsSignal l s
    → span_at (replicate l.inputs no_span ++ map entering columns) (signal_number l s) ≡ record { first = first_channel columns s; end = 0 }
entering_at l columns Zero count signal = absurd signal
entering_at l columns (Pad i) count signal =
    get_or_append_left (replicate l.inputs no_span) (map entering columns) no_span i (omega (arith, length-replicate l.inputs no_span))
    ∙ get_or-replicate l.inputs i no_span no_span signal
entering_at l columns (Cell k) count signal =
    let pads : List Span = replicate l.inputs no_span in
    ap (λ n. get_or (pads ++ map entering columns) (n + k) no_span) (sym (length-replicate l.inputs no_span))
    ∙ get_or-append-add pads (map entering columns) k no_span
    ∙ get_or-map entering columns k 0 no_span (omega arith)

-- before all cells and outputs nothing is live
pub none_so_far : (l : MappedValue) (columns : List ℕ) (last : ℕ) (spans : List Span)
    → length columns ≡ length l.cells → spans ≡ replicate l.inputs no_span ++ map entering columns → AreSpansSoFar l columns last 0 0 spans
none_so_far l columns last spans count e =
    let pads : List Span = replicate l.inputs no_span in
    let cells : List Span = map entering columns in
    let long : length pads ≡ l.inputs = length-replicate l.inputs no_span in
    let at : (s : Source) → IsSignal l s → span_at (pads ++ cells) (signal_number l s) ≡ record { first = first_channel columns s; end = 0 } =
    λ s signal. entering_at l columns s count signal in
    record {
      count = ap length e ∙ length-append pads cells ∙ omega (arith, length-map columns entering);
      firsts = λ s signal. ap (λ (x : List Span). (span_of l x s).first) e ∙ ap (λ (x : Span). x.first) (at s signal);
      ends = λ s c signal.
          let none : (span_of l spans s).end ≡ 0 = ap (λ (x : List Span). (span_of l x s).end) e ∙ ap (λ (x : Span). x.end) (at s signal) in (
            λ h. absurd (omega arith),
            λ h. absurd (⊎_elim (λ used. omega (arith, used.1)) (λ out. out.0) h),
          );
    }

-- one more cell
pub cell_so_far : (l : MappedValue) (columns : List ℕ) (last k end : ℕ) (old new : List Span) (pins : List Source)
    → AreSpansSoFar l columns last k 0 old → pins ≡ (mapped_cell l k).pins → end ≡ get_or columns k 0 + 1
    → AreExtended l old new pins end → AreSpansSoFar l columns last (k + 1) 0 new
cell_so_far l columns last k end old new pins h pins_are end_is more = record {
  count = more.count ∙ h.count;
  firsts = λ s signal. more.firsts (signal_number l s) ∙ h.firsts s signal;
  ends = λ s c signal.
      let P : List Source → Type 0 = λ ps. Has ps s in (
        λ x. ⊎_elim
            (λ before. ⊎_elim (λ used. inl (used.0, omega (arith, used.1), used.2, used.3)) (λ out. inr out) ((h.ends s c signal).0 before))
            (λ after. inl (k, omega arith, subst P pins_are after.0, omega (arith, after.1)))
            ((more.ends s c signal).0 x),
        λ x. (more.ends s c signal).1
            (⊎_elim
            (λ used. ⊎_elim
            (λ earlier. inl ((h.ends s c signal).1 (inl (used.0, earlier, used.2, used.3))))
            (λ last_one. let e : used.0 ≡ k = omega (arith, used.1) in
            let Q : ℕ → Type 0 = λ j. Has (mapped_cell l j).pins s in
            let R : ℕ → Type 0 = λ j. c ≤ get_or columns j 0 in
            let le : c ≤ get_or columns k 0 = subst R e used.3 in
            inr (subst P (sym pins_are) (subst Q e used.2), omega arith))
            (cases_lt used.0 k))
            (λ out. absurd out.0)
            x),
      );
}

-- one more output listens
ends_with_output : (l : MappedValue) (columns : List ℕ) (last k o end : ℕ) (old new : List Span) (t s : Source) (c : ℕ)
    → AreSpansSoFar l columns last k o old → end ≡ last + 1 → o < length l.outputs → get_or l.outputs o t ≡ t
    → (c < (span_of l new s).end) ↔ ((c < (span_of l old s).end) ⊎ (Has (t ∷ []) s × (c < end))) → IsSignal l s
    → (c < (span_of l new s).end) ↔ (IsUsedByFirst l columns k s c ⊎ (Has (take (o + 1) l.outputs) s × (c ≤ last)))
ends_with_output l columns last k o end old new t s c h end_is lt read more signal =
    let all : take (o + 1) l.outputs ≡ take o l.outputs ++ t ∷ [] =
    take_more l.outputs o t lt ∙ ap (λ x. take o l.outputs ++ x ∷ []) read in
    let P : List Source → Type 0 = λ outs. (c < (span_of l new s).end) ↔ (IsUsedByFirst l columns k s c ⊎ (Has outs s × (c ≤ last))) in
    let has = Has-append (take o l.outputs) (t ∷ []) s in
    let before = h.ends s c signal in
    subst P (sym all) (
      λ x. ⊎_elim
          (λ b. ⊎_elim (λ used. inl used) (λ out. inr (has.1 (inl out.0), out.1)) (before.0 b))
          (λ a. inr (has.1 (inr a.0), omega (arith, a.1)))
          (more.0 x),
      λ x. more.1
          (⊎_elim
          (λ used. inl (before.1 (inl used)))
          (λ out. ⊎_elim (λ first. inl (before.1 (inr (first, out.1)))) (λ new_one. inr (new_one, omega (arith, out.1))) (has.0 out.0))
          x),
    )

-- one more output
pub output_so_far : (l : MappedValue) (columns : List ℕ) (last k o end : ℕ) (old new : List Span) (t : Source)
    → AreSpansSoFar l columns last k o old → end ≡ last + 1 → o < length l.outputs → get_or l.outputs o t ≡ t
    → AreExtended l old new (t ∷ []) end → AreSpansSoFar l columns last k (o + 1) new
output_so_far l columns last k o end old new t h end_is lt read more =
    record {
      count = more.count ∙ h.count;
      firsts = λ s signal. more.firsts (signal_number l s) ∙ h.firsts s signal;
      ends = λ s c signal. ends_with_output l columns last k o end old new t s c h end_is lt read (more.ends s c signal) signal;
    }

-- after all cells and outputs the spans are those of the signals
pub all_so_far : (l : MappedValue) (columns : List ℕ) (last k o : ℕ) (spans : List Span) → AreSpansSoFar l columns last k o spans
    → k ≡ length l.cells → o ≡ length l.outputs → AreSpans l columns last spans
all_so_far l columns last k o spans h k_is o_is =
    let P : ℕ → ℕ → Source → ℕ → Type 0 = λ n m s c.
    (c < (span_of l spans s).end) ↔ (IsUsedByFirst l columns n s c ⊎ (Has (take m l.outputs) s × (c ≤ last))) in
    let Q : List Source → Source → ℕ → Type 0 = λ outs s c.
    (c < (span_of l spans s).end) ↔ (IsUsedByFirst l columns (length l.cells) s c ⊎ (Has outs s × (c ≤ last))) in
    record {
      count = h.count;
      firsts = h.firsts;
      ends = λ s c signal.
          subst (λ outs. Q outs s c) (take_all (length l.outputs) l.outputs (omega arith))
          (subst (λ m. P (length l.cells) m s c) o_is (subst (λ n. P n o s c) k_is (h.ends s c signal)));
    }
