-- Where enough of each resource is there, mapped cells have room, and no channel has too many live signals.
use Rattle.std.proofs.Common.{◌≡◌, ℕ, zero, suc, ◌+◌, ◌<◌, ◌≤◌, ⊎_elim, Bool, cond, ◌==◌, ◌&&◌, List, [], ◌∷◌, ◌++◌, length, take, get_or, Option, Some, None, inl, inr, refl, ap, subst, sym, ◌∙◌, arith, leb, ltb, eq-eqb}
use Rattle.std.proofs.lemmas.Bool.{cases_lt, cases_eq, lt-ltb, le-ltb, cond-true, cond-false}
use Rattle.std.proofs.lemmas.Bool.Decides.{nat_tests}
use Rattle.std.proofs.lemmas.List.{ext_get_or}
use Rattle.std.proofs.lemmas.List.Sums.{sum_by-cons, sum_by-take-le, count_by_more_yes}
use Rattle.clause_defs.specs.Clauses.{Has}
use Rattle.pch_base.proofs.SetLemmas.{Has-append}
use Rattle.fabric_defs.specs.Numbered.{joined}
use Rattle.fabric_defs.specs.Geometries.{GeometryValue}
use Rattle.map_defs.specs.Mapped.{MappedValue, AreSettled}
use Rattle.map_defs.specs.Columns.{AreColumns}
use Rattle.map_laws.proofs.ColumnLemmas.{columns-unique}
use Rattle.route_defs.specs.declared.span.Span.{Span}
use Rattle.route_defs.specs.declared.demand.Demand.{Demand}
use Rattle.route_defs.specs.declared.demand.Resource.TheVariants.{InputPads, OutputPads, Columns, Cells, Tracks}
use Rattle.route_defs.specs.Spans.{span_at, no_span, is_live, need}
use Rattle.route_defs.specs.Signals.{signal_number, AreSpans}
use Rattle.route_defs.specs.Demands.{columns_used, cells_in, column_demands, demands, first_over, FirstOverOf}
use Rattle.route_defs.specs.Placed.{row_of, HaveRoom}
use Rattle.route_laws.proofs.SignalLemmas.{signal_at, ends-le}

-- a demand that is over is the first of those that begin with it
first_over-here : (d : Demand) (ds : List Demand) → d.have < d.need → first_over (d ∷ ds) ≡ Some d
first_over-here d ds lt = cond-true (ltb d.have d.need) (Some d) (first_over ds) (lt-ltb d.have d.need lt)

-- one that isn't over is passed
first_over-there : (d : Demand) (ds : List Demand) → d.need ≤ d.have → first_over (d ∷ ds) ≡ first_over ds
first_over-there d ds le = cond-false (ltb d.have d.need) (Some d) (first_over ds) (le-ltb d.have d.need le)

-- where no demand is over, each is met
pub enough : (ds : List Demand) → first_over ds ≡ None → (d : Demand) → Has ds d → d.need ≤ d.have
enough [] h d has = absurd has
enough (e ∷ ds) h d has =
    ⊎_elim
    (λ lt. absurd (let both : Some e ≡ None = sym (first_over-here e ds lt) ∙ h in cc))
    (λ le. ⊎_elim
    (λ same. let P : Demand → Type 0 = λ x. x.need ≤ x.have in subst P same le)
    (λ later. enough ds (sym (first_over-there e ds le) ∙ h) d later)
    has)
    (cases_lt e.have e.need)

-- where the first demands are met, the rest decides
pub first_over-append_none : (ds es : List Demand) → first_over ds ≡ None → first_over (ds ++ es) ≡ first_over es
first_over-append_none [] es h = refl
first_over-append_none (d ∷ ds) es h =
    ⊎_elim
    (λ lt. absurd (let both : Some d ≡ None = sym (first_over-here d ds lt) ∙ h in cc))
    (λ le. first_over-there d (ds ++ es) le ∙ first_over-append_none ds es (sym (first_over-there d ds le) ∙ h))
    (cases_lt d.have d.need)

-- else they do
pub first_over-append_some : (ds es : List Demand) (e : Demand) → first_over ds ≡ Some e → first_over (ds ++ es) ≡ Some e
first_over-append_some [] es e h = absurd (cc)
first_over-append_some (d ∷ ds) es e h =
    ⊎_elim
    (λ lt. first_over-here d (ds ++ es) lt ∙ sym (first_over-here d ds lt) ∙ h)
    (λ le. first_over-there d (ds ++ es) le ∙ first_over-append_some ds es e (sym (first_over-there d ds le) ∙ h))
    (cases_lt d.have d.need)

-- an element of a part is one of all
Has-joined : {X : Type 0} (n : ℕ) (f : ℕ → List X) (i : ℕ) (x : X) → i < n → Has (f i) x → Has (joined n f) x
Has-joined zero f i x lt has = absurd (omega arith)
Has-joined (suc n) f i x lt has =
    ⊎_elim
    (λ here. (Has-append (joined n f) (f n) x).1 (inl (Has-joined n f i x here has)))
    (λ past. let e : i ≡ n = omega arith in
    let P : ℕ → Type 0 = λ m. Has (f m) x in
    (Has-append (joined n f) (f n) x).1 (inr (subst P e has)))
    (cases_lt i n)

-- what is needed of a column is among all that is needed
Has-column : (l : MappedValue) (g : GeometryValue) (columns : List ℕ) (spans : List Span) (c : ℕ) (d : Demand) → c < g.columns
    → Has (column_demands g columns spans c) d → Has (demands l g columns spans) d
Has-column l g columns spans c d lt has =
    let last : List Demand = record { resource = Tracks; place = g.columns; need = need spans g.columns; have = g.tracks } ∷ [] in
    inr (inr (inr ((Has-append (joined g.columns (column_demands g columns spans)) last d).1
    (inl (Has-joined g.columns (column_demands g columns spans) c d lt has)))))

-- and so are the tracks that the last channel needs
Has-last : (l : MappedValue) (g : GeometryValue) (columns : List ℕ) (spans : List Span)
    → Has (demands l g columns spans) (record { resource = Tracks; place = g.columns; need = need spans g.columns; have = g.tracks })
Has-last l g columns spans =
    let d : Demand = record { resource = Tracks; place = g.columns; need = need spans g.columns; have = g.tracks } in
    inr (inr (inr ((Has-append (joined g.columns (column_demands g columns spans)) (d ∷ []) d).1 (inr (inl refl)))))

-- each column is one of those that are used
pub columns_used-lt : (columns : List ℕ) (k : ℕ) → k < length columns → get_or columns k 0 < columns_used columns
columns_used-lt [] k lt = absurd (omega arith)
columns_used-lt (c ∷ cs) zero lt = omega arith
columns_used-lt (c ∷ cs) (suc k) lt =
    let rest : get_or cs k 0 < columns_used cs = columns_used-lt cs k (omega arith) in omega arith

-- the row of a cell is below the count of its column
pub row_of-lt : (columns : List ℕ) (k : ℕ) → k < length columns → row_of columns k < cells_in columns (get_or columns k 0)
row_of-lt columns k lt =
    let c : ℕ = get_or columns k 0 in
    let more : cells_in (take (k + 1) columns) c ≡ cells_in (take k columns) c + 1 =
    count_by_more_yes (λ column. column == c) columns k 0 lt (eq-eqb c c refl) in
    let most : cells_in (take (k + 1) columns) c ≤ cells_in columns c =
    sum_by-take-le (λ column. cond (column == c) 1 0) columns (k + 1) in
    omega arith

-- where all demands are met, there is room
pub have_room : (l : MappedValue) (g : GeometryValue) (columns : List ℕ) (spans : List Span) → length columns ≡ length l.cells
    → first_over (demands l g columns spans) ≡ None → HaveRoom l g columns
have_room l g columns spans count h =
    let met = enough (demands l g columns spans) h in
    let used : columns_used columns ≤ g.columns =
    met (record { resource = Columns; place = 0; need = columns_used columns; have = g.columns }) (inr (inr (inl refl))) in
    let column : (k : ℕ) → k < length l.cells → get_or columns k 0 < g.columns =
    λ k lt. omega (arith, columns_used-lt columns k (omega arith)) in
    record {
      input_pads = met (record { resource = InputPads; place = 0; need = l.inputs; have = g.input_pads }) (inl refl);
      output_pads = met (record { resource = OutputPads; place = 0; need = length l.outputs; have = g.output_pads }) (inr (inl refl));
      column = column;
      row = λ k lt.
          let c : ℕ = get_or columns k 0 in
          let few : cells_in columns c ≤ g.rows =
          met (record { resource = Cells; place = c; need = cells_in columns c; have = g.rows })
          (Has-column l g columns spans c (record { resource = Cells; place = c; need = cells_in columns c; have = g.rows }) (column k lt) (inl refl)) in
          omega (arith, row_of-lt columns k (omega arith));
    }

-- a test as a number
abbrev bit : Bool → ℕ
bit b = cond b 1 0

-- a signal that has ended isn't live
past_one : (f e c : ℕ) → e ≤ c → bit (leb f c && ltb c e) ≡ 0
past_one f e c le = grind (arith, nat_tests)

-- no signal is live where all have ended
pub need-past : (spans : List Span) (c : ℕ) → ((n : ℕ) → n < length spans → (span_at spans n).end ≤ c) → need spans c ≡ 0
need-past [] c h = refl
need-past (s ∷ spans) c h =
    let rest : need spans c ≡ 0 = need-past spans c (λ n lt. h (suc n) (omega arith)) in
    let first : bit (is_live c s) ≡ 0 = past_one s.first s.end c (h 0 (omega arith)) in
    let step : need (s ∷ spans) c ≡ bit (is_live c s) + need spans c = sum_by-cons (λ (t : Span). bit (is_live c t)) s spans in
    omega arith

-- where all demands are met, no channel has more live signals than tracks
pub needs_met : (l : MappedValue) (g : GeometryValue) (columns : List ℕ) (spans : List Span) → AreColumns l columns
    → AreSpans l columns g.columns spans → first_over (demands l g columns spans) ≡ None → (c : ℕ) → need spans c ≤ g.tracks
needs_met l g columns spans cols are h c =
    let met = enough (demands l g columns spans) h in
    let room = have_room l g columns spans cols.count h in
    ⊎_elim
    (λ lt. met (record { resource = Tracks; place = c; need = need spans c; have = g.tracks })
    (Has-column l g columns spans c (record { resource = Tracks; place = c; need = need spans c; have = g.tracks }) lt (inr (inl refl))))
    (λ past. ⊎_elim
    (λ e. let P : ℕ → Type 0 = λ m. need spans m ≤ g.tracks in
    subst P (sym e)
    (met (record { resource = Tracks; place = g.columns; need = need spans g.columns; have = g.tracks }) (Has-last l g columns spans)))
    (λ ne. let none : need spans c ≡ 0 =
    need-past spans c (λ n lt. omega (arith, ends-le l columns g.columns spans are room.column n lt)) in
    omega arith)
    (cases_eq c g.columns))
    (cases_lt c g.columns)

-- numbers with the same numbers below them are one
same_bound : (a b : ℕ) → ((c : ℕ) → c < a → c < b) → ((c : ℕ) → c < b → c < a) → a ≡ b
same_bound a b p q =
    ⊎_elim
    (λ lt. absurd (let more : a < a = q a lt in omega arith))
    (λ le. ⊎_elim (λ lt. absurd (let more : b < b = p b lt in omega arith)) (λ ge. omega arith) (cases_lt b a))
    (cases_lt a b)

-- spans with one first channel and one end are the same
same_span : (s t : Span) → s.first ≡ t.first → s.end ≡ t.end → s ≡ t
same_span s t e f =
    ap (λ n. let v : Span = record { first = n; end = s.end } in v) e
    ∙ ap (λ n. let v : Span = record { first = t.first; end = n } in v) f

-- signals have one list of spans
pub spans-unique : (l : MappedValue) (columns : List ℕ) (last : ℕ) (p q : List Span)
    → AreSpans l columns last p → AreSpans l columns last q → p ≡ q
spans-unique l columns last p q h k =
    ext_get_or no_span p q (h.count ∙ sym k.count)
    (λ n lt. let at = signal_at l n (omega (arith, h.count)) in
    let P : ℕ → Type 0 = λ m. span_at p m ≡ span_at q m in
    let s = at.0 in
    subst P at.2
    (same_span (span_at p (signal_number l s)) (span_at q (signal_number l s))
    (h.firsts s at.1 ∙ sym (k.firsts s at.1))
    (same_bound (span_at p (signal_number l s)).end (span_at q (signal_number l s)).end
    (λ c below. (k.ends s c at.1).1 ((h.ends s c at.1).0 below))
    (λ c below. (h.ends s c at.1).1 ((k.ends s c at.1).0 below)))))

-- settled cells have one answer to what is wanting
pub first_over-unique : (l : MappedValue) (g : GeometryValue) (a b : Option Demand) → AreSettled l → FirstOverOf l g a → FirstOverOf l g b → a ≡ b
first_over-unique l g a b settled p q =
    let columns : p.0 ≡ q.0 = columns-unique l p.0 q.0 settled p.2 q.2 in
    let P : List ℕ → Type 0 = λ cs. AreSpans l cs g.columns p.1 in
    let spans : p.1 ≡ q.1 = spans-unique l q.0 g.columns p.1 q.1 (subst P columns p.3) q.3 in
    p.4
    ∙ ap (λ cs. first_over (demands l g cs p.1)) columns
    ∙ ap (λ ss. first_over (demands l g q.0 ss)) spans
    ∙ sym q.4
