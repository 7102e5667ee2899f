use Rattle.std.proofs.Common.{◌≡◌, ◌+◌, ◌*◌, ◌≤◌, ℕ, List, length, vec_len, get_or, None, Ok, Err, inr, ap, subst, sym, ◌∙◌, arith}
use Rattle.std.proofs.lemmas.Result.{err_from_is_err_and}
use Rattle.fabric_defs.specs.Configurations.{ConfigOf}
use Rattle.route_defs.specs.declared.span.Span.{Span}
use Rattle.route_defs.specs.declared.demand.Demand.{Demand}
use Rattle.route_defs.specs.Spans.{span_at, need}
use Rattle.route_defs.specs.Signals.{AreSpans}
use Rattle.route_defs.specs.Demands.{demands, first_over}
use Rattle.route_defs.specs.Routes.{RouteOf}
use Rattle.route_laws.proofs.SignalLemmas.{ends-le}
use Rattle.place_route.specs.Refusals.{Refuses, fabric_demands, listed_demands}
use Rattle.place_route.specs.Routings.{PlaceCells}
use Rattle.place_route.proofs.DemandLemmas.{columns_met, refused_columns, all_met}
use Rattle.place_route.proofs.RoutingLemmas.{no_fault, placed_of, placed_has_outputs}
use Rattle.place_route.proofs.route.place_route.Goals as goal

-- the columns are there, since no more of them are used
pub rows_of-requires-clause-within : goal.rows_of-requires-clause-within
rows_of-requires-clause-within c =
    let l = c.args.l.now in
    let columns = c.columns-columns.result.now in
    let none : first_over (fabric_demands l c.args.g columns) ≡ None = ap first_over (sym c.fabric_demands.ensures) ∙ c.in_ok-refuse.ensures.met in
    λ k lt. omega (arith, columns_met l c.args.g columns none k lt, c.c-2.ensures.value)

-- so all signals end within the channels
pub needs_of-requires-clause-within : goal.needs_of-requires-clause-within
needs_of-requires-clause-within c =
    let l = c.args.l.now in
    let g = c.args.g in
    let columns = c.columns-columns.result.now in
    let spans = c.in_ok-spans.spans.items in
    let none : first_over (fabric_demands l g columns) ≡ None = ap first_over (sym c.fabric_demands.ensures) ∙ c.in_ok-refuse.ensures.met in
    let L : ℕ → Type 0 = λ last. AreSpans l columns last spans in
    let are : AreSpans l columns g.columns spans = subst L c.c.ensures.value c.in_ok-spans.ensures in
    λ i lt. let P : List Span → Type 0 = λ ss. (span_at ss i).end ≤ c.c-3.result + 1 in
    subst P (sym c.deref.ensures.value)
    (omega (
      arith,
      c.c-3.ensures.value,
      ends-le l columns g.columns spans are
          (λ k less. columns_met l g columns none k (omega (arith, c.columns-columns.ensures.columns.count)))
          i (omega (arith, lt, ap length c.deref.ensures.value)),
    ))

-- the refusal of a column or of a channel is the first
pub returns-in_err-refuse-2-clause-route : goal.returns-in_err-refuse-2-clause-route
returns-in_err-refuse-2-clause-route c =
    let l = c.args.l.now in
    let g = c.args.g in
    let columns = c.columns-columns.result.now in
    let spans = c.in_ok-spans.spans.items in
    let counts = c.deref-2.result.now in
    let needs = c.deref-3.result.now in
    let e = c.in_err-refuse-2.field-0.0 in
    let none : first_over (fabric_demands l g columns) ≡ None = ap first_over (sym c.fabric_demands.ensures) ∙ c.in_ok-refuse.ensures.met in
    let L : ℕ → Type 0 = λ last. AreSpans l columns last spans in
    let are : AreSpans l columns g.columns spans = subst L c.c.ensures.value c.in_ok-spans.ensures in
    let R : List Demand → Type 0 = λ ds. Refuses ds e in
    let over : Refuses (listed_demands g counts needs) e =
    subst R (c.deref-4.ensures.value ∙ c.in_ok-column_demands.ensures) c.in_err-refuse-2.ensures.over in
    let p = err_from_is_err_and c.from_residual-in_err-refuse-2.result c.from_residual-in_err-refuse-2.ensures.1 in
    let fault : RouteOf l g (Err e) =
    refused_columns l g columns counts needs spans e c.columns-columns.ensures.columns are none
    (λ k lt. ap (λ ns. get_or ns k 0) c.deref-2.ensures.value ∙ c.in_ok-rows.ensures.counts k (omega (arith, lt, c.c-2.ensures.value)))
    (λ k lt. ap (λ ns. get_or ns k 0) c.deref-3.ensures.value ∙ c.in_ok-needs.ensures.needs k (omega (arith, lt, c.c-3.ensures.value))
    ∙ ap (λ ss. need ss k) c.deref.ensures.value)
    over in
    rw (p.1, p.2) (inr fault)

-- where no part has a demand that is over, nothing is wanting
pub routed_words-requires-clause-met : goal.routed_words-requires-clause-met
routed_words-requires-clause-met c =
    let l = c.args.l.now in
    let g = c.args.g in
    let columns = c.columns-columns.result.now in
    let spans = c.in_ok-spans.spans.items in
    let counts = c.deref-2.result.now in
    let needs = c.deref-3.result.now in
    let none : first_over (fabric_demands l g columns) ≡ None = ap first_over (sym c.fabric_demands.ensures) ∙ c.in_ok-refuse.ensures.met in
    let rest : first_over (listed_demands g counts needs) ≡ None =
    ap first_over (sym (c.deref-4.ensures.value ∙ c.in_ok-column_demands.ensures)) ∙ c.in_ok-refuse-2.ensures.met in
    let P : List Span → Type 0 = λ ss. first_over (demands l g columns ss) ≡ None in
    subst P (sym c.deref-6.ensures.value)
    (all_met l g columns counts needs spans
    (λ k lt. ap (λ ns. get_or ns k 0) c.deref-2.ensures.value ∙ c.in_ok-rows.ensures.counts k (omega (arith, lt, c.c-2.ensures.value)))
    (λ k lt. ap (λ ns. get_or ns k 0) c.deref-3.ensures.value ∙ c.in_ok-needs.ensures.needs k (omega (arith, lt, c.c-3.ensures.value))
    ∙ ap (λ ss. need ss k) c.deref.ensures.value)
    none rest)

-- the words are a configuration
pub unreachable-requires : goal.unreachable-requires
unreachable-requires c =
    let count : vec_len c.in_ok-words.words ≡ length c.in_ok-words.words.items = omega arith in
    no_fault c.args.l.now c.args.g c.columns-columns.result.now c.deref-6.result.now c.in_ok-words.words.items (vec_len c.in_ok-words.words)
    c.in-Err.field-0 c.in_ok-words.ensures count c.in-Err.ensures

-- nothing is wanting, and the configuration places the cells
pub returns-clause-route : goal.returns-clause-route
returns-clause-route c =
    let l = c.args.l.now in
    let g = c.args.g in
    let columns = c.columns-columns.result.now in
    let spans = c.in_ok-spans.spans.items in
    let counts = c.deref-2.result.now in
    let needs = c.deref-3.result.now in
    let none : first_over (fabric_demands l g columns) ≡ None = ap first_over (sym c.fabric_demands.ensures) ∙ c.in_ok-refuse.ensures.met in
    let rest : first_over (listed_demands g counts needs) ≡ None =
    ap first_over (sym (c.deref-4.ensures.value ∙ c.in_ok-column_demands.ensures)) ∙ c.in_ok-refuse-2.ensures.met in
    let met : first_over (demands l g columns spans) ≡ None =
    all_met l g columns counts needs spans
    (λ k lt. ap (λ ns. get_or ns k 0) c.deref-2.ensures.value ∙ c.in_ok-rows.ensures.counts k (omega (arith, lt, c.c-2.ensures.value)))
    (λ k lt. ap (λ ns. get_or ns k 0) c.deref-3.ensures.value ∙ c.in_ok-needs.ensures.needs k (omega (arith, lt, c.c-3.ensures.value))
    ∙ ap (λ ss. need ss k) c.deref.ensures.value)
    none rest in
    let L : ℕ → Type 0 = λ last. AreSpans l columns last spans in
    let are : AreSpans l columns g.columns spans = subst L c.c.ensures.value c.in_ok-spans.ensures in
    let P : List Span → Type 0 = λ ss. PlaceCells l g columns ss c.in_ok-words.words.items in
    let placed : PlaceCells l g columns spans c.in_ok-words.words.items = subst P c.deref-6.ensures.value c.in_ok-words.ensures in
    let made : ConfigOf g (2 * vec_len c.in_ok-words.words) c.in_ok-words.words.items (Ok c.in-Ok.config) = c.in-Ok.ensures in (
      (columns, spans, c.columns-columns.ensures.columns, are, sym met),
      placed_of l g columns spans c.in_ok-words.words.items c.in-Ok.config c.columns-columns.ensures.columns are placed made.2,
    )

-- so its first output pads have the outputs
pub returns-clause-outputs : goal.returns-clause-outputs
returns-clause-outputs c =
    let l = c.args.l.now in
    let g = c.args.g in
    let columns = c.columns-columns.result.now in
    let spans = c.in_ok-spans.spans.items in
    let L : ℕ → Type 0 = λ last. AreSpans l columns last spans in
    let are : AreSpans l columns g.columns spans = subst L c.c.ensures.value c.in_ok-spans.ensures in
    let P : List Span → Type 0 = λ ss. PlaceCells l g columns ss c.in_ok-words.words.items in
    let placed : PlaceCells l g columns spans c.in_ok-words.words.items = subst P c.deref-6.ensures.value c.in_ok-words.ensures in
    let made : ConfigOf g (2 * vec_len c.in_ok-words.words) c.in_ok-words.words.items (Ok c.in-Ok.config) = c.in-Ok.ensures in
    λ x z. placed_has_outputs l g c.in-Ok.config x z c.columns-columns.ensures.known.mapped
    (placed_of l g columns spans c.in_ok-words.words.items c.in-Ok.config c.columns-columns.ensures.columns are placed made.2)
