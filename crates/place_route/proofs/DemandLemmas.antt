-- Demands that are tested in two parts are tested in their order, and a refusal names the first that is over.
use Rattle.std.proofs.Common.{◌≡◌, ℕ, zero, suc, ◌+◌, ◌<◌, ◌≤◌, List, [], ◌∷◌, ◌++◌, length, get_or, None, Err, inl, inr, refl, ap, subst, sym, ◌∙◌, arith, append_assoc}
use Rattle.fabric_defs.specs.Numbered.{joined}
use Rattle.fabric_defs.specs.Geometries.{GeometryValue}
use Rattle.fabric_laws.proofs.NumberedLemmas.{joined-more}
use Rattle.map_defs.specs.Mapped.{MappedValue}
use Rattle.map_defs.specs.Columns.{AreColumns}
use Rattle.route_defs.specs.declared.span.Span.{Span}
use Rattle.route_defs.specs.declared.demand.Demand.{Demand}
use Rattle.route_defs.specs.declared.demand.Resource.TheVariants.{Columns, Cells, Tracks}
use Rattle.route_defs.specs.declared.faults.RouteError.{RouteError}
use Rattle.route_defs.specs.declared.faults.RouteError.TheVariants.{Unroutable, NoMemory}
use Rattle.route_defs.specs.Spans.{need}
use Rattle.route_defs.specs.Signals.{AreSpans}
use Rattle.route_defs.specs.Demands.{columns_used, cells_in, column_demands, demands, first_over}
use Rattle.route_defs.specs.Routes.{RouteOf}
use Rattle.place_laws.proofs.RoomLemmas.{enough, columns_used-lt, first_over-append_none, first_over-append_some}
use Rattle.place_route.specs.Refusals.{Refuses, fabric_demands, listed_pair, listed_demands}

-- a column more
pub pairs_more : (g : GeometryValue) (counts needs : List ℕ) (c : ℕ) (all : List Demand) (a b : Demand) → all ≡ joined c (listed_pair g counts needs)
    → a ≡ record { resource = Cells; place = c; need = get_or counts c 0; have = g.rows }
    → b ≡ record { resource = Tracks; place = c; need = get_or needs c 0; have = g.tracks }
    → all ++ a ∷ [] ++ b ∷ [] ≡ joined (c + 1) (listed_pair g counts needs)
pairs_more g counts needs c all a b e p q =
    append_assoc all (a ∷ []) (b ∷ [])
    ∙ ap (λ l. l ++ a ∷ b ∷ []) e
    ∙ ap (λ d. joined c (listed_pair g counts needs) ++ d ∷ b ∷ []) p
    ∙ ap (λ d. joined c (listed_pair g counts needs) ++ record { resource = Cells; place = c; need = get_or counts c 0; have = g.rows } ∷ d ∷ []) q
    ∙ sym (joined-more c (listed_pair g counts needs))

-- parts that agree give the same list
joined-agree : {X : Type 0} (n : ℕ) (f g : ℕ → List X) → ((i : ℕ) → i < n → f i ≡ g i) → joined n f ≡ joined n g
joined-agree zero f g h = refl
joined-agree (suc n) f g h =
    ap (λ l. l ++ f n) (joined-agree n f g (λ i lt. h i (omega arith)))
    ∙ ap (λ l. joined n g ++ l) (h n (omega arith))

-- with the right counts, all that is listed is all that is needed
pub demands-listed : (l : MappedValue) (g : GeometryValue) (columns counts needs : List ℕ) (spans : List Span)
    → ((c : ℕ) → c < g.columns → get_or counts c 0 ≡ cells_in columns c)
    → ((c : ℕ) → c < g.columns + 1 → get_or needs c 0 ≡ need spans c)
    → fabric_demands l g columns ++ listed_demands g counts needs ≡ demands l g columns spans
demands-listed l g columns counts needs spans p q =
    let last : ℕ → Demand = λ n. record { resource = Tracks; place = g.columns; need = n; have = g.tracks } in
    let pair : ℕ → ℕ → ℕ → List Demand = λ c m n. record { resource = Cells; place = c; need = m; have = g.rows }
    ∷ record { resource = Tracks; place = c; need = n; have = g.tracks }
    ∷ [] in
    let same : joined g.columns (listed_pair g counts needs) ≡ joined g.columns (column_demands g columns spans) =
    joined-agree g.columns (listed_pair g counts needs) (column_demands g columns spans)
    (λ c lt. ap (λ m. pair c m (get_or needs c 0)) (p c lt) ∙ ap (pair c (cells_in columns c)) (q c (omega arith))) in
    ap (λ ds. fabric_demands l g columns ++ (ds ++ last (get_or needs g.columns 0) ∷ [])) same
    ∙ ap (λ n. fabric_demands l g columns ++ (joined g.columns (column_demands g columns spans) ++ last n ∷ [])) (q g.columns (omega arith))

-- a refusal of the demands in their order
refused : (l : MappedValue) (g : GeometryValue) (columns : List ℕ) (spans : List Span) (e : RouteError) → AreColumns l columns
    → AreSpans l columns g.columns spans → Refuses (demands l g columns spans) e → RouteOf l g (Err e)
refused l g columns spans (Unroutable resource place need have) cols are h = (columns, spans, cols, are, sym h)
refused l g columns spans NoMemory cols are h = absurd h

-- where a first part has one that is over, that is the refusal
refuses_first : (ds es : List Demand) (e : RouteError) → Refuses ds e → Refuses (ds ++ es) e
refuses_first ds es (Unroutable resource place need have) h =
    first_over-append_some ds es (record { resource = resource; place = place; need = need; have = have }) h
refuses_first ds es NoMemory h = absurd h

-- where none of it is, the refusal is that of the rest
refuses_rest : (ds es : List Demand) (e : RouteError) → first_over ds ≡ None → Refuses es e → Refuses (ds ++ es) e
refuses_rest ds es (Unroutable resource place need have) none h = first_over-append_none ds es none ∙ h
refuses_rest ds es NoMemory none h = absurd h

-- the refusals of both parts
pub refused_fabric : (l : MappedValue) (g : GeometryValue) (columns : List ℕ) (spans : List Span) (e : RouteError) → AreColumns l columns
    → AreSpans l columns g.columns spans → Refuses (fabric_demands l g columns) e → RouteOf l g (Err e)
refused_fabric l g columns spans e cols are h =
    let last : Demand = record { resource = Tracks; place = g.columns; need = need spans g.columns; have = g.tracks } in
    refused l g columns spans e cols are
    (refuses_first (fabric_demands l g columns) (joined g.columns (column_demands g columns spans) ++ last ∷ []) e h)

-- those of the second part count where nothing of the first one is over
pub refused_columns : (l : MappedValue) (g : GeometryValue) (columns counts needs : List ℕ) (spans : List Span) (e : RouteError) → AreColumns l columns
    → AreSpans l columns g.columns spans → first_over (fabric_demands l g columns) ≡ None
    → ((c : ℕ) → c < g.columns → get_or counts c 0 ≡ cells_in columns c)
    → ((c : ℕ) → c < g.columns + 1 → get_or needs c 0 ≡ need spans c)
    → Refuses (listed_demands g counts needs) e → RouteOf l g (Err e)
refused_columns l g columns counts needs spans e cols are none p q h =
    let P : List Demand → Type 0 = λ ds. Refuses ds e in
    refused l g columns spans e cols are
    (subst P (demands-listed l g columns counts needs spans p q)
    (refuses_rest (fabric_demands l g columns) (listed_demands g counts needs) e none h))

-- where no part has one, nothing is wanting
pub all_met : (l : MappedValue) (g : GeometryValue) (columns counts needs : List ℕ) (spans : List Span)
    → ((c : ℕ) → c < g.columns → get_or counts c 0 ≡ cells_in columns c)
    → ((c : ℕ) → c < g.columns + 1 → get_or needs c 0 ≡ need spans c)
    → first_over (fabric_demands l g columns) ≡ None → first_over (listed_demands g counts needs) ≡ None
    → first_over (demands l g columns spans) ≡ None
all_met l g columns counts needs spans p q none rest =
    ap first_over (sym (demands-listed l g columns counts needs spans p q))
    ∙ first_over-append_none (fabric_demands l g columns) (listed_demands g counts needs) none
    ∙ rest

-- where the first demands are met, the columns are there
pub columns_met : (l : MappedValue) (g : GeometryValue) (columns : List ℕ) → first_over (fabric_demands l g columns) ≡ None
    → (k : ℕ) → k < length columns → get_or columns k 0 < g.columns
columns_met l g columns none k lt =
    let used : columns_used columns ≤ g.columns =
    enough (fabric_demands l g columns) none (record { resource = Columns; place = 0; need = columns_used columns; have = g.columns })
    (inr (inr (inl refl))) in
    omega (arith, columns_used-lt columns k lt)
