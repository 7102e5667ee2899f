-- What is known of signals with seats and tracks before their words are written, and of the words after that.
use Rattle.std.proofs.Common.{◌≡◌, ℕ, ◌+◌, ◌*◌, ◌<◌, ⊎_elim, List, length, take, Option, Result, Ok, Err, refl, ap, subst, sym, arith}
use Rattle.std.proofs.lemmas.Bool.{cases_lt}
use Rattle.fabric_defs.specs.Bits.{AreBits}
use Rattle.fabric_defs.specs.declared.limits.TheConstants.{MAX_TRACKS}
use Rattle.fabric_defs.specs.Geometries.{GeometryValue}
use Rattle.fabric_defs.specs.Configurations.{ConfigValue, ConfigOf}
use Rattle.fabric_defs.specs.declared.faults.ConfigError.{ConfigError}
use Rattle.fabric_defs.specs.Wirings.{FabOut}
use Rattle.fabric_laws.proofs.LimitLemmas.{length-words}
use Rattle.fabric_laws.proofs.ConfigAnswers.{answer_unique}
use Rattle.map_defs.specs.Mapped.{MappedValue, AreMapped}
use Rattle.map_defs.specs.Columns.{AreColumns}
use Rattle.map_defs.specs.Outputs.{LutOut}
use Rattle.route_defs.specs.declared.span.Span.{Span}
use Rattle.route_defs.specs.Spans.{span_at}
use Rattle.route_defs.specs.Signals.{AreSpans}
use Rattle.route_defs.specs.Placed.{PlacedOf}
use Rattle.route_laws.proofs.FunctionLemmas.{placed_outputs}
use Rattle.place_laws.specs.Routings.{HaveTracks}
use Rattle.place_laws.proofs.SeatingLemmas.{seat-number, seat_of-input}
use Rattle.place_laws.proofs.PlacingLemmas.{pins_tapped, outputs_tapped}
use Rattle.place_route.specs.Routings.{IsRouting, PlaceCells}

-- signals that have tracks can be routed
pub is_routing : (l : MappedValue) (g : GeometryValue) (columns rows : List ℕ) (spans : List Span) (seats : List ℕ) (seated : List Span) (signals : List (Option ℕ)) (chosen tracks : List ℕ)
    → HaveTracks l g columns rows spans seats seated signals chosen tracks → AreMapped l → AreColumns l columns
    → IsRouting l g seated signals chosen tracks
is_routing l g columns rows spans seats seated signals chosen tracks h mapped cols = record {
  few = omega (arith, h.are_seats.room.input_pads, h.geometry.input_pads);
  spans_count = h.have.spans_count;
  signals_count = h.have.signals_count;
  chosen_count = h.choice.count;
  chosen_within = λ seat lt live. h.choice.within seat (span_at seated seat).first lt (omega arith, live);
  cells = λ seat n le e.
      let was = h.have.named seat n e in
      let lt : n < l.inputs + length l.cells = omega (arith, was.0, h.are.count) in (
        ⊎_elim
            (λ here. omega (arith, seat-number l g columns rows seats n h.are_seats lt, seat_of-input l.inputs g columns rows n here, was.1))
            (λ past. past)
            (cases_lt n l.inputs),
        lt,
      );
  pins = λ k lt. pins_tapped l g columns rows spans seats seated signals chosen tracks MAX_TRACKS k h mapped cols (omega (arith, h.geometry.tracks)) lt;
  outputs = outputs_tapped l g columns rows spans seats seated signals chosen tracks MAX_TRACKS h mapped (omega (arith, h.geometry.tracks));
}

-- the result is a value
abbrev IsValue : Result ConfigValue ConfigError → Type 0
IsValue (Ok config) = Unit {0}
IsValue (Err e) = ⊥

-- words that place the cells are a configuration
pub words_configure : (l : MappedValue) (g : GeometryValue) (columns : List ℕ) (spans : List Span) (words : List ℕ)
    → PlaceCells l g columns spans words → ConfigOf g (2 * length words) words (Ok (record { geometry = g; words = words }))
words_configure l g columns spans words placed =
    let config : ConfigValue = record { geometry = g; words = words } in
    (ap (λ n. 2 * n) (length-words config placed.1.configuration), placed.1.configuration, refl)

-- a configuration is no fault
different : (config : ConfigValue) (e : ConfigError) → Ok config ≡ Err e → ⊥
different config e same = subst IsValue same tt

-- so they have no fault
pub no_fault : (l : MappedValue) (g : GeometryValue) (columns : List ℕ) (spans : List Span) (words : List ℕ) (n : ℕ) (e : ConfigError)
    → PlaceCells l g columns spans words → n ≡ length words → ConfigOf g (2 * n) words (Err e) → ⊥
no_fault l g columns spans words n e placed count fault =
    let config : ConfigValue = record { geometry = g; words = words } in
    let F : ℕ → Type 0 = λ m. ConfigOf g (2 * m) words (Err e) in
    different config e
    (answer_unique g (2 * length words) words (Ok config) (Err e) (words_configure l g columns spans words placed) (subst F count fault))

-- and the configuration places the cells
pub placed_of : (l : MappedValue) (g : GeometryValue) (columns : List ℕ) (spans : List Span) (words : List ℕ) (config : ConfigValue)
    → AreColumns l columns → AreSpans l columns g.columns spans → PlaceCells l g columns spans words
    → config ≡ record { geometry = g; words = words } → PlacedOf l g config
placed_of l g columns spans words config cols are placed e =
    let P : ConfigValue → Type 0 = λ k. PlacedOf l g k in
    subst P (sym e) (refl, columns, spans, placed.0, cols, are, placed.1)

-- with its outputs on the first output pads
pub placed_has_outputs : (l : MappedValue) (g : GeometryValue) (config : ConfigValue) (x z : List ℕ) → AreMapped l → PlacedOf l g config
    → AreBits x → FabOut config x z → LutOut l x (take (length l.outputs) z)
placed_has_outputs l g config x z mapped placed bits out =
    placed_outputs l placed.1 placed.3 placed.2 config x z mapped placed.6 bits out
