-- The words of channels, where the last seat that took a track holds it: they carry each live signal on its
-- track, and all else is off.
use Rattle.std.proofs.Common.{◌≡◌, ℕ, zero, suc, ◌+◌, ◌<◌, ◌≤◌, ⊎_elim, Bool, true, false, cond, ◌&&◌, List, length, get_or, Option, Some, None, refl, ap, subst, sym, ◌∙◌, arith, ltb, eqb, eq-eqb, if◌then◌else◌}
use Rattle.std.proofs.lemmas.Bool.{cases_lt, cases_eq, lt-ltb, le-ltb, le-leb, lt-leb, ne_eqb, cond-true, cond-false}
use Rattle.std.proofs.lemmas.Nat.{mul-le}
use Rattle.fabric_defs.specs.Geometries.{GeometryValue}
use Rattle.fabric_laws.proofs.NumberedLemmas.{length-list_of, get_or-list_of}
use Rattle.cell_defs.specs.declared.source.Source.{Source}
use Rattle.map_defs.specs.Mapped.{MappedValue}
use Rattle.route_defs.specs.declared.span.Span.{Span}
use Rattle.route_defs.specs.Spans.{span_at, IsLive, is_live}
use Rattle.route_defs.specs.Signals.{IsSignal, signal_number, first_channel, span_of}
use Rattle.route_defs.specs.Tracks.{AreTracks}
use Rattle.route_defs.specs.Placed.{track_of}
use Rattle.route_laws.specs.Words.{held_word}
use Rattle.route_laws.specs.Seats.{seat_count, seats_until, first_of, entry_of}
use Rattle.route_laws.specs.Listing.{holder, carried_word, listed_track}
use Rattle.route_laws.proofs.SignalLemmas.{signal_number-lt}
use Rattle.route_laws.proofs.HolderLemmas.{holder-taken, holder-unlive, holder-other}
use Rattle.place_laws.specs.Routings.{AreSeats, HaveTracks}
use Rattle.place_laws.proofs.SeatingLemmas.{seat-number, seat_of-lt, entry_of-signal, seat_before, seats-ordered, seat-span, live-signal, first_of-seat, first_of-le, first_of-input, entry_of-le, entry_of-input-le}

-- a test of two numbers
live-test : (s : Span) (c : ℕ) → IsLive s c → is_live c s ≡ true
live-test s c h = ap (λ b. b && ltb c s.end) (le-leb s.first c h.0) ∙ lt-ltb c s.end h.1

-- the test of a signal that isn't live on the channel fails
unlive-test : (s : Span) (c : ℕ) → (IsLive s c → ⊥) → is_live c s ≡ false
unlive-test s c h =
    ⊎_elim
    (λ before. ap (λ b. b && ltb c s.end) (lt-leb s.first c before))
    (λ from. ap (λ b. b && ltb c s.end) (le-leb s.first c from)
    ∙ ⊎_elim (λ lt. absurd (h (from, lt))) (λ le. le-ltb c s.end le) (cases_lt c s.end))
    (cases_lt c s.first)

-- who holds a track took it
pub holder-some : (spans : List Span) (chosen : List ℕ) (n t seat : ℕ) → holder spans chosen n t ≡ Some seat
    → (seat < n) × ((span_at spans seat).first < (span_at spans seat).end) × (get_or chosen seat 0 ≡ t)
holder-some spans chosen zero t seat e = absurd (cc)
holder-some spans chosen (suc n) t seat e =
    ⊎_elim
    (λ live. ⊎_elim
    (λ same. let now : Some n ≡ Some seat = sym (holder-taken spans chosen n t live same) ∙ e in
    let is : n ≡ seat = cc in
    let P : ℕ → Type 0 = λ m. (m < suc n) × ((span_at spans m).first < (span_at spans m).end) × (get_or chosen m 0 ≡ t) in
    subst P is (omega arith, live, same))
    (λ ne. let was = holder-some spans chosen n t seat (sym (holder-other spans chosen n t ne) ∙ e) in
    (omega (arith, was.0), was.1, was.2))
    (cases_eq (get_or chosen n 0) t))
    (λ past. let was = holder-some spans chosen n t seat (sym (holder-unlive spans chosen n t past) ∙ e) in
    (omega (arith, was.0), was.1, was.2))
    (cases_lt (span_at spans n).first (span_at spans n).end)

-- who took a track last holds it
holder-last : (spans : List Span) (chosen : List ℕ) (n t seat : ℕ) → seat < n → (span_at spans seat).first < (span_at spans seat).end
    → get_or chosen seat 0 ≡ t
    → ((p : ℕ) → seat < p → p < n → (span_at spans p).first < (span_at spans p).end → get_or chosen p 0 ≡ t → ⊥)
    → holder spans chosen n t ≡ Some seat
holder-last spans chosen zero t seat lt live e last = absurd (omega arith)
holder-last spans chosen (suc n) t seat lt live e last =
    ⊎_elim
    (λ here. ap (λ m. holder spans chosen (suc m) t) (sym here) ∙ holder-taken spans chosen seat t live e)
    (λ ne. let before : holder spans chosen n t ≡ Some seat =
    holder-last spans chosen n t seat (omega arith) live e (λ p less below. last p less (omega arith)) in
    ⊎_elim
    (λ other. ⊎_elim
    (λ same. absurd (last n (omega arith) (omega arith) other same))
    (λ differs. holder-other spans chosen n t differs ∙ before)
    (cases_eq (get_or chosen n 0) t))
    (λ past. holder-unlive spans chosen n t past ∙ before)
    (cases_lt (span_at spans n).first (span_at spans n).end))
    (cases_eq seat n)

-- the track of a signal is that of its seat
pub track-seat : (l : MappedValue) (g : GeometryValue) (columns rows : List ℕ) (spans : List Span) (seats : List ℕ) (seated : List Span) (signals : List (Option ℕ)) (chosen tracks : List ℕ) (s : Source)
    → HaveTracks l g columns rows spans seats seated signals chosen tracks → IsSignal l s
    → track_of l tracks s ≡ get_or chosen (get_or seats (signal_number l s) 0) 0
track-seat l g columns rows spans seats seated signals chosen tracks s h signal =
    ap (λ ts. get_or ts (signal_number l s) 0) h.tracks_are
    ∙ get_or-list_of (l.inputs + length l.cells) (λ n. get_or chosen (get_or seats n 0) 0) (signal_number l s) 0 (signal_number-lt l s signal)

-- the seat of a signal is there
seat-lt : (l : MappedValue) (g : GeometryValue) (columns rows seats : List ℕ) (s : Source) → AreSeats l g columns rows seats → IsSignal l s
    → get_or seats (signal_number l s) 0 < seat_count l.inputs g
seat-lt l g columns rows seats s h signal =
    let lt = signal_number-lt l s signal in
    omega (
      arith,
      seat-number l g columns rows seats (signal_number l s) h lt,
      seat_of-lt l g columns rows (signal_number l s) h.columns_count h.are_rows h.room lt,
    )

-- seats up to a channel are there
seats_until-le : (l : MappedValue) (g : GeometryValue) (c : ℕ) → c ≤ g.columns → seats_until l.inputs g c ≤ seat_count l.inputs g
seats_until-le l g c le = omega (arith, mul-le c g.rows g.columns g.rows le (omega arith))

-- a live signal's seat holds its track
holder-signal : (l : MappedValue) (g : GeometryValue) (columns rows : List ℕ) (spans : List Span) (seats : List ℕ) (seated : List Span) (signals : List (Option ℕ)) (chosen tracks : List ℕ) (s : Source) (c : ℕ)
    → HaveTracks l g columns rows spans seats seated signals chosen tracks → IsSignal l s → c ≤ g.columns → IsLive (span_of l spans s) c
    → holder seated chosen (seats_until l.inputs g c) (track_of l tracks s) ≡ Some (get_or seats (signal_number l s) 0)
holder-signal l g columns rows spans seats seated signals chosen tracks s c h signal le live =
    let seat : ℕ = get_or seats (signal_number l s) 0 in
    let same : span_at seated seat ≡ span_of l spans s = seat-span l g columns rows seats spans seated signals s h.are h.have signal in
    let first : (span_at seated seat).first ≡ (span_of l spans s).first = ap (λ (v : Span). v.first) same in
    let end : (span_at seated seat).end ≡ (span_of l spans s).end = ap (λ (v : Span). v.end) same in
    let inside : seat < length seated = omega (arith, seat-lt l g columns rows seats s h.are_seats signal, h.have.spans_count) in
    holder-last seated chosen (seats_until l.inputs g c) (track_of l tracks s) seat
    (seat_before l g columns rows seats s c h.are_seats signal (omega (arith, h.are.firsts s signal, live.0)))
    (omega (arith, live.0, live.1))
    (sym (track-seat l g columns rows spans seats seated signals chosen tracks s h signal))
    (λ p less below other e.
    let there : p < length seated = omega (arith, seats_until-le l g c le, h.have.spans_count) in
    let order = seats-ordered l g columns rows seats spans seated signals h.are_seats h.are h.have seat p (omega arith) there in
    let early : (span_at seated p).first ≤ c =
    omega (
      arith,
      first_of-seat l g columns rows seats spans seated signals p (get_or signals p None) h.are_seats h.are h.have (omega (arith, h.have.spans_count)) refl,
      first_of-le l.inputs g p c h.are_seats.some_rows below,
    ) in
    let one : seat ≡ p = h.choice.apart seat p (span_at seated p).first inside there
    (omega (arith, order), omega (arith, live.1)) (omega arith, other)
    (sym (track-seat l g columns rows spans seats seated signals chosen tracks s h signal) ∙ sym e) in
    omega arith)

-- so the word of its track takes it where it enters, and keeps it then
pub track_carries : (l : MappedValue) (g : GeometryValue) (columns rows : List ℕ) (spans : List Span) (seats : List ℕ) (seated : List Span) (signals : List (Option ℕ)) (chosen tracks : List ℕ) (s : Source) (c : ℕ)
    → HaveTracks l g columns rows spans seats seated signals chosen tracks → IsSignal l s → c ≤ g.columns → IsLive (span_of l spans s) c
    → listed_track l.inputs g seated chosen c (track_of l tracks s) ≡ held_word columns s c
track_carries l g columns rows spans seats seated signals chosen tracks s c h signal le live =
    let seat : ℕ = get_or seats (signal_number l s) 0 in
    let same : span_at seated seat ≡ span_of l spans s = seat-span l g columns rows seats spans seated signals s h.are h.have signal in
    let word : Span → ℕ = λ v. (if is_live c v then (if eqb v.first c then entry_of l.inputs g seat else 1) else 0) in
    ap (carried_word l.inputs g seated c) (holder-signal l g columns rows spans seats seated signals chosen tracks s c h signal le live)
    ∙ ap word same
    ∙ cond-true (is_live c (span_of l spans s)) (cond (eqb (span_of l spans s).first c) (entry_of l.inputs g seat) 1) 0 (live-test (span_of l spans s) c live)
    ∙ ap (λ n. cond (eqb n c) (entry_of l.inputs g seat) 1) (h.are.firsts s signal)
    ∙ ap (λ n. cond (eqb (first_channel columns s) c) n 1) (entry_of-signal l g columns rows seats s h.are_seats signal)

-- the word of a track that a seat holds where it isn't live
carried-off : (inputs : ℕ) (g : GeometryValue) (seated : List Span) (c seat : ℕ) → (IsLive (span_at seated seat) c → ⊥) → carried_word inputs g seated c (Some seat) ≡ 0
carried-off inputs g seated c seat ne =
    cond-false (is_live c (span_at seated seat)) (cond (eqb (span_at seated seat).first c) (entry_of inputs g seat) 1) 0
    (unlive-test (span_at seated seat) c ne)

-- a track without a live signal is off, whoever holds it
track-off-held : (l : MappedValue) (g : GeometryValue) (columns rows : List ℕ) (spans : List Span) (seats : List ℕ) (seated : List Span) (signals : List (Option ℕ)) (chosen tracks : List ℕ) (c t : ℕ) (o : Option ℕ)
    → HaveTracks l g columns rows spans seats seated signals chosen tracks → c ≤ g.columns
    → ((s : Source) → IsSignal l s → IsLive (span_of l spans s) c → track_of l tracks s ≡ t → ⊥)
    → holder seated chosen (seats_until l.inputs g c) t ≡ o → carried_word l.inputs g seated c o ≡ 0
track-off-held l g columns rows spans seats seated signals chosen tracks c t None h le none e = refl
track-off-held l g columns rows spans seats seated signals chosen tracks c t (Some seat) h le none e =
    let took = holder-some seated chosen (seats_until l.inputs g c) t seat e in
    let there : seat < seat_count l.inputs g = omega (arith, took.0, seats_until-le l g c le) in
    let who = live-signal l g columns seats spans seated signals seat (get_or signals seat None) h.are h.have there took.1 refl in
    let P : Span → Type 0 = λ v. IsLive v c in
    carried-off l.inputs g seated c seat
    (λ live. none who.0 who.1 (subst P who.3 live)
    (track-seat l g columns rows spans seats seated signals chosen tracks who.0 h who.1 ∙ ap (λ m. get_or chosen m 0) who.2 ∙ took.2))

-- so the word of such a track is off
pub track-off : (l : MappedValue) (g : GeometryValue) (columns rows : List ℕ) (spans : List Span) (seats : List ℕ) (seated : List Span) (signals : List (Option ℕ)) (chosen tracks : List ℕ) (c t : ℕ)
    → HaveTracks l g columns rows spans seats seated signals chosen tracks → c ≤ g.columns
    → ((s : Source) → IsSignal l s → IsLive (span_of l spans s) c → track_of l tracks s ≡ t → ⊥)
    → listed_track l.inputs g seated chosen c t ≡ 0
track-off l g columns rows spans seats seated signals chosen tracks c t h le none =
    track-off-held l g columns rows spans seats seated signals chosen tracks c t (holder seated chosen (seats_until l.inputs g c) t) h le none refl

-- a word that is off or another one
between : (b : Bool) (word most : ℕ) → word ≤ most → cond b word 0 ≤ most
between true word most le = le
between false word most le = omega arith

-- a word is off, keeps, or takes the signal of a seat
carried-le : (inputs : ℕ) (g : GeometryValue) (seated : List Span) (c seat most : ℕ) → 1 ≤ most
    → ((span_at seated seat).first ≡ c → entry_of inputs g seat ≤ most) → carried_word inputs g seated c (Some seat) ≤ most
carried-le inputs g seated c seat most some entry =
    ⊎_elim
    (λ here. let le : entry_of inputs g seat ≤ most = entry here in
    let word : cond (eqb (span_at seated seat).first c) (entry_of inputs g seat) 1 ≡ entry_of inputs g seat =
    cond-true (eqb (span_at seated seat).first c) (entry_of inputs g seat) 1 (eq-eqb (span_at seated seat).first c here) in
    between (is_live c (span_at seated seat)) (cond (eqb (span_at seated seat).first c) (entry_of inputs g seat) 1) most (omega arith))
    (λ ne. let word : cond (eqb (span_at seated seat).first c) (entry_of inputs g seat) 1 ≡ 1 =
    cond-false (eqb (span_at seated seat).first c) (entry_of inputs g seat) 1 (ne_eqb (span_at seated seat).first c ne) in
    between (is_live c (span_at seated seat)) (cond (eqb (span_at seated seat).first c) (entry_of inputs g seat) 1) most (omega arith))
    (cases_eq (span_at seated seat).first c)

-- the words of channel 0 are in their range
first-le-held : (l : MappedValue) (g : GeometryValue) (columns rows : List ℕ) (spans : List Span) (seats : List ℕ) (seated : List Span) (signals : List (Option ℕ)) (chosen tracks : List ℕ) (t : ℕ) (o : Option ℕ)
    → HaveTracks l g columns rows spans seats seated signals chosen tracks
    → holder seated chosen (seats_until l.inputs g 0) t ≡ o → carried_word l.inputs g seated 0 o ≤ g.input_pads
first-le-held l g columns rows spans seats seated signals chosen tracks t None h e = omega arith
first-le-held l g columns rows spans seats seated signals chosen tracks t (Some seat) h e =
    let took = holder-some seated chosen (seats_until l.inputs g 0) t seat e in
    carried-le l.inputs g seated 0 seat g.input_pads h.geometry.some_input_pads
    (λ first. omega (arith, entry_of-input-le l.inputs g seat (omega (arith, took.0)), h.are_seats.room.input_pads))

-- so each of them is at most the number of input pads
pub first-le : (l : MappedValue) (g : GeometryValue) (columns rows : List ℕ) (spans : List Span) (seats : List ℕ) (seated : List Span) (signals : List (Option ℕ)) (chosen tracks : List ℕ) (t : ℕ)
    → HaveTracks l g columns rows spans seats seated signals chosen tracks → listed_track l.inputs g seated chosen 0 t ≤ g.input_pads
first-le l g columns rows spans seats seated signals chosen tracks t h =
    first-le-held l g columns rows spans seats seated signals chosen tracks t (holder seated chosen (seats_until l.inputs g 0) t) h refl

-- a seat with a first channel behind the first one is that of a cell
cell-seat : (inputs : ℕ) (g : GeometryValue) (seat : ℕ) → 0 < first_of inputs g seat → inputs ≤ seat
cell-seat inputs g seat some =
    ⊎_elim (λ lt. absurd (omega (arith, first_of-input inputs g seat lt))) (λ le. le) (cases_lt seat inputs)

-- so are those of the channels after columns
later-le-held : (l : MappedValue) (g : GeometryValue) (columns rows : List ℕ) (spans : List Span) (seats : List ℕ) (seated : List Span) (signals : List (Option ℕ)) (chosen tracks : List ℕ) (c t : ℕ) (o : Option ℕ)
    → HaveTracks l g columns rows spans seats seated signals chosen tracks → c + 1 ≤ g.columns
    → holder seated chosen (seats_until l.inputs g (c + 1)) t ≡ o → carried_word l.inputs g seated (c + 1) o ≤ g.rows + 1
later-le-held l g columns rows spans seats seated signals chosen tracks c t None h le e = omega arith
later-le-held l g columns rows spans seats seated signals chosen tracks c t (Some seat) h le e =
    let took = holder-some seated chosen (seats_until l.inputs g (c + 1)) t seat e in
    let there : seat < seat_count l.inputs g = omega (arith, took.0, seats_until-le l g (c + 1) le) in
    carried-le l.inputs g seated (c + 1) seat (g.rows + 1) (omega arith)
    (λ first. entry_of-le l.inputs g seat h.are_seats.some_rows
    (cell-seat l.inputs g seat (omega (arith, first, first_of-seat l g columns rows seats spans seated signals seat (get_or signals seat None) h.are_seats h.are h.have there refl))))

-- so each of them is at most one more than the rows
pub later-le : (l : MappedValue) (g : GeometryValue) (columns rows : List ℕ) (spans : List Span) (seats : List ℕ) (seated : List Span) (signals : List (Option ℕ)) (chosen tracks : List ℕ) (c t : ℕ)
    → HaveTracks l g columns rows spans seats seated signals chosen tracks → c + 1 ≤ g.columns → listed_track l.inputs g seated chosen (c + 1) t ≤ g.rows + 1
later-le l g columns rows spans seats seated signals chosen tracks c t h le =
    later-le-held l g columns rows spans seats seated signals chosen tracks c t (holder seated chosen (seats_until l.inputs g (c + 1)) t) h le refl

-- what two equal options hold is equal
same_signal : (i j : ℕ) → Some i ≡ Some j → i ≡ j
same_signal i j e = cc

-- the tracks of the signals are a choice too
pub tracks_chosen : (l : MappedValue) (g : GeometryValue) (columns rows : List ℕ) (spans : List Span) (seats : List ℕ) (seated : List Span) (signals : List (Option ℕ)) (chosen tracks : List ℕ)
    → HaveTracks l g columns rows spans seats seated signals chosen tracks → AreTracks spans g.tracks tracks
tracks_chosen l g columns rows spans seats seated signals chosen tracks h =
    let n : ℕ = l.inputs + length l.cells in
    let seat : ℕ → ℕ = λ i. get_or seats i 0 in
    let named = λ (i : ℕ) (lt : i < length spans). h.have.named (seat i) i (h.have.taken i lt) in
    let track : (i : ℕ) → i < length spans → get_or tracks i 0 ≡ get_or chosen (seat i) 0 =
    λ i lt. ap (λ ts. get_or ts i 0) h.tracks_are ∙ get_or-list_of n (λ m. get_or chosen (seat m) 0) i 0 (omega (arith, h.are.count)) in
    let inside : (i : ℕ) → i < length spans → seat i < length seated =
    λ i lt. let less : i < n = omega (arith, h.are.count) in
    omega (
      arith,
      seat-number l g columns rows seats i h.are_seats less,
      seat_of-lt l g columns rows i h.are_seats.columns_count h.are_seats.are_rows h.are_seats.room less,
      h.have.spans_count,
    ) in
    let P : ℕ → Span → Type 0 = λ c v. IsLive v c in
    let live : (i c : ℕ) → i < length spans → IsLive (span_at spans i) c → IsLive (span_at seated (seat i)) c =
    λ i c lt is. subst (P c) (sym (named i lt).2) is in
    record {
      count = ap length h.tracks_are ∙ length-list_of n (λ m. get_or chosen (seat m) 0) ∙ sym h.are.count;
      within = λ i c lt is. omega (arith, track i lt, h.choice.within (seat i) c (inside i lt) (live i c lt is));
      apart = λ i j c lt less p q same.
          let one : seat i ≡ seat j = h.choice.apart (seat i) (seat j) c (inside i lt) (inside j less) (live i c lt p) (live j c less q)
          (sym (track i lt) ∙ same ∙ track j less) in
          same_signal i j (sym (h.have.taken i lt) ∙ ap (λ m. get_or signals m None) one ∙ h.have.taken j less);
    }
