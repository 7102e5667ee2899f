-- Words that are written one after another are the listed ones.
use Rattle.std.proofs.Common.{◌≡◌, ℕ, ◌+◌, ◌*◌, ◌<◌, ◌≤◌, ⊎_elim, List, ◌++◌, length, map, replicate, get_or, Option, Some, None, ap, subst, sym, ◌∙◌, arith, append_assoc}
use Rattle.std.specs.Option.{IfSome}
use Rattle.std.proofs.lemmas.Bool.{cases_lt}
use Rattle.std.proofs.lemmas.List.{get_or_past, get_or-replicate, length-replicate}
use Rattle.std.proofs.lemmas.Nat.{row_fits}
use Rattle.fabric_defs.specs.Numbered.{joined}
use Rattle.fabric_defs.specs.Geometries.{GeometryValue}
use Rattle.fabric_laws.proofs.NumberedLemmas.{list_of_elements, map-list_of, joined-more}
use Rattle.route_defs.specs.declared.span.Span.{Span}
use Rattle.route_laws.specs.Seats.{seats_until}
use Rattle.route_laws.specs.Listing.{holder, AreHolders, carried_word, listed_channel}
use Rattle.place_laws.proofs.TrackLemmas.{holder-some}

-- the words of the holders of all tracks are those of the channel
pub channel_is : (inputs : ℕ) (g : GeometryValue) (spans : List Span) (chosen : List ℕ) (holders : List (Option ℕ)) (c n : ℕ) → length holders ≡ g.tracks
    → n ≡ seats_until inputs g c → AreHolders spans chosen n holders → map (carried_word inputs g spans c) holders ≡ listed_channel inputs g spans chosen c
channel_is inputs g spans chosen holders c n count e h =
    let P : ℕ → Type 0 = λ m. AreHolders spans chosen m holders in
    let all = subst P e h in
    let who : ℕ → Option ℕ = holder spans chosen (seats_until inputs g c) in
    ap (map (carried_word inputs g spans c)) (list_of_elements g.tracks who holders None count (λ t lt. all t (omega arith)))
    ∙ map-list_of (carried_word inputs g spans c) g.tracks who

-- a holder is a seat that was passed
some_there : (spans : List Span) (chosen : List ℕ) (n most t : ℕ) (o : Option ℕ) → n ≤ most → holder spans chosen n t ≡ o
    → IfSome o (λ seat. seat < most)
some_there spans chosen n most t None le e = tt
some_there spans chosen n most t (Some seat) le e =
    let took = holder-some spans chosen n t seat e in omega (arith, took.0)

-- so the holder of any track is such a seat, if there is one
pub holders_there : (spans : List Span) (chosen : List ℕ) (n most : ℕ) (holders : List (Option ℕ)) → AreHolders spans chosen n holders
    → n ≤ most → (t : ℕ) → IfSome (get_or holders t None) (λ seat. seat < most)
holders_there spans chosen n most holders h le t =
    let P : Option ℕ → Type 0 = λ o. IfSome o (λ seat. seat < most) in
    ⊎_elim
    (λ lt. some_there spans chosen n most t (get_or holders t None) le (sym (h t lt)))
    (λ past. subst P (sym (get_or_past holders t None past)) tt)
    (cases_lt t (length holders))

-- at first no seat holds a track
pub none_hold : (spans : List Span) (chosen : List ℕ) (n : ℕ) (holders : List (Option ℕ)) → holders ≡ replicate n None
    → AreHolders spans chosen 0 holders
none_hold spans chosen n holders e t lt =
    ap (λ (hs : List (Option ℕ)). get_or hs t None) e
    ∙ get_or-replicate n t None None (omega (arith, ap length e, length-replicate {A = Option ℕ} n None))

-- one more part behind those before it
pub part_more : (words all part : List ℕ) (n : ℕ) (f : ℕ → List ℕ) → all ≡ words ++ joined n f → part ≡ f n
    → all ++ part ≡ words ++ joined (n + 1) f
part_more words all part n f e p =
    ap (λ l. l ++ part) e
    ∙ append_assoc words (joined n f) part
    ∙ ap (λ l. words ++ (joined n f ++ l)) p
    ∙ ap (λ l. words ++ l) (sym (joined-more n f))

-- the seats of a column's cells are those between two channels
pub seats_more : (inputs : ℕ) (g : GeometryValue) (column : ℕ) → inputs + column * g.rows + g.rows ≡ seats_until inputs g (column + 1)
seats_more inputs g column = grind arith

-- they are there
pub seats_there : (inputs : ℕ) (g : GeometryValue) (column : ℕ) → column < g.columns → inputs + column * g.rows + g.rows ≤ inputs + g.columns * g.rows
seats_there inputs g column lt = omega (arith, row_fits column g.rows g.columns g.rows lt (omega arith))

-- the seats that are passed with a column are those up to the channel after it
pub until_is : (all : ℕ) (g : GeometryValue) (column inputs r s : ℕ) → inputs ≡ all → r ≡ g.rows → s ≡ g.rows
    → inputs + column * r + s ≡ seats_until all g (column + 1)
until_is all g column inputs r s e p q =
    ap (λ n. n + column * r + s) e
    ∙ ap (λ m. all + column * m + s) p
    ∙ ap (λ m. all + column * g.rows + m) q
    ∙ seats_more all g column

-- a holder that is lent is a seat that was passed
pub there_lent : (spans : List Span) (chosen : List ℕ) (lent holders : List (Option ℕ)) (n most : ℕ) → lent ≡ holders
    → AreHolders spans chosen n holders → n ≤ most → (t : ℕ) → IfSome (get_or lent t None) (λ seat. seat < most)
there_lent spans chosen lent holders n most e h le t =
    let P : List (Option ℕ) → Type 0 = λ hs. IfSome (get_or hs t None) (λ seat. seat < most) in
    subst P (sym e) (holders_there spans chosen n most holders h le t)

-- the words of holders that are lent are those of the channel
pub channel_lent : (inputs all : ℕ) (g : GeometryValue) (passed lent spans : List Span) (marks chosen : List ℕ) (shown holders : List (Option ℕ)) (c n : ℕ)
    → inputs ≡ all → passed ≡ spans → lent ≡ spans → marks ≡ chosen → shown ≡ holders → length holders ≡ g.tracks
    → n ≡ seats_until all g c → AreHolders passed marks n holders
    → map (carried_word inputs g lent c) shown ≡ listed_channel all g spans chosen c
channel_lent inputs all g passed lent spans marks chosen shown holders c n e p q r s count is h =
    let P : List Span → Type 0 = λ ss. AreHolders ss marks n holders in
    let Q : List ℕ → Type 0 = λ ms. AreHolders spans ms n holders in
    ap (λ i. map (carried_word i g lent c) shown) e
    ∙ ap (λ ss. map (carried_word all g ss c) shown) q
    ∙ ap (map (carried_word all g spans c)) s
    ∙ channel_is all g spans chosen holders c n count is (subst Q r (subst P p h))

-- a column is written after its cells and the channel after it
pub column_written : (old before new cells part channel : List ℕ) → before ≡ old ++ cells → part ≡ channel → new ≡ before ++ part
    → new ≡ old ++ (cells ++ channel)
column_written old before new cells part channel p q e =
    e ∙ ap (λ l. l ++ part) p ∙ append_assoc old cells part ∙ ap (λ l. old ++ (cells ++ l)) q
