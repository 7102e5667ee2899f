-- `place` of the bytes of its file comes to one status and one text.
use Rattle.std.proofs.Common.{◌≡◌, inl, inr, ℕ, ◌*◌, List, length, Option, None, Some, codes, sym, ap, subst, ◌∙◌}
use Rattle.blif_laws.proofs.Designs.{design_of_text}
use Rattle.net_defs.specs.Networks.{Network}
use Rattle.net_defs.specs.Nets.{IsNet}
use Rattle.net_defs.specs.Specifications.{HasNetwork}
use Rattle.netlist.proofs.NetworkLemmas.{IsNet-built}
use Rattle.fabric_defs.specs.Geometries.{GeometryValue}
use Rattle.fabric_defs.specs.Layout.{word_count}
use Rattle.map_defs.specs.Mapped.{MappedValue, AreMapped}
use Rattle.map_defs.specs.Reference.{RefMap}
use Rattle.map_laws.proofs.SettledLemmas.{mapping-mapped}
use Rattle.map_laws.proofs.UniqueLemmas.{reference-unique}
use Rattle.route_defs.specs.declared.demand.Demand.{Demand}
use Rattle.route_defs.specs.Demands.{FirstOverOf}
use Rattle.place_laws.proofs.RoomLemmas.{first_over-unique}
use Rattle.place_net.specs.Placings.{FirstOver}
use Rattle.pch_lines.specs.Lines.{and_word}
use Rattle.pch_lines.specs.FaultLines.{spec_line}
use Rattle.pch_lines.specs.RouteLines.{unroutable_line}
use Rattle.pch_shell.specs.Outcomes.{Outcome, done_with, unroutable, bad_input, written_line}
use Rattle.pch_shell.specs.Place.{IsPlacing, IsUnroutable, PlaceDue}
use Rattle.outcome_laws.specs.Telling.{AreToldAlike, IsAnsweredBy}
use Rattle.outcome_laws.proofs.Specifying.{one_net, one_spec_fault, net_not_faulty}

-- the network of a text is a net
pub described_net : (design : List ℕ) (net : Network) → HasNetwork design net → IsNet net
described_net design net h = IsNet-built h.design net h.builds.0 (design_of_text design h.design h.reads) h.builds.1

-- the reference mapping of a net is mapped cells
reference_mapped : (net : Network) (l : MappedValue) → IsNet net → RefMap net l → AreMapped l
reference_mapped net l is_net h = subst AreMapped (sym h.2) (mapping-mapped net h.0 is_net h.1.closed)

-- a net has one answer to what is wanting first on a fabric
pub one_over : (net : Network) (g : GeometryValue) (a b : Option Demand) → IsNet net → FirstOver net g a → FirstOver net g b → a ≡ b
one_over net g a b is_net h k =
    let P : MappedValue → Type 0 = λ l. FirstOverOf l g b in
    let same : k.0 ≡ h.0 = reference-unique net k.0 h.0 is_net k.1 h.1 in
    let mapped = reference_mapped net h.0 is_net h.1 in
    first_over-unique h.0 g a b mapped.settled h.2 (subst P same k.2)

-- so has a design
one_answer : (g : GeometryValue) (design : List ℕ) (m n : Network) (a b : Option Demand) → HasNetwork design m → HasNetwork design n
    → FirstOver m g a → FirstOver n g b → a ≡ b
one_answer g design m n a b is_m is_n h k =
    let P : Network → Type 0 = λ net. FirstOver net g b in
    one_over m g a b (described_net design m is_m) h (subst P (one_net design n m is_n is_m) k)

-- a configuration has as many bytes as its fabric wants
placed_length : (g : GeometryValue) (design bytes : List ℕ) → IsPlacing g design bytes → length bytes ≡ 2 * word_count g
placed_length g design bytes h = h.spells.0

-- a design that is placed needs no more than is there
placed_not_over : (g : GeometryValue) (design bytes : List ℕ) (over : Demand) → IsPlacing g design bytes → IsUnroutable g design over → ⊥
placed_not_over g design bytes over h k =
    let same = one_answer g design h.net k.net None (Some over) h.describes k.describes h.enough k.first in
    cc

-- a design that needs more than is there has one first resource of which it does
one_first : (g : GeometryValue) (design : List ℕ) (d e : Demand) → IsUnroutable g design d → IsUnroutable g design e → d ≡ e
one_first g design d e h k =
    let same : Some d ≡ Some e = one_answer g design h.net k.net (Some d) (Some e) h.describes k.describes h.first k.first in
    cc

-- outcomes with one status and one text are told alike, where they are saved with bytes of one length
placed_alike : (a b : List ℕ) (o p : Outcome) → length a ≡ length b → o ≡ done_with a (written_line (length a))
    → p ≡ done_with b (written_line (length b)) → AreToldAlike o p
placed_alike a b o p same is other = (
  ap (λ (x : Outcome). x.status) is ∙ sym (ap (λ (x : Outcome). x.status) other),
  ap (λ (x : Outcome). x.text) is ∙ ap written_line same ∙ sym (ap (λ (x : Outcome). x.text) other),
)

-- equal outcomes are told alike
pub equal_alike : (o p : Outcome) → o ≡ p → AreToldAlike o p
equal_alike o p same = (ap (λ (x : Outcome). x.status) same, ap (λ (x : Outcome). x.text) same)

-- `place` of these bytes comes to one status and one text
pub place_one : (name : List ℕ) (g : GeometryValue) (design : List ℕ) (o p : Outcome) → PlaceDue name g design o → PlaceDue name g design p
    → AreToldAlike o p
place_one name g design o p (inl h) (inl k) =
    placed_alike h.0 k.0 o p (placed_length g design h.0 h.1 ∙ sym (placed_length g design k.0 k.1)) h.2 k.2
place_one name g design o p (inl h) (inr (inl k)) = absurd (placed_not_over g design h.0 k.0 h.1 k.1)
place_one name g design o p (inl h) (inr (inr k)) = let a = h.1 in absurd (net_not_faulty design a.net k.0 a.describes k.1)
place_one name g design o p (inr (inl h)) (inl k) = absurd (placed_not_over g design k.0 h.0 k.1 h.1)
place_one name g design o p (inr (inl h)) (inr (inl k)) =
    equal_alike o p (h.2 ∙ ap (λ d. unroutable (unroutable_line d)) (one_first g design h.0 k.0 h.1 k.1) ∙ sym k.2)
place_one name g design o p (inr (inl h)) (inr (inr k)) = let a = h.1 in absurd (net_not_faulty design a.net k.0 a.describes k.1)
place_one name g design o p (inr (inr h)) (inl k) = let a = k.1 in absurd (net_not_faulty design a.net h.0 a.describes h.1)
place_one name g design o p (inr (inr h)) (inr (inl k)) = let a = k.1 in absurd (net_not_faulty design a.net h.0 a.describes h.1)
place_one name g design o p (inr (inr h)) (inr (inr k)) =
    equal_alike o p
    (h.2 ∙ ap (λ e. bad_input (spec_line (and_word (codes "blif") name) e)) (one_spec_fault design h.0 k.0 h.1 k.1) ∙ sym k.2)

-- a design that is a network is placed where no resource is over, and else the first that is over is named
pub answered_by : (name : List ℕ) (g : GeometryValue) (design : List ℕ) (net : Network) (over : Option Demand) (o : Outcome)
    → HasNetwork design net → FirstOver net g over → PlaceDue name g design o → IsAnsweredBy over o
answered_by name g design net None o is first (inl h) = ap (λ (x : Outcome). x.status) h.2
answered_by name g design net None o is first (inr (inl h)) =
    let k = h.1 in let same = one_answer g design net k.net None (Some h.0) is k.describes first k.first in absurd (cc)
answered_by name g design net (Some d) o is first (inl h) =
    let k = h.1 in let same = one_answer g design net k.net (Some d) None is k.describes first k.enough in absurd (cc)
answered_by name g design net (Some d) o is first (inr (inl h)) =
    let k = h.1 in
    let same = one_answer g design net k.net (Some d) (Some h.0) is k.describes first k.first in
    let demand : h.0 ≡ d = cc in
    h.2 ∙ ap (λ e. unroutable (unroutable_line e)) demand
answered_by name g design net None o is first (inr (inr h)) = absurd (net_not_faulty design net h.0 is h.1)
answered_by name g design net (Some d) o is first (inr (inr h)) = absurd (net_not_faulty design net h.0 is h.1)
