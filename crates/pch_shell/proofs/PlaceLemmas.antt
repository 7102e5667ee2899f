-- What `place` comes to where the design describes a network.
use Rattle.std.proofs.Common.{◌≡◌, inl, inr, ℕ, List, length, Result, Ok, Err, IfOk, Some, subst}
use Rattle.net_defs.specs.Networks.{Network}
use Rattle.net_defs.specs.Specifications.{HasNetwork}
use Rattle.fabric_defs.specs.Geometries.{GeometryValue}
use Rattle.fabric_defs.specs.Configurations.{ConfigValue, ConfigOf}
use Rattle.fabric_defs.specs.Spelling.{words_in}
use Rattle.miter_defs.specs.Equality.{Equal}
use Rattle.route_defs.specs.declared.demand.Demand.{Demand}
use Rattle.place_net.specs.Placings.{FirstOver, PlacingOf}
use Rattle.pch_lines.specs.RouteLines.{unroutable_line}
use Rattle.pch_shell.specs.Outcomes.{Outcome, done_with, unroutable, written_line}
use Rattle.pch_shell.specs.Place.{PlaceDue}

-- a configuration that places the network is what is saved
pub placed_due : {N : Type 0} (r : Result Outcome N) (name : List ℕ) (g : GeometryValue) (design bytes : List ℕ) (net : Network)
    (config : ConfigValue) → HasNetwork design net → PlacingOf net g (Ok config) → Equal net config
    → ConfigOf config.geometry (length bytes) (words_in bytes) (Ok config)
    → IfOk r (λ o. o ≡ done_with bytes (written_line (length bytes)))
    → IfOk r (PlaceDue name g design)
placed_due (Ok o) name g design bytes net config describes placing equal spells is =
    let P : GeometryValue → Type 0 = λ h. ConfigOf h (length bytes) (words_in bytes) (Ok config) in
    let placed = placing.1 in
    let of = placed.2 in
    inl (
      bytes,
      record {
        net = net;
        describes = describes;
        config = config;
        spells = subst P of.0 spells;
        enough = placing.0;
        placed = placed;
        equal = equal;
      },
      is,
    )
placed_due (Err n) name g design bytes net config describes placing equal spells is = is

-- the first resource that is over is what is told
pub unroutable_due : (name : List ℕ) (g : GeometryValue) (design : List ℕ) (net : Network) (over : Demand) (o : Outcome)
    → HasNetwork design net → FirstOver net g (Some over) → o ≡ unroutable (unroutable_line over) → PlaceDue name g design o
unroutable_due name g design net over o describes first is =
    inr (inl (over, record { net = net; describes = describes; first = first }, is))
