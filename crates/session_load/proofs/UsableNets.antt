-- What the specifications among usable files describe.
use Rattle.std.proofs.Common.{◌≡◌, ℕ, zero, suc, ◌+◌, List, [], ◌∷◌, length, Option, subst}
use Rattle.std.proofs.lemmas.Option.{none-some, same_Some}
use Rattle.blif_laws.proofs.Designs.{design_of_text}
use Rattle.net_defs.specs.Networks.{Network}
use Rattle.net_defs.specs.Nets.{IsNet}
use Rattle.net_defs.specs.Specifications.{HasNetwork}
use Rattle.netlist.proofs.NetworkLemmas.{IsNet-built}
use Rattle.pch_io.specs.Outside.{Files}
use Rattle.script_defs.specs.declared.command.FileUse.{FileUse}
use Rattle.script_defs.specs.declared.command.Kind.{Kind}
use Rattle.script_defs.specs.declared.command.Kind.TheVariants.{Spec, Bundle}
use Rattle.session_defs.specs.Files.{Contents, specification, DescribesNet}
use Rattle.session_load.specs.Usable.{IsContentOf, AreUsable}

-- the network that a text specifies is a net, because the text's design is within the limits
specified-net : (text : List ℕ) (net : Network) → HasNetwork text net → IsNet net
specified-net text net has =
    IsNet-built has.design net has.builds.0 (design_of_text text has.design has.reads) has.builds.1

-- a file that describes a network was read as a specification, so the network is the one that its text specifies
held-net : (kind : Kind) (bytes : List ℕ) (c : Contents) (net : Network) → c ≡ specification net → IsContentOf kind bytes c
    → IsNet net
held-net Spec bytes c net is held = specified-net bytes net (subst (IsContentOf Spec bytes) is held)
held-net Bundle bytes c net is held = absurd (subst (IsContentOf Bundle bytes) is held)

-- a file that can be used holds what its bytes say for its kind, so each network among such files is a net
pub usable-nets : (told : Option Files) (used : ℕ) (uses : List FileUse) (contents : List Contents)
    → AreUsable told used uses contents → (file : ℕ) (net : Network) → DescribesNet contents file net → IsNet net
usable-nets told used uses [] usable file net found = absurd (none-some (specification net) found)
usable-nets told used [] (c ∷ cs) usable file net found = absurd usable
usable-nets told used (u ∷ us) (c ∷ cs) usable zero net found =
    held-net u.kind usable.0 c net (same_Some c (specification net) found) usable.1.holds
usable-nets told used (u ∷ us) (c ∷ cs) usable (suc file) net found =
    usable-nets told (used + length usable.0) us cs usable.2 file net found
