-- What the steps of the call answer where a test fails.
use Rattle.std.specs.Prelude.{◌≡◌, ◌≢◌, ◌⊎◌, ℕ, List}
use Rattle.clause_defs.specs.Traces.{Entry}
use Rattle.clause_defs.specs.declared.verdict.Verdict.{Verdict as Shown}
use Rattle.clause_defs.specs.declared.verdict.Verdict.TheVariants.{Refutes}
use Rattle.net_defs.specs.Networks.{Network}
use Rattle.fabric_defs.specs.Geometries.{GeometryValue}
use Rattle.fabric_defs.specs.Configurations.{ConfigValue}
use Rattle.miter_defs.specs.Equality.{FitsPads}
use Rattle.verify_defs.specs.Acceptance.{ShowsOfMiter}
use Rattle.verify_defs.specs.Refusals.{Refuses}
use Rattle.verify_defs.specs.declared.refusal.Refusal.{Refusal}
use Rattle.verify_defs.specs.declared.refusal.Refusal.TheVariants.{Verdict, NoMemory}

-- it is the first refusal for each net that fits the pads
abbrev pub RefusesFitting : GeometryValue → List ℕ → Refusal → Type 0
RefusesFitting g bytes r = (net : Network) → FitsPads net g → Refuses g net bytes r

-- the trace shows something else of the miter than that nothing satisfies it
abbrev pub Misses : Network → ConfigValue → List Entry → Refusal → Type 0
Misses net config steps r =
    (r ≡ NoMemory)
    ⊎ ((w : Shown) × (r ≡ Verdict w) × (w ≢ Refutes) × ShowsOfMiter net config steps w)
