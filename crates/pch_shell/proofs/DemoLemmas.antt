-- What `demo` comes to.
use Rattle.std.proofs.Common.{◌≡◌, inl, inr, ℕ, List, Result, Ok, Err, IfOk, ap, ◌∙◌}
use Rattle.net_defs.specs.Networks.{Network}
use Rattle.fabric_defs.specs.Geometries.{GeometryValue}
use Rattle.produce.specs.declared.produce_end.ProduceEnd.{ProduceEnd}
use Rattle.produce.specs.Endings.{EndsBy}
use Rattle.demonstration.specs.Demonstrations.{AreAdders, IsDemonstration}
use Rattle.demonstration.specs.declared.limits.TheConstants.{BUDGET}
use Rattle.pch_lines.specs.DemoLines.{demo_text}
use Rattle.pch_shell.specs.Outcomes.{Outcome, done_with}
use Rattle.pch_shell.specs.Produce.{ToldOfEnd}
use Rattle.pch_shell.specs.Demo.{DemoDue}

-- a bundle that is shown is what is saved, with the lines of its ones
pub shown_due : (bits : ℕ) (wanted given : Network) (g : GeometryValue) (bytes ones text : List ℕ) (o : Outcome)
    → AreAdders bits wanted given g → IsDemonstration bits wanted given g bytes ones → text ≡ demo_text bits ones
    → o ≡ done_with bytes text → DemoDue bits o
shown_due bits wanted given g bytes ones text o adders shown says is =
    inl (
      bytes,
      ones,
      record { wanted = wanted; given = given; g = g; adders = adders; shown = shown },
      is ∙ ap (done_with bytes) says,
    )

-- what was told of an end is due
pub ended_due : {N : Type 0} (r : Result Outcome N) (bits : ℕ) (wanted given : Network) (g : GeometryValue) (end : ProduceEnd)
    → AreAdders bits wanted given g → EndsBy wanted given g BUDGET end → IfOk r (ToldOfEnd wanted given end)
    → IfOk r (DemoDue bits)
ended_due (Ok o) bits wanted given g end adders ends told =
    inr (inl (record { wanted = wanted; given = given; g = g; adders = adders; end = end; ends = ends; told = told }))
ended_due (Err n) bits wanted given g end adders ends told = told
