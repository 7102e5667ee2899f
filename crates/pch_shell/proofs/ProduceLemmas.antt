-- What `produce` comes to where both files describe networks.
use Rattle.std.proofs.Common.{◌≡◌, inl, inr, ℕ, List, length, Result, Ok, Err, IfOk, ap, sym, subst, ◌∙◌}
use Rattle.sat_text_defs.specs.Printed.{trace_text}
use Rattle.sat_text_defs.specs.TraceText.{TraceText}
use Rattle.net_defs.specs.Networks.{Network}
use Rattle.fabric_defs.specs.Geometries.{GeometryValue}
use Rattle.log_defs.specs.Logs.{LogValue}
use Rattle.miter_size.specs.Sizes.{log_trace}
use Rattle.produce.specs.declared.produce_end.ProduceEnd.{ProduceEnd}
use Rattle.produce.specs.declared.produce_end.ProduceEnd.TheVariants.{Interface, Unroutable, Differs, Spent, NoMemory}
use Rattle.produce.specs.Endings.{EndsBy}
use Rattle.produce.specs.Bundling.{Produced}
use Rattle.pch_lines.specs.ProduceLines.{spent_line}
use Rattle.pch_shell.specs.Outcomes.{Outcome, done_with, spent_with, written_line}
use Rattle.pch_shell.specs.Produce.{Describe, ToldOfEnd, ProduceDue}

-- of a spent budget the text of the log is told, and its words
pub spent_told : (wanted given : Network) (end : ProduceEnd) (used need : ℕ) (log : LogValue) (bytes line : List ℕ) (o : Outcome)
    → end ≡ Spent used need log → bytes ≡ trace_text (log_trace log) → TraceText bytes 1 (log_trace log) → line ≡ spent_line used need → o ≡ spent_with bytes line
    → ToldOfEnd wanted given end o
spent_told wanted given end used need log bytes line o spent text reads says is =
    subst (λ e. ToldOfEnd wanted given e o) (sym spent)
    (bytes, record { text = text; trace = reads }, is ∙ ap (spent_with bytes) says)

-- what was told of an end is due
pub ended_due : (sn dn : List ℕ) (g : GeometryValue) (budget : ℕ) (spec design : List ℕ) (wanted given : Network) (end : ProduceEnd) (o : Outcome)
    → Describe spec design wanted given → EndsBy wanted given g budget end → ToldOfEnd wanted given end o
    → ProduceDue sn dn g budget spec design o
ended_due sn dn g budget spec design wanted given (Interface error) o describe h is =
    inr (inr (inr (inr (inl (error, record { wanted = wanted; given = given; describe = describe; first = h }, is)))))
ended_due sn dn g budget spec design wanted given (Unroutable resource place need have) o describe (net, aligned, first) is =
    inr (inr (inl (
      record { resource = resource; place = place; need = need; have = have },
      record { wanted = wanted; given = given; describe = describe; net = net; aligned = aligned; first = first },
      is,
    )))
ended_due sn dn g budget spec design wanted given (Differs x) o describe h (y, z, differ, is) =
    inr (inl (x, y, z, record { wanted = wanted; given = given; describe = describe; differ = differ }, is))
ended_due sn dn g budget spec design wanted given (Spent used need log) o describe h (bytes, printed, is) =
    inr (inr (inr (inl (
      used,
      need,
      bytes,
      record { wanted = wanted; given = given; describe = describe; log = log; ends = h; printed = printed },
      is,
    ))))
ended_due sn dn g budget spec design wanted given NoMemory o describe h is = absurd is

-- so it is where memory may be wanting
pub told_due : {N : Type 0} (r : Result Outcome N) (sn dn : List ℕ) (g : GeometryValue) (budget : ℕ) (spec design : List ℕ)
    (wanted given : Network) (end : ProduceEnd) → Describe spec design wanted given → EndsBy wanted given g budget end
    → IfOk r (ToldOfEnd wanted given end) → IfOk r (ProduceDue sn dn g budget spec design)
told_due (Ok o) sn dn g budget spec design wanted given end describe ends told =
    ended_due sn dn g budget spec design wanted given end o describe ends told
told_due (Err n) sn dn g budget spec design wanted given end describe ends told = told

-- the bytes of a bundle that was produced are what is saved
pub produced_due : {N : Type 0} (r : Result Outcome N) (sn dn : List ℕ) (g : GeometryValue) (budget : ℕ) (spec design bytes : List ℕ)
    (wanted given : Network) → Describe spec design wanted given → Produced wanted given g budget bytes
    → IfOk r (λ o. o ≡ done_with bytes (written_line (length bytes))) → IfOk r (ProduceDue sn dn g budget spec design)
produced_due (Ok o) sn dn g budget spec design bytes wanted given describe produced is =
    inl (bytes, record { wanted = wanted; given = given; describe = describe; produced = produced }, is)
produced_due (Err n) sn dn g budget spec design bytes wanted given describe produced is = is
