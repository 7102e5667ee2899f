-- What contracts see of a command.
use Rattle.std.specs.Prelude.{◌≤◌}
use Rattle.script_defs.specs.declared.limits.TheConstants.{MAX_WORKERS}
use Rattle.miter_size.specs.declared.limits.TheConstants.{MAX_BUDGET}
use Rattle.demo_texts.specs.declared.TheConstants.{MAX_BITS}
use Rattle.pch_lines.specs.declared.command.Command.{Command}
use Rattle.pch_lines.specs.declared.command.Command.TheVariants.{Check, Verify, Cnf, Compact, Place, Produce, Demo}
use Rattle.pch_lines.specs.declared.command.NamedFile.{NamedFile}
use Rattle.pch_lines.specs.Words.{Form, check, verify, cnf, compact, place, produce, demo}
use Rattle.pch_lines.specs.Files.{FileValue}

-- the form whose words a command has
abbrev pub form_seen : Command → Form
form_seen (Check formula trace) = check formula.now trace.now
form_seen (Verify spec bundle geometry workers) = verify spec.now bundle.now geometry workers
form_seen (Cnf spec bundle) = cnf spec.now bundle.now
form_seen (Compact bundle out) = compact bundle.now out.now
form_seen (Place design geometry out) = place design.now geometry out.now
form_seen (Produce spec design geometry budget out) = produce spec.now design.now geometry budget out.now
form_seen (Demo bits out) = demo bits out.now

-- the numbers of the command's words, beside those of its fabric, are within their limits
abbrev pub IsWithinLimits : Command → Type 0
IsWithinLimits (Check formula trace) = Unit {0}
IsWithinLimits (Verify spec bundle geometry workers) = (1 ≤ workers) × (workers ≤ MAX_WORKERS)
IsWithinLimits (Cnf spec bundle) = Unit {0}
IsWithinLimits (Compact bundle out) = Unit {0}
IsWithinLimits (Place design geometry out) = Unit {0}
IsWithinLimits (Produce spec design geometry budget out) = (1 ≤ budget) × (budget ≤ MAX_BUDGET)
IsWithinLimits (Demo bits out) = (1 ≤ bits) × (bits ≤ MAX_BITS)

-- the name of a file, and how many bytes of it are read at most
abbrev pub file_seen : NamedFile → FileValue
file_seen f = record { name = f.name.now; limit = f.limit }
