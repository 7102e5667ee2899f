-- The lines that begin with `refused`. No line says that memory was wanting, and a refutation is no refusal.
use Rattle.std.specs.Prelude.{ℕ, List, [], codes}
use Rattle.clause_defs.specs.declared.verdict.ChainError.TheVariants.{NoClash, ManyClash, Other}
use Rattle.clause_defs.specs.declared.verdict.Verdict.{Verdict as Shown}
use Rattle.clause_defs.specs.declared.verdict.Verdict.TheVariants.{Refutes, NotOriginal, Chain, TooWide, NotEmptyEnd}
use Rattle.verify_defs.specs.declared.refusal.Refusal.{Refusal}
use Rattle.verify_defs.specs.declared.refusal.Refusal.TheVariants.{Pads, Bundle, OtherFabric, Config, Trace, Verdict, NoMemory}
use Rattle.pch_lines.specs.Lines.{and_word, and_number, ended}
use Rattle.pch_lines.specs.FaultLines.{trace_line, bundle_line, config_line}

-- `refused` and a word
abbrev refused : List ℕ → List ℕ
refused word = and_word (codes "refused") word

-- what a trace shows that refutes nothing
abbrev pub verdict_line : Shown → List ℕ
verdict_line Refutes = []
verdict_line (NotOriginal clause) = ended (and_number (refused (codes "not-original")) clause)
verdict_line (Chain (NoClash clause step)) = ended (and_number (and_number (refused (codes "no-clash")) clause) step)
verdict_line (Chain (ManyClash clause step)) = ended (and_number (and_number (refused (codes "many-clash")) clause) step)
verdict_line (Chain (Other clause)) = ended (and_number (refused (codes "other-clause")) clause)
verdict_line (TooWide clause) = ended (and_number (refused (codes "too-wide")) clause)
verdict_line NotEmptyEnd = ended (refused (codes "not-empty-end"))

-- why a bundle isn't accepted
abbrev pub refusal_line : Refusal → List ℕ
refusal_line Pads = ended (refused (codes "pads"))
refusal_line (Bundle error) = bundle_line (refused (codes "bundle")) error
refusal_line OtherFabric = ended (refused (codes "other-fabric"))
refusal_line (Config error) = config_line (codes "refused") error
refusal_line (Trace error) = trace_line (refused (codes "trace")) error
refusal_line (Verdict verdict) = verdict_line verdict
refusal_line NoMemory = []
