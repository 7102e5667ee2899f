use Rattle.std.proofs.Common.{◌≡◌, ◌-◌, [], length}
use Rattle.sat_text_defs.specs.TraceReading.{indices_of, start}
use Rattle.sat_scan.specs.Scan.{IsAtWord}
use Rattle.sat_text.specs.ReadingSteps.{rest_from}
use Rattle.sat_text.proofs.trace_reader.read_version.Given as goal

-- behind the trace so far, the rest of the text is read as from its beginning
abbrev pub invariant-loop-at : goal.invariant-loop-at
invariant-loop-at l = record {
  stands : IsAtWord l.at l.b;
  places : l.reading.places ≡ indices_of l.reading.trace;
  rest : rest_from l.version l.b 0 [] start ≡ rest_from l.version l.b l.at l.reading.trace start;
}

-- how many bytes are left
abbrev pub decreases-loop-at : goal.decreases-loop-at
decreases-loop-at l = length l.b - l.at
