-- What a command comes to for the bytes of its files.
use Rattle.std.specs.Prelude.{◌≡◌, ℕ, List, [], ◌∷◌}
use Rattle.clause_defs.specs.Formulas.{Formula}
use Rattle.pch_lines.specs.Words.{Form, check, verify, cnf, compact, place, produce, demo}
use Rattle.pch_lines.specs.RouteLines.{unroutable_line}
use Rattle.pch_lines.specs.ProduceLines.{differs_line, spent_line}
use Rattle.route_defs.specs.declared.demand.Demand.{Demand}
use Rattle.pch_shell.specs.Outcomes.{Outcome}
use Rattle.pch_shell.specs.Check.{Refuted, CheckDue}
use Rattle.pch_shell.specs.Verify.{IsAccepted, VerifyDue}
use Rattle.pch_shell.specs.Cnf.{HasMiter, CnfDue}
use Rattle.pch_shell.specs.Compact.{IsCompaction, CompactDue}
use Rattle.pch_shell.specs.Place.{IsPlacing, IsUnroutable, PlaceDue}
use Rattle.pch_shell.specs.Produce.{IsProduced, IsDifference, NeedsMore, IsSpent, ProduceDue}
use Rattle.pch_shell.specs.Demo.{IsShown, IsFabricFor, DemoDue}
use Rattle.fabric_defs.specs.Geometries.{GeometryValue}
use Rattle.demo_texts.specs.Texts.{ripple_text, select_text}
use Rattle.demonstration.specs.declared.limits.TheConstants.{BUDGET}

-- it is said of the one file
abbrev pub OfOne : List (List ℕ) → (List ℕ → Type 0) → Type 0
OfOne [] P = ⊥
OfOne (first ∷ []) P = P first
OfOne (first ∷ second ∷ rest) P = ⊥

-- it is said of the two files
abbrev pub OfTwo : List (List ℕ) → (List ℕ → List ℕ → Type 0) → Type 0
OfTwo [] P = ⊥
OfTwo (first ∷ []) P = ⊥
OfTwo (first ∷ second ∷ []) P = P first second
OfTwo (first ∷ second ∷ third ∷ rest) P = ⊥

-- what a command comes to for the bytes of the files that it loads
abbrev pub FilesDue : Form → List (List ℕ) → Outcome → Type 0
FilesDue (check cnf_name trace_name) files o = OfTwo files (λ formula trace. CheckDue cnf_name trace_name formula trace o)
FilesDue (verify spec_name bundle_name g workers) files o = OfTwo files (λ spec bundle. VerifyDue spec_name g spec bundle o)
FilesDue (cnf spec_name bundle_name) files o = OfTwo files (λ spec bundle. CnfDue spec_name bundle_name spec bundle o)
FilesDue (compact bundle_name out_name) files o = OfOne files (λ bundle. CompactDue bundle_name bundle o)
FilesDue (place design_name g out_name) files o = OfOne files (λ design. PlaceDue design_name g design o)
FilesDue (produce spec_name design_name g budget out_name) files o =
    OfTwo files (λ spec design. ProduceDue spec_name design_name g budget spec design o)
FilesDue (demo bits out_name) files o = DemoDue bits o

-- What status 0 says of the bytes of the files that were loaded, and of those that were saved. `check`: the trace
-- refutes the clauses, which nothing satisfies. `verify`: the bundle is accepted, and its configuration equals the
-- network. `cnf`: both have a miter. `compact`: what is saved is the bundle with a compacted trace, and is accepted
-- where the old one is. `place`: what is saved is a configuration that places the design, and equals its network.
-- `produce`: what is saved is a bundle with the placed design and a log within the budget, and is accepted for the
-- specification. `demo`: the same of both adders.
abbrev pub Holds : Form → List (List ℕ) → (saved : List ℕ) → Type 0
Holds (check cnf_name trace_name) files saved = OfTwo files Refuted
Holds (verify spec_name bundle_name g workers) files saved = OfTwo files (IsAccepted g)
Holds (cnf spec_name bundle_name) files saved = OfTwo files (λ spec bundle. (miter : Formula) × HasMiter spec bundle miter)
Holds (compact bundle_name out_name) files saved = OfOne files (λ bundle. IsCompaction bundle saved)
Holds (place design_name g out_name) files saved = OfOne files (λ design. IsPlacing g design saved)
Holds (produce spec_name design_name g budget out_name) files saved = OfTwo files (λ spec design. IsProduced g budget spec design saved)
Holds (demo bits out_name) files saved = (ones : List ℕ) × IsShown bits saved ones

-- What status 6 says of the bytes of the files, with this text: `produce` has found an input at which both differ, or
-- `demo` one at which both adders do.
abbrev pub Differ : Form → List (List ℕ) → (text : List ℕ) → Type 0
Differ (check cnf_name trace_name) files text = ⊥
Differ (verify spec_name bundle_name g workers) files text = ⊥
Differ (cnf spec_name bundle_name) files text = ⊥
Differ (compact bundle_name out_name) files text = ⊥
Differ (place design_name g out_name) files text = ⊥
Differ (produce spec_name design_name g budget out_name) files text =
    OfTwo files (λ spec design. (x : List ℕ) × (y : List ℕ) × (z : List ℕ)
    × IsDifference spec design x y z × (text ≡ differs_line x y z))
Differ (demo bits out_name) files text =
    (x : List ℕ) × (y : List ℕ) × (z : List ℕ)
    × IsDifference (ripple_text bits) (select_text bits) x y z × (text ≡ differs_line x y z)

-- What status 7 says, with this text: it names the first resource of the fabric of which the design of `place` or
-- `produce`, or the second adder of `demo`, needs more than is there.
abbrev pub NeedMore : Form → List (List ℕ) → (text : List ℕ) → Type 0
NeedMore (check cnf_name trace_name) files text = ⊥
NeedMore (verify spec_name bundle_name g workers) files text = ⊥
NeedMore (cnf spec_name bundle_name) files text = ⊥
NeedMore (compact bundle_name out_name) files text = ⊥
NeedMore (place design_name g out_name) files text =
    OfOne files (λ design. (over : Demand) × IsUnroutable g design over × (text ≡ unroutable_line over))
NeedMore (produce spec_name design_name g budget out_name) files text =
    OfTwo files (λ spec design. (over : Demand) × NeedsMore g spec design over × (text ≡ unroutable_line over))
NeedMore (demo bits out_name) files text =
    (g : GeometryValue) × IsFabricFor bits g
    × (over : Demand) × NeedsMore g (ripple_text bits) (select_text bits) over × (text ≡ unroutable_line over)

-- What status 8 says, with this text, of the bytes that were saved: they are the printed trace of what `produce` or
-- `demo` has spent its budget on.
abbrev pub Spend : Form → List (List ℕ) → (saved text : List ℕ) → Type 0
Spend (check cnf_name trace_name) files saved text = ⊥
Spend (verify spec_name bundle_name g workers) files saved text = ⊥
Spend (cnf spec_name bundle_name) files saved text = ⊥
Spend (compact bundle_name out_name) files saved text = ⊥
Spend (place design_name g out_name) files saved text = ⊥
Spend (produce spec_name design_name g budget out_name) files saved text =
    OfTwo files (λ spec design. (used : ℕ) × (need : ℕ)
    × IsSpent g budget spec design used need saved × (text ≡ spent_line used need))
Spend (demo bits out_name) files saved text =
    (g : GeometryValue) × IsFabricFor bits g × (used : ℕ) × (need : ℕ)
    × IsSpent g BUDGET (ripple_text bits) (select_text bits) used need saved × (text ≡ spent_line used need)
