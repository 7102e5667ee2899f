-- What the commands are answered, by the parts of the calls that answer them.
use Rattle.std.proofs.Common.{◌≡◌, ◌≢◌, ℕ, ◌+◌, ◌-◌, ◌<◌, ◌≤◌, inl, inr, List, [], ◌∷◌, ◌++◌, length, take, None, Some, Err, refl, sym, ap, subst, ◌∙◌, arith}
use Rattle.std.proofs.Math.Seq.{take-append_seam}
use Rattle.std.proofs.lemmas.List.{take_all}
use Rattle.sat_text_defs.specs.declared.errors.TraceError.{TraceError}
use Rattle.sat_text_defs.specs.declared.errors.TraceError.TheVariants as trace
use Rattle.sat_text_defs.specs.TraceText.{tokens_of, FaultOf, TraceTextFault}
use Rattle.net_defs.specs.Networks.{Network}
use Rattle.fabric_defs.specs.Spelling.{words_in}
use Rattle.refusal_text.specs.Reasons.{HasReason}
use Rattle.fabric_defs.specs.declared.limits.TheConstants.{MAX_SIDE}
use Rattle.fabric_defs.specs.Geometries.{GeometryValue}
use Rattle.fabric_defs.specs.Configurations.{ConfigValue, ConfigOf}
use Rattle.verify_defs.specs.Acceptance.{AcceptsWith}
use Rattle.verify_defs.specs.Deliveries.{HasConfig}
use Rattle.verify_defs.specs.Refusals.{FirstRefusal, Refuses}
use Rattle.verify_defs.specs.declared.refusal.Refusal.{Refusal}
use Rattle.verify_defs.specs.declared.refusal.Refusal.TheVariants.{Pads, Bundle, OtherFabric, Config, Trace, Verdict, NoMemory}
use Rattle.journal_defs.specs.Journals.{agreed as agreed_change, installed as installed_change, evicted as evicted_change, EntryValue, spec_at}
use Rattle.journal_defs.specs.Replies as journal
use Rattle.slot_core.specs.Values.{TableValue}
use Rattle.script_defs.specs.declared.command.Command.{Command}
use Rattle.script_defs.specs.declared.command.Command.TheVariants.{Agree, Deliver, Evict, Cycle, Sweep}
use Rattle.script_defs.specs.declared.line.EntryKind.{EntryKind}
use Rattle.script_defs.specs.declared.line.EntryKind.TheVariants as kinds
use Rattle.script_defs.specs.Transcripts.{ReplyValue, agreed, installed, evicted, full, unagreed, refused, stale, out, vacant, width, ones, IsPrintable}
use Rattle.session_defs.specs.Files.{Contents, DescribesNet, IsDelivery}
use Rattle.session_defs.specs.Points.{before, after}
use Rattle.session_defs.specs.Replies.{IsAgreedAfter, Meets}
use Rattle.run_actors.specs.declared.turn.Turn.{Turn}
use Rattle.session_defs.specs.Transcripts.{made}
use Rattle.session_defs.specs.Lines.{kind_of}
use Rattle.run_actors.specs.Progress.{IsSameDevice}
use Rattle.run_actors.specs.Steps.{MakesNone, AnswersAlone, with_entry, Answered}

-- all entries
pub all-entries : (h : List EntryValue) (n : ℕ) → n ≡ length h → h ≡ take n h
all-entries h n all = sym (take_all n h (omega (arith, all)))

-- ---- reasons

-- a trace is never refused because memory was wanting: that is the fault of no text
trace-has_reason : (text : List ℕ) (version : ℕ) (e : TraceError) → TraceTextFault text version e → e ≢ trace.NoMemory
trace-has_reason text version e (inl long) = λ is. grind (arith, long.1, is)
trace-has_reason text version e (inr fault) =
    λ is. subst (λ d. FaultOf version (length text) (tokens_of text) d) is fault.1

-- the first refusal has a reason
first-has_reason : (g : GeometryValue) (net : Network) (bytes : List ℕ) (why : Refusal) → FirstRefusal g net bytes why
    → HasReason why
first-has_reason g net bytes Pads first = tt
first-has_reason g net bytes (Bundle e) first = tt
first-has_reason g net bytes OtherFabric first = tt
first-has_reason g net bytes (Config e) first =
    λ is. subst (λ d. ConfigOf g (length first.1.config) (words_in first.1.config) (Err d)) is first.3
first-has_reason g net bytes (Trace e) first = trace-has_reason first.1.trace first.1.version e first.5
first-has_reason g net bytes (Verdict w) first = first.1
first-has_reason g net bytes NoMemory first = first

-- ---- no entry

-- a reply of one point, at which all entries are there
alone-now : (files : List Contents) (c : Command) (r : ReplyValue) (d : TableValue) → MakesNone r
    → IsPrintable r → before r ≡ length d.journal → after r ≡ length d.journal
    → Meets d.geometry d.limit files d.journal c r → AnswersAlone files (length d.journal) c r d
alone-now files c r d none printable begins ends meets = record {
  no_entry = none;
  printable = printable;
  meets = meets;
  begins = omega (arith, begins);
  rises = omega (arith, begins, ends);
  within = omega (arith, ends);
}

-- an agreement where the journal has no room answers so and changes nothing
pub agree-full : (files : List Contents) (at : Turn) (slot file n : ℕ) (old new : TableValue)
    → length old.journal ≡ old.limit → n ≡ length old.journal → new ≡ old
    → Answered files (length old.journal) at (Agree slot file) (full n) old new
agree-full files at slot file n old new is_full now same =
    inl (alone-now files (Agree slot file) (full n) old tt tt now now (now ∙ is_full), same)

-- and so does an eviction
pub evict-full : (files : List Contents) (at : Turn) (slot n : ℕ) (old new : TableValue)
    → length old.journal ≡ old.limit → n ≡ length old.journal → new ≡ old
    → Answered files (length old.journal) at (Evict slot) (full n) old new
evict-full files at slot n old new is_full now same =
    inl (alone-now files (Evict slot) (full n) old tt tt now now (now ∙ is_full), same)

-- a delivery to a slot for which nothing is agreed changes nothing, whatever the bundle is
pub deliver-unagreed : (files : List Contents) (at : Turn) (slot file n : ℕ) (old new : TableValue)
    → spec_at old.journal slot ≡ None → n ≡ length old.journal → new ≡ old
    → Answered files (length old.journal) at (Deliver slot file) (unagreed n) old new
deliver-unagreed files at slot file n old new none now same =
    let met : spec_at (take n old.journal) slot ≡ None =
    subst (λ h. spec_at h slot ≡ None) (all-entries old.journal n now) none in
    inl (alone-now files (Deliver slot file) (unagreed n) old tt tt now now met, same)

-- a bundle is refused for its first refusal against the network that is agreed now
pub deliver-refused : (files : List Contents) (at : Turn) (slot file n : ℕ) (why : Refusal) (net : Network)
    (bytes : List ℕ) (old new : TableValue)
    → spec_at old.journal slot ≡ Some net → IsDelivery files file bytes → FirstRefusal old.geometry net bytes why
    → n ≡ length old.journal → new ≡ old
    → Answered files (length old.journal) at (Deliver slot file) (refused why n) old new
deliver-refused files at slot file n why net bytes old new agrees delivered first now same =
    let met : spec_at (take n old.journal) slot ≡ Some net =
    subst (λ h. spec_at h slot ≡ Some net) (all-entries old.journal n now) agrees in
    inl (
      alone-now files (Deliver slot file) (refused why n) old tt (first-has_reason old.geometry net bytes why first)
          now now (net, bytes, met, delivered, first),
      same,
    )

-- what a judge answers that refuses, where memory wasn't wanting
pub deliver-refusal : (files : List Contents) (at : Turn) (slot file n : ℕ) (why : Refusal) (net : Network)
    (bytes : List ℕ) (old new : TableValue)
    → spec_at old.journal slot ≡ Some net → IsDelivery files file bytes → Refuses old.geometry net bytes why
    → why ≢ NoMemory → n ≡ length old.journal → new ≡ old
    → Answered files (length old.journal) at (Deliver slot file) (refused why n) old new
deliver-refusal files at slot file n why net bytes old new agrees delivered refuses memory now same =
    elim refuses [
      | inl wanting ↦ absurd (memory wanting)
      | inr first ↦ deliver-refused files at slot file n why net bytes old new agrees delivered first now same
    ]

-- a bundle that was accepted after `checked` entries, where another network is agreed
pub deliver-stale : (files : List Contents) (at : Turn) (slot file checked n : ℕ) (net : Network) (bytes : List ℕ)
    (config : ConfigValue) (old new : TableValue)
    → (spec_at old.journal slot ≡ Some net → ⊥) → n ≡ length old.journal → new ≡ old
    → IsDelivery files file bytes → AcceptsWith old.geometry net bytes config
    → IsAgreedAfter old.journal checked slot net → checked ≤ length old.journal
    → Answered files checked at (Deliver slot file) (stale checked n) old new
deliver-stale files at slot file checked n net bytes config old new other now same delivered accepted agrees earlier =
    let differs : spec_at (take n old.journal) slot ≡ Some net → ⊥ =
    subst (λ h. spec_at h slot ≡ Some net → ⊥) (all-entries old.journal n now) other in
    inl (
      record {
        no_entry = tt;
        printable = tt;
        meets = (net, bytes, agrees, delivered, (config, accepted), differs);
        begins = omega arith;
        rises = omega (arith, now, earlier);
        within = omega (arith, now);
      },
      same,
    )

-- and where it is agreed, but there is no room
pub deliver-full : (files : List Contents) (at : Turn) (slot file checked n : ℕ) (net : Network) (bytes : List ℕ)
    (config : ConfigValue) (old new : TableValue)
    → spec_at old.journal slot ≡ Some net → length old.journal ≡ old.limit → n ≡ length old.journal → new ≡ old
    → IsDelivery files file bytes → AcceptsWith old.geometry net bytes config → checked ≤ length old.journal
    → Answered files checked at (Deliver slot file) (full n) old new
deliver-full files at slot file checked n net bytes config old new agrees is_full now same delivered accepted earlier =
    let met : spec_at (take n old.journal) slot ≡ Some net =
    subst (λ h. spec_at h slot ≡ Some net) (all-entries old.journal n now) agrees in
    inl (
      record {
        no_entry = tt;
        printable = tt;
        meets = (now ∙ is_full, (net, bytes, met, delivered, (config, accepted)));
        begins = omega (arith, now, earlier);
        rises = omega arith;
        within = omega (arith, now);
      },
      same,
    )

-- ---- one entry

-- an agreement where there is room adds its entry and answers the entry's number
pub agree-made : (files : List Contents) (at : Turn) (slot file n : ℕ) (net : Network) (e : EntryValue)
    (old new : TableValue) → DescribesNet files file net
    → e ≡ record { change = agreed_change net; lane = at.lane; turn = at.number; slot = slot }
    → length old.journal < old.limit → n ≡ length old.journal + 1 → new ≡ with_entry old e
    → Answered files (length old.journal) at (Agree slot file) (agreed n) old new
agree-made files at slot file n net e old new described is room number entry =
    let e' : EntryValue = record { change = agreed_change net; lane = at.lane; turn = at.number; slot = slot } in
    inr (
      e',
      record {
        room = room;
        lane = refl;
        turn = refl;
        slot = refl;
        means = (file, net, refl, described, refl);
        says = ap agreed number;
        meets = tt;
      },
      entry ∙ ap (with_entry old) is,
    )

-- and so does an eviction
pub evict-made : (files : List Contents) (at : Turn) (slot n : ℕ) (e : EntryValue) (old new : TableValue)
    → e ≡ record { change = evicted_change; lane = at.lane; turn = at.number; slot = slot }
    → length old.journal < old.limit → n ≡ length old.journal + 1 → new ≡ with_entry old e
    → Answered files (length old.journal) at (Evict slot) (evicted n) old new
evict-made files at slot n e old new is room number entry =
    let e' : EntryValue = record { change = evicted_change; lane = at.lane; turn = at.number; slot = slot } in
    inr (
      e',
      record {
        room = room;
        lane = refl;
        turn = refl;
        slot = refl;
        means = (refl, refl);
        says = ap evicted number;
        meets = tt;
      },
      entry ∙ ap (with_entry old) is,
    )

-- the accepted bundle's configuration is the bundle's own
own-config : (g : GeometryValue) (net : Network) (bytes : List ℕ) (config : ConfigValue)
    → AcceptsWith g net bytes config → HasConfig bytes config
own-config g net bytes config accepted =
    let parts = accepted.parts in
    record {
      bundle = parts.bundle;
      text = parts.is_bundle.text;
      reads = rw parts.is_bundle.geometry parts.has_config;
    }

-- an accepted bundle is installed where its network is still agreed and there is room
pub deliver-made : (files : List Contents) (at : Turn) (slot file checked n : ℕ) (net : Network) (bytes : List ℕ)
    (config : ConfigValue) (e : EntryValue) (old new : TableValue)
    → spec_at old.journal slot ≡ Some net
    → e ≡ record { change = installed_change net config; lane = at.lane; turn = at.number; slot = slot }
    → length old.journal < old.limit → n ≡ length old.journal + 1 → new ≡ with_entry old e
    → IsDelivery files file bytes → AcceptsWith old.geometry net bytes config
    → Answered files checked at (Deliver slot file) (installed n) old new
deliver-made files at slot file checked n net bytes config e old new agrees is room number entry delivered accepted =
    let e' : EntryValue = record { change = installed_change net config; lane = at.lane; turn = at.number; slot = slot } in
    let h : List EntryValue = old.journal in
    let was : n - 1 ≡ length h = omega (arith, number) in
    let before_it : h ≡ take (n - 1) (h ++ e' ∷ []) =
    sym (take-append_seam h (e' ∷ [])) ∙ ap (λ k. take k (h ++ e' ∷ [])) (sym was) in
    let met : spec_at (take (n - 1) (h ++ e' ∷ [])) slot ≡ Some net =
    subst (λ j. spec_at j slot ≡ Some net) before_it agrees in
    inr (
      e',
      record {
        room = room;
        lane = refl;
        turn = refl;
        slot = refl;
        means = (file, bytes, net, config, refl, delivered, own-config old.geometry net bytes config accepted, agrees, refl);
        says = ap installed number;
        meets = (net, bytes, met, delivered, (config, accepted));
      },
      entry ∙ ap (with_entry old) is,
    )

-- ---- questions

-- a cycle of a slot where a circuit runs is answered by its outputs and the probed bit
pub cycle-out : (files : List Contents) (slot : ℕ) (x : List ℕ) (probe : ℕ) (y : List ℕ) (bit n : ℕ) (d : TableValue)
    → journal.ReplyAt d.journal (journal.cycle slot x probe) (journal.out y bit) n
    → AnswersAlone files (length d.journal) (Cycle slot x probe) (out y bit n) d
cycle-out files slot x probe y bit n d reply =
    alone-now files (Cycle slot x probe) (out y bit n) d tt tt reply.all_entries reply.all_entries
    (subst (λ h. journal.ReplyAt h (journal.cycle slot x probe) (journal.out y bit) n)
    (all-entries d.journal n reply.all_entries) reply)

-- a cycle of a slot where nothing runs
pub cycle-vacant : (files : List Contents) (slot : ℕ) (x : List ℕ) (probe n : ℕ) (d : TableValue)
    → journal.ReplyAt d.journal (journal.cycle slot x probe) journal.vacant n
    → AnswersAlone files (length d.journal) (Cycle slot x probe) (vacant n) d
cycle-vacant files slot x probe n d reply =
    alone-now files (Cycle slot x probe) (vacant n) d tt tt reply.all_entries reply.all_entries
    (subst (λ h. journal.ReplyAt h (journal.cycle slot x probe) journal.vacant n)
    (all-entries d.journal n reply.all_entries) reply)

-- a cycle with another number of bits than the network has inputs
pub cycle-width : (files : List Contents) (slot : ℕ) (x : List ℕ) (probe want n : ℕ) (d : TableValue)
    → journal.ReplyAt d.journal (journal.cycle slot x probe) (journal.width want) n
    → AnswersAlone files (length d.journal) (Cycle slot x probe) (width want n) d
cycle-width files slot x probe want n d reply =
    alone-now files (Cycle slot x probe) (width want n) d tt tt reply.all_entries reply.all_entries
    (subst (λ h. journal.ReplyAt h (journal.cycle slot x probe) (journal.width want) n)
    (all-entries d.journal n reply.all_entries) reply)

-- a sweep of a slot where nothing runs
pub sweep-vacant : (files : List Contents) (slot first count n : ℕ) (d : TableValue)
    → journal.ReplyAt d.journal (journal.sweep slot first count) journal.vacant n
    → AnswersAlone files (length d.journal) (Sweep slot first count) (vacant n) d
sweep-vacant files slot first count n d reply =
    alone-now files (Sweep slot first count) (vacant n) d tt tt reply.all_entries reply.all_entries
    (subst (λ h. journal.ReplyAt h (journal.sweep slot first count) journal.vacant n)
    (all-entries d.journal n reply.all_entries) reply)

-- a sweep of a slot where a circuit runs is answered by counts, which have a text because a side is short
pub sweep-ones : (files : List Contents) (slot first count : ℕ) (counts : List ℕ) (outputs n : ℕ) (d : TableValue)
    → outputs ≤ MAX_SIDE → journal.ReplyAt d.journal (journal.sweep slot first count) (journal.ones counts outputs) n
    → AnswersAlone files (length d.journal) (Sweep slot first count) (ones counts outputs n) d
sweep-ones files slot first count counts outputs n d few reply =
    alone-now files (Sweep slot first count) (ones counts outputs n) d tt few reply.all_entries reply.all_entries
    (subst (λ h. journal.ReplyAt h (journal.sweep slot first count) (journal.ones counts outputs) n)
    (all-entries d.journal n reply.all_entries) reply)

-- a command leaves the device what it is
pub answered-same : (files : List Contents) (from : ℕ) (at : Turn) (c : Command) (r : ReplyValue) (old new : TableValue)
    → Answered files from at c r old new → IsSameDevice old new
answered-same files from at c r old new (inl alone) =
    subst (IsSameDevice old) (sym alone.1) (record { geometry = refl; slots = refl; limit = refl })
answered-same files from at c r old new (inr made_one) =
    subst (IsSameDevice old) (sym made_one.2) (record { geometry = refl; slots = refl; limit = refl })

-- a reply that tells of an entry says a number only, so it has a text
made-printable : (kind : EntryKind) (number : ℕ) → IsPrintable (made kind number)
made-printable kinds.Agreed number = tt
made-printable kinds.Installed number = tt
made-printable kinds.Evicted number = tt

-- each reply has a text
pub answered-printable : (files : List Contents) (from : ℕ) (at : Turn) (c : Command) (r : ReplyValue)
    (old new : TableValue) → Answered files from at c r old new → IsPrintable r
answered-printable files from at c r old new (inl alone) = alone.0.printable
answered-printable files from at c r old new (inr made_one) =
    subst IsPrintable (sym made_one.1.says) (made-printable (kind_of made_one.0.change) (length old.journal + 1))
