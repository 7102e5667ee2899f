-- The journal that a transcript means is legal.
use Rattle.std.proofs.Common.{◌≡◌, ℕ, ◌+◌, ◌<◌, List, take, Some, sym, subst, ◌∙◌, arith}
use Rattle.std.specs.List.{slice_get}
use Rattle.net_defs.specs.Networks.{Network}
use Rattle.net_defs.specs.Nets.{IsNet}
use Rattle.net_defs.specs.Evaluation.{SpecOut}
use Rattle.fabric_defs.specs.Geometries.{GeometryValue}
use Rattle.journal_defs.specs.Journals.{Change, EntryValue, spec_at}
use Rattle.journal_defs.specs.Legality.{CanChange, CanFollow, Legal}
use Rattle.journal_defs.specs.Replies as journal
use Rattle.journal_defs.proofs.LegalityLemmas.{legal-take, outputs-agreed}
use Rattle.script_defs.specs.declared.command.Command.{Command}
use Rattle.script_defs.specs.declared.command.Command.TheVariants.{Cycle}
use Rattle.script_defs.specs.declared.line.EntryKind.{EntryKind}
use Rattle.script_defs.specs.declared.line.EntryKind.TheVariants.{Agreed, Installed, Evicted}
use Rattle.script_defs.specs.declared.line.Line.{Line}
use Rattle.script_defs.specs.Scripts.{ScriptValue, IsCommand, IsScript}
use Rattle.script_defs.specs.Transcripts.{TranscriptValue, out}
use Rattle.session_defs.specs.Files.{Contents}
use Rattle.session_defs.specs.Meant.{IsCommandAt, MeansChange, MeansEntry}
use Rattle.session_defs.specs.Replies.{Meets}
use Rattle.session_defs.specs.Transcripts.{made, IsReplyAt, ComesFromCommand, IsTranscript}
use Rattle.session_laws.specs.Nets.{DescribeNets}
use Rattle.session_laws.proofs.Places.{all-places, turn-all, place-same}
use Rattle.session_laws.proofs.Meanings.{agreed-is_net, installed-follows, slot-within}

-- a change may follow where its line's reply meets its condition
change-follows : (g : GeometryValue) (limit : ℕ) (files : List Contents) (h : List EntryValue) (p slot : ℕ)
    (kind : EntryKind) (command : Command) (c : Change)
    → ((net : Network) → spec_at (take p h) slot ≡ Some net → IsNet net)
    → MeansChange files (take p h) kind slot command c
    → Meets g limit files h command (made kind (p + 1))
    → CanChange g (take p h) slot c
change-follows g limit files h p slot Agreed command c nets m meets =
    subst (CanChange g (take p h) slot) (sym m.4) tt
change-follows g limit files h p slot Installed command c nets m meets =
    let found = installed-follows g limit files h p slot command c nets m meets in
    subst (CanChange g (take p h) slot) (sym found.2) found.3
change-follows g limit files h p slot Evicted command c nets m meets =
    subst (CanChange g (take p h) slot) (sym m.1) tt

-- a line's reply meets the condition of the command that the line means
meant-meets : (s : ScriptValue) (files : List Contents) (t : TranscriptValue) (h : List EntryValue) (p : ℕ)
    (line : Line) (e : EntryValue) (command : Command) → IsTranscript s files t h → slice_get t.journal p ≡ Some line
    → IsCommandAt s line.lane line.turn command
    → Meets s.geometry s.limit files h command (made line.kind (p + 1))
meant-meets s files t h p line e command transcript is_line commanded =
    let from : ComesFromCommand s t (p + 1) line = transcript.accepted.lines p line is_line in
    transcript.meets line.lane line.turn command (made line.kind (p + 1)) commanded from.reply

-- an entry can follow those before it, because the reply of its command met its condition there
entry-follows : (s : ScriptValue) (files : List Contents) (t : TranscriptValue) (h : List EntryValue) (p : ℕ)
    (e : EntryValue) → DescribeNets files → IsTranscript s files t h → slice_get h p ≡ Some e
    → CanFollow s.geometry (take p h) e
entry-follows s files t h p e nets transcript is_entry =
    let line = place-same h t.journal p e transcript.meant.as_many is_entry in
    let means : MeansEntry s files (take p h) line.0 e = transcript.meant.entries p line.0 e line.1 is_entry in
    let meets : Meets s.geometry s.limit files h means.command (made line.0.kind (p + 1)) =
    meant-meets s files t h p line.0 e means.command transcript line.1 means.commanded in
    subst (λ slot. CanChange s.geometry (take p h) slot e.change) (sym means.slot)
    (change-follows s.geometry s.limit files h p line.0.slot line.0.kind means.command e.change
    (λ net spec. agreed-is_net s files t.journal h p line.0.slot net nets transcript.meant spec) means.change meets)

-- an entry is of a slot that the device has, as its command is
entry-within : (s : ScriptValue) (files : List Contents) (t : TranscriptValue) (h : List EntryValue) (p : ℕ)
    (e : EntryValue) → IsScript s → IsTranscript s files t h → slice_get h p ≡ Some e → e.slot < s.slots
entry-within s files t h p e script transcript is_entry =
    let line = place-same h t.journal p e transcript.meant.as_many is_entry in
    let means : MeansEntry s files (take p h) line.0 e = transcript.meant.entries p line.0 e line.1 is_entry in
    let from : ComesFromCommand s t (p + 1) line.0 = transcript.accepted.lines p line.0 line.1 in
    let is : IsCommand s.geometry s.slots s.files from.command =
    turn-all (IsCommand s.geometry s.slots s.files) s.lanes line.0.lane line.0.turn from.command script.commands
    from.commanded in
    subst (λ n. n < s.slots) (from.slot ∙ sym means.slot) (slot-within s.geometry s.slots s.files from.command is)

-- so a journal that lines mean is legal, entry by entry
pub meant-legal : (s : ScriptValue) (files : List Contents) (t : TranscriptValue) (h : List EntryValue)
    → IsScript s → DescribeNets files → IsTranscript s files t h → Legal s.geometry s.slots s.limit h
meant-legal s files t h script nets transcript = record {
  short = omega (arith, transcript.meant.as_many, transcript.short);
  within = all-places (λ (e : EntryValue). e.slot < s.slots) h
      (λ p e found. entry-within s files t h p e script transcript found);
  follows = λ p e found. entry-follows s files t h p e nets transcript found;
}

-- what runs is equal to what is agreed in each part of a legal journal, so its outputs are the agreed ones
pub outputs-agree : (s : ScriptValue) (files : List Contents) (t : TranscriptValue) (h : List EntryValue)
    (lane turn slot probe bit at : ℕ) (x y : List ℕ) → IsScript s → DescribeNets files → IsTranscript s files t h
    → IsCommandAt s lane turn (Cycle slot x probe) → IsReplyAt t lane turn (out y bit at)
    → (net : Network) × (spec_at (take at h) slot ≡ Some net) × SpecOut net x y
outputs-agree s files t h lane turn slot probe bit at x y script nets transcript commanded replied =
    let met : Meets s.geometry s.limit files h (Cycle slot x probe) (out y bit at) =
    transcript.meets lane turn (Cycle slot x probe) (out y bit at) commanded replied in
    let given : journal.GivesOut (take at h) slot x probe y bit = met.answers in
    let legal : Legal s.geometry s.slots s.limit (take at h) =
    legal-take s.geometry s.slots s.limit at h (meant-legal s files t h script nets transcript) in
    let is_net : IsNet given.0 = agreed-is_net s files t.journal h at slot given.0 nets transcript.meant given.2.spec in
    let is : IsCommand s.geometry s.slots s.files (Cycle slot x probe) =
    turn-all (IsCommand s.geometry s.slots s.files) s.lanes lane turn (Cycle slot x probe) script.commands commanded in (
      given.0,
      given.2.spec,
      outputs-agreed s.geometry s.slots s.limit slot probe bit (take at h) x y given.0 legal given
          given.2.spec is_net.acyclic is.1,
    )
