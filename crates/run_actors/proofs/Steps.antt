-- A transcript with one more command is a transcript.
use Rattle.std.proofs.Common.{◌≡◌, ℕ, ◌+◌, ◌-◌, ◌<◌, inl, inr, List, [], ◌∷◌, ◌++◌, length, take, Some, refl, sym, ap, subst, ◌∙◌, arith}
use Rattle.std.specs.List.{slice_get}
use Rattle.std.proofs.Math.Seq.{take-append_seam}
use Rattle.std.proofs.lemmas.List.{length-append, length-map, take-append-le, map-append}
use Rattle.std.proofs.lemmas.Option.{none-some, slice_get_within}
use Rattle.journal_defs.specs.Journals.{EntryValue}
use Rattle.slot_core.specs.Values.{TableValue}
use Rattle.script_defs.specs.declared.command.Command.{Command}
use Rattle.script_defs.specs.declared.line.Line.{Line}
use Rattle.script_defs.specs.Scripts.{ScriptValue}
use Rattle.script_defs.specs.Transcripts.{ReplyValue}
use Rattle.session_defs.specs.Files.{Contents}
use Rattle.session_defs.specs.Meant.{at_turn, IsCommandAt, MeansEntry, Meant}
use Rattle.session_defs.specs.Points.{before, after}
use Rattle.session_defs.specs.Replies.{Meets}
use Rattle.session_defs.specs.Transcripts.{made, ComesFromCommand, HasAccepted, IsTranscript}
use Rattle.run_actors.specs.declared.turn.Turn.{Turn}
use Rattle.session_defs.specs.Lines.{kind_of, line_of, lines_of}
use Rattle.run_actors.specs.Steps.{AnswersAlone, Makes, with_entry, Answered}
use Rattle.run_actors.specs.Progress.{with_lanes, transcript_with, HasRun}
use Rattle.lane_laws.proofs.Turns.{slice_get-longer, slice_get-last, slice_get-split, at_turn-longer, at_turn-last, at_turn-split, at_turn-empty, at_turn-kept}
use Rattle.run_actors.proofs.Replies.{after-made, before-made, made-same_kind, made-same_number, makes_none}
use Rattle.run_actors.proofs.Growth.{SameShape, shape-lanes, shape-last, shape-lane, shape-command, AllRise, rise-command, rise-lane, extends-same, extends-more, meet-command}

-- ---- more lanes and replies, and the same entries

-- the commands and the replies of the first stand at their turns in the second
pub record Continues (ls more : List (List Command)) (rs later : List (List ReplyValue)) : Type 0 where
  pub commands : (lane turn : ℕ) (c : Command) → at_turn ls lane turn ≡ Some c → at_turn more lane turn ≡ Some c
  pub replies : (lane turn : ℕ) (q : ReplyValue) → at_turn rs lane turn ≡ Some q → at_turn later lane turn ≡ Some q

-- a command and its reply at the end of the last lane leave all others at their turns
continues-command : (ls : List (List Command)) (cs : List Command) (c : Command)
    (rs : List (List ReplyValue)) (r : List ReplyValue) (reply : ReplyValue)
    → Continues (ls ++ cs ∷ []) (ls ++ (cs ++ c ∷ []) ∷ []) (rs ++ r ∷ []) (rs ++ (r ++ reply ∷ []) ∷ [])
continues-command ls cs c rs r reply = record {
  commands = at_turn-longer ls cs c;
  replies = at_turn-longer rs r reply;
}

-- so does a lane without commands
continues-lane : (ls : List (List Command)) (rs : List (List ReplyValue))
    → Continues ls (ls ++ [] ∷ []) rs (rs ++ [] ∷ [])
continues-lane ls rs = record { commands = at_turn-kept ls []; replies = at_turn-kept rs [] }

-- a line that came from a command still does where more commands follow
comes-longer : (s : ScriptValue) (ls more : List (List Command)) (rs later : List (List ReplyValue))
    (journal grown : List Line) (number : ℕ) (line : Line) → Continues ls more rs later
    → ComesFromCommand (with_lanes s ls) (record { journal = journal; lanes = rs }) number line
    → ComesFromCommand (with_lanes s more) (record { journal = grown; lanes = later }) number line
comes-longer s ls more rs later journal grown number line k from = record {
  command = from.command;
  commanded = k.commands line.lane line.turn from.command from.commanded;
  slot = from.slot;
  reply = k.replies line.lane line.turn (made line.kind number) from.reply;
}

-- a line that meant an entry still means it where more commands follow
means-longer : (s : ScriptValue) (files : List Contents) (ls more : List (List Command))
    (rs later : List (List ReplyValue)) (h : List EntryValue) (line : Line) (e : EntryValue)
    → Continues ls more rs later
    → MeansEntry (with_lanes s ls) files h line e → MeansEntry (with_lanes s more) files h line e
means-longer s files ls more rs later h line e k m = record {
  lane = m.lane;
  turn = m.turn;
  slot = m.slot;
  command = m.command;
  commanded = k.commands line.lane line.turn m.command m.commanded;
  change = m.change;
}

-- so lines mean the same journal where more commands follow
meant-longer : (s : ScriptValue) (files : List Contents) (ls more : List (List Command))
    (rs later : List (List ReplyValue)) (journal : List Line) (h : List EntryValue)
    → Continues ls more rs later
    → Meant (with_lanes s ls) files journal h → Meant (with_lanes s more) files journal h
meant-longer s files ls more rs later journal h k m = record {
  as_many = m.as_many;
  entries = λ p line e is_line is_entry.
      means-longer s files ls more rs later (take p h) line e k (m.entries p line e is_line is_entry);
}

-- ---- an empty lane

-- a reply of the lanes with an empty one is one of the former
accepted-lane : (s : ScriptValue) (ls : List (List Command)) (rs : List (List ReplyValue)) (journal : List Line)
    → HasAccepted (with_lanes s ls) (record { journal = journal; lanes = rs })
    → HasAccepted (with_lanes s (ls ++ [] ∷ [])) (record { journal = journal; lanes = rs ++ [] ∷ [] })
accepted-lane s ls rs journal a = record {
  lines = λ p line found.
      comes-longer s ls (ls ++ [] ∷ []) rs (rs ++ [] ∷ []) journal journal (p + 1) line (continues-lane ls rs)
      (a.lines p line found);
  replies = λ lane turn number kind found.
      a.replies lane turn number kind (at_turn-empty rs lane turn (made kind number) found);
}

-- a transcript stays one where a lane begins, since that has neither a command nor a reply yet
pub transcript-lane : (s : ScriptValue) (files : List Contents) (ls : List (List Command)) (rs : List (List ReplyValue))
    (journal : List Line) (h : List EntryValue)
    → IsTranscript (with_lanes s ls) files (record { journal = journal; lanes = rs }) h
    → IsTranscript (with_lanes s (ls ++ [] ∷ [])) files (record { journal = journal; lanes = rs ++ [] ∷ [] }) h
transcript-lane s files ls rs journal h t =
    let shape : SameShape (ls ++ [] ∷ []) (rs ++ [] ∷ []) =
    shape-lane ls [] rs [] (t.answered.lanes, t.answered.turns) refl in
    record {
      answered = record { lanes = shape.0; turns = shape.1 };
      short = t.short;
      accepted = accepted-lane s ls rs journal t.accepted;
      meant = meant-longer s files ls (ls ++ [] ∷ []) rs (rs ++ [] ∷ []) journal h (continues-lane ls rs) t.meant;
      points = rise-lane (length journal) rs t.points;
      meets = λ lane turn c q command reply.
          t.meets lane turn c q (at_turn-empty ls lane turn c command) (at_turn-empty rs lane turn q reply);
    }

-- ---- a command that makes no entry

-- a command that makes no entry needs no line
accepted-alone : (s : ScriptValue) (files : List Contents) (from : ℕ) (ls : List (List Command)) (cs : List Command)
    (c : Command) (rs : List (List ReplyValue)) (r : List ReplyValue) (reply : ReplyValue) (journal : List Line)
    (d : TableValue) → AnswersAlone files from c reply d
    → HasAccepted (with_lanes s (ls ++ cs ∷ [])) (record { journal = journal; lanes = rs ++ r ∷ [] })
    → HasAccepted (with_lanes s (ls ++ (cs ++ c ∷ []) ∷ []))
    (record { journal = journal; lanes = rs ++ (r ++ reply ∷ []) ∷ [] })
accepted-alone s files from ls cs c rs r reply journal d alone a = record {
  lines = λ p line found.
      comes-longer s (ls ++ cs ∷ []) (ls ++ (cs ++ c ∷ []) ∷ []) (rs ++ r ∷ []) (rs ++ (r ++ reply ∷ []) ∷ [])
      journal journal (p + 1) line (continues-command ls cs c rs r reply) (a.lines p line found);
  replies = λ lane turn number kind found.
      elim (at_turn-split rs r reply lane turn (made kind number) found) [
        | inl old ↦ a.replies lane turn number kind old
        | inr new ↦ absurd (makes_none reply kind number alone.no_entry new.2)
      ];
}

-- a transcript stays one with a reply that tells of no entry
transcript-alone : (s : ScriptValue) (files : List Contents) (ls : List (List Command)) (cs : List Command) (c : Command)
    (rs : List (List ReplyValue)) (r : List ReplyValue) (reply : ReplyValue) (d : TableValue)
    → d.geometry ≡ s.geometry → d.limit ≡ s.limit → AnswersAlone files (length d.journal) c reply d
    → IsTranscript (with_lanes s (ls ++ cs ∷ [])) files (transcript_with d (rs ++ r ∷ [])) d.journal
    → IsTranscript (with_lanes s (ls ++ (cs ++ c ∷ []) ∷ [])) files
    (transcript_with d (rs ++ (r ++ reply ∷ []) ∷ [])) d.journal
transcript-alone s files ls cs c rs r reply d geometry limit alone t =
    let h : List EntryValue = d.journal in
    let journal : List Line = lines_of h in
    let count : length journal ≡ length h = length-map h line_of in
    let shape : SameShape (ls ++ cs ∷ []) (rs ++ r ∷ []) = (t.answered.lanes, t.answered.turns) in
    let longer : SameShape (ls ++ (cs ++ c ∷ []) ∷ []) (rs ++ (r ++ reply ∷ []) ∷ []) =
    shape-command ls cs c rs r reply shape in
    let rise : AllRise (length h) (rs ++ r ∷ []) = subst (λ n. AllRise n (rs ++ r ∷ [])) count t.points in
    let meets : Meets s.geometry s.limit files h c reply =
    subst (λ n. Meets s.geometry n files h c reply) limit
    (subst (λ g. Meets g d.limit files h c reply) geometry alone.meets) in
    record {
      answered = record { lanes = longer.0; turns = longer.1 };
      short = t.short;
      accepted = accepted-alone s files (length h) ls cs c rs r reply journal d alone t.accepted;
      meant = meant-longer s files (ls ++ cs ∷ []) (ls ++ (cs ++ c ∷ []) ∷ []) (rs ++ r ∷ [])
          (rs ++ (r ++ reply ∷ []) ∷ []) journal h (continues-command ls cs c rs r reply) t.meant;
      points = rise-command (length journal) (length journal) rs r reply t.points
          (omega (arith, count, alone.begins)) alone.rises (omega (arith, count, alone.within));
      meets = meet-command s files h h ls cs c rs r reply (extends-same h) shape rise t.meets meets;
    }

-- ---- a command that makes an entry

-- the turn of the new entry is the last one
is_commanded : (s : ScriptValue) (ls : List (List Command)) (cs : List Command) (c : Command) (at : Turn) (e : EntryValue)
    → length ls ≡ at.lane → length cs ≡ at.number → e.lane ≡ at.lane → e.turn ≡ at.number
    → IsCommandAt (with_lanes s (ls ++ (cs ++ c ∷ []) ∷ [])) e.lane e.turn c
is_commanded s ls cs c at e lane turn by_lane by_turn =
    subst (λ n. at_turn (ls ++ (cs ++ c ∷ []) ∷ []) e.lane n ≡ Some c) (turn ∙ sym by_turn)
    (subst (λ n. at_turn (ls ++ (cs ++ c ∷ []) ∷ []) n (length cs) ≡ Some c) (lane ∙ sym by_lane)
    (at_turn-last ls cs c))

-- and so is the turn of its reply
is_replied : (rs : List (List ReplyValue)) (r : List ReplyValue) (reply : ReplyValue) (at : Turn) (e : EntryValue)
    → length rs ≡ at.lane → length r ≡ at.number → e.lane ≡ at.lane → e.turn ≡ at.number
    → at_turn (rs ++ (r ++ reply ∷ []) ∷ []) e.lane e.turn ≡ Some reply
is_replied rs r reply at e lane turn by_lane by_turn =
    subst (λ n. at_turn (rs ++ (r ++ reply ∷ []) ∷ []) e.lane n ≡ Some reply) (turn ∙ sym by_turn)
    (subst (λ n. at_turn (rs ++ (r ++ reply ∷ []) ∷ []) n (length r) ≡ Some reply) (lane ∙ sym by_lane)
    (at_turn-last rs r reply))

-- what is known where a command makes an entry: the turn is the next one of the last lane
pub record IsNext (ls : List (List Command)) (cs : List Command) (rs : List (List ReplyValue)) (r : List ReplyValue)
    (at : Turn) : Type 0 where
  pub commands : length ls ≡ at.lane
  pub replies : length rs ≡ at.lane
  pub command : length cs ≡ at.number
  pub reply : length r ≡ at.number

-- the new line comes from the new command, and the new reply has the new line
accepted-made : (s : ScriptValue) (files : List Contents) (ls : List (List Command)) (cs : List Command)
    (c : Command) (rs : List (List ReplyValue)) (r : List ReplyValue) (reply : ReplyValue) (at : Turn)
    (d : TableValue) (e : EntryValue) (journal : List Line) → length journal ≡ length d.journal
    → IsNext ls cs rs r at → Makes files at c reply d e
    → HasAccepted (with_lanes s (ls ++ cs ∷ [])) (record { journal = journal; lanes = rs ++ r ∷ [] })
    → HasAccepted (with_lanes s (ls ++ (cs ++ c ∷ []) ∷ []))
    (record { journal = journal ++ line_of e ∷ []; lanes = rs ++ (r ++ reply ∷ []) ∷ [] })
accepted-made s files ls cs c rs r reply at d e journal count next makes a = record {
  lines = λ p line found.
      elim (slice_get-split journal (line_of e) p line found) [
        | inl old ↦
            comes-longer s (ls ++ cs ∷ []) (ls ++ (cs ++ c ∷ []) ∷ []) (rs ++ r ∷ []) (rs ++ (r ++ reply ∷ []) ∷ [])
            journal (journal ++ line_of e ∷ []) (p + 1) line (continues-command ls cs c rs r reply) (a.lines p line old)
        | inr new ↦
            subst (ComesFromCommand (with_lanes s (ls ++ (cs ++ c ∷ []) ∷ []))
            (record { journal = journal ++ line_of e ∷ []; lanes = rs ++ (r ++ reply ∷ []) ∷ [] }) (p + 1)) new.1
            (record {
              command = c;
              commanded = is_commanded s ls cs c at e next.commands next.command makes.lane makes.turn;
              slot = makes.slot;
              reply =
                  let says : reply ≡ made (kind_of e.change) (p + 1) =
                  makes.says ∙ ap (λ n. made (kind_of e.change) (n + 1)) (sym count ∙ sym new.0) in
                  is_replied rs r reply at e next.replies next.reply makes.lane makes.turn ∙ ap Some says;
            })
      ];
  replies = λ lane turn number kind found.
      elim (at_turn-split rs r reply lane turn (made kind number) found) [
        | inl old ↦
            let was = a.replies lane turn number kind old in
            (was.0, was.1, slice_get-longer journal (line_of e ∷ []) (number - 1) was.0 was.2, was.3)
        | inr new ↦
            let same : made (kind_of e.change) (length d.journal + 1) ≡ made kind number = sym makes.says ∙ new.2 in
            let is_number : length d.journal + 1 ≡ number =
            made-same_number (kind_of e.change) kind (length d.journal + 1) number same in
            let is_kind : kind_of e.change ≡ kind =
            made-same_kind (kind_of e.change) kind (length d.journal + 1) number same in
            let is_place : length journal ≡ number - 1 = omega (arith, count, is_number) in (
              line_of e,
              omega (arith, is_number),
              subst (λ n. slice_get (journal ++ line_of e ∷ []) n ≡ Some (line_of e)) is_place
                  (slice_get-last journal (line_of e)),
              record {
                kind_is = is_kind;
                lane_is = makes.lane ∙ sym next.replies ∙ sym new.0;
                turn_is = makes.turn ∙ sym next.reply ∙ sym new.1;
              },
            )
      ];
}

-- the new line means the new entry, after the same entries as before
meant-made : (s : ScriptValue) (files : List Contents) (ls : List (List Command)) (cs : List Command)
    (c : Command) (rs : List (List ReplyValue)) (r : List ReplyValue) (reply : ReplyValue) (at : Turn)
    (d : TableValue) (e : EntryValue) (journal : List Line)
    → IsNext ls cs rs r at → Makes files at c reply d e
    → Meant (with_lanes s (ls ++ cs ∷ [])) files journal d.journal
    → Meant (with_lanes s (ls ++ (cs ++ c ∷ []) ∷ [])) files (journal ++ line_of e ∷ []) (d.journal ++ e ∷ [])
meant-made s files ls cs c rs r reply at d e journal next makes m =
    let h : List EntryValue = d.journal in
    record {
      as_many = omega (arith, m.as_many, length-append h (e ∷ []), length-append journal (line_of e ∷ []));
      entries = λ p line f is_line is_entry.
          elim (slice_get-split h e p f is_entry) [
            | inl old ↦
                let lt : p < length h = slice_get_within h p f old in
                elim (slice_get-split journal (line_of e) p line is_line) [
                  | inl was ↦
                      subst (λ b. MeansEntry (with_lanes s (ls ++ (cs ++ c ∷ []) ∷ [])) files b line f)
                      (sym (take-append-le p h (e ∷ []) (omega (arith, lt))))
                      (means-longer s files (ls ++ cs ∷ []) (ls ++ (cs ++ c ∷ []) ∷ []) (rs ++ r ∷ [])
                      (rs ++ (r ++ reply ∷ []) ∷ []) (take p h) line f (continues-command ls cs c rs r reply)
                      (m.entries p line f was old))
                  | inr new ↦ absurd (omega (arith, lt, new.0, m.as_many))
                ]
            | inr last ↦
                elim (slice_get-split journal (line_of e) p line is_line) [
                  | inl was ↦
                      absurd (omega (arith, last.0, m.as_many, slice_get_within journal p line was))
                  | inr new ↦
                      let before : h ≡ take p (h ++ e ∷ []) =
                      sym (take-append_seam h (e ∷ [])) ∙ ap (λ n. take n (h ++ e ∷ [])) (sym last.0) in
                      subst (λ f. MeansEntry (with_lanes s (ls ++ (cs ++ c ∷ []) ∷ [])) files (take p (h ++ e ∷ [])) line f)
                      last.1
                      (subst (λ k. MeansEntry (with_lanes s (ls ++ (cs ++ c ∷ []) ∷ [])) files (take p (h ++ e ∷ [])) k e)
                      new.1
                      (subst (λ b. MeansEntry (with_lanes s (ls ++ (cs ++ c ∷ []) ∷ [])) files b (line_of e) e) before
                      (record {
                        lane = refl;
                        turn = refl;
                        slot = refl;
                        command = c;
                        commanded = is_commanded s ls cs c at e next.commands next.command makes.lane makes.turn;
                        change = makes.means;
                      })))
                ]
          ];
    }

-- a transcript stays one with an entry, its line and the reply that tells of it
transcript-made : (s : ScriptValue) (files : List Contents) (ls : List (List Command)) (cs : List Command) (c : Command)
    (rs : List (List ReplyValue)) (r : List ReplyValue) (reply : ReplyValue) (at : Turn) (d : TableValue) (e : EntryValue)
    → length ls ≡ at.lane → length cs ≡ at.number
    → d.geometry ≡ s.geometry → d.limit ≡ s.limit → Makes files at c reply d e
    → IsTranscript (with_lanes s (ls ++ cs ∷ [])) files (transcript_with d (rs ++ r ∷ [])) d.journal
    → IsTranscript (with_lanes s (ls ++ (cs ++ c ∷ []) ∷ [])) files
    (transcript_with (with_entry d e) (rs ++ (r ++ reply ∷ []) ∷ [])) (d.journal ++ e ∷ [])
transcript-made s files ls cs c rs r reply at d e lane turn geometry limit makes t =
    let h : List EntryValue = d.journal in
    let later : List EntryValue = h ++ e ∷ [] in
    let journal : List Line = lines_of h in
    let count : length journal ≡ length h = length-map h line_of in
    let grown : journal ++ line_of e ∷ [] ≡ lines_of later = sym (map-append line_of h (e ∷ [])) in
    let length_more : length (journal ++ line_of e ∷ []) ≡ length h + 1 =
    omega (arith, count, length-append journal (line_of e ∷ [])) in
    let shape : SameShape (ls ++ cs ∷ []) (rs ++ r ∷ []) = (t.answered.lanes, t.answered.turns) in
    let longer : SameShape (ls ++ (cs ++ c ∷ []) ∷ []) (rs ++ (r ++ reply ∷ []) ∷ []) =
    shape-command ls cs c rs r reply shape in
    let next : IsNext ls cs rs r at = record {
      commands = lane;
      replies = shape-lanes ls cs rs r shape ∙ lane;
      command = turn;
      reply = shape-last ls cs rs r shape ∙ turn;
    } in
    let rise : AllRise (length h) (rs ++ r ∷ []) = subst (λ n. AllRise n (rs ++ r ∷ [])) count t.points in
    let meets : Meets s.geometry s.limit files later c reply =
    subst (λ n. Meets s.geometry n files later c reply) limit
    (subst (λ g. Meets g d.limit files later c reply) geometry makes.meets) in
    let is_after : after reply ≡ length h + 1 =
    ap after makes.says ∙ after-made (kind_of e.change) (length h + 1) in
    let is_before : before reply ≡ length h + 1 - 1 =
    ap before makes.says ∙ before-made (kind_of e.change) (length h + 1) in
    subst (λ lines. IsTranscript (with_lanes s (ls ++ (cs ++ c ∷ []) ∷ [])) files
    (record { journal = lines; lanes = rs ++ (r ++ reply ∷ []) ∷ [] }) later) grown
    (record {
      answered = record { lanes = longer.0; turns = longer.1 };
      short = omega (arith, length_more, makes.room, limit);
      accepted = accepted-made s files ls cs c rs r reply at d e journal count next makes t.accepted;
      meant = meant-made s files ls cs c rs r reply at d e journal next makes t.meant;
      points = rise-command (length journal) (length (journal ++ line_of e ∷ [])) rs r reply t.points
          (omega (arith, count, is_before)) (omega (arith, is_before, is_after)) (omega (arith, length_more, is_after));
      meets = meet-command s files h later ls cs c rs r reply (extends-more h e) shape rise t.meets meets;
    })

-- ---- all together

-- nothing was run yet
pub run-nothing : (s : ScriptValue) (files : List Contents) (d : TableValue) → d.geometry ≡ s.geometry
    → d.limit ≡ s.limit → d.journal ≡ [] → HasRun s files [] d []
run-nothing s files d geometry limit empty = record {
  geometry = geometry;
  limit = limit;
  transcript = subst (λ h. IsTranscript (with_lanes s []) files (record { journal = lines_of h; lanes = [] }) h) (sym empty)
      (record {
        answered = record { lanes = refl; turns = λ lane cs r none. absurd (none-some cs none) };
        short = omega arith;
        accepted = record {
          lines = λ p line none. absurd (none-some line none);
          replies = λ lane turn number kind none. absurd (none-some (made kind number) none);
        };
        meant = record { as_many = refl; entries = λ p line e none. absurd (none-some line none) };
        points = λ lane r none. absurd (none-some r none);
        meets = λ lane turn c q none. absurd (none-some c none);
      });
}

-- a lane begins
pub run-lane : (s : ScriptValue) (files : List Contents) (ls : List (List Command)) (d : TableValue)
    (rs : List (List ReplyValue)) → HasRun s files ls d rs → HasRun s files (ls ++ [] ∷ []) d (rs ++ [] ∷ [])
run-lane s files ls d rs run = record {
  geometry = run.geometry;
  limit = run.limit;
  transcript = transcript-lane s files ls rs (lines_of d.journal) d.journal run.transcript;
}

-- a command is answered
pub run-command : (s : ScriptValue) (files : List Contents) (ls : List (List Command)) (cs : List Command) (c : Command)
    (rs : List (List ReplyValue)) (r : List ReplyValue) (reply : ReplyValue) (at : Turn) (old new : TableValue)
    → length ls ≡ at.lane → length cs ≡ at.number → HasRun s files (ls ++ cs ∷ []) old (rs ++ r ∷ [])
    → Answered files (length old.journal) at c reply old new
    → HasRun s files (ls ++ (cs ++ c ∷ []) ∷ []) new (rs ++ (r ++ reply ∷ []) ∷ [])
run-command s files ls cs c rs r reply at old new lane turn run (inl alone) =
    subst (λ d. HasRun s files (ls ++ (cs ++ c ∷ []) ∷ []) d (rs ++ (r ++ reply ∷ []) ∷ [])) (sym alone.1)
    (record {
      geometry = run.geometry;
      limit = run.limit;
      transcript = transcript-alone s files ls cs c rs r reply old run.geometry run.limit alone.0 run.transcript;
    })
run-command s files ls cs c rs r reply at old new lane turn run (inr made_one) =
    subst (λ d. HasRun s files (ls ++ (cs ++ c ∷ []) ∷ []) d (rs ++ (r ++ reply ∷ []) ∷ [])) (sym made_one.2)
    (record {
      geometry = run.geometry;
      limit = run.limit;
      transcript = transcript-made s files ls cs c rs r reply at old made_one.0 lane turn run.geometry run.limit
          made_one.1 run.transcript;
    })
