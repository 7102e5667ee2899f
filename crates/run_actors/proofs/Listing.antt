-- One element more of a list: a line, a command, a lane.
use Rattle.std.proofs.Common.{◌≡◌, ℕ, ◌+◌, ◌-◌, ◌<◌, List, [], ◌∷◌, ◌++◌, length, take, Some, sym, ap, subst, ◌∙◌, arith}
use Rattle.std.specs.List.{slice_get}
use Rattle.std.proofs.lemmas.List.{map-append, length-take-le}
use Rattle.std.proofs.lemmas.Option.{slice_get_within}
use Rattle.journal_defs.specs.Journals.{EntryValue}
use Rattle.slot_core.specs.Values.{TableValue}
use Rattle.script_defs.specs.declared.command.Command.{Command}
use Rattle.script_defs.specs.declared.line.Line.{Line}
use Rattle.script_defs.specs.Scripts.{ScriptValue}
use Rattle.script_defs.specs.Transcripts.{ReplyValue}
use Rattle.session_defs.specs.Files.{Contents}
use Rattle.run_actors.specs.declared.turn.Turn.{Turn}
use Rattle.session_defs.specs.Lines.{line_of, lines_of}
use Rattle.run_actors.specs.Steps.{Answered}
use Rattle.run_actors.specs.Progress.{HasRun, IsSameDevice, RunsLane}
use Rattle.lane_laws.proofs.Turns.{take-next}
use Rattle.run_actors.proofs.Steps.{run-lane, run-command}

-- the line of the next entry
pub lines-next : (h : List EntryValue) (i : ℕ) (e : EntryValue) (line : Line) (lines more : List Line)
    → lines ≡ lines_of (take i h) → slice_get h (i + 1 - 1) ≡ Some e → line ≡ line_of e → more ≡ lines ++ line ∷ []
    → more ≡ lines_of (take (i + 1) h)
lines-next h i e line lines more so_far found is longer =
    let place : i + 1 - 1 ≡ i = omega arith in
    let here : slice_get h i ≡ Some e = subst (λ n. slice_get h n ≡ Some e) place found in
    longer ∙ ap (λ l. l ++ line ∷ []) so_far ∙ ap (λ k. lines_of (take i h) ++ k ∷ []) is
    ∙ sym (map-append line_of (take i h) (e ∷ [])) ∙ sym (ap lines_of (take-next h i e here))

-- the device stays the same
pub same-device : (first old new : TableValue) → IsSameDevice first old → IsSameDevice old new → IsSameDevice first new
same-device first old new a b = record {
  geometry = b.geometry ∙ a.geometry;
  slots = b.slots ∙ a.slots;
  limit = b.limit ∙ a.limit;
}

-- no command of the lane was run yet
pub lane-begins : (files : List Contents) (lane : ℕ) (d : TableValue) → RunsLane files lane [] [] d d
lane-begins files lane d s lanes before count run = run-lane s files lanes d before run

-- the next command of the lane
pub lane-next : (files : List Contents) (lane i : ℕ) (commands : List Command) (c : Command) (at : Turn)
    (replies more : List ReplyValue) (reply : ReplyValue) (first old new : TableValue)
    → RunsLane files lane (take i commands) replies first old → slice_get commands i ≡ Some c
    → at.lane ≡ lane → at.number ≡ i → Answered files (length old.journal) at c reply old new
    → more ≡ replies ++ reply ∷ []
    → RunsLane files lane (take (i + 1) commands) more first new
lane-next files lane i commands c at replies more reply first old new so_far found is_lane is_number answered longer s lanes before count run =
    let lt : i < length commands = slice_get_within commands i c found in
    let is_count : length (take i commands) ≡ at.number = length-take-le i commands (omega (arith, lt)) ∙ sym is_number in
    subst (λ cs. HasRun s files (lanes ++ cs ∷ []) new (before ++ more ∷ [])) (sym (take-next commands i c found))
    (subst (λ rs. HasRun s files (lanes ++ (take i commands ++ c ∷ []) ∷ []) new (before ++ rs ∷ [])) (sym longer)
    (run-command s files lanes (take i commands) c before replies reply at old new (count ∙ sym is_lane) is_count
    (so_far s lanes before count run) answered))

-- the next lane
pub session-next : (s : ScriptValue) (files : List Contents) (lanes : List (List Command)) (lane : ℕ)
    (commands : List Command) (replies : List ReplyValue) (before more : List (List ReplyValue)) (old new : TableValue)
    → HasRun s files (take lane lanes) old before → slice_get lanes lane ≡ Some commands
    → RunsLane files lane commands replies old new → more ≡ before ++ replies ∷ []
    → HasRun s files (take (lane + 1) lanes) new more
session-next s files lanes lane commands replies before more old new run found runs longer =
    let lt : lane < length lanes = slice_get_within lanes lane commands found in
    subst (λ ls. HasRun s files ls new more) (sym (take-next lanes lane commands found))
    (subst (λ rs. HasRun s files (take lane lanes ++ commands ∷ []) new rs) (sym longer)
    (runs s (take lane lanes) before (length-take-le lane lanes (omega (arith, lt))) run))
