-- The text of a transcript.
use Rattle.std.specs.Prelude.{ℕ, ◌+◌, List, [], ◌∷◌, ◌++◌, length, map, decimal, codes, slice_index}
use Rattle.blif_defs.specs.Printing.{line_text}
use Rattle.fabric_defs.specs.Numbered.{list_of}
use Rattle.refusal_text.specs.Reasons.{reason}
use Rattle.script_defs.specs.declared.line.EntryKind.{EntryKind}
use Rattle.script_defs.specs.declared.line.EntryKind.TheVariants.{Agreed, Installed, Evicted}
use Rattle.script_defs.specs.declared.line.Line.{Line}
use Rattle.script_defs.specs.Transcripts.{ReplyValue, agreed, installed, evicted, full, unagreed, refused, stale, out, vacant, width, ones, TranscriptValue}

-- the word of an entry's kind
abbrev pub kind_word : EntryKind → List ℕ
kind_word Agreed = codes "agreed"
kind_word Installed = codes "installed"
kind_word Evicted = codes "evicted"

-- the line of the entry with this number: NUMBER KIND LANE TURN SLOT
abbrev pub entry_text : ℕ → Line → List ℕ
entry_text number e = line_text (decimal number ∷ kind_word e.kind ∷ decimal e.lane ∷ decimal e.turn ∷ decimal e.slot ∷ [])

-- the lines of entries of which the first one has this number
abbrev pub entries_text : ℕ → List Line → List ℕ
entries_text number [] = []
entries_text number (e ∷ later) = entry_text number e ++ entries_text (number + 1) later

-- a point: `@` and the number of entries
abbrev pub point_word : ℕ → List ℕ
point_word at = 64 ∷ decimal at

-- the word of bits, the first one first; `-` for none
abbrev pub bits_word : List ℕ → List ℕ
bits_word [] = 45 ∷ []
bits_word (b ∷ bs) = map (λ c. 48 + c) (b ∷ bs)

-- a reply as its words; a reason may be several words
abbrev pub reply_words : ReplyValue → List (List ℕ)
reply_words (agreed at) = codes "agreed" ∷ point_word at ∷ []
reply_words (installed at) = codes "installed" ∷ point_word at ∷ []
reply_words (evicted at) = codes "evicted" ∷ point_word at ∷ []
reply_words (full at) = codes "full" ∷ point_word at ∷ []
reply_words (unagreed at) = codes "unagreed" ∷ point_word at ∷ []
reply_words (refused refusal at) = codes "refused" ∷ reason refusal ∷ point_word at ∷ []
reply_words (stale checked at) = codes "stale" ∷ point_word checked ∷ point_word at ∷ []
reply_words (out y bit at) = codes "out" ∷ bits_word y ∷ decimal bit ∷ point_word at ∷ []
reply_words (vacant at) = codes "vacant" ∷ point_word at ∷ []
reply_words (width want at) = codes "width" ∷ decimal want ∷ point_word at ∷ []
reply_words (ones counts outputs at) =
    codes "ones" ∷ (list_of outputs (λ o. decimal (slice_index counts o)) ++ point_word at ∷ [])

-- the lines of replies of which the first one is of this turn
abbrev pub replies_text : ℕ → List ReplyValue → List ℕ
replies_text turn [] = []
replies_text turn (r ∷ later) = line_text (decimal turn ∷ reply_words r) ++ replies_text (turn + 1) later

-- the lines of lanes of which the first one has this number
abbrev pub lanes_text : ℕ → List (List ReplyValue) → List ℕ
lanes_text lane [] = []
lanes_text lane (replies ∷ later) =
    line_text (codes "lane" ∷ decimal lane ∷ []) ++ replies_text 0 replies ++ lanes_text (lane + 1) later

-- the text of a transcript: the journal, then each lane
abbrev pub transcript_text : TranscriptValue → List ℕ
transcript_text t =
    line_text (codes "journal" ∷ decimal (length t.journal) ∷ []) ++ entries_text 1 t.journal ++ lanes_text 0 t.lanes
