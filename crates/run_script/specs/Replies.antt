-- Replies and transcripts as the plain values that definitions speak of.
use Rattle.std.specs.Prelude.{map, if◌then◌else◌}
use Rattle.script_defs.specs.Transcripts.{ReplyValue, agreed, installed, evicted, full, unagreed, refused, stale, out, vacant, width, ones, TranscriptValue}
use Rattle.run_script.specs.declared.reply.Reply.{Reply}
use Rattle.run_script.specs.declared.reply.Reply.TheVariants.{Agreed, Installed, Evicted, Full, Unagreed, Refused, Stale, Out, Vacant, Width, Ones}
use Rattle.run_script.specs.declared.transcript.Transcript.{Transcript}

-- a reply as its plain value
abbrev pub reply_of : Reply → ReplyValue
reply_of (Agreed at) = agreed at
reply_of (Installed at) = installed at
reply_of (Evicted at) = evicted at
reply_of (Full at) = full at
reply_of (Unagreed at) = unagreed at
reply_of (Refused refusal at) = refused refusal at
reply_of (Stale checked at) = stale checked at
reply_of (Out outputs probe at) = out outputs (if probe then 1 else 0) at
reply_of (Vacant at) = vacant at
reply_of (Width want at) = width want at
reply_of (Ones counts outputs at) = ones counts outputs at

-- a transcript as its plain record
abbrev pub transcript_of : Transcript → TranscriptValue
transcript_of t = record { journal = t.journal; lanes = map (λ replies. map reply_of replies) t.lanes }
