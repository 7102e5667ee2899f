-- What a reader has read so far.
use Rattle.std.specs.Prelude.{◌≡◌, ℕ, ◌≤◌, List, map}
use Rattle.std.specs.Option.{option_map}
use Rattle.std.specs.Str.{bytes_eq}
use Rattle.std.specs.HashSet.{contains_by}
use Rattle.blif_defs.specs.declared.mark.TheConstants.{MAX_SIGNALS}
use Rattle.blif_defs.specs.Drafts as drafts
use Rattle.blif_defs.specs.Drafts.{signals, signal_count, is_among}
use Rattle.blif_read.specs.declared.reader.Reader.{Reader}
use Rattle.blif_read.specs.Views.{cover_of}

-- what a reader has read, as its plain record
abbrev pub draft_of : Reader → drafts.Draft
draft_of r = record {
  model = r.model;
  inputs = r.inputs.items;
  outputs = r.outputs.items;
  covers = map cover_of r.covers.items;
  current = option_map cover_of r.current;
  begun = r.begun;
  ended = r.ended;
}

-- the set of known names has those of the signals, and there are not too many
pub record IsIndexed (r : Reader) : Type 0 where
  pub known : (name : List ℕ) → contains_by (λ k. bytes_eq name k.now) r.known ≡ is_among name (signals (draft_of r))
  pub few : signal_count (draft_of r) ≤ MAX_SIGNALS
