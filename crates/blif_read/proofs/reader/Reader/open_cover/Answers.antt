use Rattle.std.proofs.Common.{◌∙◌, ap, cond, true, Bool, map, Option}
use Rattle.std.specs.Option.{option_map}
use Rattle.std.specs.Str.{bytes_eq}
use Rattle.blif_defs.specs.Values.{CoverValue}
use Rattle.blif_read.specs.declared.cover.Cover.{Cover}
use Rattle.blif_read.specs.Views.{cover_of}
use Rattle.blif_read.proofs.Index.{known_more, is_among_cover, few_covers}
use Rattle.blif_read.proofs.reader.Reader.open_cover.Goals as goal

-- the index has the cover's output more, and the signals stay few
pub returns-clause-indexed : goal.returns-clause-indexed
returns-clause-indexed c =
    let covers = map cover_of c.args.self.now.covers.items in
    let current = option_map cover_of c.args.self.now.current in
    let none = ap (λ (o : Option Cover). option_map cover_of o) c.requires.closed in
    let opened : CoverValue = record { ins = c.from_vec.result; out = c.in_ok-name_of.field-0; on = true; rows = c.from_vec-2.result } in
    record {
      known = λ q.
          known_more c.args.self.now.known c.insert.new.self c.args.out c.in_ok-insert.ensures.updates q
          ∙ ap (λ (b : Bool). cond (bytes_eq c.args.out.now q) true b) (c.requires.indexed.known q)
          ∙ is_among_cover q c.args.self.now.inputs.items covers opened current c.args.out.now none c.in_ok-name_of.ensures.ok;
      few = few_covers c.args.self.now.inputs.items covers opened current c.signal_count.result _ none c.signal_count.ensures c.if-signal_count-ge-MAX_SIGNALS.false;
    }
