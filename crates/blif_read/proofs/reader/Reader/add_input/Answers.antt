use Rattle.std.proofs.Common.{◌∙◌, ap, cond, true, Bool, map, ◌++◌}
use Rattle.std.specs.Option.{option_map, option_to_list}
use Rattle.std.specs.Str.{bytes_eq}
use Rattle.blif_read.specs.Views.{cover_of}
use Rattle.blif_read.proofs.Index.{known_more, is_among_input, few_inputs}
use Rattle.blif_read.proofs.reader.Reader.add_input.Goals as goal

-- the index has the input more, and the signals stay few
pub returns-clause-indexed : goal.returns-clause-indexed
returns-clause-indexed c =
    let covers = map cover_of c.args.self.now.covers.items ++ option_to_list (option_map cover_of c.args.self.now.current) in
    record {
      known = λ q.
          known_more c.args.self.now.known c.insert.new.self c.args.name c.in_ok-insert.ensures.updates q
          ∙ ap (λ (b : Bool). cond (bytes_eq c.args.name.now q) true b) (c.requires.known q)
          ∙ is_among_input q c.args.self.now.inputs.items c.push.new.self.items c.args.name.now c.in_ok-name_of.field-0 covers c.in_ok-push.ensures.items c.in_ok-name_of.ensures.ok;
      few = few_inputs c.args.self.now.inputs.items c.push.new.self.items _ covers c.signal_count.result _ c.in_ok-push.ensures.items c.signal_count.ensures c.if-signal_count-ge-MAX_SIGNALS.false;
    }
