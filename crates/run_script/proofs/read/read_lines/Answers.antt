use Rattle.std.proofs.Common.{◌≡◌, take, drop, refl, ap, ◌∙◌, arith}
use Rattle.std.proofs.lemmas.Result.{err_from_is_err_and}
use Rattle.script_defs.specs.Lines.{line_words}
use Rattle.script_defs.specs.Reading.{read_statements}
use Rattle.blif_read.specs.Views.{texts}
use Rattle.run_script.specs.Readers.{draft_of}
use Rattle.run_script.proofs.Reading.{line_fault, line_read, one_line_less, bytes_less}
use Rattle.run_script.proofs.read.read_lines.Goals as goal

-- a faulty line is the first fault of the text
pub returns-in_err-read_words : goal.returns-in_err-read_words
returns-in_err-read_words c =
    let rest = c.loop-rest.rest.now in
    let n = c.len_before-len.result in
    let words-is : texts c.deref.result.now ≡ line_words (take n rest) = ap texts c.deref.ensures.value ∙ c.in_ok-put_words.ensures {u = tt} in
    let p = err_from_is_err_and c.from_residual-in_err-read_words.result c.from_residual-in_err-read_words.ensures.1 in
    rw (p.1, p.2)
    (line_fault c.args.text.now (draft_of c.loop-rest.reader) c.in_err-read_words.field-0.0 c.loop-rest.at n rest (take n rest) (drop 1 (drop n rest)) (texts c.deref.result.now)
    (read_statements c.args.text.now) c.len_before-len.ensures.len (c.loop-rest-test.ensures {u = tt}) refl refl words-is (c.in_err-read_words.ensures {u = tt}).reads c.loop-rest.invariant.reads)

-- a byte at least was read
pub loop-rest-smaller : goal.loop-rest-smaller
loop-rest-smaller c =
    omega (arith, bytes_less c.len_before-len.result c.loop-rest.rest.now c.after_line-rest.result.now (c.loop-rest-test.ensures {u = tt}) c.after_line-rest.ensures)

-- what goes on from the next line gives what the whole text gives
pub loop-rest-preserved : goal.loop-rest-preserved
loop-rest-preserved c =
    let rest = c.loop-rest.rest.now in
    let after = c.after_line-rest.result.now in
    let n = c.len_before-len.result in
    let some = c.loop-rest-test.ensures {u = tt} in
    let words-is : texts c.deref.result.now ≡ line_words (take n rest) = ap texts c.deref.ensures.value ∙ c.in_ok-put_words.ensures {u = tt} in
    let less = one_line_less n rest (take n rest) after c.len_before-len.ensures.len some refl c.after_line-rest.ensures in
    let behind = c.loop-rest.invariant.behind in
    let bound = c.loop-rest.invariant.bound in
    record {
      reads =
          line_read c.args.text.now (draft_of c.loop-rest.reader) (draft_of c.read_words.new.self) c.loop-rest.at n rest (take n rest) after (texts c.deref.result.now)
          (read_statements c.args.text.now) c.len_before-len.ensures.len some refl c.after_line-rest.ensures words-is (c.in_ok-read_words.ensures {u = tt}).reads c.loop-rest.invariant.reads;
      behind = omega (arith, less, behind);
      kept = (c.in_ok-read_words.ensures {u = tt}).kept;
      bound = omega (arith, bound, bytes_less n rest after some c.after_line-rest.ensures);
    }
