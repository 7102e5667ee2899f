use Rattle.std.proofs.Common.{sym, ap, ◌∙◌, arith, ◌+◌, refl, List, Bor, ℕ, []}
use Rattle.std.proofs.lemmas.Result.{err_from_is_err_and}
use Rattle.blif_defs.specs.Drafts.{start}
use Rattle.blif_defs.specs.Grammar.{with_words, with_statements, statements}
use Rattle.blif_read.specs.Views.{texts}
use Rattle.blif_read.specs.Readers.{draft_of}
use Rattle.blif_laws.proofs.Joining.{put_in_front, from_line}
use Rattle.blif_read.proofs.Reading.{last_step, single_step, join_step, lines, lines_begin, goes_on, fails}
use Rattle.blif_laws.proofs.LineLemmas.{some_left}
use Rattle.blif_read.proofs.read.read_lines.Goals as goal

-- the text begins with its first line, and no word before it
pub lines-init : goal.lines-init
lines-init c = record {
  reads = lines_begin (draft_of c.in_ok-reader.reader) c.args.text.now c.new-list.result.items (c.in_ok-reader.ensures.reads) c.new-list.ensures.items;
  indexed = c.in_ok-reader.ensures.indexed;
  bound = omega arith;
}

-- a fault of the last line is that of the text
pub returns-in_err-read_words-clause-reads : goal.returns-in_err-read_words-clause-reads
returns-in_err-read_words-clause-reads c =
    let t = last_step (draft_of c.lines.reader) c.lines.first c.lines.at c.len_before.result (texts c.lines.list.items) c.in_ok-joins.joins c.push_line.new.list.items c.deref.result.now
    c.lines.rest.now c.split_at.result.0.now c.split_at.result.1.now (with_statements start (statements c.args.text.now))
    c.len_before.ensures.len c.split_at.ensures.front c.split_at.ensures.back (c.if-is_empty.ensures {u = tt}) (c.in_ok-joins.ensures {u = tt}) c.deref.ensures.value c.lines.invariant.reads in
    let p = err_from_is_err_and c.from_residual-in_err-read_words.result c.from_residual-in_err-read_words.ensures.1 in
    rw (p.1, p.2) (fails c.in_err-read_words.field-0.0 (with_words c.lines.first (draft_of c.lines.reader) (texts c.deref.result.now)) (λ e. with_statements e []) _ (c.in_err-read_words.ensures {u = tt}).reads t)

-- behind the last line nothing is left to read
pub returns-then-is_empty-clause-reads : goal.returns-then-is_empty-clause-reads
returns-then-is_empty-clause-reads c =
    let t = last_step (draft_of c.lines.reader) c.lines.first c.lines.at c.len_before.result (texts c.lines.list.items) c.in_ok-joins.joins c.push_line.new.list.items c.deref.result.now
    c.lines.rest.now c.split_at.result.0.now c.split_at.result.1.now (with_statements start (statements c.args.text.now))
    c.len_before.ensures.len c.split_at.ensures.front c.split_at.ensures.back (c.if-is_empty.ensures {u = tt}) (c.in_ok-joins.ensures {u = tt}) c.deref.ensures.value c.lines.invariant.reads in
    goes_on (with_words c.lines.first (draft_of c.lines.reader) (texts c.deref.result.now)) (draft_of c.read_words.new.self) (λ e. with_statements e []) _ ((c.in_ok-read_words.ensures {u = tt}).reads) t

-- a line that joins the next leaves its words for it
pub lines-preserved-then-joins : goal.lines-preserved-then-joins
lines-preserved-then-joins c = record {
  reads =
      join_step (draft_of c.lines.reader) c.lines.first c.lines.at c.len_before.result (texts c.lines.list.items) c.in_ok-joins.joins c.push_line.new.list.items c.push_line.new.list.items
      c.lines.rest.now c.split_at.result.0.now c.split_at.result.1.now c.split_at-in-lines.result.1.now (with_statements start (statements c.args.text.now))
      c.len_before.ensures.len c.split_at.ensures.front c.split_at.ensures.back (c.if-is_empty.ensures {u = tt}) c.split_at-in-lines.ensures.back (c.in_ok-joins.ensures {u = tt}) refl c.if-joins.true c.lines.invariant.reads;
  indexed = c.lines.invariant.indexed;
  bound = omega (arith, some_left _ (c.if-is_empty.ensures {u = tt}));
}

-- a fault of a line is that of the text
pub returns-in_err-read_words-2-clause-reads : goal.returns-in_err-read_words-2-clause-reads
returns-in_err-read_words-2-clause-reads c =
    let t = single_step (draft_of c.lines.reader) c.lines.first c.lines.at c.len_before.result (texts c.lines.list.items) c.in_ok-joins.joins c.push_line.new.list.items c.deref-in-lines.result.now
    c.lines.rest.now c.split_at.result.0.now c.split_at.result.1.now c.split_at-in-lines.result.1.now (with_statements start (statements c.args.text.now))
    c.len_before.ensures.len c.split_at.ensures.front c.split_at.ensures.back (c.if-is_empty.ensures {u = tt}) c.split_at-in-lines.ensures.back (c.in_ok-joins.ensures {u = tt}) c.deref-in-lines.ensures.value c.if-joins.false c.lines.invariant.reads in
    let p = err_from_is_err_and c.from_residual-in_err-read_words-2.result c.from_residual-in_err-read_words-2.ensures.1 in
    rw (p.1, p.2)
    (fails c.in_err-read_words-2.field-0.0 (with_words c.lines.first (draft_of c.lines.reader) (texts c.deref-in-lines.result.now))
    (λ e. with_statements e (put_in_front (c.lines.at + 1) [] (from_line (c.lines.at + 1) (lines c.split_at-in-lines.result.1.now)))) _ (c.in_err-read_words-2.ensures {u = tt}).reads t)

-- a line that joins none is read with the words before it
pub lines-preserved : goal.lines-preserved
lines-preserved c =
    let t = single_step (draft_of c.lines.reader) c.lines.first c.lines.at c.len_before.result (texts c.lines.list.items) c.in_ok-joins.joins c.push_line.new.list.items c.deref-in-lines.result.now
    c.lines.rest.now c.split_at.result.0.now c.split_at.result.1.now c.split_at-in-lines.result.1.now (with_statements start (statements c.args.text.now))
    c.len_before.ensures.len c.split_at.ensures.front c.split_at.ensures.back (c.if-is_empty.ensures {u = tt}) c.split_at-in-lines.ensures.back (c.in_ok-joins.ensures {u = tt}) c.deref-in-lines.ensures.value c.if-joins.false c.lines.invariant.reads in
    let u = goes_on (with_words c.lines.first (draft_of c.lines.reader) (texts c.deref-in-lines.result.now)) (draft_of c.read_words-in-lines.new.self)
    (λ e. with_statements e (put_in_front (c.lines.at + 1) [] (from_line (c.lines.at + 1) (lines c.split_at-in-lines.result.1.now)))) _ ((c.in_ok-read_words-2.ensures {u = tt}).reads) t in
    record {
      reads =
          ap (λ (is : List (Bor (List ℕ))). with_statements (draft_of c.read_words-in-lines.new.self) (put_in_front (c.lines.at + 1) (texts is) (from_line (c.lines.at + 1) (lines c.split_at-in-lines.result.1.now)))) c.clear.ensures.items
          ∙ sym u;
      indexed = (c.in_ok-read_words-2.ensures {u = tt}).indexed;
      bound = omega (arith, some_left _ (c.if-is_empty.ensures {u = tt}));
    }
