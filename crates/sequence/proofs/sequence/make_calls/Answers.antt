use Rattle.std.proofs.Common.{rules, Ok}
use Rattle.ring.proofs.BooksClose.{books_close_by}
use Rattle.sequence.proofs.MadeBooks.{made_books, made_over}
use Rattle.sequence.proofs.sequence.make_calls.Goals as goal

pub returns-clause-rows : goal.returns-clause-rows
returns-clause-rows g c =
    made_over g.K.RingKind.step c.in_ok-control.control c.call_each.new.table.control c.args.cells.now c.lay_out.new.cells c.call_each.new.table.cells.now _
    c.args.workers.now c.lay_out.new.workers c.call_each.new.table.workers.now _ c.args.calls.now c.args.answers.now c.call_each.new.answers
    c.in_ok-control.ensures.rows (search rules) (search rules) c.call_each.ensures.table c.call_each.ensures.answers

pub returns-clause-books : goal.returns-clause-books
returns-clause-books g c =
    let k = g.K.RingKind in
    let m = g.met.K.RingKind in
    made_books k.step
    (books_close_by k.step k.held k.barred m.meaning m.touches_its_own m.places_free m.takes_held m.leaves_items m.passes_barred m.stays_barred)
    (Ok c.call_each.new.table.control) c.args.cells.now _ c.args.workers.now _ c.args.calls.now c.args.answers.now c.call_each.new.answers
    (returns-clause-rows g c)
