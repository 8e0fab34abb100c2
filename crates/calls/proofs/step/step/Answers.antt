use Rattle.std.proofs.Common.{rules}
use Rattle.ring.specs.declared.call.Call.TheVariants.{Step}
use Rattle.ring.proofs.BooksClose.{books_close_by}
use Rattle.calls.specs.Promise.{table}
use Rattle.calls.proofs.Continues.{continues_in}
use Rattle.calls.proofs.step.step.Goals as goal

pub returns-clause-books : goal.returns-clause-books
returns-clause-books g c =
    let k = g.K.RingKind in
    let m = g.met.K.RingKind in
    continues_in k.step
    (books_close_by k.step k.held k.barred m.meaning m.touches_its_own m.places_free m.takes_held m.leaves_items m.passes_barred
    m.stays_barred)
    (table c.args.control.now c.args.cells.now c.args.workers.now) (Step c.args.number) c.step-reply.new.self.control c.step-reply.result
    c.step-reply.new.self.cells.now _ c.step-reply.new.self.workers.now _ (search rules) (search rules) c.step-reply.ensures.rows
