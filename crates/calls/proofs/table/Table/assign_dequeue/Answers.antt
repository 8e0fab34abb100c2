use Rattle.std.proofs.Common.{refl}
use Rattle.ring.specs.declared.call.Call.TheVariants.{AssignDequeue}
use Rattle.ring.proofs.BooksClose.{books_close_by}
use Rattle.calls.specs.Promise.{left}
use Rattle.calls.specs.Lent.{table_of}
use Rattle.calls.proofs.Continues.{continues}
use Rattle.calls.proofs.table.Table.assign_dequeue.Goals as goal

pub returns-clause-books : goal.returns-clause-books
returns-clause-books g c =
    let k = g.K.RingKind in
    let m = g.met.K.RingKind in
    continues k.step
    (books_close_by k.step k.held k.barred m.meaning m.touches_its_own m.places_free m.takes_held m.leaves_items m.passes_barred
    m.stays_barred)
    (table_of c.args.self.now) (AssignDequeue c.args.number) (left c.args.self.now.control c.args.self.now.cells.now c.assigned.new.workers c.assigned.result) (c.assigned.ensures c.args.self.now.cells.now refl)
