use Rattle.std.proofs.Common.{refl}
use Rattle.ring.specs.declared.call.Call.TheVariants.{AssignDequeue}
use Rattle.ring.proofs.BooksClose.{books_close_by}
use Rattle.calls.specs.Promise.{table, left}
use Rattle.calls.proofs.Continues.{continues}
use Rattle.calls.proofs.assign.assign_dequeue.Goals as goal

pub returns-clause-books : goal.returns-clause-books
returns-clause-books g c =
    let k = g.K.RingKind in
    let m = g.met.K.RingKind in
    continues k.step
    (books_close_by k.step k.held k.barred m.meaning m.touches_its_own m.places_free m.takes_held m.leaves_items m.passes_barred
    m.stays_barred)
    (table c.args.control.now c.args.cells.now c.args.workers.now) (AssignDequeue c.args.number) (left c.args.control.now c.args.cells.now c.assigned.new.workers c.assigned.result) (c.assigned.ensures c.args.cells.now refl)
