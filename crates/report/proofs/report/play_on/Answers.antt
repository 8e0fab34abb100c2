-- The table has as many cells and workers as the header says. What the books and the lines promise does not depend on the way out.
use Rattle.std.proofs.Common.{List, length, ◌∙◌, subst}
use Rattle.ring.proofs.BooksClose.{books_close_by}
use Rattle.ring.proofs.Origin.{items_assigned, run_orderly}
use Rattle.ring.specs.Books.{BooksClose}
use Rattle.ring.specs.Table.{InRange}
use Rattle.play.specs.declared.header.Header.{Header}
use Rattle.play.specs.Orders.{PlainOrder}
use Rattle.play.specs.Text.{HeaderFits}
use Rattle.report.specs.Fits.{RunFits}
use Rattle.report.specs.OrderBooks.{OrderBooks}
use Rattle.report.specs.RunBooks.{RunBooks}
use Rattle.report.specs.Whole.{Reported, whole_run}
use Rattle.report.proofs.History.{order_books, run_books}
use Rattle.report.proofs.LinesFit.{whole_fits}
use Rattle.report.proofs.report.play_on.Given.{Over}
use Rattle.report.proofs.report.play_on.Goals as goal

-- the books of every run with the kind close
closes : (g : Over) → BooksClose g.K.RingKind.step
closes g =
    let m = g.met.K.RingKind in
    let k = g.K.RingKind in
    books_close_by k.step k.held k.barred m.meaning m.touches_its_own m.places_free m.takes_held m.leaves_items m.passes_barred m.stays_barred

in_range : (x : Header) → HeaderFits x → InRange x.cells x.workers
in_range x h = (h.0.0, h.0.1, h.1.0, h.1.1)

-- every line of every run fits
fits : (g : Over) (x : Header) → HeaderFits x → RunFits x.items (whole_run g.I.ItemKind.text g.I.ItemKind.reading g.K.RingKind.step x.cells x.workers)
fits g x h =
    let m = g.met.K.RingKind in
    let k = g.K.RingKind in
    whole_fits g.I.ItemKind.text g.I.ItemKind.reading g.met.I.ItemKind.only k.step
    (items_assigned k.step k.held k.barred m.meaning m.touches_its_own m.places_free m.takes_held m.leaves_items) x.cells x.workers (in_range x h)
    (run_orderly k.step m.touches_its_own x.cells x.workers (in_range x h)) x.items

orders : (g : Over) (x : Header) → HeaderFits x → (os : List PlainOrder) → OrderBooks g.I.ItemKind.text g.I.ItemKind.reading g.K.RingKind.step x.cells x.workers os
orders g x h = order_books g.I.ItemKind.text g.I.ItemKind.reading g.K.RingKind.step x.cells x.workers (closes g) (in_range x h)

books : (g : Over) (x : Header) → HeaderFits x → (os : List PlainOrder) → RunBooks g.I.ItemKind.text g.I.ItemKind.reading g.K.RingKind.step x.cells x.workers os
books g x h = run_books g.I.ItemKind.text g.I.ItemKind.reading g.K.RingKind.step x.cells x.workers (closes g) (in_range x h)

pub returns-in_err-cells-clause-fits : goal.returns-in_err-cells-clause-fits
returns-in_err-cells-clause-fits g c = fits g c.args.header c.requires.range

pub returns-in_err-cells-clause-orders : goal.returns-in_err-cells-clause-orders
returns-in_err-cells-clause-orders g c = orders g c.args.header c.requires.range

pub returns-in_err-cells-clause-books : goal.returns-in_err-cells-clause-books
returns-in_err-cells-clause-books g c = books g c.args.header c.requires.range

pub returns-in_err-workers-clause-fits : goal.returns-in_err-workers-clause-fits
returns-in_err-workers-clause-fits g c = fits g c.args.header c.requires.range

pub returns-in_err-workers-clause-orders : goal.returns-in_err-workers-clause-orders
returns-in_err-workers-clause-orders g c = orders g c.args.header c.requires.range

pub returns-in_err-workers-clause-books : goal.returns-in_err-workers-clause-books
returns-in_err-workers-clause-books g c = books g c.args.header c.requires.range

pub returns-clause-fits : goal.returns-clause-fits
returns-clause-fits g c = fits g c.args.header c.requires.range

pub returns-clause-orders : goal.returns-clause-orders
returns-clause-orders g c = orders g c.args.header c.requires.range

pub returns-clause-books : goal.returns-clause-books
returns-clause-books g c = books g c.args.header c.requires.range

pub returns-clause-text : goal.returns-clause-text
returns-clause-text g c = λ os e f.
    let run = whole_run g.I.ItemKind.text g.I.ItemKind.reading g.K.RingKind.step in
    let cells = c.as_mut_slice.ensures.len ∙ c.in_ok-cells.ensures.len in
    let workers = c.as_mut_slice-2.ensures.len ∙ c.in_ok-workers.ensures.len in
    subst (λ x. Reported c.play_table.result (run x c.args.header.workers os)) cells
    (subst (λ x. Reported c.play_table.result (run (length c.as_mut_slice.result.now) x os)) workers (c.play_table.ensures.text os e f))
