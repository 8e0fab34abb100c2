use Rattle.ring.proofs.BooksClose.{books_close_by}
use Rattle.ring.proofs.Fill.{books_fill}
use Rattle.ring.proofs.Origin.{items_assigned}
use Rattle.ring.proofs.theorem.books_close.Goals as goal

pub returns : goal.returns
returns g c =
    let k = g.K.RingKind in
    let m = g.met.K.RingKind in
    record {
      close =
          books_close_by k.step k.held k.barred m.meaning m.touches_its_own m.places_free m.takes_held m.leaves_items m.passes_barred
          m.stays_barred;
      fill = books_fill k.step m.round_trip;
      origin = items_assigned k.step k.held k.barred m.meaning m.touches_its_own m.places_free m.takes_held m.leaves_items;
    }
