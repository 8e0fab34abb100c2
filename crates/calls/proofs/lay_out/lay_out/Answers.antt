use Rattle.calls.proofs.Opens.{opens}
use Rattle.calls.proofs.lay_out.lay_out.Goals as goal

pub returns : goal.returns
returns g c =
    record {
      rows = c.laid.ensures;
      books = opens c.laid.result c.laid.new.cells c.args.cells.now c.laid.new.workers c.args.workers.now c.laid.ensures;
    }
