-- The table that laying out leaves.
use Rattle.std.proofs.Common.{◌≡◌, true, leb, List, length, Ok, ap, ◌∙◌}
use Rattle.std.proofs.lemmas.Bool.{cond-true, and_from, le-leb}
use Rattle.ring.specs.declared.table.Cell.{Cell}
use Rattle.ring.specs.declared.table.Worker.{Worker}
use Rattle.ring.specs.declared.control.Control.{Control}
use Rattle.ring.specs.Table.{Table, InRange, laid_out}
use Rattle.engine.specs.Engine.{counters}
use Rattle.calls.specs.Promise.{table}
use Rattle.calls.specs.Laying.{Laying, ring_fits, crew_fits, laying}

pub laid_table : {I : Type 0} (cs cs' : List (Cell I)) (ws ws' : List (Worker I)) (c : Control) → InRange (length cs) (length ws)
    → ◌≡◌ {A = Laying I} (record { control = Ok (counters c); cells = cs'; workers = ws' }) (laying cs ws) → table c cs' ws' ≡ laid_out (length cs) (length ws)
laid_table {I} cs cs' ws ws' c range e =
    let t : Table I = laid_out (length cs) (length ws) in
    let ring : ring_fits (length cs) ≡ true = and_from (leb 1 (length cs)) (leb (length cs) 1024) (le-leb 1 (length cs) range.0) (le-leb (length cs) 1024 range.1) in
    let crew : crew_fits (length ws) ≡ true = and_from (leb 1 (length ws)) (leb (length ws) 64) (le-leb 1 (length ws) range.2) (le-leb (length ws) 64 range.3) in
    let is = e ∙ (cond-true (ring_fits (length cs)) _ _ ring ∙ cond-true (crew_fits (length ws)) _ _ crew) in
    let first = ap (λ (l : Laying I). l.control) is in
    let same : counters c ≡ t.counters = cc in
    ap (λ x. record { counters = x; cells = cs'; workers = ws' }) same
    ∙ ap (λ x. record { counters = t.counters; cells = x; workers = ws' }) (ap (λ (l : Laying I). l.cells) is)
    ∙ ap (λ x. record { counters = t.counters; cells = t.cells; workers = x }) (ap (λ (l : Laying I). l.workers) is)
