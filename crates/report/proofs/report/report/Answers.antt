-- What the bytes say decides what is reported.
use Rattle.std.proofs.Common.{◌≡◌, true, length, sym, ap, subst, arith}
use Rattle.play.specs.Play.{PlainPlay}
use Rattle.report.specs.Report.{report_by}
use Rattle.report.specs.Whole.{Reported}
use Rattle.report.proofs.FaultFits.{fault_fits}
use Rattle.report.proofs.ShortPlay.{short_body}
use Rattle.report.proofs.report.report.Goals as goal

pub play_chosen-requires-clause-range : goal.play_chosen-requires-clause-range
play_chosen-requires-clause-range c =
    let said = c.in-Ok.ensures in
    (said.text.written (record { header = c.in-Ok.play.header; orders = said.reads.0 }) said.reads.1).1.0

pub play_chosen-requires-clause-short : goal.play_chosen-requires-clause-short
play_chosen-requires-clause-short c =
    let said = c.in-Ok.ensures in
    let plain : PlainPlay = record { header = c.in-Ok.play.header; orders = said.reads.0 } in
    short_body c.args.bytes.now c.in-Ok.play.body.now plain said.reads.1 (said.text.written plain said.reads.1).0 said.reads.2

pub returns-in-Ok-clause-text : goal.returns-in-Ok-clause-text
returns-in-Ok-clause-text c =
    let said = c.in-Ok.ensures in
    let os = said.reads.0 in
    let play = said.text.written (record { header = c.in-Ok.play.header; orders = os }) said.reads.1 in
    subst (λ x. Reported c.play_chosen.result (report_by x)) (sym said.reads.1) (c.play_chosen.ensures.text os said.reads.2 play.1.1)

pub returns-in-Ok-clause-fits : goal.returns-in-Ok-clause-fits
returns-in-Ok-clause-fits c =
    let said = c.in-Ok.ensures in
    let os = said.reads.0 in
    let plain : PlainPlay = record { header = c.in-Ok.play.header; orders = os } in
    let play = said.text.written plain said.reads.1 in
    subst (λ x. (report_by x).written ≡ true) (sym said.reads.1)
    (c.play_chosen.ensures.fits os play.1.1 (omega (arith, short_body c.args.bytes.now c.in-Ok.play.body.now plain said.reads.1 play.0 said.reads.2, ap length said.reads.2)))

pub returns-in-Err-clause-fits : goal.returns-in-Err-clause-fits
returns-in-Err-clause-fits c = subst (λ x. (report_by x).written ≡ true) (sym c.in-Err.ensures.reads) (fault_fits c.args.bytes.now c.in-Err.fault c.in-Err.ensures.reads)
