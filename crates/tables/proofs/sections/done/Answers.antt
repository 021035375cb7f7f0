-- `tables::sections::done`: section 10, who already did what.
-- Assumes nothing.
use lib.ListN.{get_or}
use Rattle.tables.specs.Reading.{done_row}
use Rattle.tables.specs.Code.Layout.{operation_count_at, object_count_at, done_count_at}
use Rattle.tables.specs.Code.Reads.{put_deeds}
use Rattle.tables.proofs.ReadLaws.{as-took, as-stop, stops_as, reads_as}
use Rattle.tables.proofs.SectionLaws.{section-stop, section-on, counted}
use Rattle.tables.proofs.sections.done.Goals as goal

pub returns-in_err-count : goal.returns-in_err-count
returns-in_err-count c =
    stops_as c.from_residual.ensures.1
    (section-stop c.args.bytes.now c.args.at (λ n. done_row c.args.users (get_or c.args.words.now operation_count_at 0) (get_or c.args.words.now object_count_at 0))
    (as-stop c.in_err-count.ensures))

pub returns : goal.returns
returns c =
    let g = as-took c.in_ok-count.ensures in
    section-on c.args.bytes.now c.args.at (λ n. done_row c.args.users (get_or c.args.words.now operation_count_at 0) (get_or c.args.words.now object_count_at 0)) g
    (reads_as c.done_rows.ensures (λ ds v x. counted put_deeds c.args.words.now done_count_at _ g.holds.few x))
