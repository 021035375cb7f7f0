-- `tables::sections::users`: section 2, the users.
-- Assumes nothing.
use Rattle.tables.specs.Reading.{user_row}
use Rattle.tables.specs.Code.Layout.{user_count_at}
use Rattle.tables.specs.Code.Reads.{put_users}
use Rattle.tables.proofs.ReadLaws.{as-took, as-stop, stops_as, reads_as}
use Rattle.tables.proofs.SectionLaws.{section-stop, section-on, counted}
use Rattle.tables.proofs.sections.users.Goals as goal

pub returns-in_err-count : goal.returns-in_err-count
returns-in_err-count c =
    stops_as c.from_residual.ensures.1
    (section-stop c.args.bytes.now c.args.at (λ n. user_row c.args.roles) (as-stop c.in_err-count.ensures))

pub returns : goal.returns
returns c =
    let g = as-took c.in_ok-count.ensures in
    section-on c.args.bytes.now c.args.at (λ n. user_row c.args.roles) g
    (reads_as c.user_rows.ensures (λ us v x. counted put_users c.args.words.now user_count_at _ g.holds.few x))
