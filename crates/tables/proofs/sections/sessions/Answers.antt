-- `tables::sections::sessions`: section 3, the sessions.
-- Assumes nothing.
use Rattle.tables.specs.Reading.{session_row}
use Rattle.tables.specs.Code.Layout.{session_count_at}
use Rattle.tables.specs.Code.Reads.{put_sessions}
use Rattle.tables.proofs.ReadLaws.{as-took, as-stop, stops_as, reads_as}
use Rattle.tables.proofs.SectionLaws.{section-stop, section-on, counted}
use Rattle.tables.proofs.sections.sessions.Goals as goal

pub returns-in_err-count : goal.returns-in_err-count
returns-in_err-count c =
    stops_as c.from_residual.ensures.1
    (section-stop c.args.bytes.now c.args.at (λ n. session_row c.args.users c.args.roles) (as-stop c.in_err-count.ensures))

pub returns : goal.returns
returns c =
    let g = as-took c.in_ok-count.ensures in
    section-on c.args.bytes.now c.args.at (λ n. session_row c.args.users c.args.roles) g
    (reads_as c.session_rows.ensures (λ ss v x. counted put_sessions c.args.words.now session_count_at _ g.holds.few x))
