-- `tables::sections::roles`: section 1, the roles.
-- Assumes nothing.
use Rattle.tables.specs.Reading.{word_row}
use Rattle.tables.specs.Code.Reads.{rows_from}
use Rattle.tables.specs.Code.Layout.{role_count_at, role_rows_at}
use Rattle.tables.proofs.ReadLaws.{as-took, as-stop, stops_as, reads_as}
use Rattle.tables.proofs.SectionLaws.{section-stop, section-on, counted}
use Rattle.tables.proofs.sections.roles.Goals as goal

pub returns-in_err-count : goal.returns-in_err-count
returns-in_err-count c =
    stops_as c.from_residual.ensures.1 (section-stop c.args.bytes.now 0 (λ n. word_row n) (as-stop c.in_err-count.ensures))

pub returns : goal.returns
returns c =
    let g = as-took c.in_ok-count.ensures in
    section-on c.args.bytes.now 0 (λ n. word_row n) g (reads_as c.rows.ensures (λ xs v x. counted (rows_from role_rows_at) c.args.words.now role_count_at _ g.holds.few x))
