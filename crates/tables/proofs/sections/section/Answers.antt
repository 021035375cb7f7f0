-- `tables::sections::section`: a section of words.
-- Assumes nothing.
use Rattle.tables.specs.Code.Reads.{row_of, rows_from}
use Rattle.tables.proofs.ReadLaws.{as-took, as-stop, stops_as, reads_as}
use Rattle.tables.proofs.SectionLaws.{section-stop, section-on, counted}
use Rattle.tables.proofs.sections.section.Goals as goal

pub returns-in_err-count : goal.returns-in_err-count
returns-in_err-count c =
    stops_as c.from_residual.ensures.1 (section-stop c.args.bytes.now c.args.at (λ n. row_of c.args.kind) (as-stop c.in_err-count.ensures))

pub returns : goal.returns
returns c =
    let g = as-took c.in_ok-count.ensures in
    section-on c.args.bytes.now c.args.at (λ n. row_of c.args.kind) g (reads_as c.rows.ensures (λ xs v x. counted (rows_from c.args.to) c.args.words.now c.args.place _ g.holds.few x))
