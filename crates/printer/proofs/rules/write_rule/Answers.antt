-- `write_rule` writes its clauses onto the empty sheet.
-- Assumes nothing.
use Rattle.std.proofs.Common.{rules}
use Rattle.printer.proofs.PrintsLaws.{appends-front}
use Rattle.printer.proofs.rules.write_rule.Goals as goal

pub returns : goal.returns
returns c = rw c.end.ensures (appends-front c.new-sheet.ensures.bytes c.new-sheet.ensures.end (search rules) c.clauses.ensures)
