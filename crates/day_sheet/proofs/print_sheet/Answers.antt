-- `day_sheet::print_sheet` is safe: lines are printed one after another only of accepted tables and rules that are listed.
-- Assumes nothing.
use Rattle.verdicts.proofs.LoadedLaws.{read-taken, took-loaded}
use Rattle.day_sheet.proofs.print_sheet.Goals as goal

pub print_lines-requires-clause-loaded : goal.print_lines-requires-clause-loaded
print_lines-requires-clause-loaded c = took-loaded (read-taken c.args.tables.now c.read.ensures c.in-Ok.is)
