-- `sheets::write_line` writes the line of any tables and rules.
-- Assumes nothing.
use Rattle.verdicts.proofs.LoadedLaws.{read-taken, took-loaded}
use Rattle.sheets.proofs.JudgedLaws.{rejected-made, taken_made}
use borrow.Author.Rules.{rules}
use Rattle.sheets.proofs.write_line.Goals as goal

pub judged_line-requires-clause-loaded : goal.judged_line-requires-clause-loaded
judged_line-requires-clause-loaded c = took-loaded (read-taken c.args.tables.now c.read.ensures c.in-Ok.is)

pub returns-in-Err : goal.returns-in-Err
returns-in-Err c = rejected-made _ _ _ c.read.ensures c.in-Err.is c.refused_tables.ensures

pub returns-in-Ok : goal.returns-in-Ok
returns-in-Ok c = taken_made _ _ _ c.read.ensures c.in-Ok.is c.judged_line.ensures
