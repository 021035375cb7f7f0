-- `number` puts one digit or two.
-- Assumes nothing.
use mathlib.Core.Path.{sym}
use Rattle.syntax.proofs.RuleLaws.{digits-one, digits-two}
use Rattle.printer.proofs.PrintedLaws.{adds-as}
use Rattle.printer.proofs.sheet.Sheet.number.Goals as goal

pub returns-then-n-lt10 : goal.returns-then-n-lt10
returns-then-n-lt10 c = adds-as (sym (digits-one _ c.if-n-lt10.true)) c.put.ensures

pub returns-else-n-lt10 : goal.returns-else-n-lt10
returns-else-n-lt10 c = adds-as (sym (digits-two _ c.if-n-lt10.false)) c.put-else-n-lt10.ensures
