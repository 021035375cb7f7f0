-- `sheets::total::write` writes the line of a total.
-- Assumes nothing.
use native.Mathlib.Omega.{arith}
use Rattle.syntax.specs.Bytes.{ascii}
use Rattle.texts.proofs.OverwrittenLaws.{written-rest, rest-room}
use Rattle.sheets.specs.Code.Turns.{front_text}
use Rattle.sheets.proofs.LineLaws.{two-short}
use Rattle.sheets.proofs.TotalLaws.{total-pieces}
use Rattle.sheets.proofs.total.write.Goals as goal

pub others-m-requires : goal.others-m-requires
others-m-requires c =
    rest-room {w = front_text c.args.t} 100 c.two-n.ensures (omega (arith, c.requires, two-short (ascii "total ") c.args.t.lines (ascii " held ") c.args.t.held))

pub returns : goal.returns
returns c =
    rw (total-pieces c.args.t) (written-rest {w = front_text c.args.t} c.two-n.ensures c.others-m.ensures)
