-- `sheets::total::others` writes the words behind held.
-- Assumes nothing.
use native.Mathlib.Omega.{arith}
use Rattle.syntax.specs.Bytes.{ascii}
use Rattle.texts.proofs.OverwrittenLaws.{written-rest, rest-room}
use Rattle.sheets.specs.Code.Turns.{middle_text}
use Rattle.sheets.proofs.LineLaws.{two-short}
use Rattle.sheets.proofs.total.others.Goals as goal

pub labelled-m-requires : goal.labelled-m-requires
labelled-m-requires c =
    rest-room {w = middle_text c.args.t} 29 c.two-n.ensures (omega (arith, c.requires, two-short (ascii " idle ") c.args.t.idle (ascii " broken ") c.args.t.broken))

pub returns : goal.returns
returns c =
    written-rest {w = middle_text c.args.t} c.two-n.ensures c.labelled-m.ensures
