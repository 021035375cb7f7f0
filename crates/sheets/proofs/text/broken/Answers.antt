-- `sheets::text::broken` writes the word, the two counts, the share and the choices.
-- Assumes nothing.
use Prim.Native.Nat.{◌*◌, ◌-◌}
use mathlib.Core.Path.{◌≡◌}
use native.Mathlib.Omega.{arith}
use lib.ListN.{length}
use Rattle.syntax.specs.Bytes.{ascii}
use Rattle.texts.proofs.OverwrittenLaws.{written-rest, rest-room}
use Rattle.sheets.proofs.LineLaws.{shared-short}
use borrow.Author.Rules.{rules}
use Rattle.sheets.proofs.text.broken.Goals as goal

pub choices-m-requires : goal.choices-m-requires
choices-m-requires c =
    let l : length c.args.v.first ≡ 8 = search rules in
    (omega arith, rest-room (43 * (length c.args.v.first - 0)) c.shared-n.ensures (omega (arith, c.requires, shared-short (ascii " broken ") c.args.v)))
