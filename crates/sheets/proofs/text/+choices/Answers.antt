-- `sheets::text::choices` writes the choices from variable k on, up to the first that is unused. The measure is how many are left.
-- Assumes nothing.
use native.Mathlib.Omega.{arith}
use lib.ListN.{length, get_or}
use Rattle.texts.proofs.OverwrittenLaws.{written-rest, rest-room}
use Rattle.syntax.specs.Bytes.{ascii}
use Rattle.sheets.proofs.LineLaws.{two-short, none_left, none-chosen, one-chosen}
use Prim.Native.Nat.{◌+◌, ◌-◌, ◌*◌}
use Rattle.sheets.proofs.text.+choices.Goals as goal

pub returns-then-first-k : goal.returns-then-first-k
returns-then-first-k t c = none_left _ _ _ c.if-first-k.true

pub returns-then-x : goal.returns-then-x
returns-then-x t c = none-chosen _ _ _ c.if-first-k.false c.if-x.true

pub choices-m-requires : goal.choices-m-requires
choices-m-requires t c = (
  omega (arith, c.decreases, c.if-first-k.false),
  (
    c.requires.0,
    rest-room (43 * (length c.args.first.now - (c.args.k + 1))) c.choice-n.ensures
        (omega (arith, c.requires.1, c.if-first-k.false, two-short (ascii " v") (c.args.k + 1) (ascii "=") (get_or c.args.first.now c.args.k 0))),
  ),
)

pub returns : goal.returns
returns t c =
    one-chosen _ _ c.if-first-k.false c.if-x.false (written-rest c.choice-n.ensures c.choices-m.ensures)
