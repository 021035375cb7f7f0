-- `tables::rows::session_row`: nine bytes, then the user number, then the word.
-- Assumes nothing.
use native.Mathlib.Omega.{arith}
use Rattle.tables.specs.Code.Reads.{stops}
use Rattle.tables.proofs.ReadLaws.{session-cut, session-none, session-row}
use Rattle.tables.proofs.rows.session_row.Goals as goal

pub returns-then-bytes-at-lt9 : goal.returns-then-bytes-at-lt9
returns-then-bytes-at-lt9 c =
    stops (session-cut c.args.bytes.now c.args.at c.args.users c.args.n c.if-bytes-at-lt9.true)

pub returns-then-users-user : goal.returns-then-users-user
returns-then-users-user c =
    stops (session-none c.args.bytes.now c.args.at c.args.users c.args.n (omega (arith, c.requires)) (omega (arith, c.from-user.ensures)))

pub returns : goal.returns
returns c =
    session-row c.args.bytes.now c.args.at c.args.users c.args.n (omega (arith, c.requires)) (omega (arith, c.from-user.ensures))
    c.word_within.ensures
