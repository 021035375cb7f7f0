-- What holds of the sessions, and of a new one, holds of the changed sessions.
-- Assumes nothing.
use mathlib.Core.List.{List}
use Prim.Native.Nat.{suc}
use lib.ListN.{take}
use Rattle.tables.specs.Tables.{Session}
use Rattle.tables.specs.Accepted.{Every}
use Rattle.tables.proofs.EveryLaws.{every_append, every_take, every_drop}
use Rattle.changes.specs.declared.Change.{Change}
use Rattle.changes.specs.declared.Change.TheVariants.{Opening, Closing}
use Rattle.changes.specs.Change.{new_session, sessions_by}

-- P holds of the session that the change opens, if it opens one.
abbrev pub NewHas : (Session → Type 0) → Change → Type 0
NewHas P (Opening u w) = P (new_session u w)
NewHas P (Closing k) = Unit {0}

pub every-changed : (P : Session → Type 0) (c : Change) (ss : List Session) → NewHas P c → Every P ss → Every P (sessions_by c ss)
unfolding sessions_by
every-changed P (Opening u w) ss n p = every_append P ss _ p (n, tt)
every-changed P (Closing k) ss n p = every_append P (take k ss) _ (every_take P k ss p) (every_drop P (suc k) ss p)
