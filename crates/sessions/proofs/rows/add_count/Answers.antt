-- `sessions::rows::add_count`: the bytes before the count, and the count.
-- Assumes nothing.
use native.Mathlib.Omega.{arith}
use Rattle.changes.proofs.CountLaws.{counts_of}
use Rattle.sessions.proofs.rows.add_count.Goals as goal

pub bounds-words-3 : goal.bounds-words-3
bounds-words-3 c = omega (arith, (counts_of c.requires.loaded.holds).long)

pub overflow_cast-count : goal.overflow_cast-count
overflow_cast-count c = let k = counts_of c.requires.loaded.holds in omega (arith, k.sessions, k.few_sessions)
