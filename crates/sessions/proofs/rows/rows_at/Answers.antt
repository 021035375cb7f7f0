-- `sessions::rows::rows_at`: behind the counts and the rows of roles and users, and the count of sessions.
-- Assumes nothing.
use native.Mathlib.Omega.{arith}
use Rattle.changes.proofs.CountLaws.{counts_of}
use Rattle.sessions.proofs.rows.rows_at.Goals as goal

pub bounds-words-0 : goal.bounds-words-0
bounds-words-0 c = omega (arith, (counts_of c.requires.holds).long)

pub overflow_mul-result : goal.overflow_mul-result
overflow_mul-result c = let k = counts_of c.requires.holds in omega (arith, k.roles, k.few_roles)

pub overflow_add-result : goal.overflow_add-result
overflow_add-result c = let k = counts_of c.requires.holds in omega (arith, k.roles, k.few_roles)

pub bounds-words-1 : goal.bounds-words-1
bounds-words-1 c = omega (arith, (counts_of c.requires.holds).long)

pub overflow_mul-result-2 : goal.overflow_mul-result-2
overflow_mul-result-2 c = let k = counts_of c.requires.holds in omega (arith, k.users, k.few_users)

pub overflow_add-result-2 : goal.overflow_add-result-2
overflow_add-result-2 c = let k = counts_of c.requires.holds in omega (arith, k.roles, k.few_roles, k.users, k.few_users)
