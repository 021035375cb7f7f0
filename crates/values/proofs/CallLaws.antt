-- Document 01, "Functions", of every call that a rule may have: "on a set, the union over its members".
-- Assumes nothing.
use mathlib.Core.Bool.{Bool, true, false}
use mathlib.Core.Option.{Option}
use Prim.Native.Nat.{ℕ}
use Rattle.words.specs.Relations.{Unites}
use Rattle.words.proofs.RelationLaws.{unites}
use Rattle.tables.specs.Tables.{Tables}
use Rattle.tables.specs.Functions.{user_of_sessions, user_of_roles, roles_of_users, roles_of_sessions, roles_of_permissions, juniors_of_users, juniors_of_sessions}
use Rattle.tables.specs.Functions.{seniors_of_permissions, sessions_of_users, permissions_of_roles, permissions_of_juniors, objects_of_permissions, operations_on, done_by}
use Rattle.syntax.specs.Term.{Fn, user, roles, roles*, sessions, permissions, permissions*, object, Fn2, operations, done}
use Rattle.rules.specs.Kind.{Kind, s_u, s_r, s_p}
use Rattle.values.specs.Values.{of_sort, if, call_value, call2_value}

if-unites : (t : Bool) {f g : ℕ → ℕ} → Unites f → Unites g → Unites (λ w. if t (f w) (g w))
if-unites true u v = u
if-unites false u v = v

module _ (T : Tables) where
  pub call-unites : (f : Fn) (k : Option Kind) → Unites (call_value T f k)
  unfolding call_value user_of_sessions user_of_roles roles_of_users roles_of_sessions roles_of_permissions juniors_of_users juniors_of_sessions seniors_of_permissions sessions_of_users permissions_of_roles permissions_of_juniors objects_of_permissions
  call-unites user k = if-unites (of_sort s_r k) (unites _) (unites _)
  call-unites roles k = if-unites (of_sort s_u k) (unites _) (if-unites (of_sort s_p k) (unites _) (unites _))
  call-unites roles* k = if-unites (of_sort s_u k) (unites _) (if-unites (of_sort s_p k) (unites _) (unites _))
  call-unites sessions k = unites _
  call-unites permissions k = unites _
  call-unites permissions* k = unites _
  call-unites object k = unites _

  -- Of the first term, whatever the object is.
  pub call2-unites : (f : Fn2) (o : ℕ) → Unites (λ w. call2_value T f w o)
  unfolding call2_value operations_on done_by
  call2-unites operations o = unites _
  call2-unites done o = unites _
