-- Document 02, N8: tables that differ in Done alone, with the same rows of users who are present, have the same value of every call, and the same ceiling.
-- Assumes nothing.
use mathlib.Core.Path.{◌≡◌, refl, ap, fun_ext}
use mathlib.Core.List.{List}
use mathlib.Core.Option.{Option, none, some}
use Prim.Native.Nat.{ℕ, ◌≤◌}
use lib.ListN.{length}
use Rattle.tables.specs.Tables.{Deed, Tables}
use Rattle.tables.specs.Functions.{user_of_sessions, user_of_roles, roles_of_users, roles_of_sessions, roles_of_permissions, juniors_of_users, juniors_of_sessions}
use Rattle.tables.specs.Functions.{seniors_of_permissions, sessions_of_users, permissions_of_roles, permissions_of_juniors, objects_of_permissions, operations_on}
use Rattle.tables.proofs.PresentLaws.{present-is}
use Rattle.functions.specs.Done.{with_done, SameRows}
use Rattle.functions.proofs.DoneLaws.{done-alike}
use Rattle.syntax.specs.Term.{Fn, user, roles, roles*, sessions, permissions, permissions*, object, Fn2, operations, done, Choices}
use Rattle.rules.specs.Kind.{Sort, s_u, s_r, s_op, s_obj, s_p, s_s, CR, CP, CU, Kind, element, set, collection, row, kind}
use Rattle.walks.specs.Choices.{product_to}
use Rattle.values.specs.Values.{call_value, call2_value, one_value}
use Rattle.values.specs.Items.{sort_items, kind_items}
use Rattle.values.specs.Sets.{set_of}
use Rattle.values.specs.Ceiling.{sort_count, word_count, item_count, count_of_kind, ceiling_of}
use Rattle.values.proofs.InsideLaws.{Among}
use Rattle.values.proofs.AlikeLaws.{Alike}

module _ (T : Tables) (ds es : List Deed) where
  sort-same : (s : Sort) → sort_items (with_done T es) s ≡ sort_items (with_done T ds) s
  unfolding with_done sort_items
  sort-same s_u = refl
  sort-same s_r = refl
  sort-same s_op = refl
  sort-same s_obj = refl
  sort-same s_p = refl
  sort-same s_s = refl

  kind-same : (k : Kind) → kind_items (with_done T es) k ≡ kind_items (with_done T ds) k
  unfolding with_done kind_items
  kind-same (element s) = sort-same s
  kind-same (set s) = sort-same s
  kind-same (collection CU) = refl
  kind-same (collection CR) = refl
  kind-same (collection CP) = refl

  one_same : (k : Option Kind) (x : ℕ) → one_value (with_done T es) k x ≡ one_value (with_done T ds) k x
  unfolding with_done one_value
  one_same none x = refl
  one_same (some (element s)) x = refl
  one_same (some (set s)) x = refl
  one_same (some (collection CU)) x = refl
  one_same (some (collection CR)) x = refl
  one_same (some (collection CP)) x = refl

  call_same : (f : Fn) (k : Option Kind) (w : ℕ) → call_value (with_done T es) f k w ≡ call_value (with_done T ds) f k w
  unfolding with_done call_value user_of_sessions user_of_roles roles_of_users roles_of_sessions roles_of_permissions juniors_of_users juniors_of_sessions seniors_of_permissions sessions_of_users permissions_of_roles permissions_of_juniors objects_of_permissions
  call_same user k w = refl
  call_same roles k w = refl
  call_same roles* k w = refl
  call_same sessions k w = refl
  call_same permissions k w = refl
  call_same permissions* k w = refl
  call_same object k w = refl

  module _ (few : length ds ≤ 64) (fewer : length es ≤ 64) (same : SameRows T.users es ds) where
    call2-same : (f : Fn2) (v w : ℕ) → Among (sort_items (with_done T ds) (row f).first) v
        → call2_value (with_done T es) f v w ≡ call2_value (with_done T ds) f v w
    unfolding with_done call2_value operations_on sort_items row
    call2-same operations v w among = refl
    call2-same done v w among =
        done-alike T.users (with_done T es) (with_done T ds) fewer few same v w (λ u m. present-is T.users u (among u m))

    pub rows_alike : Alike (with_done T ds) (with_done T es)
    rows_alike = record { items = kind-same; ones = one_same; single = call_same; double = call2-same }

-- The ceiling on full choices does not read Done.
module _ (T : Tables) (ds : List Deed) where
  many-same : (s : Sort) → sort_count (with_done T ds) s ≡ sort_count T s
  unfolding with_done sort_count
  many-same s_u = refl
  many-same s_r = refl
  many-same s_op = refl
  many-same s_obj = refl
  many-same s_p = refl
  many-same s_s = refl

  count_same : (k : Option Kind) → count_of_kind (with_done T ds) k ≡ count_of_kind T k
  unfolding with_done item_count word_count
  count_same none = refl
  count_same (some (element s)) = many-same s
  count_same (some (set s)) = many-same s
  count_same (some (collection CU)) = refl
  count_same (some (collection CR)) = refl
  count_same (some (collection CP)) = refl

  pub ceiling-same : (σ : Choices) → ceiling_of (with_done T ds) σ ≡ ceiling_of T σ
  unfolding ceiling_of
  ceiling-same σ = ap (product_to (length σ)) (fun_ext (λ v. count_same (kind (set_of σ v))))
