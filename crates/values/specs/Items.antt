-- The items of each sort and of each kind, as words (document 01, "Verdict": "one item of its sort (for a collection, a word's position
-- from 0)"). Assumes nothing.
use Rattle.std.specs.Prelude.{ℕ, length}
use Rattle.words.specs.Words.{all_of}
use Rattle.tables.specs.Tables.{Tables, present_users}
use Rattle.rules.specs.Kind.{Sort, s_u, s_r, s_op, s_obj, s_p, s_s, CR, CP, CU, Kind, element, set, collection}

-- All items of a sort: all roles, operations, objects, permissions, sessions of the tables, and of users those present (document 02, N6).
unfoldable pub sort_items : Tables → Sort → ℕ
sort_items T s_u = present_users T
sort_items T s_r = all_of (length T.role_rows)
sort_items T s_op = all_of T.operation_count
sort_items T s_obj = all_of T.object_count
sort_items T s_p = all_of (length T.permission_rows)
sort_items T s_s = all_of (length T.sessions)

-- The items of a kind: those of its sort, and for CR, CP, CU all positions of the collection.
unfoldable pub kind_items : Tables → Kind → ℕ
kind_items T (element s) = sort_items T s
kind_items T (set s) = sort_items T s
kind_items T (collection CU) = all_of (length T.cu)
kind_items T (collection CR) = all_of (length T.cr)
kind_items T (collection CP) = all_of (length T.cp)
