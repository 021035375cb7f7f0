-- Document 02, N5: "a ceiling on full choices".
-- Assumes nothing.
use Rattle.std.proofs.Math.Option.{Option, none, some}
use Rattle.std.specs.Prelude.{ℕ, length}
use Rattle.tables.specs.Tables.{Tables, present_count}
use Rattle.syntax.specs.Term.{Choices}
use Rattle.rules.specs.Kind.{Sort, s_u, s_r, s_op, s_obj, s_p, s_s, Collection, CR, CP, CU, Kind, element, set, collection, kind}
use Rattle.walks.specs.Choices.{product_to}
use Rattle.values.specs.Sets.{set_of}

-- "the number of items of the element's sort in the tables"; of users, as document 02, N6, has it, those marked 1
unfoldable pub sort_count : Tables → Sort → ℕ
sort_count T s_u = present_count T.users
sort_count T s_r = length T.role_rows
sort_count T s_op = T.operation_count
sort_count T s_obj = T.object_count
sort_count T s_p = length T.permission_rows
sort_count T s_s = length T.sessions

-- "the number of words in the whole of CR, CP or CU"
unfoldable pub word_count : Tables → Collection → ℕ
word_count T CR = length T.cr
word_count T CP = length T.cp
word_count T CU = length T.cu

-- "where its set is a term of collection kind, the number of words .., otherwise the number of items of the element's sort in the tables"
unfoldable pub item_count : Tables → Kind → ℕ
item_count T (collection c) = word_count T c
item_count T (set s) = sort_count T s
item_count T (element s) = sort_count T s

-- A term whose kinds do not fit has none; no variable of an accepted rule has such a set.
abbrev pub count_of_kind : Tables → Option Kind → ℕ
count_of_kind T none = 0
count_of_kind T (some k) = item_count T k

-- "The ceiling is the product over the variables"; "Without variables it is 1."
unfoldable pub ceiling_of : Tables → Choices → ℕ
ceiling_of T σ = product_to (length σ) (λ v. count_of_kind T (kind (set_of σ v)))
