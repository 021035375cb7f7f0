-- A reader has no more items to choose from than there are: no ceiling is higher on the tables as a reader sees them.
-- Assumes nothing.
use mathlib.Core.Bool.{Bool, true, false}
use mathlib.Core.List.{List, [], ◌∷◌, map}
use mathlib.Core.Option.{Option, none, some}
use Prim.Native.Nat.{ℕ, zero, suc, ◌+◌, ◌≤◌}
use native.Mathlib.Nat.{mul-le-mul}
use native.Mathlib.Omega.{arith}
use lib.ListN.{length, length-map}
use Rattle.words.specs.Words.{has, gate, meet_of}
use Rattle.tables.specs.Tables.{User, Session, Tables, present_count}
use Rattle.syntax.specs.Term.{Choices}
use Rattle.rules.specs.Kind.{Sort, s_u, s_r, s_op, s_obj, s_p, s_s, Collection, CR, CP, CU, Kind, element, set, collection, kind}
use Rattle.walks.specs.Choices.{product_to}
use Rattle.values.specs.Sets.{set_of}
use Rattle.values.specs.Ceiling.{sort_count, word_count, item_count, count_of_kind, ceiling_of}
use Rattle.cuts.specs.Cut.{row_for, rows_from, cut}
use Rattle.cuts.proofs.CutLaws.{own-few}
use Rattle.cuts.proofs.FirstsLaws.{firsts-few}

present-few : (w k : ℕ) (us : List User) → present_count (rows_from w k us) ≤ present_count us
unfolding present_count rows_from
present-few w k [] = omega arith
present-few w k (u ∷ us) = go (has w k) (present-few w (suc k) us)
  where
    go : (b : Bool) → present_count (rows_from w (suc k) us) ≤ present_count us
        → gate (row_for b u).present 1 + present_count (rows_from w (suc k) us) ≤ gate u.present 1 + present_count us
    go true l = omega arith
    go false l = omega arith

product-most : (n : ℕ) (f g : ℕ → ℕ) → ((v : ℕ) → f v ≤ g v) → product_to n f ≤ product_to n g
unfolding product_to
product-most zero f g h = omega arith
product-most (suc n) f g h = mul-le-mul (product-most n f g h) (h n)

module _ (w : ℕ) (T : Tables) where
  sort-most : (s : Sort) → sort_count (cut w T) s ≤ sort_count T s
  unfolding sort_count cut
  sort-most s_u = present-few w 0 T.users
  sort-most s_r = omega arith
  sort-most s_op = omega arith
  sort-most s_obj = omega arith
  sort-most s_p = omega arith
  sort-most s_s = own-few (λ (s : Session). s.user) w T.sessions

  word-most : (c : Collection) → word_count (cut w T) c ≤ word_count T c
  unfolding word_count cut
  word-most CR = omega arith
  word-most CP = omega arith
  word-most CU = omega (arith, firsts-few [] (map (λ x. meet_of x w) T.cu), length-map T.cu (λ x. meet_of x w))

  count_most : (o : Option Kind) → count_of_kind (cut w T) o ≤ count_of_kind T o
  unfolding item_count
  count_most none = omega arith
  count_most (some (collection c)) = word-most c
  count_most (some (set s)) = sort-most s
  count_most (some (element s)) = sort-most s

  pub ceiling-most : (σ : Choices) → ceiling_of (cut w T) σ ≤ ceiling_of T σ
  unfolding ceiling_of
  ceiling-most σ = product-most (length σ) _ _ (λ v. count_most (kind (set_of σ v)))
