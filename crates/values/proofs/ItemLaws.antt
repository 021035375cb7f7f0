-- The leaves of an evaluation, by number: what the tables have at a place, what a kind's number says, where a variable stands.
-- Assumes nothing.
use mathlib.Core.Path.{◌≡◌, refl, sym, ap, subst, ◌∙◌}
use mathlib.Core.Bool.{Bool, false, ◌&&◌}
use mathlib.Core.List.{List, [], ◌∷◌}
use mathlib.Core.Logic.{⊎_elim}
use Prim.Native.Nat.{ℕ, zero, suc, ◌+◌, ◌-◌, ◌%◌, ◌<◌, ◌≤◌}
use native.Mathlib.Nat.{eq-or-lt_of_le}
use native.Mathlib.Omega.{arith}
use lib.Dec.{eqb, ltb, lit<}
use lib.ListN.{length, get_or, get_or-eq_default}
use borrow.Author.Tests.{lt-ltb, le-ltb}
use Rattle.words.specs.Words.{all_of, item_of}
use Rattle.tables.specs.Tables.{Tables}
use Rattle.tables.specs.Accepted.{Fits}
use Rattle.tables.specs.Code.Layout.{role_count_at, present_at, session_count_at, operation_count_at, object_count_at, permission_count_at, cr_count_at}
use Rattle.tables.specs.Code.Layout.{cu_count_at, cp_count_at, cr_at, cu_at, cp_at}
use Rattle.tables.specs.Flat.{room, counts, sections, flat}
use Rattle.tables.proofs.FlatLaws.{flat-at, count_at}
use Rattle.syntax.specs.Code.Nodes.{first_call}
use Rattle.rules.specs.Kind.{base_kind}
use Rattle.rules.specs.Code.Numbers.{first_set, first_collection, no_kind, kinds_fit, kind_list, kind_of}
use Rattle.rules.proofs.TableLaws.{same-pair}
use Rattle.values.specs.Items.{sort_items, kind_items}
use Rattle.values.specs.Values.{of_sort, one_value}
use Rattle.values.specs.Code.Nodes.{base_at, sort_at}

-- What holds of each number below n.
abbrev pub Each : (ℕ → Type 0) → ℕ → Type 0
Each P zero = Unit {0}
Each P (suc n) = Each P n × P n

pub each : (P : ℕ → Type 0) (n : ℕ) → Each P n → (k : ℕ) → k < n → P k
each P zero h k l = absurd (omega arith)
each P (suc n) h k l = ⊎_elim (λ (e : k ≡ n). subst P (sym e) h.1) (λ (m : k < n). each P n h.0 k m) (eq-or-lt_of_le (at_most l))
  where
    at_most : k < suc n → k ≤ n
    at_most l = omega arith

-- Where the tables have the word of the users present, and where they count roles, operations, objects, permissions, sessions, and the words of
-- CR, CP, CU.
abbrev pub item_places : List ℕ
item_places =
    present_at ∷ role_count_at ∷ operation_count_at ∷ object_count_at ∷ permission_count_at ∷ session_count_at ∷ cr_count_at ∷ cp_count_at ∷ cu_count_at
    ∷ []

pub item-place : (o : ℕ) → o < first_call → get_or item_places o 0 < 10
item-place o h =
    each (λ o. get_or item_places o 0 < 10) 9
    (((((((((tt, lit< tt), lit< tt), lit< tt), lit< tt), lit< tt), lit< tt), lit< tt), lit< tt), lit< tt) o h

-- The items of U are a word, those of the others the first ones.
pub user-items : (T : Tables) {ws : List ℕ} (o : ℕ) → ws ≡ flat T → o ≡ 0 → get_or ws (get_or item_places o 0) 0 ≡ kind_items T (base_kind (base_at o))
unfolding counts kind_items sort_items base_kind base_at
user-items T o q e = rw (e, q) (count_at T present_at (lit< tt))

pub base-items : (T : Tables) (o : ℕ) → (o ≡ 0 → ⊥) → o < first_call → all_of (get_or (flat T) (get_or item_places o 0) 0) ≡ kind_items T (base_kind (base_at o))
unfolding sections counts kind_items sort_items base_kind base_at
base-items T zero n h = absurd (n refl)
base-items T (suc o) n h =
    each (λ o. all_of (get_or (flat T) (get_or item_places (suc o) 0) 0) ≡ kind_items T (base_kind (base_at (suc o)))) 8
    ((((((((tt, at role_count_at (lit< tt)), at operation_count_at (lit< tt)), at object_count_at (lit< tt)), at permission_count_at (lit< tt)), at session_count_at (lit< tt)), at cr_count_at (lit< tt)), at cp_count_at (lit< tt)), at cu_count_at (lit< tt))
    o (omega arith)
  where
    at : (i : ℕ) → i < room → all_of (get_or (flat T) i 0) ≡ all_of (get_or (counts T) i 0)
    at i l = ap all_of (count_at T i l)

-- Where the words of CR, CP, CU start.
abbrev pub collection_places : List ℕ
collection_places = cr_at ∷ cp_at ∷ cu_at ∷ []

pub collection-place : (j : ℕ) → j < 3 → get_or collection_places j 0 ≤ cp_at
collection-place j h = each (λ j. get_or collection_places j 0 ≤ cp_at) 3 (((tt, omega arith), omega arith), omega arith) j h

-- The item x of a set is itself;
pub one-item : (T : Tables) (x k : ℕ) → k < first_collection → item_of x ≡ one_value T (kind_of k) x
unfolding one_value kind_of kind_list
one-item T x k h =
    each (λ k. item_of x ≡ one_value T (kind_of k) x) first_collection
    ((((((((((((tt, refl), refl), refl), refl), refl), refl), refl), refl), refl), refl), refl), refl) k h

-- of no kind it is nothing;
pub one_none : (T : Tables) (x k : ℕ) → k ≡ no_kind → 0 ≡ one_value T (kind_of k) x
unfolding one_value kind_of kind_list
one_none T x k e = rw e

-- of a collection it is the word there.
module _ (T : Tables) (x : ℕ) (k : ℕ) (l : first_collection ≤ k) (h : k < no_kind) where
  pub one_word : x < room → get_or (flat T) (get_or collection_places (k - first_collection) 0 + x) 0 ≡ one_value T (kind_of k) x
  unfolding sections one_value kind_of kind_list
  one_word m =
      let up : first_collection + (k - first_collection) ≡ k = omega arith in
      each (λ j. get_or (flat T) (get_or collection_places j 0 + x) 0 ≡ one_value T (kind_of (first_collection + j)) x) 3
      (((tt, flat-at T 6 x (omega arith)), flat-at T 8 x (omega arith)), flat-at T 7 x (omega arith)) (k - first_collection) (omega arith)
      ∙ ap (λ (j : ℕ). one_value T (kind_of j) x) up

  pub one-far : Fits T → room ≤ x → 0 ≡ one_value T (kind_of k) x
  unfolding one_value kind_of kind_list
  one-far f m =
      let up : first_collection + (k - first_collection) ≡ k = omega arith in
      each (λ j. 0 ≡ one_value T (kind_of (first_collection + j)) x) 3
      (((tt, past T.cr (omega (arith, f.crs))), past T.cp (omega (arith, f.cps))), past T.cu (omega (arith, f.cus))) (k - first_collection) (omega arith)
      ∙ ap (λ (j : ℕ). one_value T (kind_of j) x) up
    where
      past : (ws : List ℕ) → length ws ≤ x → 0 ≡ get_or ws x 0
      past ws q = sym (get_or-eq_default ws 0 q)

-- Whether a kind is an element or a set of a sort, by their numbers.
is-sort : (s k : ℕ) → s < first_set → k < kinds_fit → (ltb k first_collection && eqb (k % first_set) s) ≡ of_sort (sort_at s) (kind_of k)
unfolding of_sort sort_at kind_of kind_list
is-sort s k h l =
    rw (lt-ltb s first_set h) at
    (same-pair (λ s k. ltb s first_set && (ltb k first_collection && eqb (k % first_set) s)) (λ s k. ltb s first_set && of_sort (sort_at s) (kind_of k)) kinds_fit tt s k (omega arith) l)

pub sort_yes : (s k : ℕ) → s < first_set → k < first_collection → eqb (k % first_set) s ≡ of_sort (sort_at s) (kind_of k)
sort_yes s k h l = ap (λ (b : Bool). b && eqb (k % first_set) s) (sym (lt-ltb k first_collection l)) ∙ is-sort s k h (omega arith)

pub sort_no : (s k : ℕ) → s < first_set → first_collection ≤ k → k < kinds_fit → false ≡ of_sort (sort_at s) (kind_of k)
sort_no s k h l m = ap (λ (b : Bool). b && eqb (k % first_set) s) (sym (le-ltb k first_collection l)) ∙ is-sort s k h m
