-- How many items a variable has, by the kind of its set; and what the ceiling is at the most.
-- Assumes nothing.
use mathlib.Core.Path.{◌≡◌, refl, sym, ap, ap₂, fun_ext, ◌∙◌}
use mathlib.Core.List.{List, []}
use mathlib.Core.Option.{Option, none, some}
use Prim.Native.Nat.{ℕ, suc, ◌+◌, ◌*◌, ◌-◌, ◌%◌, ◌^◌, ◌≤◌, ◌<◌}
use native.Mathlib.Nat.{le_trans, mul_comm, mul-le-mul, pow-succ', pow-le-pow_right}
use native.Mathlib.Omega.{arith}
use lib.Dec.{lit<, lit≤}
use lib.ListN.{length, get_or}
use Rattle.words.specs.Words.{size_of}
use Rattle.words.proofs.WordsLaws.{zero-size, size-le, size-all}
use Rattle.tables.specs.Tables.{Tables}
use Rattle.tables.specs.Accepted.{Fits}
use Rattle.tables.specs.Flat.{flat}
use Rattle.tables.proofs.SectionsLaws.{product-few}
use Rattle.tables.proofs.PresentLaws.{present-size}
use Rattle.syntax.specs.Term.{b_u, base, Choices}
use Rattle.syntax.proofs.NameLaws.{all-length}
use Rattle.rules.specs.Kind.{Sort, s_u, s_r, s_op, s_obj, s_p, s_s, CR, CP, CU, Kind, element, set, collection, base_kind, kind}
use Rattle.rules.specs.Accept.{choices_limit}
use Rattle.rules.specs.Code.Numbers.{first_set, first_collection, no_kind, kinds_fit, kind_list, kind_of}
use Rattle.walks.specs.Choices.{product_to}
use Rattle.walks.proofs.CeilingLaws.{ceiling-within}
use Rattle.values.specs.Items.{sort_items, kind_items}
use Rattle.values.specs.Sets.{set_of, items_of_kind, items_of}
use Rattle.values.specs.Ceiling.{sort_count, word_count, item_count, count_of_kind, ceiling_of}
use Rattle.values.specs.Code.Nodes.{base_at}
use Rattle.values.specs.Code.Multiplied.{CeilingBy, Multiplied}
use Rattle.values.proofs.ItemLaws.{each}
use Rattle.values.proofs.NamesLaws.{holds_at}

module _ (T : Tables) (f : Fits T) where
  -- The word of a sort's items has as many as are counted;
  pub sort-size : (s : Sort) → size_of (sort_items T s) ≡ sort_count T s
  unfolding sort_items sort_count
  sort-size s_u = present-size T.users f.users
  sort-size s_r = size-all (length T.role_rows) f.roles
  sort-size s_op = size-all T.operation_count (omega (arith, f.operations))
  sort-size s_obj = size-all T.object_count (omega (arith, f.objects))
  sort-size s_p = size-all (length T.permission_rows) (rw f.permissions (product-few f.operations f.objects))
  sort-size s_s = size-all (length T.sessions) f.sessions

  -- so has that of a kind's.
  kind-size : (k : Kind) → item_count T k ≡ size_of (kind_items T k)
  unfolding item_count word_count kind_items
  kind-size (element s) = sym (sort-size s)
  kind-size (set s) = sym (sort-size s)
  kind-size (collection CR) = sym (size-all (length T.cr) f.crs)
  kind-size (collection CP) = sym (size-all (length T.cp) f.cps)
  kind-size (collection CU) = sym (size-all (length T.cu) f.cus)

  pub count-size : (k : Option Kind) → count_of_kind T k ≡ size_of (items_of_kind T k)
  count-size none = sym zero-size
  count-size (some k) = kind-size k

  count-within : (k : Option Kind) → count_of_kind T k ≤ 64
  count-within k = rw (count-size k) (size-le (items_of_kind T k))

  -- So the ceiling is the product of these,
  pub ceiling-items : (σ : Choices) → ceiling_of T σ ≡ product_to (length σ) (λ v. size_of (items_of T σ v))
  unfolding ceiling_of
  ceiling-items σ = ap (product_to (length σ)) (fun_ext (λ v. count-size (kind (set_of σ v))))

  -- and at most 64 ^ 8.
  pub ceiling-fits : (σ : Choices) → length σ ≤ choices_limit → ceiling_of T σ ≤ 64 ^ 8
  unfolding ceiling_of
  ceiling-fits σ few = le_trans (ceiling-within (λ v. count_of_kind T (kind (set_of σ v))) (λ v. count-within (kind (set_of σ v))) (length σ)) (pow-le-pow_right (lit< tt) few)

  -- The kind by its number, and the base whose items are counted.
  pub count-sort : (k : ℕ) → k < first_collection → size_of (kind_items T (base_kind (base_at (k % first_set)))) ≡ count_of_kind T (kind_of k)
  unfolding item_count kind_items base_kind base_at kind_of kind_list
  count-sort k h =
      each (λ k. size_of (kind_items T (base_kind (base_at (k % first_set)))) ≡ count_of_kind T (kind_of k)) first_collection
      ((((((((((((tt, sort-size s_u), sort-size s_r), sort-size s_op), sort-size s_obj), sort-size s_p), sort-size s_s), sort-size s_u), sort-size s_r), sort-size s_op), sort-size s_obj), sort-size s_p), sort-size s_s) k h

  pub count-collection : (k : ℕ) → first_collection ≤ k → k < no_kind → size_of (kind_items T (base_kind (base_at (k - first_set)))) ≡ count_of_kind T (kind_of k)
  unfolding base_kind base_at kind_of kind_list
  count-collection k l h =
      let up : first_collection + (k - first_collection) ≡ k = omega arith in
      rw up at
      (each (λ j. size_of (kind_items T (base_kind (base_at (first_collection + j - first_set)))) ≡ count_of_kind T (kind_of (first_collection + j))) 3
      (((tt, sym (kind-size (collection CR))), sym (kind-size (collection CP))), sym (kind-size (collection CU))) (k - first_collection) (omega arith))

pub count_none : (T : Tables) (k : ℕ) → k ≡ no_kind → 0 ≡ count_of_kind T (kind_of k)
unfolding kind_of kind_list
count_none T k e = rw e

-- "Without variables it is 1."
pub no-variables : (T : Tables) → ceiling_of T [] ≡ 1
unfolding ceiling_of product_to
no-variables T = refl

-- The product, variable by variable.
module _ {ts ks vs : List ℕ} where
  pub multiplied-none : Multiplied ts ks vs 0 1
  unfolding product_to
  multiplied-none = record { within = omega arith; small = lit≤ tt; is = λ T ns n σ w. refl }

  -- A variable more.
  module _ {i r x : ℕ} (p : Multiplied ts ks vs i r) (l : i < length vs) (few : length vs ≤ choices_limit) (most : x ≤ 64) where
    next_small : r * x ≤ 64 ^ suc i
    next_small = rw (pow-succ' 64 i, mul_comm 64 (64 ^ i)) (mul-le-mul p.small most)

    pub next_fits : r * x ≤ 64 ^ 8
    next_fits = let up : suc i ≤ 8 = omega arith in le_trans next_small (pow-le-pow_right (lit< tt) up)

    pub multiplied-next : {k : ℕ} → k ≡ get_or ks (get_or vs i 0) no_kind → ((T : Tables) → Fits T → ts ≡ flat T → k < kinds_fit → x ≡ count_of_kind T (kind_of k))
        → Multiplied ts ks vs (i + 1) (r * x)
    unfolding product_to
    multiplied-next {k} e counts =
        let up : i + 1 ≡ suc i = omega arith in
        rw up
        (record {
          within = omega arith;
          small = next_small;
          is = λ T ns n σ w.
              let (low, same) = (w.kinds.at (get_or vs i 0) (w.variables.below i l)).term (set_of σ i) (holds_at ns vs σ w.variables.holds i l (base b_u)) in
              ap₂ (λ (a b : ℕ). a * b) (p.is T ns n σ w) (counts T w.fits w.words (rw e low) ∙ ap (count_of_kind T) (ap kind_of e ∙ same));
        })

  pub multiplied-all : {i r : ℕ} → Multiplied ts ks vs i r → length vs ≤ i → CeilingBy ts ks vs r
  unfolding ceiling_of
  multiplied-all {i} p l T ns n σ w =
      let all : i ≡ length σ = omega (arith, p.within, all-length ns vs σ w.variables.holds) in
      p.is T ns n σ w ∙ ap (λ (k : ℕ). product_to k (λ v. count_of_kind T (kind (set_of σ v)))) all
