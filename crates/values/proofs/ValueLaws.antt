-- The value of a node's term, by the number of its operation and the values below it.
-- Assumes nothing.
use mathlib.Core.Path.{◌≡◌, sym, ap, ap₂, ◌∙◌}
use mathlib.Core.List.{List}
use Prim.Native.Nat.{ℕ, ◌<◌, ◌≤◌}
use native.Mathlib.Omega.{arith}
use lib.ListN.{length, get_or}
use Rattle.words.specs.Words.{item_of, less_of}
use Rattle.tables.specs.Tables.{Tables}
use Rattle.syntax.specs.Term.{Term, Choices}
use Rattle.syntax.specs.Code.Arena.{Holds, Tidy}
use Rattle.syntax.specs.Code.Nodes.{first_call, oe_op, ao_op, first_pair, op_at, left_at, right_at}
use Rattle.rules.specs.Kind.{base_kind, kind}
use Rattle.rules.specs.Code.Numbers.{no_kind, kinds_fit, kind_of}
use Rattle.rules.specs.Code.Variables.{place_in}
use Rattle.rules.proofs.NodeLaws.{get_d_any, left_below}
use Rattle.values.specs.Items.{kind_items}
use Rattle.values.specs.Values.{call_value, two_value, item_in, one_value, value}
use Rattle.values.specs.Code.Nodes.{base_at, fn_at, pair_at, World}
use Rattle.values.specs.Code.Cache.{Fed}
use Rattle.values.proofs.NodeLaws.{is_base, is_call, is_one, is-others, is-two, variable-place}

-- What the cache has right below node k, by the node's parts.
module _ {T : Tables} {σ : Choices} {c ns cache : List ℕ} {k : ℕ} (F : Fed T σ c ns cache k) {o : ℕ} (op : o ≡ op_at ns k) {i : ℕ} where
  pub fed-left : i ≡ left_at ns k → first_call ≤ o → (o ≡ oe_op → ⊥) → (a : Term) → Holds ns i a → get_or cache i 0 ≡ value T σ c a
  fed-left e l ne a y = rw e (F.left (rw op at l) (λ q. ne (op ∙ q)) a (rw e at y))

  pub fed-right : i ≡ right_at ns k → first_pair ≤ o → (a : Term) → Holds ns i a → get_or cache i 0 ≡ value T σ c a
  fed-right e l a y = rw e (F.right (rw op at l) a (rw e at y))

module _ {ts ns : List ℕ} {n : ℕ} {ks vs : List ℕ} {T : Tables} {σ : Choices} (d : Tidy ns n) (long : n ≤ length ks) (w : World ts ns n ks vs T σ) where
  -- The kind's number of a node is that of the kind of its term.
  kind_at : (i : ℕ) → i < n → (a : Term) → Holds ns i a → (get_or ks i 0 < kinds_fit) × (kind_of (get_or ks i 0) ≡ kind a)
  kind_at i l a y =
      let same : get_or ks i 0 ≡ get_or ks i no_kind = get_d_any ks i 0 no_kind (omega arith) in
      rw same ((w.kinds.at i l).term a y)

  module _ (c : List ℕ) (k : ℕ) (h : k < n) (t : Term) (x : Holds ns k t) {o : ℕ} (op : o ≡ op_at ns k) where
    pub value-base : {r : ℕ} → o < first_call → r ≡ kind_items T (base_kind (base_at o)) → r ≡ value T σ c t
    unfolding value
    value-base m e = (rw op at e) ∙ ap (value T σ c) (sym (is_base ns k t x (rw op at m)))

    module _ {i : ℕ} (at : i ≡ left_at ns k) where
      item-at : (a : Term) → first_call ≤ o → Holds ns i a → (e : ℕ) → e ≡ get_or c (place_in i vs) 0 → e ≡ item_in σ c a
      item-at a m y e f =
          let b = left_below d h op at m in
          f ∙ ap (λ (u : ℕ). get_or c u 0) (variable-place d w.variables i a (omega arith) y)

      pub value-one : (e r : ℕ) → o ≡ oe_op → e ≡ get_or c (place_in i vs) 0
          → (get_or ks i 0 < kinds_fit → r ≡ one_value T (kind_of (get_or ks i 0)) e) → r ≡ value T σ c t
      unfolding value
      value-one e r m f g =
          let q = is_one ns k t x (sym op ∙ m) in
          let b = left_below d h op at (omega arith) in
          let y : Holds ns i q.inner = rw at q.holds in
          let z = kind_at i (omega arith) q.inner y in
          g z.0 ∙ ap₂ (one_value T) z.1 (item-at q.inner (omega arith) y e f) ∙ ap (value T σ c) (sym q.is)

      pub value-call : (a r : ℕ) → first_call ≤ o → o < oe_op → ((s : Term) → Holds ns i s → a ≡ value T σ c s)
          → (get_or ks i 0 < kinds_fit → r ≡ call_value T (fn_at o) (kind_of (get_or ks i 0)) a) → r ≡ value T σ c t
      unfolding value
      value-call a r m m' ih g =
          let q = is_call ns k t x (rw op at m) (rw op at m') in
          let b = left_below d h op at m in
          let y : Holds ns i q.inner = rw at q.holds in
          let z = kind_at i (omega arith) q.inner y in
          g z.0 ∙ rw op (ap₂ (call_value T (fn_at (op_at ns k))) z.1 (ih q.inner y) ∙ ap (value T σ c) (sym q.is))

      pub value-others : (a e j r : ℕ) → o ≡ ao_op → ((s : Term) → Holds ns i s → a ≡ value T σ c s) → e ≡ get_or c (place_in i vs) 0 → j ≡ item_of e
          → r ≡ less_of a j → r ≡ value T σ c t
      unfolding value
      value-others a e j r m ih f g s =
          let q = is-others ns k t x (sym op ∙ m) in
          let y : Holds ns i q.inner = rw at q.holds in
          s ∙ ap₂ less_of (ih q.inner y) (g ∙ ap item_of (item-at q.inner (omega arith) y e f)) ∙ ap (value T σ c) (sym q.is)

      pub value-two : {j : ℕ} → j ≡ right_at ns k → (a b r : ℕ) → first_pair ≤ o → ((s : Term) → Holds ns i s → a ≡ value T σ c s)
          → ((s : Term) → Holds ns j s → b ≡ value T σ c s) → r ≡ two_value T (pair_at o) a b → r ≡ value T σ c t
      unfolding value
      value-two at' a b r m ih jh g =
          let q = is-two ns k t x (rw op at m) in
          (rw op at g) ∙ ap₂ (two_value T (pair_at (op_at ns k))) (ih q.first (rw at q.holds)) (jh q.second (rw at' q.holds₂)) ∙ ap (value T σ c) (sym q.is)
