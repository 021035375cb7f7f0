-- The variables that a node's term names, by the number of its operation.
-- Assumes nothing.
use mathlib.Core.Path.{◌≡◌, sym, ap, ap₂, ◌∙◌}
use mathlib.Core.Bool.{Bool, ◌||◌}
use mathlib.Core.List.{List, [], ◌∷◌}
use Prim.Native.Nat.{ℕ, zero, suc, ◌+◌, ◌<◌, ◌≤◌}
use native.Mathlib.Omega.{arith}
use lib.Dec.{eqb}
use lib.ListN.{length, get_or, set}
use Rattle.words.specs.Words.{has, item_of, join_of}
use Rattle.words.proofs.WordsLaws.{eqb_comm, has-zero, has-item, has_join}
use Rattle.syntax.specs.Term.{Term, Choices}
use Rattle.syntax.specs.Code.Arena.{Holds, HoldsAll, Tidy}
use Rattle.syntax.specs.Code.Nodes.{first_call, oe_op, ao_op, first_pair, op_at, left_at, right_at}
use Rattle.values.specs.Values.{variable_of}
use Rattle.values.specs.Sets.{names_in, names}
use Rattle.rules.specs.Code.Variables.{place_in}
use Rattle.rules.proofs.NodeLaws.{left_below, more-at}
use Rattle.values.specs.Code.Nodes.{Variables, Named}
use Rattle.values.proofs.NodeLaws.{is_base, is_call, is_one, is-others, is-two, variable-place}

module _ {ns : List ℕ} {n : ℕ} {vs : List ℕ} {σ : Choices} (d : Tidy ns n) (w : Variables ns n vs σ) (k : ℕ) (h : k < n) (t : Term) (x : Holds ns k t)
    (u : ℕ) (l : u < 64) {o : ℕ} (op : o ≡ op_at ns k) where
  pub names-base : o < first_call → has 0 u ≡ names_in σ t u
  unfolding names_in
  names-base m = has-zero u ∙ ap (λ (s : Term). names_in σ s u) (sym (is_base ns k t x (rw op at m)))

  module _ {i : ℕ} (at : i ≡ left_at ns k) where
    -- OE names its variable;
    names-own : (a : Term) → first_call ≤ o → Holds ns (left_at ns k) a → (r : ℕ) → r ≡ item_of (place_in i vs) → has r u ≡ eqb (variable_of σ a) u
    names-own a m y r e =
        let b = left_below d h op at m in
        ap (λ (z : ℕ). has z u) e ∙ has-item (place_in i vs) u l ∙ eqb_comm u (place_in i vs)
        ∙ ap (λ (z : ℕ). eqb z u) (variable-place d w i a (omega arith) (rw at y))

    pub names-one : o ≡ oe_op → (r : ℕ) → r ≡ item_of (place_in i vs) → has r u ≡ names_in σ t u
    unfolding names_in
    names-one m r e =
        let q = is_one ns k t x (sym op ∙ m) in
        names-own q.inner (omega arith) q.holds r e ∙ ap (λ (s : Term). names_in σ s u) (sym q.is)

    -- a call what its argument names;
    pub names-call : first_call ≤ o → o < oe_op → (r : ℕ) → ((a : Term) → Holds ns i a → has r u ≡ names_in σ a u) → has r u ≡ names_in σ t u
    unfolding names_in
    names-call m m' r ih =
        let q = is_call ns k t x (rw op at m) (rw op at m') in
        ih q.inner (rw at q.holds) ∙ ap (λ (s : Term). names_in σ s u) (sym q.is)

    -- AO both;
    pub names-others : o ≡ ao_op → (e a r : ℕ) → e ≡ item_of (place_in i vs) → ((b : Term) → Holds ns i b → has a u ≡ names_in σ b u) → r ≡ join_of e a
        → has r u ≡ names_in σ t u
    unfolding names_in
    names-others m e a r f ih g =
        let q = is-others ns k t x (sym op ∙ m) in
        ap (λ (z : ℕ). has z u) g ∙ has_join e a u l
        ∙ ap₂ (λ (y z : Bool). y || z) (names-own q.inner (omega arith) q.holds e f) (ih q.inner (rw at q.holds))
        ∙ ap (λ (s : Term). names_in σ s u) (sym q.is)

    -- two terms what each names.
    pub names-two : first_pair ≤ o → {j : ℕ} → j ≡ right_at ns k → (a b r : ℕ) → ((s : Term) → Holds ns i s → has a u ≡ names_in σ s u)
        → ((s : Term) → Holds ns j s → has b u ≡ names_in σ s u) → r ≡ join_of a b → has r u ≡ names_in σ t u
    unfolding names_in
    names-two m at' a b r ih jh g =
        let q = is-two ns k t x (rw op at m) in
        ap (λ (z : ℕ). has z u) g ∙ has_join a b u l
        ∙ ap₂ (λ (y z : Bool). y || z) (ih q.first (rw at q.holds)) (jh q.second (rw at' q.holds₂))
        ∙ ap (λ (s : Term). names_in σ s u) (sym q.is)

-- The words of the variables, one by one.
pub holds_at : (ns vs : List ℕ) (σ : Choices) → HoldsAll ns vs σ → (i : ℕ) → i < length vs → (d : Term) → Holds ns (get_or vs i 0) (get_or σ i d)
holds_at ns [] [] x i l d = absurd (omega arith)
holds_at ns [] (a ∷ σ) x i l d = absurd x
holds_at ns (v ∷ vs) [] x i l d = absurd x
holds_at ns (v ∷ vs) (a ∷ σ) x zero l d = x.0
holds_at ns (v ∷ vs) (a ∷ σ) x (suc i) l d = holds_at ns vs σ x.1 i (omega arith) d

pub named_none : (words : List ℕ) (σ : Choices) → Named 0 words σ
unfolding Named
named_none words σ v u h l = absurd (omega arith)

pub named_more : (words : List ℕ) (σ : Choices) (v r : ℕ) → v < length words → Named v words σ
    → ((u : ℕ) → u < 64 → has r u ≡ names σ v u) → Named (v + 1) (set words v r) σ
unfolding Named
named_more words σ v r l h e w u m m' =
    more-at (λ w (r : ℕ). (u : ℕ) → u < 64 → has r u ≡ names σ w u) words v r 0 l (λ w q u m. h w u q m) e w m u m'
