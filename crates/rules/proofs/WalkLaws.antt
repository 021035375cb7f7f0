-- A walk over the nodes of a rule adds the choices of what each node holds.
-- Assumes nothing.
use mathlib.Core.Path.{◌≡◌, refl, ◌∙◌}
use mathlib.Core.Bool.{Bool, true, false}
use mathlib.Core.List.{List, []}
use Prim.Native.Nat.{ℕ, ◌<◌, ◌≤◌}
use native.Mathlib.Omega.{arith}
use lib.ListN.{length, length-set}
use Rattle.syntax.specs.Term.{Choices}
use Rattle.syntax.specs.Code.Arena.{has_two, Holds, Apart}
use Rattle.syntax.specs.Code.Nodes.{first_call, oe_op, first_pair, op_at, left_at, right_at}
use Rattle.rules.specs.Accept.{choices_limit}
use Rattle.rules.specs.Code.Thing.{Thing, term, rule, thing_vars}
use Rattle.rules.specs.Code.Variables.{VariableList, Walked, VarsOf, Added, many, known, over, new}
use Rattle.rules.proofs.ShapeLaws.{Shape, bare, single, choosing, double, alone-none, shape}
use Rattle.rules.proofs.VariableLaws.{listed-add}

added-size : {vs ws : List ℕ} {c v d : ℕ} → Added vs c v ws d → length ws ≡ length vs
added-size (many m) = refl
added-size (known few s m) = refl
added-size (over e s m) = refl
added-size {vs} {ws} {c} {v} (new e s m) = length-set vs c v

-- The four ways out of the walk, by the node's operation o.
module _ {ns : List ℕ} {n k : ℕ} {vs : List ℕ} {c o : ℕ} (op : o ≡ op_at ns k) where
  pub walked-bare : o < first_call → Walked ns n k vs c vs c
  walked-bare h = record { size = refl; adds = λ x w σ l. go x σ l (shape ns k x w) }
    where
      go : (x : Thing) (σ : Choices) → VariableList ns n vs c σ → Shape ns k x → VariableList ns n vs c (thing_vars σ x)
      go x σ l (bare m e _) = rw (e σ) l
      go x σ l (single y s q v e _) = absurd (omega (arith, s.low))
      go x σ l (choosing a lo hi q v e _) = absurd (omega arith)
      go x σ l (double y z lo m q q' v w e _) = absurd (omega arith)

  module _ {i : ℕ} {ws : List ℕ} {d : ℕ} (at : i ≡ left_at ns k) (left : Walked ns n i vs c ws d) where
    pub walked-single : first_call ≤ o → (oe_op ≤ o → first_pair ≤ o) → has_two o ≡ false → Walked ns n k vs c ws d
    walked-single lo gap none = record { size = left.size; adds = λ x w σ l. go x σ l (shape ns k x w) }
      where
        go : (x : Thing) (σ : Choices) → VariableList ns n vs c σ → Shape ns k x → VariableList ns n ws d (thing_vars σ x)
        go x σ l (bare m e _) = absurd (omega arith)
        go x σ l (single y s h v e _) = rw (e σ) (left.adds y (rw at v) σ l)
        go x σ l (choosing a lo' hi h v e _) = absurd (omega (arith, gap (omega arith)))
        go x σ l (double y z lo' m h h' v w e _) = let q : ◌≡◌ {A = Bool} true false = cc in let z : ◌≡◌ {A = ℕ} 0 1 = cc in absurd (omega arith)

    module _ {us : List ℕ} {b : ℕ} where
      pub walked-choosing : oe_op ≤ o → o < first_pair → Apart ns n → i < n → length vs ≡ choices_limit → Added ws d i us b → Walked ns n k vs c us b
      walked-choosing lo hi apart small size came = record { size = added-size came ∙ left.size; adds = λ x w σ l. go x σ l (shape ns k x w) }
        where
          go : (x : Thing) (σ : Choices) → VariableList ns n vs c σ → Shape ns k x → VariableList ns n us b (thing_vars σ x)
          go x σ l (bare m e _) = absurd (omega arith)
          go x σ l (single y s h v e _) = absurd (omega (arith, s.gap (omega arith)))
          go x σ l (choosing a lo' hi' h v e _) =
              let y : Holds ns i a = rw at v in
              rw (e σ) (listed-add apart a y small (left.size ∙ size) (left.adds (term a) y σ l) came)
          go x σ l (double y z lo' m h h' v w e _) = absurd (omega arith)

      pub walked-double : {j : ℕ} → has_two o ≡ true → first_pair ≤ o → j ≡ right_at ns k → Walked ns n j ws d us b → Walked ns n k vs c us b
      walked-double {j} both lo at' right = record { size = right.size ∙ left.size; adds = λ x w σ l. go x σ l (shape ns k x w) }
        where
          go : (x : Thing) (σ : Choices) → VariableList ns n vs c σ → Shape ns k x → VariableList ns n us b (thing_vars σ x)
          go x σ l (bare m e _) = absurd (omega arith)
          go x σ l (single y s h v e _) = let m = alone-none s in let q : ◌≡◌ {A = Bool} true false = cc in let z : ◌≡◌ {A = ℕ} 0 1 = cc in absurd (omega arith)
          go x σ l (choosing a lo' hi h v e _) = absurd (omega arith)
          go x σ l (double y z lo' m h h' v w e _) = rw (e σ) (right.adds z (rw at' w) (thing_vars σ y) (left.adds y (rw at v) σ l))

-- A walk from the start lists the rule's choices.
pub walked_all : {ns : List ℕ} {n k : ℕ} {vs ws : List ℕ} {d : ℕ} → length vs ≡ choices_limit → Walked ns n k vs 0 ws d → VarsOf ns n k ws d
walked_all size w =
    record {
      size = w.size ∙ size;
      listed = λ ρ x. w.adds (rule ρ) x [] (record { more = λ h. absurd (omega arith); held = λ _. tt; below = λ i h. absurd (omega arith) });
    }
