-- Laws of the hierarchy test: its steps as sentences about roles, and what the code asks of the rows' words instead.
-- Assumes nothing.
use Rattle.std.specs.Prelude.{Option, Some, None, is_some}
use mathlib.Core.Path.{◌≡◌, refl, sym, ap, ◌∙◌}
use mathlib.Core.Bool.{Bool, true, false, ◌&&◌, not}
use mathlib.Core.List.{List}
use mathlib.Core.Logic.{◌↔◌}
use Prim.Native.Nat.{ℕ, ◌≤◌, ◌<◌}
use native.Mathlib.Omega.{arith}
use lib.Dec.{eqb, ltb}
use lib.ListN.{length, get_or}
use borrow.Author.Tests.{ltb-true, ltb-false, eqb-true, eq-eqb, ne_eqb, not-true}
use Rattle.words.specs.Words.{has, item_of, less_of}
use Rattle.words.proofs.WordsLaws.{same_bits, word_none, has-zero, has_in, has-less, has-item, both, and-true, and_both, any_here, any-witness}
use Rattle.words.proofs.RelationLaws.{has-image}
use Rattle.tables.specs.Functions.{dominates}
use Rattle.tables.specs.Checks.{all_to, implies, reflexive, transitive, antisymmetric, rank_steps, failing_from, rank_step, ranked, apart}
use Rattle.tables.specs.Accepted.{Below}
use Rattle.tables.specs.declared.hierarchy.RankStep.{RankStep}
use Rattle.tables.specs.declared.hierarchy.RankStep.TheVariants.{Reflexive, Transitive, Antisymmetric}
use Rattle.tables.specs.Code.Reads.{below_at, closed_at, step_number}
use Rattle.tables.proofs.AllLaws.{all-every, all-at, all-ext}
use Rattle.tables.proofs.CheckLaws.{clash, implied, of-implied, left_out}

-- Each step as the paper says it.
module _ (rows : List ℕ) where
  pub reflexive-says : (reflexive rows ≡ true) ↔ ((r : ℕ) → r < length rows → dominates rows r r ≡ true)
  unfolding reflexive
  reflexive-says = (λ e r l. all-at (length rows) (λ r. dominates rows r r) e r l, λ h. all-every (length rows) (λ r. dominates rows r r) h)

  abbrev along : ℕ → ℕ → ℕ → Bool
  along r q p = implies (dominates rows r q && dominates rows q p) (dominates rows r p)

  pub transitive-says : (transitive rows ≡ true) ↔ ((r q p : ℕ) → r < length rows → q < length rows → p < length rows
      → dominates rows r q ≡ true → dominates rows q p ≡ true → dominates rows r p ≡ true)
  unfolding transitive
  transitive-says =
      let n = length rows in (
        λ e r q p lr lq lp a b.
            of-implied (dominates rows r q) (dominates rows q p) (dominates rows r p)
            (all-at n (along r q) (all-at n (λ q. all_to n (along r q)) (all-at n (λ r. all_to n (λ q. all_to n (along r q))) e r lr) q lq) p lp) a b,
        λ h.
            all-every n (λ r. all_to n (λ q. all_to n (along r q))) (λ r lr. all-every n (λ q. all_to n (along r q)) (λ q lq. all-every n (along r q) (λ p lp.
            implied (dominates rows r q) (dominates rows q p) (dominates rows r p) (λ a b. h r q p lr lq lp a b)))),
      )

  abbrev against : ℕ → ℕ → Bool
  against r q = implies (dominates rows r q && dominates rows q r) (eqb r q)

  pub antisymmetric-says : (antisymmetric rows ≡ true) ↔ ((r q : ℕ) → r < length rows → q < length rows
      → dominates rows r q ≡ true → dominates rows q r ≡ true → r ≡ q)
  unfolding antisymmetric
  antisymmetric-says =
      let n = length rows in (
        λ e r q lr lq a b.
            eqb-true r q (of-implied (dominates rows r q) (dominates rows q r) (eqb r q) (all-at n (against r) (all-at n (λ r. all_to n (against r)) e r lr) q lq) a b),
        λ h.
            all-every n (λ r. all_to n (against r)) (λ r lr. all-every n (against r) (λ q lq.
            implied (dominates rows r q) (dominates rows q r) (eqb r q) (λ a b. eq-eqb r q (h r q lr lq a b)))),
      )

  -- Which step is the first that fails.
  pub step-one : reflexive rows ≡ false → rank_step rows ≡ 1
  unfolding rank_step rank_steps failing_from
  step-one e = rw e

  pub step-two : reflexive rows ≡ true → transitive rows ≡ false → rank_step rows ≡ 2
  unfolding rank_step rank_steps failing_from
  step-two e f = rw (e, f)

  pub step-three : reflexive rows ≡ true → transitive rows ≡ true → antisymmetric rows ≡ false → rank_step rows ≡ 3
  unfolding rank_step rank_steps failing_from
  step-three e f g = rw (e, f, g)

  pub step-none : reflexive rows ≡ true → transitive rows ≡ true → antisymmetric rows ≡ true → rank_step rows ≡ 0
  unfolding rank_step rank_steps failing_from
  step-none e f g = rw (e, f, g)

  pub ranked-self : ranked rows ≡ true → reflexive rows ≡ true
  unfolding ranked
  ranked-self e = go (reflexive rows) refl
    where
      go : (b : Bool) → reflexive rows ≡ b → b ≡ true
      go true q = refl
      go false q = absurd (clash (sym e ∙ ap (λ (k : ℕ). eqb k 0) (step-one q)))

-- Of a role r among rows of items below their number: what lies below r, the rows of the other roles that it dominates.
module _ (rows : List ℕ) (few : length rows ≤ 64) (small : Below (length rows) rows) (r : ℕ) (l : r < length rows) where
  other : (q : ℕ) → q < 64 → has (less_of (get_or rows r 0) (item_of r)) q ≡ (dominates rows r q && not (eqb q r))
  other q k = has-less (get_or rows r 0) (item_of r) q k ∙ ap (λ (b : Bool). dominates rows r q && not b) (has-item r q k)

  -- x lies below r where another role that r dominates dominates it.
  record Via (x : ℕ) : Type 0 where
    role : ℕ
    within : role < length rows
    dominated : dominates rows r role ≡ true
    apart : eqb role r ≡ false
    through : dominates rows role x ≡ true

  below-back : (x : ℕ) → x < 64 → Via x → has (below_at rows r) x ≡ true
  below-back x k v =
      let q : v.role < 64 = omega (arith, v.within) in
      has-image rows (less_of (get_or rows r 0) (item_of r)) x k
      ∙ any_here 64 (λ i. has (less_of (get_or rows r 0) (item_of r)) i && has (get_or rows i 0) x) v.role q
      (and_both (other v.role q ∙ and_both v.dominated (ap not v.apart)) v.through)

  below-there : (x : ℕ) → x < 64 → has (below_at rows r) x ≡ true → Via x
  unfolding Below
  below-there x k e =
      let p = any-witness 64 (λ i. has (less_of (get_or rows r 0) (item_of r)) i && has (get_or rows i 0) x) (sym (has-image rows (less_of (get_or rows r 0) (item_of r)) x k) ∙ e) in
      let s = and-true (has (less_of (get_or rows r 0) (item_of r)) p.0) (has (get_or rows p.0 0) x) p.2 in
      let d = and-true (dominates rows r p.0) (not (eqb p.0 r)) (sym (other p.0 p.1) ∙ s.0) in
      record {
        role = p.0;
        within = has_in (get_or rows r 0) (length rows) p.0 (small r) d.0;
        dominated = d.0;
        apart = not-true (eqb p.0 r) d.1;
        through = s.1;
      }

  closed_at_lem : eqb (less_of (below_at rows r) (get_or rows r 0)) 0 ≡ all_to (length rows) (λ q. all_to (length rows) (λ p. implies (dominates rows r q && dominates rows q p) (dominates rows r p)))
  unfolding less_of Below
  closed_at_lem = both (eqb (less_of (below_at rows r) (get_or rows r 0)) 0) (all_to (length rows) f) there back
    where
      f : ℕ → Bool
      f q = all_to (length rows) (λ p. implies (dominates rows r q && dominates rows q p) (dominates rows r p))

      there : eqb (less_of (below_at rows r) (get_or rows r 0)) 0 ≡ true → all_to (length rows) f ≡ true
      there e =
          all-every (length rows) f (λ q k.
          all-every (length rows) (λ p. implies (dominates rows r q && dominates rows q p) (dominates rows r p)) (λ p m.
          implied (dominates rows r q) (dominates rows q p) (dominates rows r p) (λ a b. go q p k m a b (eqb q r) refl)))
        where
          go : (q p : ℕ) → q < length rows → p < length rows → dominates rows r q ≡ true → dominates rows q p ≡ true → (b : Bool) → eqb q r ≡ b → dominates rows r p ≡ true
          go q p k m a b true s = rw (eqb-true q r s) at b
          go q p k m a b false s =
              left_out (has (below_at rows r) p) (has (get_or rows r 0) p)
              (sym (has-less (below_at rows r) (get_or rows r 0) p (omega arith)) ∙ ap (λ (x : ℕ). has x p) (eqb-true (less_of (below_at rows r) (get_or rows r 0)) 0 e) ∙ has-zero p)
              (below-back p (omega arith) (record { role = q; within = k; dominated = a; apart = s; through = b }))

      at : all_to (length rows) f ≡ true → (i : ℕ) → i < 64 → (b : Bool) → has (below_at rows r) i ≡ b → (b && not (has (get_or rows r 0) i)) ≡ false
      at e i k false s = refl
      at e i k true s =
          let v = below-there i k s in
          let m = has_in (get_or rows v.role 0) (length rows) i (small v.role) v.through in
          ap not (of-implied (dominates rows r v.role) (dominates rows v.role i) (dominates rows r i)
          (all-at (length rows) (λ p. implies (dominates rows r v.role && dominates rows v.role p) (dominates rows r p)) (all-at (length rows) f e v.role v.within) i m)
          v.dominated v.through)

      back : all_to (length rows) f ≡ true → eqb (less_of (below_at rows r) (get_or rows r 0)) 0 ≡ true
      back e =
          eq-eqb (less_of (below_at rows r) (get_or rows r 0)) 0
          (word_none 64 (λ i. has (below_at rows r) i && not (has (get_or rows r 0) i)) (λ i k. at e i k (has (below_at rows r) i) refl))

pub transitive-rows : (rows : List ℕ) → length rows ≤ 64 → Below (length rows) rows → all_to (length rows) (closed_at rows) ≡ transitive rows
unfolding transitive closed_at
transitive-rows rows few small = all-ext (length rows) (closed_at rows) _ (closed_at_lem rows few small)

-- Where the first two steps hold, roles that dominate each other are roles with the same row.
module _ (rows : List ℕ) (small : Below (length rows) rows) (self : reflexive rows ≡ true) (along : transitive rows ≡ true) where
  same_row : (r q : ℕ) → r < length rows → q < length rows → dominates rows r q ≡ true → dominates rows q r ≡ true → get_or rows r 0 ≡ get_or rows q 0
  unfolding Below
  same_row r q lr lq a b =
      same_bits (length rows) (get_or rows r 0) (get_or rows q 0) (small r) (small q) (λ p lp.
      both (dominates rows r p) (dominates rows q p)
      (λ x. (transitive-says rows).0 along q r p lq lr lp b x) (λ x. (transitive-says rows).0 along r q p lr lq lp a x))

  twin : apart rows ≡ true → (i j : ℕ) → i < length rows → j < i → get_or rows j 0 ≡ get_or rows i 0 → ⊥
  unfolding apart
  twin e i j li lj q =
      let f : ℕ → ℕ → Bool = λ i j. not (eqb (get_or rows j 0) (get_or rows i 0)) in
      clash (sym (eq-eqb (get_or rows j 0) (get_or rows i 0) q) ∙ not-true _ (all-at i (f i) (all-at (length rows) (λ i. all_to i (f i)) e i li) j lj))

  pub rows_apart : apart rows ≡ antisymmetric rows
  unfolding apart
  rows_apart = both (apart rows) (antisymmetric rows) there back
    where
      there : apart rows ≡ true → antisymmetric rows ≡ true
      there e = (antisymmetric-says rows).1 (λ r q lr lq a b. go r q lr lq a b (ltb r q) (ltb q r) refl refl)
        where
          go : (r q : ℕ) → r < length rows → q < length rows → dominates rows r q ≡ true → dominates rows q r ≡ true
              → (x y : Bool) → ltb r q ≡ x → ltb q r ≡ y → r ≡ q
          go r q lr lq a b true y s t = absurd (twin e q r lq (ltb-true r q s) (same_row r q lr lq a b))
          go r q lr lq a b false true s t = absurd (twin e r q lr (ltb-true q r t) (same_row q r lq lr b a))
          go r q lr lq a b false false s t = omega (arith, ltb-false r q s, ltb-false q r t)

      back : antisymmetric rows ≡ true → apart rows ≡ true
      back e = all-every (length rows) _ (λ i li. all-every i _ (λ j lj. ap not (ne_eqb (get_or rows j 0) (get_or rows i 0) (differ i li j lj))))
        where
          differ : (i : ℕ) → i < length rows → (j : ℕ) → j < i → get_or rows j 0 ≡ get_or rows i 0 → ⊥
          differ i li j lj q =
              let k : j < length rows = omega arith in
              let a : dominates rows i j ≡ true = ap (λ (w : ℕ). has w j) (sym q) ∙ (reflexive-says rows).0 self j k in
              let b : dominates rows j i ≡ true = ap (λ (w : ℕ). has w i) q ∙ (reflexive-says rows).0 self i li in
              absurd (omega (arith, (antisymmetric-says rows).0 e i j li k a b))

-- The hierarchy passes where no step is named.
pub step-ranked : (rows : List ℕ) (o : Option RankStep) → step_number o ≡ rank_step rows → ranked rows ≡ not (is_some o)
unfolding ranked
step-ranked rows None e = rw (← e)
step-ranked rows (Some Reflexive) e = rw (← e)
step-ranked rows (Some Transitive) e = rw (← e)
step-ranked rows (Some Antisymmetric) e = rw (← e)
