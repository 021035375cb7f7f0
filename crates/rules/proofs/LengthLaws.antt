-- The length of what a node holds, by the lengths of what stands below it.
-- Assumes nothing.
use mathlib.Core.Path.{◌≡◌, refl, sym, ap, ◌∙◌}
use mathlib.Core.Bool.{Bool, true, false, cond}
use mathlib.Core.List.{List}
use mathlib.Core.Option.{none, some}
use Prim.Native.Nat.{ℕ, ◌+◌, ◌<◌, ◌≤◌}
use native.Mathlib.Omega.{arith}
use lib.Dec.{eqb, ltb, leb, leb→le}
use lib.ListN.{length, get_or, set}
use borrow.Author.Tests.{lt-ltb, le-ltb, eq-eqb, ne_eqb, eqb-false}
use Rattle.syntax.specs.Term.{Term, Choices, digit}
use Rattle.syntax.specs.Code.Arena.{has_two, Holds, Apart}
use Rattle.syntax.specs.Code.Reading.{mk, Knows}
use Rattle.syntax.specs.Code.Nodes.{first_call, oe_op, ao_op, first_pair, first_numbered, ops_end, op_at, left_at, right_at, operation_of, left_of, right_of}
use Rattle.syntax.proofs.ArenaLaws.{two-less}
use Rattle.rules.specs.Code.Thing.{Thing, term, HoldsThing}
use Rattle.rules.specs.Code.Lengths.{extra_table, extra, plain_length, known_length, node_length, step_length, capped, Knowing, Measured}
use Rattle.rules.specs.Code.Variables.{place_in}
use Rattle.rules.proofs.TableLaws.{entry}
use Rattle.rules.proofs.NodeLaws.{more-at}
use Rattle.rules.proofs.ShapeLaws.{len, tail, chosen_length, alone-none, Shape, bare, single, choosing, double, shape}
use Rattle.rules.proofs.VariableLaws.{digit-found}

-- No entry of the table is above 14.

pub extra-small : (o : ℕ) → o < ops_end → extra o ≤ 14
unfolding extra extra_table
extra-small o h = leb→le (get_or extra_table o 0) 14 (entry (λ _ x. leb x 14) extra_table tt o h)

-- The ways in which a length is computed.
module _ (o : ℕ) (a b m : ℕ) where
  node-bare : (t : Bool) → o < first_call → node_length o t a b m ≡ extra o
  unfolding node_length
  node-bare t h = rw (lt-ltb o first_call h)

  node-unknown : first_call ≤ o → node_length o false a b m ≡ plain_length o a b m
  unfolding node_length
  node-unknown h = rw (le-ltb o first_call h)

  node-plain : (t : Bool) → first_call ≤ o → (oe_op ≤ o → first_pair ≤ o) → node_length o t a b m ≡ plain_length o a b m
  unfolding node_length known_length
  node-plain true h gap =
      let p : o ≡ oe_op → ⊥ = λ (e : o ≡ oe_op). let l : oe_op ≤ o = omega arith in omega (arith, gap l) in
      let q : o ≡ ao_op → ⊥ = λ (e : o ≡ ao_op). let l : oe_op ≤ o = omega arith in omega (arith, gap l) in
      rw (le-ltb o first_call h, ne_eqb o oe_op p, ne_eqb o ao_op q)
  node-plain false h gap = rw (le-ltb o first_call h)

  node-known : oe_op ≤ o → o < first_pair → node_length o true a b m ≡ cond (eqb o oe_op) 2 (7 + a)
  unfolding node_length known_length
  node-known lo hi = let h : first_call ≤ o = omega arith in rw (le-ltb o first_call h) (go (eqb o oe_op) refl)
    where
      go : (t : Bool) → eqb o oe_op ≡ t → cond (eqb o oe_op) 2 (cond (eqb o ao_op) (7 + a) (plain_length o a b m)) ≡ cond t 2 (7 + a)
      go true e = rw e
      go false e =
          let ne = eqb-false o oe_op e in
          let q : o ≡ ao_op = omega (arith, ne) in
          rw (e, eq-eqb o ao_op q)

  node-either : (t : Bool) → first_call ≤ o → node_length o t a b m ≡ cond t (known_length o a b m) (plain_length o a b m)
  unfolding node_length
  node-either t h = rw (le-ltb o first_call h)

  plain-two : has_two o ≡ true → plain_length o a b m ≡ extra o + a + b
  unfolding plain_length
  plain-two e = rw e

  plain-alone : has_two o ≡ false → plain_length o a b m ≡ extra o + a + tail o m
  unfolding plain_length
  plain-alone e = rw e (go (ltb o first_numbered))
    where
      go : (t : Bool) → cond t (extra o + a) (extra o + a + cond (ltb m 10) 1 2) ≡ extra o + a + cond t 0 (cond (ltb m 10) 1 2)
      go true = omega arith
      go false = refl

-- Whether a choice is known, of an OE or AO and of another operation.

pub knowing-choice : {o i p : ℕ} {vs : List ℕ} → first_call ≤ o → p ≡ place_in i vs → Knowing o i vs (ltb p (length vs))
knowing-choice {o} {i} {p} {vs} h e = record { is = λ a b m. rw e (node-either o a b m (ltb (place_in i vs) (length vs)) h) }

pub knowing-none : {o i : ℕ} {vs : List ℕ} → first_call ≤ o → (oe_op ≤ o → first_pair ≤ o) → Knowing o i vs false
knowing-none {o} {i} {vs} h gap = record { is = λ a b m. node-plain o a b m (ltb (place_in i vs) (length vs)) h gap }

pub step-bare : (ls vs : List ℕ) (v : ℕ) {o z : ℕ} → o ≡ operation_of v → o < first_call → z ≡ extra o → capped z ≡ step_length ls vs v
step-bare ls vs v op h e =
    rw (e, op)
    (ap capped
    (sym (node-bare (operation_of v) (capped (get_or ls (left_of v) 0)) (capped (get_or ls (right_of v) 0)) (right_of v) (ltb (place_in (left_of v) vs) (length vs)) (rw op at h))))

-- OE and AO, by whether their choice is known.
chosen-capped : (o a b m d n : ℕ) (t : Bool) → oe_op ≤ o → o < first_pair → a ≡ capped n → capped (node_length o t a b m) ≡ capped (chosen_length o (cond t (some d) none) n)
chosen-capped o a b m d n true lo hi e = rw (node-known o a b m lo hi) (go (eqb o oe_op))
  where
    go : (t : Bool) → capped (cond t 2 (7 + a)) ≡ capped (cond t 2 (7 + n))
    go true = refl
    go false = omega arith
chosen-capped o a b m d n false lo hi e =
    let h : first_call ≤ o = omega arith in
    let l : o < first_numbered = omega arith in
    rw (node-unknown o a b m h, plain-alone o a b m (two-less o hi), lt-ltb o first_numbered l) (omega arith)

module _ {ns vs ls : List ℕ} {n k : ℕ} {σ : Choices} (apart : Apart ns n) (h : k < n) (c : Knows (mk ns n) vs σ) (m : Measured ns σ k ls) where
  -- Whether the choice of the node at the left is known.
  abbrev known : Bool
  known = ltb (place_in (left_at ns k) vs) (length vs)

  digit-is : (a : Term) → left_at ns k < k → Holds ns (left_at ns k) a → digit σ a ≡ cond known (some (49 + place_in (left_at ns k) vs)) none
  digit-is a l w = digit-found ns n apart (left_at ns k) a w (omega arith) 49 vs σ c.holds c.below

  length-here : (x : Thing) → HoldsThing ns k x → step_length ls vs (get_or ns k 0) ≡ capped (len σ x)
  length-here x w = go (shape ns k x w)
    where
      A : ℕ
      A = capped (get_or ls (left_at ns k) 0)

      B : ℕ
      B = capped (get_or ls (right_at ns k) 0)

      go : Shape ns k x → capped (node_length (op_at ns k) known A B (right_at ns k)) ≡ capped (len σ x)
      go (bare l v e) = rw (node-bare (op_at ns k) A B (right_at ns k) known l, e σ)
      go (choosing a lo hi l w v e) =
          rw (e σ, digit-is a l w)
          (chosen-capped (op_at ns k) A B (right_at ns k) (49 + place_in (left_at ns k) vs) (len σ (term a)) known lo hi (omega (arith, m.at (left_at ns k) (term a) l w)))
      go (single y s l w v e) =
          rw (node-plain (op_at ns k) A B (right_at ns k) known s.low (λ z. omega (arith, s.gap z)), plain-alone (op_at ns k) A B (right_at ns k) (alone-none s))
          (omega (arith, e σ, m.at (left_at ns k) y l w))
      go (double y z lo both l l' u w v e) =
          rw (node-plain (op_at ns k) A B (right_at ns k) known (omega arith) (λ _. lo), plain-two (op_at ns k) A B (right_at ns k) both)
          (omega (arith, e σ, m.at (left_at ns k) y l u, m.at (right_at ns k) z l' w))

  -- One node more.
  pub measured-next : {l : ℕ} → l ≡ step_length ls vs (get_or ns k 0) → k < length ls → Measured ns σ (k + 1) (set ls k l)
  measured-next {l} e small =
      record {
        at = λ i x hi w. more-at (λ i (l : ℕ). (x : Thing) → HoldsThing ns i x → l ≡ capped (len σ x)) ls k l 0 small (λ j q x w. m.at j x q w) (λ x w. e ∙ length-here x w) i hi x w;
      }
