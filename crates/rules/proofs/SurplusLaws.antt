-- The running bracket surplus, one byte at a time, against the counts of brackets.
-- Assumes nothing.
use mathlib.Core.Path.{◌≡◌, refl, ap, sym, ◌∙◌}
use mathlib.Core.List.{List, ◌∷◌}
use mathlib.Core.Bool.{Bool, true, false, ◌||◌, cond}
use mathlib.Core.Logic.{⊎_elim}
use Prim.Native.Nat.{ℕ, suc, ◌+◌, ◌-◌, ◌*◌, ◌<◌, ◌≤◌}
use native.Mathlib.Omega.{arith}
use native.Mathlib.Numerals.{add-one}
use lib.Dec.{eqb, ltb}
use lib.IntN.{ℤ, pos, negsuc, sub_ℕ, ◌+ℤ◌, ◌-ℤ◌}
use lib.ListN.{length, drop, get_or, drop_of_length-le}
use lib.Seq.{drop-cons}
use lib.Signed.{mag, lt_z}
use mir.Syntax.{w32}
use mir.Val.{SFits, to_z, of_z}
use mir.ValLaws.{to_z-of_z}
use borrow.Author.Tests.{lt-ltb, le-ltb, ltb-false}
use Rattle.rules.specs.Accept.{depth_limit, deep}
use Rattle.rules.specs.Code.Surplus.{text_room, stepped, Read}
use Rattle.rules.proofs.NodeLaws.{lt-or-le}

-- A difference hangs on nothing but the difference.
sub_same : (a b p q : ℕ) → a + q ≡ p + b → sub_ℕ a b ≡ sub_ℕ p q
sub_same a b p q e =
    ⊎_elim
    (λ (h : a < b). let l : p < q = omega arith in let m : b - suc a ≡ q - suc p = omega arith in rw (lt-ltb a b h, lt-ltb p q l, m))
    (λ (h : b ≤ a). let l : q ≤ p = omega arith in let m : a - b ≡ p - q = omega arith in rw (le-ltb a b h, le-ltb p q l, m))
    (lt-or-le a b)

sub-up : (o c : ℕ) → sub_ℕ o c +ℤ pos 1 ≡ sub_ℕ (suc o) c
sub-up o c =
    ⊎_elim
    (λ (h : o < c). rw (lt-ltb o c h) (sub_same 1 (suc (c - suc o)) (suc o) c (omega arith)))
    (λ (h : c ≤ o). let l : c ≤ suc o = omega arith in let m : o - c + 1 ≡ suc o - c = omega arith in rw (le-ltb o c h, le-ltb (suc o) c l, m))
    (lt-or-le o c)

sub-down : (o c : ℕ) → sub_ℕ o c -ℤ pos 1 ≡ sub_ℕ o (suc c)
sub-down o c =
    ⊎_elim
    (λ (h : o < c). let l : o < suc c = omega arith in let m : suc (c - suc o + 0) ≡ suc c - suc o = omega arith in rw (lt-ltb o c h, lt-ltb o (suc c) l, m))
    (λ (h : c ≤ o). rw (le-ltb o c h) (sub_same (o - c) 1 o (suc c) (omega arith)))
    (lt-or-le o c)

mag-sub : (o c : ℕ) → mag (sub_ℕ o c) ≤ o + c
mag-sub o c = ⊎_elim (λ (h : o < c). rw (lt-ltb o c h) (omega arith)) (λ (h : c ≤ o). rw (le-ltb o c h) (omega arith)) (lt-or-le o c)

sub-over : (o c : ℕ) → lt_z (pos depth_limit) (sub_ℕ o c) ≡ ltb (c + depth_limit) o
sub-over o c =
    ⊎_elim
    (λ (h : o < c). let l : o ≤ c + depth_limit = omega arith in rw (lt-ltb o c h, le-ltb (c + depth_limit) o l))
    (λ (h : c ≤ o). rw (le-ltb o c h) (at (o - c) (omega arith)))
    (lt-or-le o c)
  where
    at : (n : ℕ) → n + c ≡ o → ltb depth_limit n ≡ ltb (c + depth_limit) o
    at n e = ⊎_elim
        (λ (h : depth_limit < n). let l : c + depth_limit < o = omega arith in rw (lt-ltb depth_limit n h, lt-ltb (c + depth_limit) o l))
        (λ (h : n ≤ depth_limit). let l : o ≤ c + depth_limit = omega arith in rw (le-ltb depth_limit n h, le-ltb (c + depth_limit) o l))
        (lt-or-le depth_limit n)

-- A byte more, by what it is.
deep-open : (o c x : ℕ) (s : List ℕ) → eqb x 40 ≡ true → deep o c (x ∷ s) ≡ (ltb (c + depth_limit) (suc o) || deep (suc o) c s)
unfolding deep
deep-open o c x s e = rw (e, deep)

deep-close : (o c x : ℕ) (s : List ℕ) → eqb x 40 ≡ false → eqb x 41 ≡ true → deep o c (x ∷ s) ≡ deep o (suc c) s
unfolding deep
deep-close o c x s e f = rw (e, f, deep)

deep-other : (o c x : ℕ) (s : List ℕ) → eqb x 40 ≡ false → eqb x 41 ≡ false → deep o c (x ∷ s) ≡ deep o c s
unfolding deep
deep-other o c x s e f = rw (e, f, deep)

pub read-mag : {s : List ℕ} {i : ℕ} {z : ℤ} → Read s i z → mag z ≤ i
read-mag {s} {i} {z} r = rw r.is (omega (arith, mag-sub r.opened r.closed))

pub read-end : {s : List ℕ} {i : ℕ} {z : ℤ} → Read s i z → length s ≤ i → false ≡ deep 0 0 s
unfolding deep
read-end {s} r h = rw (drop_of_length-le s h) at r.same

-- The counts after the byte at i, and whether their difference passes the limit.
record Next (s : List ℕ) (i : ℕ) (z : ℤ) : Type 0 where
  opened : ℕ
  closed : ℕ
  is : z ≡ sub_ℕ opened closed
  few : opened + closed ≤ i + 1
  same : (ltb (closed + depth_limit) opened || deep opened closed (drop (i + 1) s)) ≡ deep 0 0 s

module _ {s : List ℕ} {i : ℕ} {z w : ℤ} (r : Read s i z) (h : i < length s) (e : w ≡ stepped (get_or s i 0) z) where
  next : Next s i w
  unfolding stepped
  next = go (eqb (get_or s i 0) 40) (eqb (get_or s i 0) 41) refl refl
    where
      at : deep r.opened r.closed (get_or s i 0 ∷ drop (i + 1) s) ≡ deep 0 0 s
      at = rw (add-one, ← drop-cons s i 0 h) r.same

      go : (t u : Bool) → eqb (get_or s i 0) 40 ≡ t → eqb (get_or s i 0) 41 ≡ u → Next s i w
      go true u p q =
          record {
            opened = suc r.opened;
            closed = r.closed;
            is = e ∙ rw (p, r.is) (sub-up r.opened r.closed);
            few = omega (arith, r.few);
            same = sym (deep-open r.opened r.closed (get_or s i 0) (drop (i + 1) s) p) ∙ at;
          }
      go false true p q =
          let l : r.opened ≤ suc r.closed + depth_limit = omega (arith, r.low) in
          record {
            opened = r.opened;
            closed = suc r.closed;
            is = e ∙ rw (p, q, r.is) (sub-down r.opened r.closed);
            few = omega (arith, r.few);
            same = rw (le-ltb (suc r.closed + depth_limit) r.opened l) (sym (deep-close r.opened r.closed (get_or s i 0) (drop (i + 1) s) p q) ∙ at);
          }
      go false false p q =
          record {
            opened = r.opened;
            closed = r.closed;
            is = e ∙ rw (p, q) r.is;
            few = omega (arith, r.few);
            same = rw (le-ltb (r.closed + depth_limit) r.opened r.low) (sym (deep-other r.opened r.closed (get_or s i 0) (drop (i + 1) s) p q) ∙ at);
          }

  pub read-over : lt_z (pos depth_limit) w ≡ true → true ≡ deep 0 0 s
  read-over p =
      let n = next in
      let q : ltb (n.closed + depth_limit) n.opened ≡ true = sym (sub-over n.opened n.closed) ∙ ap (lt_z (pos depth_limit)) (sym n.is) ∙ p in
      rw q at n.same

  pub read_next : lt_z (pos depth_limit) w ≡ false → Read s (i + 1) w
  read_next p =
      let n = next in
      let q : ltb (n.closed + depth_limit) n.opened ≡ false = sym (sub-over n.opened n.closed) ∙ ap (lt_z (pos depth_limit)) (sym n.is) ∙ p in
      record {
        opened = n.opened;
        closed = n.closed;
        is = n.is;
        few = n.few;
        low = ltb-false (n.closed + depth_limit) n.opened q;
        same = rw q at n.same;
      }

-- A small surplus fits an i32, and one bracket more too.
fits : {z : ℤ} → mag z ≤ 2 * text_room → SFits w32 z
fits h = record { sfits = omega arith }

pub up_fits : (z : ℤ) → mag z ≤ text_room → SFits w32 (z +ℤ pos 1)
up_fits (pos n) h = fits (omega arith)
up_fits (negsuc n) h = fits (omega (arith, mag-sub 1 (suc n)))

pub down_fits : (z : ℤ) → mag z ≤ text_room → SFits w32 (z -ℤ pos 1)
down_fits (pos n) h = fits (omega (arith, mag-sub n 1))
down_fits (negsuc n) h = fits (omega arith)

-- The surplus after a byte, as the machine reads it back from its bits.
pub stepped-back : {w : ℤ} (b : ℕ) (z : ℤ) → mag z ≤ text_room → w ≡ stepped b z → to_z w32 (of_z w32 w) ≡ stepped b z
unfolding stepped
stepped-back {w} b z h e = rw e (to_z-of_z w32 (stepped b z) (go (eqb b 40) (eqb b 41)))
  where
    go : (t u : Bool) → SFits w32 (cond t (z +ℤ pos 1) (cond u (z -ℤ pos 1) z))
    go true u = up_fits z h
    go false true = down_fits z h
    go false false = fits (omega arith)
