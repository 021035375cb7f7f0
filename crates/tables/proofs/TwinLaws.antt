-- Laws of the twin test: where a word's slot is not taken, no word before it is that word.
-- Assumes nothing.
use mathlib.Core.Path.{◌≡◌, refl, sym, ap, ◌∙◌}
use mathlib.Core.Bool.{Bool, true, false, not}
use mathlib.Core.List.{List}
use Prim.Native.Nat.{ℕ, ◌+◌, ◌≤◌, ◌<◌}
use native.Mathlib.Nat.{mod-lt}
use native.Mathlib.Omega.{arith}
use lib.Dec.{eqb, lit<}
use lib.ListN.{length, get_or, set, take, replicate, length-set, length-replicate}
use lib.Seq.{get_or-take, length-take-le, get_or-set_same, get_or-set_other}
use borrow.Author.Tests.{eqb-true, eqb-false, ne_eqb}
use Rattle.tables.specs.Code.Reads.{new_at, slots, slot_of, SlotsTaken}
use Rattle.tables.specs.Checks.{all_to}
use Rattle.tables.proofs.AllLaws.{all-every, all-ext}

-- No word before word i is that word.
pub new-before : (ws : List ℕ) (i : ℕ) → i ≤ length ws → all_to (length (take i ws)) (λ j. not (eqb (get_or (take i ws) j 0) (get_or ws i 0))) ≡ new_at ws i
unfolding new_at
new-before ws i l = rw (length-take-le i ws l) (all-ext i _ _ (λ j m. ap (λ (k : ℕ). not (eqb k (get_or ws i 0))) (get_or-take i ws j 0 m)))

pub slot-within : (w : ℕ) {s : ℕ} → s ≡ slot_of w → s < slots
slot-within w e = rw e (mod-lt w (lit< tt))

pub slots-none : (ws : List ℕ) → SlotsTaken ws 0 (replicate slots 0)
slots-none ws = record { room = length-replicate {A = ℕ} slots 0; theirs = λ j l. absurd (omega arith) }

module _ {ws : List ℕ} {i : ℕ} {taken : List ℕ} (p : SlotsTaken ws i taken) {s : ℕ} (e : s ≡ slot_of (get_or ws i 0)) where
  pub slot-free : get_or taken s 0 ≡ 0 → true ≡ new_at ws i
  unfolding new_at
  slot-free z = sym (all-every i _ (λ j l. ap not (ne_eqb (get_or ws j 0) (get_or ws i 0) (differ j l))))
    where
      differ : (j : ℕ) → j < i → get_or ws j 0 ≡ get_or ws i 0 → ⊥
      differ j l q =
          let t : get_or taken (slot_of (get_or ws j 0)) 0 ≡ get_or taken s 0 = ap (λ (k : ℕ). get_or taken k 0) (ap slot_of q ∙ sym e) in
          absurd (omega (arith, p.theirs j l, t, z))

  pub slots-more : SlotsTaken ws (i + 1) (set taken s 1)
  slots-more =
      record {
        room = length-set taken s 1 ∙ p.room;
        theirs = λ j l. at j l (eqb (slot_of (get_or ws j 0)) s) refl (eqb j i) refl;
      }
    where
      at : (j : ℕ) → j < i + 1 → (b : Bool) → eqb (slot_of (get_or ws j 0)) s ≡ b → (d : Bool) → eqb j i ≡ d
          → get_or (set taken s 1) (slot_of (get_or ws j 0)) 0 ≡ 1
      at j l true q d r = rw (eqb-true (slot_of (get_or ws j 0)) s q) (get_or-set_same taken s 1 0 (omega (arith, slot-within (get_or ws i 0) e, p.room)))
      at j l false q true r = absurd (eqb-false (slot_of (get_or ws j 0)) s q (ap (λ (k : ℕ). slot_of (get_or ws k 0)) (eqb-true j i r) ∙ sym e))
      at j l false q false r =
          get_or-set_other taken s (slot_of (get_or ws j 0)) 1 0 (eqb-false (slot_of (get_or ws j 0)) s q)
          ∙ p.theirs j (omega (arith, eqb-false j i r))
