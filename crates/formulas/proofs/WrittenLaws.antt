-- Answers of calls that write: how they are made, and what they say of the answer and of the bytes.
-- Assumes nothing.
use mathlib.Core.Path.{◌≡◌, refl, ap, sym, ◌∙◌}
use mathlib.Core.Bool.{Bool, true, false, not, ◌&&◌}
use mathlib.Core.List.{[], ◌∷◌}
use Prim.Native.Nat.{ℕ, ◌≤◌}
use native.Mathlib.Omega.{arith}
use lib.Dec.{leb, eqb}
use lib.Pointwise.{pointwise}
use lib.ListN.{length, take, length-append}
use lib.Seq.{take-append_seam}
use borrow.Author.Tests.{le-leb}
use Rattle.answers.specs.Answer.{Answer, refused, wrote, if_room, lent, output_after}
use Rattle.answers.specs.declared.Refusal.{Refusal}
use Rattle.syntax.specs.Bytes.{Bytes, same}
use Rattle.answers.specs.Written.{Written}
use Rattle.std.specs.declared.result.Result.TheVariants.{Ok, Err}
use Rattle.answers.specs.Written.{Answers}
use Rattle.answers.proofs.AnswerLaws.{written_of, answered-case, kept-refused}

-- A refusal leaves the output as it is.
pub answers-refusal : {r : Refusal} (a : Answer) (n : ℕ) (old : Bytes) → a ≡ refused r → Answers (lent n a) old old (Err r)
answers-refusal {r} a n old e = rw e (kept-refused n old r)

-- What was returned says what the answer is.

pub record Kept (a : Answer) (new : Bytes) (m : ℕ) : Type 0 where
  pub text : Bytes
  pub is : a ≡ wrote text
  pub front : take m new ≡ text
  pub fits : m ≤ length new

pub answers-wrote : (a : Answer) (n : ℕ) {old new : Bytes} {w : Written} {m : ℕ} → Answers (lent n a) old new w → w ≡ Ok m → Kept a new m
unfolding lent output_after
answers-wrote (refused r) n p e = let z : ◌≡◌ {A = ℕ} 0 1 = cc (answered-case p) in absurd (omega arith)
answers-wrote (wrote b) n {old} {new} {w} {m} p e = go (leb (length b) n) (answered-case p) p.output
  where
    go : (x : Bool) → w ≡ written_of (if_room x b) → new ≡ output_after (if_room x b) old → Kept (wrote b) new m
    go true r o =
        let q : m ≡ length b = cc in
        record { text = b; is = refl; front = rw (q, o) (take-append_seam b _); fits = rw (q, o, length-append) (omega arith) }
    go false r o = let z : ◌≡◌ {A = ℕ} 0 1 = cc in absurd (omega arith)

pub answers-refused : (a : Answer) (n : ℕ) {old new : Bytes} {w : Written} {r : Refusal} (b : Bytes) → Answers (lent n a) old new w → w ≡ Err r → length b ≤ n → a ≡ wrote b → ⊥
unfolding lent
answers-refused a n {old} {new} {w} {r} b p e h q =
    let z : lent n a ≡ wrote b = rw (q, le-leb (length b) n h) in
    let y : ◌≡◌ {A = ℕ} 0 1 = cc (ap written_of z, answered-case p) in
    omega arith

-- The library's test of bytes.

pub same-pointwise : (s t : Bytes) → same s t ≡ pointwise eqb s t
unfolding same
same-pointwise [] [] = refl
same-pointwise [] (y ∷ t) = refl
same-pointwise (x ∷ s) [] = refl
same-pointwise (x ∷ s) (y ∷ t) = ap (λ (b : Bool). eqb x y && b) (same-pointwise s t)

pub same_tested : (s t : Bytes) {b : Bool} → b ≡ not (pointwise eqb s t) → same s t ≡ not b
same_tested s t {b} e = same-pointwise s t ∙ sym (ap not e ∙ not-not (pointwise eqb s t))
  where
    not-not : (x : Bool) → not (not x) ≡ x
    not-not true = refl
    not-not false = refl
