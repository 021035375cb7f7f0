-- Laws of lent outputs: what is answered where the output is long enough, where it is not, and what is kept.
-- Assumes nothing.
use mathlib.Core.Path.{◌≡◌, refl, ap, sym, ◌∙◌}
use mathlib.Core.List.{List, [], ◌∷◌, ◌++◌}
use mathlib.Core.Bool.{Bool, true, false}
use Prim.Native.Nat.{ℕ, ◌≤◌, ◌<◌}
use native.Mathlib.Omega.{arith}
use lib.Dec.{leb}
use lib.ListN.{length, get_or, drop, length-append}
use borrow.Author.Tests.{le-leb, lt-leb}
use Rattle.answers.specs.Refusal.{number_of, last_number}
use Rattle.answers.specs.Answer.{Answer, refused, wrote, answer_number, answer_length, if_room, lent, output_after}
use Rattle.answers.specs.Written.{Written, number_in, length_in, Answers}
use Rattle.answers.specs.declared.Refusal.{Refusal}
use Rattle.answers.specs.declared.Refusal.TheVariants.{CutShort, Overfull, NotEntered, BadMark, NoSuchItem, Miscounted}
use Rattle.answers.specs.declared.Refusal.TheVariants.{Rank, Overreach, Twin, LeftOver, RuleLength, Deep, NotARule}
use Rattle.answers.specs.declared.Refusal.TheVariants.{KindMismatch, Choices, NoRulesFormula, ShortSheet, NotAnOrder, Page, Left, FullHouse, NotOpen, Reader}
use Rattle.std.specs.Result.{IsErrAnd}
use Rattle.std.specs.declared.result.Result.{Result}
use Rattle.std.specs.declared.result.Result.TheVariants.{Ok, Err}
use Rattle.std.proofs.lemmas.Result.{err_from_is_err_and}

-- The refusals in the order of their numbers, from 0 on: each number has one refusal, and 0 none (its place is filled by the first).
listed : List Refusal
listed =
    CutShort ∷ CutShort ∷ Overfull ∷ NotEntered ∷ BadMark ∷ NoSuchItem ∷ Miscounted ∷ Rank ∷ Overreach ∷ Twin ∷ LeftOver
    ∷ RuleLength ∷ Deep ∷ NotARule ∷ KindMismatch ∷ Choices ∷ NoRulesFormula ∷ ShortSheet ∷ NotAnOrder ∷ Page ∷ Left
    ∷ FullHouse ∷ NotOpen ∷ Reader ∷ []

-- One line for each refusal: its number is from 1 to the last, and its place in the list.
record Numbered (r : Refusal) : Type 0 where
  some : 1 ≤ number_of r
  few : number_of r ≤ last_number
  back : get_or listed (number_of r) CutShort ≡ r

numbered : (r : Refusal) → Numbered r
unfolding listed
numbered CutShort = record { some = omega arith; few = omega arith; back = refl }
numbered Overfull = record { some = omega arith; few = omega arith; back = refl }
numbered NotEntered = record { some = omega arith; few = omega arith; back = refl }
numbered BadMark = record { some = omega arith; few = omega arith; back = refl }
numbered NoSuchItem = record { some = omega arith; few = omega arith; back = refl }
numbered Miscounted = record { some = omega arith; few = omega arith; back = refl }
numbered Rank = record { some = omega arith; few = omega arith; back = refl }
numbered Overreach = record { some = omega arith; few = omega arith; back = refl }
numbered Twin = record { some = omega arith; few = omega arith; back = refl }
numbered LeftOver = record { some = omega arith; few = omega arith; back = refl }
numbered RuleLength = record { some = omega arith; few = omega arith; back = refl }
numbered Deep = record { some = omega arith; few = omega arith; back = refl }
numbered NotARule = record { some = omega arith; few = omega arith; back = refl }
numbered KindMismatch = record { some = omega arith; few = omega arith; back = refl }
numbered Choices = record { some = omega arith; few = omega arith; back = refl }
numbered NoRulesFormula = record { some = omega arith; few = omega arith; back = refl }
numbered ShortSheet = record { some = omega arith; few = omega arith; back = refl }
numbered NotAnOrder = record { some = omega arith; few = omega arith; back = refl }
numbered Page = record { some = omega arith; few = omega arith; back = refl }
numbered Left = record { some = omega arith; few = omega arith; back = refl }
numbered FullHouse = record { some = omega arith; few = omega arith; back = refl }
numbered NotOpen = record { some = omega arith; few = omega arith; back = refl }
numbered Reader = record { some = omega arith; few = omega arith; back = refl }

pub number-some : (r : Refusal) → 1 ≤ number_of r
number-some r = (numbered r).some

pub number-few : (r : Refusal) → number_of r ≤ last_number
number-few r = (numbered r).few

pub same_number : (a b : Refusal) → number_of a ≡ number_of b → a ≡ b
same_number a b e = sym (numbered a).back ∙ ap (λ (n : ℕ). get_or listed n CutShort) e ∙ (numbered b).back

-- The number and the length of a call's case say which case it is.
abbrev pub written_of : Answer → Written
written_of (refused r) = Err r
written_of (wrote b) = Ok (length b)

pub written-case : (a : Answer) (w : Written) → number_in w ≡ answer_number a → length_in w ≡ answer_length a → w ≡ written_of a
written-case (refused r) (Err e) n l = ap Err (same_number e r n)
written-case (refused r) (Ok k) n l = absurd (omega (arith, number-some r))
written-case (wrote b) (Err e) n l = absurd (omega (arith, number-some e))
written-case (wrote b) (Ok k) n l = ap Ok l

pub answered-case : {a : Answer} {old new : List ℕ} {w : Written} → Answers a old new w → w ≡ written_of a
answered-case {a} {w = w} p = written-case a w p.number p.size

-- The exit of a `?` returns the refusal that it met.
pub exit-refused : {T : Type 0} {r : Result T Refusal} {e : Refusal} → IsErrAnd r (λ y. y ≡ e) → r ≡ Err e
exit-refused {r = r} h = let p = err_from_is_err_and r h in p.1 ∙ ap Err p.2

-- Bytes that were written were the answer; a refusal stays, bytes that fit are written, others are 17.

pub lent-wrote : (n : ℕ) (a : Answer) (b : List ℕ) → lent n a ≡ wrote b → a ≡ wrote b
unfolding lent
lent-wrote n (refused r) b e = cc
lent-wrote n (wrote c) b e = go (leb (length c) n) e
  where
    go : (x : Bool) → if_room x c ≡ wrote b → wrote c ≡ wrote b
    go true e = e
    go false e = cc

pub lent-refused : (n : ℕ) (e : Refusal) → lent n (refused e) ≡ refused e
unfolding lent
lent-refused n e = refl

pub lent_fits : (n : ℕ) (b : List ℕ) → length b ≤ n → lent n (wrote b) ≡ wrote b
unfolding lent
lent_fits n b h = rw (le-leb _ _ h)

pub lent-short : (n : ℕ) (b : List ℕ) → n < length b → lent n (wrote b) ≡ refused ShortSheet
unfolding lent
lent-short n b h = rw (lt-leb _ _ h)

-- A refusal keeps the lent bytes, and so does an output that is too short.

pub kept-refused : (n : ℕ) (old : List ℕ) (e : Refusal) → Answers (lent n (refused e)) old old (Err e)
unfolding lent output_after
kept-refused n old e = record { number = refl; size = refl; output = refl }

pub kept-short : (w old : List ℕ) → length old < length w → Answers (lent (length old) (wrote w)) old old (Err ShortSheet)
unfolding output_after
kept-short w old h = rw (lent-short (length old) w h) (record { number = refl; size = refl; output = refl })

-- What fits is written in front, and the rest is kept.
pub lent_written : (w old : List ℕ) {new : List ℕ} → length w ≤ length old → new ≡ w ++ drop (length w) old → Answers (lent (length old) (wrote w)) old new (Ok (length w))
unfolding output_after
lent_written w old h e = rw (lent_fits (length old) w h) (record { number = refl; size = refl; output = e })

-- What was written lies within the lent bytes.
pub lent-within : (w : List ℕ) {old new : List ℕ} {r : Written} {n : ℕ} → Answers (lent (length old) (wrote w)) old new r → r ≡ Ok n → n ≤ length new
unfolding lent output_after
lent-within w {old} {new} {r} {n} l e = go (leb (length w) (length old)) (answered-case l) l.output
  where
    go : (b : Bool) → r ≡ written_of (if_room b w) → new ≡ output_after (if_room b w) old → n ≤ length new
    go true a q = let m : length w ≡ n = cc in omega (arith, simp length-append at (ap length q))
    go false a q = let z : ◌≡◌ {A = ℕ} 0 1 = cc in absurd (omega arith)
