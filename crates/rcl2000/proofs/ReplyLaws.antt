-- The tracker's numbers fit, and are those of the answers.
-- Assumes nothing.
use mathlib.Core.Path.{◌≡◌, refl, ap, ◌∙◌}
use Prim.Native.Nat.{ℕ, ◌*◌, ◌<◌}
use native.Mathlib.Omega.{arith}
use lib.ListN.{length}
use Rattle.answers.specs.Refusal.{number_of}
use Rattle.answers.specs.Answer.{Answer, refused, wrote, reply}
use Rattle.answers.specs.declared.Refusal.{Refusal}
use Rattle.syntax.specs.Bytes.{Bytes}
use Rattle.answers.specs.Written.{Written}
use Rattle.answers.specs.Written.{Answers}
use Rattle.answers.proofs.AnswerLaws.{written_of, number-few, answered-case}
use Rattle.rcl2000.specs.Code.Reply.{reply_of}

pub refusal-small : (r : Refusal) → 65536 * number_of r < 4294967296
refusal-small r = omega (arith, number-few r)

written-reply : (a : Answer) → reply_of (written_of a) ≡ reply a
unfolding reply
written-reply (refused r) = refl
written-reply (wrote b) = refl

small : (a : Answer) → ((b : Bytes) → a ≡ wrote b → length b < 65536) → reply a < 4294967296
unfolding reply
small (refused r) h = refusal-small r
small (wrote b) h = omega (arith, h b refl)

-- What a call that writes fewer than 65,536 bytes returned, and what the tracker is told.
module _ {a : Answer} {old new : Bytes} {w : Written} (p : Answers a old new w) where
  pub reply-fits : ((b : Bytes) → a ≡ wrote b → length b < 65536) → reply_of w < 4294967296
  reply-fits h = rw (ap reply_of (answered-case p) ∙ written-reply a) (small a h)

  pub reply-is : {r : ℕ} → r ≡ reply_of w → r ≡ reply a
  reply-is e = e ∙ ap reply_of (answered-case p) ∙ written-reply a
