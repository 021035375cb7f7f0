-- What the tracker sees says what was answered, and the other way round: the number's two ranges do not meet.
-- Assumes nothing.
use mathlib.Core.Path.{◌≡◌, refl, ap, ◌∙◌}
use mathlib.Core.List.{◌++◌}
use mathlib.Core.Bool.{Bool, true, false}
use mathlib.Core.Logic.{◌↔◌}
use Prim.Native.Nat.{ℕ, ◌*◌, ◌≤◌, ◌<◌}
use native.Mathlib.Omega.{arith}
use lib.Dec.{leb}
use lib.ListN.{length, drop, length-append, length-drop}
use lib.Seq.{take_at, drop_at}
use borrow.Author.Tests.{leb-true}
use Rattle.answers.specs.Refusal.{number_of}
use Rattle.answers.specs.Answer.{Answer, refused, wrote, if_room, lent, reply, output_after}
use Rattle.answers.specs.declared.Refusal.{Refusal}
use Rattle.answers.proofs.AnswerLaws.{number-some, same_number, lent-wrote}
use Rattle.answers.specs.Written.{Answers}
use Rattle.answers.specs.Written.{Written}
use Rattle.syntax.specs.Bytes.{Bytes}
use Rattle.rcl2000.specs.Code.Reply.{reply_of}
use Rattle.rcl2000.proofs.ReplyLaws.{reply-fits, reply-is}
use Rattle.rcl2000.specs.Calls.{Sees, Refuses, Writes, Ends, answers, refuses}

pub through : {A B C : Type 0} → A ↔ B → B ↔ C → A ↔ C
through f g = (λ a. g.0 (f.0 a), λ c. f.1 (g.1 c))

-- What is written fits.
pub lent-room : (n : ℕ) (a : Answer) (w : Bytes) → lent n a ≡ wrote w → length w ≤ n
unfolding lent
lent-room n (refused e) w q = let z : ◌≡◌ {A = ℕ} 0 1 = cc in absurd (omega arith)
lent-room n (wrote b) w q = go (leb (length b) n) refl q
  where
    go : (x : Bool) → leb (length b) n ≡ x → if_room x b ≡ wrote w → length w ≤ n
    go true e q = let s : b ≡ w = cc in rw (← s) (leb-true (length b) n e)
    go false e q = let z : ◌≡◌ {A = ℕ} 0 1 = cc in absurd (omega arith)

-- A call that never writes so many bytes that their number could be taken for a refusal's.
abbrev pub Short : Answer → Type 0
Short a = (w : Bytes) → a ≡ wrote w → length w < 65536

-- What a call of the crates below said, as the tracker's number: it fits, and the tracker sees the answer.
module _ {a : Answer} {old new : Bytes} {w : Written} (p : Answers (lent (length old) a) old new w) where
  pub call_fits : Short a → reply_of w < 4294967296
  call_fits h = reply-fits p (λ b e. h b (lent-wrote (length old) a b e))

  pub call-seen : {r : ℕ} → r ≡ reply_of w → Sees a old new r
  call-seen e = record { number = reply-is p e; bytes = p.output }

module _ {a : Answer} {old new : Bytes} {r : ℕ} (s : Sees a old new r) where
  pub sees-refused : {e : Refusal} → lent (length old) a ≡ refused e → Refuses e old new r
  unfolding reply output_after
  sees-refused q = record { number = s.number ∙ ap reply q; kept = s.bytes ∙ ap (λ (b : Answer). output_after b old) q }

  pub sees-wrote : Short a → {w : Bytes} → lent (length old) a ≡ wrote w → Writes w old new r
  unfolding reply output_after
  sees-wrote h {w} q =
      let number : r ≡ length w = s.number ∙ ap reply q in
      let bytes : new ≡ w ++ drop (length w) old = s.bytes ∙ ap (λ (b : Answer). output_after b old) q in
      let few : length w < 65536 = h w (lent-wrote (length old) a w q) in
      let room : length w ≤ length old = lent-room (length old) a w q in
      record {
        number = number;
        below = omega arith;
        front = rw (number, bytes) (take_at w (drop (length w) old) (length w) refl);
        kept = rw (number, bytes) (drop_at w (drop (length w) old) (length w) refl);
        same = rw (bytes, length-append, length-drop) (omega arith);
      }

  -- The number of a refusal is returned exactly where the call refuses by it, and a number below 65,536 exactly where it writes.
  pub refuses-exactly : Short a → (e : Refusal) → (r ≡ 65536 * number_of e) ↔ (lent (length old) a ≡ refused e)
  refuses-exactly h e = (λ q. go (lent (length old) a) refl q, λ q. (sees-refused q).number)
    where
      go : (b : Answer) → lent (length old) a ≡ b → r ≡ 65536 * number_of e → lent (length old) a ≡ refused e
      go (refused f) is q =
          let k : number_of f ≡ number_of e = omega (arith, (sees-refused is).number) in
          is ∙ ap refused (same_number f e k)
      go (wrote w) is q = absurd (omega (arith, number-some e, (sees-wrote h is).below))

  pub writes-exactly : Short a → (r < 65536) ↔ ((w : Bytes) × (lent (length old) a ≡ wrote w))
  writes-exactly h = (λ q. go (lent (length old) a) refl q, λ q. (sees-wrote h q.1).below)
    where
      go : (b : Answer) → lent (length old) a ≡ b → r < 65536 → (w : Bytes) × (lent (length old) a ≡ wrote w)
      go (refused f) is q = absurd (omega (arith, (sees-refused is).number, number-some f))
      go (wrote w) is q = (w, is)

  -- "an answer or a numbered refusal", by a number of the call's
  pub call_ends : (Number : ℕ → Type 0) → Short a → ((e : Refusal) → lent (length old) a ≡ refused e → Number (number_of e)) → Ends Number old new r
  call_ends Number h own = go (lent (length old) a) refl
    where
      go : (b : Answer) → lent (length old) a ≡ b → Ends Number old new r
      go (refused e) is = refuses e (own e is) (sees-refused is)
      go (wrote w) is = answers w (sees-wrote h is)
