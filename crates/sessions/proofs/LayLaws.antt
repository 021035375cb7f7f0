-- Pieces that are added one behind the other, and the parts of a state.
-- Assumes nothing.
use mathlib.Core.Path.{◌≡◌, sym, ap, ◌∙◌}
use mathlib.Core.List.{◌++◌, append_assoc}
use Prim.Native.Nat.{ℕ, ◌+◌, ◌-◌, ◌≤◌}
use native.Mathlib.Omega.{arith}
use lib.ListN.{length, take, drop, length-append, length-drop, take-append-drop}
use lib.Seq.{take_all, length-take-le}
use Rattle.answers.specs.Answer.{wrote, lent}
use Rattle.answers.specs.Written.{Answers}
use Rattle.std.specs.declared.result.Result.TheVariants.{Ok}
use Rattle.answers.proofs.AnswerLaws.{lent_written}
use Rattle.tables.specs.Bytes.{lowest_first}
use Rattle.tables.proofs.BytesLaws.{lowest-length}
use Rattle.texts.specs.Code.Overwritten.{Overwritten, Added}
use Rattle.texts.proofs.OverwrittenLaws.{written-length, add-more}
use Rattle.syntax.specs.Bytes.{Bytes}
use Rattle.sessions.specs.State.{parts}

-- What is taken to the end is all there is; a part of bytes has the length that it was taken with.
pub to_end : (n : ℕ) (t : Bytes) → take (length t - n) (drop n t) ≡ drop n t
to_end n t = take_all (length t - n) (drop n t) (omega (arith, length-drop n t))

pub part_length : (i j : ℕ) (t : Bytes) → i + j ≤ length t → length (take j (drop i t)) ≡ j
part_length i j t l = length-take-le j (drop i t) (omega (arith, length-drop i t))

-- One piece and then another.
pub add-then : {v w old mid new : Bytes} {n m r : ℕ} → Added n v old mid m → Added m w mid new r → Added n (v ++ w) old new r
add-then {v} {w} {n = n} {m} p q = (
  q.0 ∙ ap (λ (k : ℕ). k + length w) p.0 ∙ omega (arith, length-append v w),
  λ x o h.
      let one : Overwritten (x ++ v) o _ m = rw (sym p.0) at (p.1 x o h) in
      let two = q.1 (x ++ v) o one in
      let e : m + length w ≡ n + length (v ++ w) = omega (arith, p.0, length-append v w) in
      rw (← e, ← append_assoc x v w) two,
)

-- What is added leaves the bytes as many.
pub added-length : {n r : ℕ} {w old new : Bytes} → n ≤ length old → Added n w old new r → length new ≡ length old
added-length {n} {old = old} l p =
    let many = length-take-le n old l in
    let front : Overwritten (take n old) old old n
    = record { count = sym many; bytes = sym (take-append-drop n old) ∙ ap (λ (m : ℕ). take n old ++ drop m old) (sym many); fits = omega arith } in
    written-length (p.1 (take n old) old front)

pub written-answer : {w old new : Bytes} {n : ℕ} → Overwritten w old new n → Answers (lent (length old) (wrote w)) old new (Ok n)
written-answer {w} {old} o = rw o.count (lent_written w old o.fits o.bytes)

-- The verdict, the rule and the tables make a state.
pub parts-written : (rule : Bytes) {head tables old a b new : Bytes} {i j r : ℕ} → Overwritten head old a i → Added i (lowest_first 2 (length rule) ++ rule) a b j → Added j tables b new r
    → Answers (lent (length old) (wrote (parts head rule tables))) old new (Ok r)
parts-written rule {head} {tables} p q x =
    let o = add-more (add-more p q) x in
    let e : (head ++ (lowest_first 2 (length rule) ++ rule)) ++ tables ≡ parts head rule tables
    = append_assoc head (lowest_first 2 (length rule) ++ rule) tables ∙ ap (λ (y : Bytes). head ++ y) (append_assoc (lowest_first 2 (length rule)) rule tables) in
    written-answer (rw e at o)

pub parts-length : (head rule tables : Bytes) → length (parts head rule tables) ≡ length head + 2 + length rule + length tables
parts-length head rule tables =
    omega (
      arith,
      length-append head (lowest_first 2 (length rule) ++ (rule ++ tables)),
      length-append (lowest_first 2 (length rule)) (rule ++ tables),
      lowest-length 2 (length rule),
      length-append rule tables,
    )

pub rule-length : (rule : Bytes) → length (lowest_first 2 (length rule) ++ rule) ≡ 2 + length rule
rule-length rule = omega (arith, length-append (lowest_first 2 (length rule)) rule, lowest-length 2 (length rule))
