-- What is answered of tables' bytes and a rule's text, by what is met first.
-- Assumes nothing.
use mathlib.Core.Path.{◌≡◌, refl}
use mathlib.Core.List.{List}
use mathlib.Core.Option.{Option, none, some}
use lib.ListN.{length}
use Prim.Native.Nat.{ℕ}
use Rattle.answers.specs.Answer.{Answer, refused, lent}
use Rattle.answers.specs.Written.{Answers}
use Rattle.answers.specs.declared.Refusal.{Refusal}
use Rattle.answers.specs.Written.{Written}
use Rattle.std.specs.declared.result.Result.TheVariants.{Err}
use Rattle.answers.proofs.AnswerLaws.{kept-refused}
use Rattle.tables.specs.Tables.{Tables}
use Rattle.tables.specs.Reading.{Reading, rejected, taken, tables_of}
use Rattle.syntax.specs.Bytes.{Bytes}
use Rattle.syntax.specs.Rule.{Rule}
use Rattle.rules.specs.Accept.{refusal}
use Rattle.rules.proofs.AcceptLaws.{accepted-rule}
use Rattle.verdicts.specs.Both.{Given, Met, bad_tables, bad_rule, good, of_both, of_texts}
use Rattle.verdicts.specs.Code.Judging.{AnswersOn}
use Rattle.verdicts.proofs.LoadedLaws.{Took}

pub met : (tables rule : Bytes) → Met tables rule
met tables rule = go (tables_of tables) (refusal rule) refl refl
  where
    go : (t : Reading) (r : Option Refusal) → tables_of tables ≡ t → refusal rule ≡ r → Met tables rule
    go (rejected e) r p q = bad_tables e p
    go (taken T) (some e) p q = bad_rule T e p q
    go (taken T) none p q = let (ρ, h, _) = accepted-rule rule q in good T ρ (record { reads = p; accepts = q; tree = h })

module _ (tables rule : Bytes) (f : Tables → Rule → Answer) where
  pub tables-refused : {e : Refusal} → tables_of tables ≡ rejected e → of_texts tables rule f ≡ refused e
  unfolding of_both
  tables-refused t = rw t

  pub rule-refused : {T : Tables} {e : Refusal} → tables_of tables ≡ taken T → refusal rule ≡ some e → of_texts tables rule f ≡ refused e
  unfolding of_both
  rule-refused t r = rw (t, r)

  pub given-answers : {T : Tables} {ρ : Rule} → Given tables rule T ρ → of_texts tables rule f ≡ f T ρ
  unfolding of_both
  given-answers g = rw (g.reads, g.accepts, g.tree)

  -- The same of what is said and written: of tables that are refused, and of those that the words hold.
  pub both-refused : {e : Refusal} (old : Bytes) → tables_of tables ≡ rejected e → Answers (lent (length old) (of_texts tables rule f)) old old (Err e)
  both-refused {e} old t = rw (tables-refused t) (kept-refused (length old) old e)

  pub both-taken : {ts : List ℕ} {old new : Bytes} {w : Written} (q : Took tables ts) → AnswersOn ts rule f old new w
      → Answers (lent (length old) (of_texts tables rule f)) old new w
  both-taken q p = rw q.is (p q.tables q.holds)
