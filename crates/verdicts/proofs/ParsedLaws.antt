-- From a parsed rule to its verdict on the tables that the words hold.
-- Assumes nothing.
use mathlib.Core.Path.{◌≡◌}
use mathlib.Core.List.{List}
use mathlib.Core.Option.{some}
use Prim.Native.Nat.{ℕ, ◌≤◌}
use native.Mathlib.Omega.{arith}
use lib.ListN.{length}
use lib.Seq.{length-take-le}
use Rattle.answers.specs.declared.Refusal.{Refusal}
use Rattle.tables.specs.Tables.{Tables}
use Rattle.syntax.specs.Bytes.{Bytes}
use Rattle.syntax.specs.Rule.{Rule}
use Rattle.rules.specs.Accept.{refusal}
use Rattle.rules.specs.declared.Parsed.{Parsed}
use Rattle.rules.specs.Code.Parsed.{ParsedFrom}
use Rattle.values.proofs.BoundLaws.{accepted-within}
use Rattle.verdicts.specs.declared.Verdict.{Verdict}
use Rattle.verdicts.specs.Verdict.{refused_by, order_verdict, tree_verdict, accepted_verdict}
use Rattle.judging.specs.Code.Lent.{CaseBy, LentBy}
use Rattle.verdicts.specs.Code.Judging.{TablesAt, Loaded}
use Rattle.verdicts.proofs.LoadedLaws.{loaded-whole}

-- A refused rule has its refusal.
pub parsed-refused : (s : Bytes) {e : Refusal} → refusal s ≡ some e → (T : Tables) (order : Bytes) → refused_by e ≡ accepted_verdict T (refusal s) s order
unfolding accepted_verdict
parsed-refused s h T order = rw h

-- The slices of an accepted one hold it, and the verdict along the order is its verdict.
module _ {s : Bytes} {p : Parsed} (f : ParsedFrom s p) where
  pub parsed-few : p.count ≤ 8
  parsed-few = f.rule.few

  pub rule-case : {ts : List ℕ} {T : Tables} → TablesAt ts T → CaseBy ts p T f.rule.tree
  rule-case {T = T} H = record {
    world = record { fits = H.passes.sound.fits; words = H.words; kinds = f.rule.kinds; variables = f.rule.knows };
    holds = f.rule.holds;
    sorts = accepted-within T H.passes s f.rule.tree f.accepts f.rule.reads;
  }

  pub parsed-lent : {ts : List ℕ} → Loaded ts → length p.nodes ≡ 256 → length p.kinds ≡ 256 → length p.vars ≡ 8 → LentBy ts p
  parsed-lent L ln lk lv = record {
    lent = record {
      ready = record {
        whole = loaded-whole L;
        tidy = f.rule.tidy;
        kinded = omega (arith, f.rule.tidy.fits);
        below = f.rule.within;
      };
      small = omega (arith, f.rule.tidy.fits);
      few = omega (arith, length-take-le p.count p.vars (omega (arith, parsed-few)), parsed-few);
      nodes = f.rule.knows.below;
      tables = L.tables;
      rule = f.rule.tree;
      is_case = rule-case L.holds;
    };
    few = parsed-few;
  }

  pub parsed-judged : {ts : List ℕ} {T : Tables} (order : Bytes) {r : Verdict}
      → ((T : Tables) (ρ : Rule) → CaseBy ts p T ρ → r ≡ order_verdict T ρ order) → TablesAt ts T
      → r ≡ accepted_verdict T (refusal s) s order
  unfolding accepted_verdict tree_verdict
  parsed-judged {T = T} order g H = rw (f.accepts, f.rule.reads) (g T f.rule.tree (rule-case H))
