-- What reading the tables said: they are refused, or taken, and then the words hold them.
-- Assumes nothing.
use mathlib.Core.Path.{◌≡◌, refl, sym, ap, ◌∙◌}
use mathlib.Core.List.{List}
use Prim.Native.Nat.{ℕ}
use native.Mathlib.Omega.{arith}
use lib.ListN.{length}
use Rattle.answers.specs.declared.Refusal.{Refusal}
use Rattle.tables.specs.Tables.{Tables}
use Rattle.tables.specs.Accepted.{Fits}
use Rattle.tables.specs.Flat.{flat}
use Rattle.tables.specs.Code.Layout.{Whole}
use Rattle.tables.specs.Reading.{Reading, rejected, taken, tables_of, words_of, loaded_of}
use Rattle.tables.specs.Code.Reads.{reading_outcome}
use Rattle.answers.specs.Outcome.{Outcome, passes}
use Rattle.std.specs.Result.{OnOk}
use Rattle.std.specs.declared.result.Result.{Result}
use Rattle.std.specs.declared.result.Result.TheVariants.{Ok, Err}
use Rattle.tables.proofs.FlatLaws.{length-flat}
use Rattle.tables.proofs.LoadLaws.{refused_as}
use Rattle.tables.proofs.OneLaws.{tables-one}
use Rattle.tables.proofs.FitsLaws.{accepted-passes}
use Rattle.syntax.specs.Bytes.{Bytes}
use Rattle.rules.specs.Accept.{refusal}
use Rattle.verdicts.specs.declared.Verdict.{Verdict}
use Rattle.verdicts.specs.Verdict.{accepted_verdict, tables_verdict, verdict_of}
use Rattle.verdicts.specs.Code.Judging.{TablesAt, Loaded}

pub record Took (b : Bytes) (ts : List ℕ) : Type 0 where
  pub tables : Tables
  pub is : tables_of b ≡ taken tables
  pub holds : TablesAt ts tables

pub took-loaded : {b : Bytes} {ts : List ℕ} → Took b ts → Loaded ts
took-loaded q = record { tables = q.tables; holds = q.holds }

pub loaded-whole : {ts : List ℕ} → Loaded ts → Whole ts
loaded-whole l = ap length l.holds.words ∙ length-flat l.tables

-- Whatever tables loaded words hold pass the checks: the words are those of no others.
pub all_pass : {ts : List ℕ} (T : Tables) → Loaded ts → Fits T → ts ≡ flat T → TablesAt ts T
all_pass T L F w = rw (tables-one T L.tables (sym w ∙ L.holds.words) F L.holds.passes.sound) L.holds

-- What `tables::load` says, by its case.
module _ (b : Bytes) {o : Outcome} (said : o ≡ reading_outcome (tables_of b)) where
  pub load-rejected : {e : Refusal} → o ≡ Err e → tables_of b ≡ rejected e
  load-rejected h = refused_as (tables_of b) said h

  pub load-taken : {ts : List ℕ} → OnOk o (ts ≡ words_of (tables_of b)) → o ≡ passes → Took b ts
  load-taken {ts} w h = go (tables_of b) refl (sym said ∙ h)
    where
      go : (q : Reading) → tables_of b ≡ q → reading_outcome q ≡ passes → Took b ts
      go (rejected p) e k = let z : ◌≡◌ {A = ℕ} 0 1 = cc in absurd (omega arith)
      go (taken T) e k = record { tables = T; is = e; holds = record { passes = accepted-passes b e; words = (rw h at w) ∙ ap words_of e } }

-- What `tables::read` says, by its case.
module _ (b : Bytes) {o : Result (List ℕ) Refusal} (said : o ≡ loaded_of (tables_of b)) where
  pub read-rejected : {e : Refusal} → o ≡ Err e → tables_of b ≡ rejected e
  read-rejected {e} h = go (tables_of b) refl (sym said ∙ h)
    where
      go : (q : Reading) → tables_of b ≡ q → loaded_of q ≡ Err e → tables_of b ≡ rejected e
      go (rejected p) i k = let z : p ≡ e = cc in i ∙ ap rejected z
      go (taken T) i k = let z : ◌≡◌ {A = ℕ} 0 1 = cc in absurd (omega arith)

  pub read-taken : {ts : List ℕ} → o ≡ Ok ts → Took b ts
  read-taken {ts} h = go (tables_of b) refl (sym said ∙ h)
    where
      go : (q : Reading) → tables_of b ≡ q → loaded_of q ≡ Ok ts → Took b ts
      go (rejected p) i k = let z : ◌≡◌ {A = ℕ} 0 1 = cc in absurd (omega arith)
      go (taken T) i k = let z : flat T ≡ ts = cc in record { tables = T; is = i; holds = record { passes = accepted-passes b i; words = sym z } }

-- On tables that are taken the verdict is that of the rule and the order.
pub took-judged : {b : Bytes} {ts : List ℕ} (q : Took b ts) (s order : Bytes) {r : Verdict} → r ≡ accepted_verdict q.tables (refusal s) s order → r ≡ verdict_of b s order
unfolding verdict_of tables_verdict
took-judged q s order e = rw q.is e
