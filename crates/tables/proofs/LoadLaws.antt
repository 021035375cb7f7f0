-- Laws of the whole reading: what follows the sections, in the order 10, 20, 7, 8, 9.
-- Assumes nothing.
use mathlib.Core.Path.{◌≡◌, refl, sym, ap, ◌∙◌}
use mathlib.Core.Bool.{Bool, true, false}
use mathlib.Core.List.{List, [], ◌∷◌}
use mathlib.Core.Logic.{◌⊎◌, inl, inr}
use Prim.Native.Nat.{ℕ, ◌≤◌, ◌<◌}
use native.Mathlib.Omega.{arith}
use lib.Dec.{ltb}
use lib.ListN.{length, drop, length-drop, replicate}
use borrow.Author.Tests.{lt-ltb, le-ltb}
use Rattle.std.specs.Result.{OnOk}
use Rattle.answers.specs.declared.Refusal.{Refusal}
use Rattle.answers.specs.declared.Refusal.TheVariants.{LeftOver, Left}
use Rattle.answers.specs.Refusal.{number_of}
use Rattle.answers.specs.Outcome.{Outcome, outcome_number, passes, refuses}
use Rattle.std.specs.declared.result.Result.TheVariants.{Ok, Err}
use Rattle.tables.specs.Tables.{Tables}
use Rattle.tables.specs.Accepted.{Every, Sound}
use Rattle.tables.specs.Checks.{Check, late_checks, first_failing, late}
use Rattle.tables.specs.Reading.{Bytes, stop, took, next, refuse, sections, nothing_left, settle, whole, rejected, taken, tables_of, words_of, Reading}
use Rattle.tables.specs.Reading.{reading_number}
use Rattle.tables.specs.Flat.{whole_length, flat}
use Rattle.tables.specs.Code.Reads.{reading_outcome, Filled}
use Rattle.answers.proofs.AnswerLaws.{number-some, same_number}
use Rattle.tables.proofs.ReadLaws.{Got}
use Rattle.tables.proofs.FitsLaws.{sections-sound}
use Rattle.tables.proofs.LaidLaws.{filled-flat}

pub never : {A : Type 0} {e : Refusal} → refuses e ≡ passes → A
never q = let z : ◌≡◌ {A = ℕ} 0 1 = cc in absurd (omega arith)

pub on-ok : (o : Outcome) {P : Type 0} → (o ≡ passes → P) → OnOk o P
on-ok (Err e) h = tt
on-ok (Ok tt) h = h refl

pub load-stop : (b : Bytes) {e : Refusal} → sections b ≡ stop e → tables_of b ≡ rejected e
unfolding tables_of whole next
load-stop b q = rw q

pub left_over : (b : Bytes) {T : Tables} {t : Bytes} → sections b ≡ took T t → 0 < length t → tables_of b ≡ rejected LeftOver
unfolding tables_of whole next nothing_left refuse
left_over b {T} {t} q l = rw (q, lt-ltb 0 (length t) l)

-- The numbers that tables are refused by: 1 to 10, and 20. Once the sections are read, it is none below 7.
abbrev pub OfTables : Refusal → Type 0
OfTables e = (number_of e ≤ 10) ⊎ (number_of e ≡ number_of Left)

abbrev Late : Refusal → Type 0
Late e = (7 ≤ number_of e) × OfTables e

failing-late : (cs : List Check) → Every (λ c. Late c.refusal) cs → {e : Refusal} → first_failing cs ≡ Err e → Late e
unfolding first_failing
failing-late [] h q = never (sym q)
failing-late (c ∷ cs) h {e} q = go c.holds refl (λ k. failing-late cs h.1 k)
  where
    go : (b : Bool) → c.holds ≡ b → (first_failing cs ≡ Err e → Late e) → Late e
    go true k on = on (rw k at q)
    go false k on = let d : c.refusal ≡ e = cc (rw k at q) in rw (← d) h.0

late-refusals : (T : Tables) → Every (λ c. Late c.refusal) (late_checks T)
unfolding late_checks
late-refusals T =
    ((omega arith, inr refl), ((omega arith, inl (omega arith)), ((omega arith, inl (omega arith)), ((omega arith, inl (omega arith)), tt))))

pub late-refusal : (b : Bytes) {T : Tables} {t : Bytes} {e : Refusal} → sections b ≡ took T t → tables_of b ≡ rejected e → Late e
unfolding tables_of whole next nothing_left refuse settle
late-refusal b {T} {t} {e} q h = go (ltb 0 (length t)) (late T) refl refl
  where
    go : (w : Bool) (o : Outcome) → ltb 0 (length t) ≡ w → late T ≡ o → Late e
    go true o e₀ e₁ = let d : LeftOver ≡ e = cc (rw (q, e₀) at h) in rw (← d) (omega arith, inl (omega arith))
    go false (Err f) e₀ e₁ = let d : f ≡ e = cc (rw (q, e₀, e₁) at h) in rw d at (failing-late (late_checks T) (late-refusals T) e₁)
    go false (Ok tt) e₀ e₁ = let o : ◌≡◌ {A = ℕ} 0 1 = cc (rw (q, e₀, e₁) at h) in absurd (omega arith)

module _ (b : Bytes) {T : Tables} {n : ℕ} (q : sections b ≡ took T (drop n b)) where
  pub load-left : n < length b → tables_of b ≡ rejected LeftOver
  load-left l = left_over b q (rw length-drop (omega arith))

  module _ (l : length b ≤ n) where
    none : ltb 0 (length (drop n b)) ≡ false
    none = le-ltb 0 (length (drop n b)) (rw length-drop (omega arith))

    pub late-taken : late T ≡ passes → tables_of b ≡ taken T
    unfolding tables_of whole next nothing_left refuse settle
    late-taken h = rw (q, none, h)

    pub late-outcome : late T ≡ reading_outcome (tables_of b)
    unfolding tables_of whole next nothing_left refuse settle
    late-outcome = go (late T) refl
      where
        go : (o : Outcome) → late T ≡ o → late T ≡ reading_outcome (tables_of b)
        go (Err f) e = rw (q, none, e)
        go (Ok tt) e = rw (q, none, e)

-- The sections end in one way only: a refusal, bytes left over, or nothing behind them.
module _ (b : Bytes) {T : Tables} (q : sections b ≡ took T []) where
  pub read_left : {S : Tables} {n : ℕ} {A : Type 0} → sections b ≡ took S (drop n b) → n < length b → A
  read_left {n = n} p l = let z : drop n b ≡ [] = cc in absurd (omega (arith, ap length z, length-drop n b))

  pub read-once : {S : Tables} {t : Bytes} → sections b ≡ took S t → S ≡ T
  read-once p = cc

-- What reading the sections into empty words gives.
pub record Stored (b : Bytes) (new : List ℕ) (n : ℕ) : Type 0 where
  pub tables : Tables
  pub reads : sections b ≡ took tables (drop n b)
  pub sound : Sound tables
  pub flatly : new ≡ flat tables

pub whole_of : {b : Bytes} {old new : List ℕ} {v n : ℕ} → old ≡ replicate whole_length 0 → Got b (Filled old new) v n (sections b) → Stored b new n
whole_of {b} e g =
    let x = sections-sound b g.reads in
    record { tables = g.value; reads = g.reads; sound = x; flatly = filled-flat x.fits (rw e at g.holds) }

pub refused-one : {f e : Refusal} → refuses f ≡ refuses e → f ≡ e
refused-one q = cc

pub refused_as : (R : Reading) {o : Outcome} {e : Refusal} → o ≡ reading_outcome R → o ≡ Err e → R ≡ rejected e
refused_as (rejected f) p q = ap rejected (refused-one (sym p ∙ q))
refused_as (taken T) p q = never (sym q ∙ p)

-- Refused tables have no words.
pub refused-words : (r : Reading) {o : Outcome} {e : Refusal} → o ≡ reading_outcome r → o ≡ Err e → replicate whole_length 0 ≡ words_of r
refused-words (rejected e) p q = refl
refused-words (taken T) p q = never (sym q ∙ p)

-- The number of an outcome says which case it is.
pub outcome-number : (R : Reading) {o : Outcome} → o ≡ reading_outcome R → outcome_number o ≡ reading_number R
outcome-number (rejected e) q = rw q
outcome-number (taken T) q = rw q

pub outcome-case : (R : Reading) (o : Outcome) → outcome_number o ≡ reading_number R → o ≡ reading_outcome R
outcome-case (rejected e) (Err f) q = ap Err (same_number f e q)
outcome-case (rejected e) (Ok tt) q = absurd (omega (arith, number-some e))
outcome-case (taken T) (Err f) q = absurd (omega (arith, number-some f))
outcome-case (taken T) (Ok tt) q = refl
