-- What the code says of a change by the words of the tables, and what it leaves in them.
-- Internal: contracts of entry points do not speak of it. Assumes nothing.
use Rattle.std.specs.Prelude.{◌≡◌, List, ℕ, suc, ◌≤◌, ◌<◌, length, get_or}
use Rattle.std.proofs.Math.Option.{Option, none, some}
use Rattle.answers.specs.declared.Refusal.{Refusal}
use Rattle.tables.specs.Tables.{Tables}
use Rattle.tables.specs.Code.Loaded.{TablesAt}
use Rattle.answers.specs.Outcome.{Outcome}
use Rattle.std.specs.declared.result.Result.TheVariants.{Ok, Err}
use Rattle.changes.specs.declared.Change.{Change}
use Rattle.changes.specs.Change.{changed, change_refusal}

-- What refuses the change of the tables that the words hold.
abbrev pub due_in : Outcome → Option Refusal
due_in (Err e) = some e
due_in (Ok tt) = none

abbrev pub DueBy : List ℕ → Change → Outcome → Type 0
DueBy ts c r = (T : Tables) → TablesAt ts T → due_in r ≡ change_refusal T c

-- The words hold tables that nothing refuses the change of.
pub record Ready (ts : List ℕ) (c : Change) : Type 0 where
  pub tables : Tables
  pub holds : TablesAt ts tables
  pub free : change_refusal tables c ≡ none

-- Whatever such tables the old words held, the new ones hold them changed.
abbrev pub Makes : List ℕ → Change → List ℕ → Type 0
Makes old c new = (T : Tables) → TablesAt old T → change_refusal T c ≡ none → TablesAt new (changed T c)

-- The words behind `from` and before `to` have moved down by one, and 0 stands in the last place.
pub record ClosedUp (from to : ℕ) (old new : List ℕ) : Type 0 where
  pub same : length new ≡ length old
  pub before : (j : ℕ) → j < from → get_or new j 0 ≡ get_or old j 0
  pub moved : (j : ℕ) → from ≤ j → suc j < to → get_or new j 0 ≡ get_or old (suc j) 0
  pub last : (j : ℕ) → from ≤ j → suc j ≡ to → get_or new j 0 ≡ 0
  pub behind : (j : ℕ) → to ≤ j → get_or new j 0 ≡ get_or old j 0
