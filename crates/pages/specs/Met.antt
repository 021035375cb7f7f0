-- What judging a page meets first: refused tables, another number of lines, a refused line, or a page that is admitted (document 02, N3).
-- Assumes nothing.
use Rattle.std.specs.Prelude.{◌≡◌, List, ℕ, ◌≤◌, ◌<◌, length}
use Rattle.std.proofs.Math.Option.{none, some}
use Rattle.std.proofs.Math.ListN.{get_elem?}
use Rattle.answers.specs.declared.Refusal.{Refusal}
use Rattle.texts.specs.Pieces.{lines}
use Rattle.tables.specs.Tables.{Tables}
use Rattle.tables.specs.Reading.{rejected, taken, tables_of}
use Rattle.syntax.specs.Bytes.{Bytes}
use Rattle.rules.specs.Accept.{refusal}
use Rattle.pages.specs.Page.{page_limit}

-- "A page is 1 to 32 lines"
pub record Sized (ws : List Bytes) : Type 0 where
  pub some_line : 0 < length ws
  pub few : length ws ≤ page_limit

-- Line k, from 0, is "its first refused line", refused by e.
pub record FirstRefused (ws : List Bytes) (k : ℕ) (e : Refusal) : Type 0 where
  pub line : Bytes
  pub there : get_elem? ws k ≡ some line
  pub refused : refusal line ≡ some e
  pub before : (j : ℕ) (w : Bytes) → j < k → get_elem? ws j ≡ some w → refusal w ≡ none

-- The tables are accepted as T, and so is every line of the page.
pub record PageAdmitted (tables page : Bytes) (T : Tables) : Type 0 where
  pub reads : tables_of tables ≡ taken T
  pub sized : Sized (lines page)
  pub accepts : (j : ℕ) (w : Bytes) → get_elem? (lines page) j ≡ some w → refusal w ≡ none

-- "19 .. after the tables' checks and before any line's"
pub data PageMet (tables page : Bytes) : Type 0 where
  bad_tables : (e : Refusal) → tables_of tables ≡ rejected e → PageMet tables page
  bad_size : (T : Tables) → tables_of tables ≡ taken T → (Sized (lines page) → ⊥) → PageMet tables page
  bad_line : (T : Tables) (k : ℕ) (e : Refusal) → tables_of tables ≡ taken T → Sized (lines page) → FirstRefused (lines page) k e → PageMet tables page
  good : (T : Tables) → PageAdmitted tables page T → PageMet tables page
