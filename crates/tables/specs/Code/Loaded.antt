-- What words hold that the tables were read into.
-- Internal: contracts of entry points do not speak of it. Assumes nothing.
use Rattle.std.specs.Prelude.{◌≡◌, List, ℕ}
use Rattle.tables.specs.Tables.{Tables}
use Rattle.tables.specs.Flat.{flat}
use Rattle.tables.specs.Accepted.{Passes}

-- The words hold the tables T, which pass the checks;
pub record TablesAt (ts : List ℕ) (T : Tables) : Type 0 where
  pub passes : Passes T
  pub words : ts ≡ flat T

-- some such tables.
pub record Loaded (ts : List ℕ) : Type 0 where
  pub tables : Tables
  pub holds : TablesAt ts tables
