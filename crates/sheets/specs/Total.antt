-- Document 02, N1: the foot of the day sheet. "Print a last line `total L held H idle I broken B refused R`."
-- Assumes nothing.
use Rattle.std.specs.Prelude.{Bool, true, false, List, [], ◌∷◌, ◌++◌, ℕ, ◌+◌, length}
use Rattle.syntax.specs.Bytes.{Bytes, ascii}
use Rattle.tables.specs.Tables.{Tables}
use Rattle.verdicts.specs.Verdict.{turn_verdict}
use Rattle.verdicts.specs.declared.Outcome.{Outcome}
use Rattle.verdicts.specs.declared.Outcome.TheVariants.{Refused, Held, Idle, Broken}
use Rattle.sheets.specs.declared.total.Total.{Total}
use Rattle.sheets.specs.Line.{labelled}

-- The four words, by the outcome of a line.
abbrev pub is_held : Outcome → Bool
is_held (Refused e) = false
is_held Held = true
is_held Idle = false
is_held Broken = false

abbrev pub is_idle : Outcome → Bool
is_idle (Refused e) = false
is_idle Held = false
is_idle Idle = true
is_idle Broken = false

abbrev pub is_broken : Outcome → Bool
is_broken (Refused e) = false
is_broken Held = false
is_broken Idle = false
is_broken Broken = true

abbrev pub is_refused : Outcome → Bool
is_refused (Refused e) = true
is_refused Held = false
is_refused Idle = false
is_refused Broken = false

abbrev pub one_if : Bool → ℕ
one_if true = 1
one_if false = 0

-- How many of the rules have an outcome of this kind.
unfoldable pub how_many : (Outcome → Bool) → Tables → List Bytes → ℕ
how_many is T [] = 0
how_many is T (w ∷ ws) = one_if (is (turn_verdict T w).outcome) + how_many is T ws

-- "L is the number of lines in `rules.txt`; each other number is how many lines above carry that word."
abbrev pub total_of : Tables → List Bytes → Total
total_of T ws = record {
  lines = length ws;
  held = how_many is_held T ws;
  idle = how_many is_idle T ws;
  broken = how_many is_broken T ws;
  refused = how_many is_refused T ws;
}

unfoldable pub total_text : Total → Bytes
total_text t =
    labelled (ascii "total ") t.lines
    ++ labelled (ascii " held ") t.held
    ++ labelled (ascii " idle ") t.idle
    ++ labelled (ascii " broken ") t.broken
    ++ labelled (ascii " refused ") t.refused
