-- Document 01, "Day sheet": the line of one rule, from its place and its verdict.
-- Assumes nothing.
use Rattle.std.specs.Prelude.{Bool, true, false, List, [], ◌∷◌, ◌++◌, ℕ, suc, eqb}
use Rattle.answers.specs.Refusal.{number_of}
use Rattle.syntax.specs.Bytes.{Bytes, ascii}
use Rattle.texts.specs.Decimal.{decimal_of}
use Rattle.verdicts.specs.declared.Outcome.{Outcome}
use Rattle.verdicts.specs.declared.Outcome.TheVariants.{Refused, Held, Idle, Broken}
use Rattle.verdicts.specs.declared.Verdict.{Verdict}

-- A number behind a text; the text brings the "one blank between fields".
abbrev pub labelled : Bytes → ℕ → Bytes
labelled w n = w ++ decimal_of n

-- "then if broken each `vi=item` by variable number"; a choice has 255 where it is unused.
abbrev pub unless : Bool → Bytes → Bytes
unless true w = []
unless false w = w

unfoldable pub choices_from : ℕ → List ℕ → Bytes
choices_from i [] = []
choices_from i (x ∷ xs) = unless (eqb x 255) ((labelled (ascii " v") i ++ labelled (ascii "=") x) ++ choices_from (suc i) xs)

-- "verdict, full, breaking", "share (`-` if idle)"
unfoldable pub counts_of : Bytes → Verdict → Bytes
counts_of word v = labelled word v.full ++ labelled (ascii " ") v.breaking

unfoldable pub shared_of : Bytes → Verdict → Bytes
shared_of word v = counts_of word v ++ labelled (ascii " ") v.share

-- "Each line: line number, verdict, full, breaking, share .. ; or line number, `refused`, number."
unfoldable pub says_of : Outcome → Verdict → Bytes
says_of (Refused e) v = labelled (ascii " refused ") (number_of e)
says_of Held v = shared_of (ascii " held ") v
says_of Idle v = counts_of (ascii " idle ") v ++ ascii " -"
says_of Broken v = shared_of (ascii " broken ") v ++ choices_from 1 v.first

abbrev pub line_text : ℕ → Verdict → Bytes
line_text place v = decimal_of place ++ says_of v.outcome v
