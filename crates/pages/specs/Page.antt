-- Document 02, N3, "The committee's whole page": what judging a page answers, sentence by sentence.
-- Assumes nothing.
use Rattle.std.specs.Prelude.{◌≡◌, Bool, true, false, cond, ◌&&◌, ◌||◌, List, [], ◌∷◌, ◌++◌, ℕ, suc, ◌+◌, ◌*◌, eqb, leb, ltb, length, drop}
use Rattle.std.proofs.Math.Option.{Option, none, some}
use Rattle.answers.specs.Refusal.{number_of}
use Rattle.answers.specs.declared.Refusal.{Refusal}
use Rattle.answers.specs.declared.Refusal.TheVariants.{ShortSheet, Page}
use Rattle.texts.specs.Pieces.{lines}
use Rattle.tables.specs.Tables.{Tables}
use Rattle.tables.specs.Bytes.{lowest_first}
use Rattle.tables.specs.Reading.{Reading, rejected, taken, tables_of}
use Rattle.syntax.specs.Bytes.{Bytes, same}
use Rattle.rules.specs.Accept.{refusal}
use Rattle.formulas.specs.Formulas.{formula_of}
use Rattle.formulas.specs.Quantifiers.{quantifier_part}
use Rattle.verdicts.specs.declared.Outcome.{Outcome}
use Rattle.verdicts.specs.declared.Outcome.TheVariants.{Held, Idle, Broken}
use Rattle.verdicts.specs.declared.Verdict.{Verdict}
use Rattle.verdicts.specs.Verdict.{word_number, turn_verdict, written}
use Rattle.std.specs.declared.result.Result.{Result}
use Rattle.std.specs.declared.result.Result.TheVariants.{Ok, Err}
use Rattle.pages.specs.declared.Refused.{Refused}

-- What judging a page answers: a refusal with a position, and nothing else ("A refused page carries counts 0 and no quantifier parts"), or the
-- bytes to be written.
pub data PageAnswer : Type 0 where
  refused_at : Refusal → ℕ → PageAnswer
  wrote : Bytes → PageAnswer

-- "A page is 1 to 32 lines in the form of `rules.txt`": `lines` of the page. 19: "no line or above 32".
abbrev pub page_limit : ℕ
page_limit = 32

unfoldable pub is_page : List Bytes → Bool
is_page ws = ltb 0 (length ws) && leb (length ws) page_limit

abbrev pub if_page : Bool → PageAnswer → PageAnswer
if_page true a = a
if_page false a = refused_at Page 0

-- "It is refused with the refusal number of its first refused line, and with that line's position, counted from 1": the answer a, unless one of these
-- lines is refused, the first of which has position k.
abbrev pub unless_refused : Option Refusal → ℕ → PageAnswer → PageAnswer
unless_refused (some e) k a = refused_at e k
unless_refused none k a = a

unfoldable pub past_lines : ℕ → List Bytes → PageAnswer → PageAnswer
past_lines k [] a = a
past_lines k (w ∷ ws) a = unless_refused (refusal w) k (past_lines (suc k) ws a)

-- "quantifier parts (a formula through its `:`; a lone `:` is one)": the quantifier part of a line is that of its formula.
abbrev pub part_in : Option Bytes → Bytes
part_in none = []
part_in (some f) = quantifier_part f

abbrev pub part_of : Bytes → Bytes
part_of w = part_in (formula_of w)

unfoldable pub parts_of : List Bytes → List Bytes
parts_of [] = []
parts_of (w ∷ ws) = part_of w ∷ parts_of ws

-- "the number of walks made, which is that of different quantifier parts on the page, by its own definition": how many of these parts are not among
-- those that stand before them.
unfoldable pub among : Bytes → List Bytes → Bool
among p [] = false
among p (q ∷ qs) = same p q || among p qs

unfoldable pub different_from : List Bytes → List Bytes → ℕ
different_from before [] = 0
different_from before (p ∷ ps) = cond (among p before) 0 1 + different_from (before ++ (p ∷ [])) ps

abbrev pub walks_of : List Bytes → ℕ
walks_of ws = different_from [] (parts_of ws)

-- "It carries each line's verdict, as when judged by itself, in the order 1, 2, .."
unfoldable pub verdicts_on : Tables → List Bytes → List Verdict
verdicts_on T [] = []
verdicts_on T (w ∷ ws) = turn_verdict T w ∷ verdicts_on T ws

-- "Otherwise it is broken if some line is broken, else idle if some line is idle, else held."
unfoldable pub some_line : Outcome → List Verdict → Bool
some_line o [] = false
some_line o (v ∷ vs) = eqb (word_number v.outcome) (word_number o) || some_line o vs

unfoldable pub page_outcome : List Verdict → Outcome
page_outcome vs = cond (some_line Broken vs) Broken (cond (some_line Idle vs) Idle Held)

-- "Its full and breaking counts are the sums over its lines."
unfoldable pub full_sum : List Verdict → ℕ
full_sum [] = 0
full_sum (v ∷ vs) = v.full + full_sum vs

unfoldable pub breaking_sum : List Verdict → ℕ
breaking_sum [] = 0
breaking_sum (v ∷ vs) = v.breaking + breaking_sum vs

-- The bytes: the page's word (0 held, 1 idle, 2 broken), full and breaking as words, the walks in one byte, and then for each line the 26 bytes
-- that a verdict is written as.
unfoldable pub line_bytes : List Verdict → Bytes
line_bytes [] = []
line_bytes (v ∷ vs) = written (word_number v.outcome) v ++ line_bytes vs

unfoldable pub page_bytes : ℕ → List Verdict → Bytes
page_bytes walks vs =
    word_number (page_outcome vs) ∷ (lowest_first 8 (full_sum vs) ++ (lowest_first 8 (breaking_sum vs) ++ (walks ∷ line_bytes vs)))

-- "Answers: 19 (page: no line or above 32) after the tables' checks and before any line's." "Every other refusal has position 0."
unfoldable pub accepted_page : Tables → List Bytes → PageAnswer
accepted_page T ws = if_page (is_page ws) (past_lines 1 ws (wrote (page_bytes (walks_of ws) (verdicts_on T ws))))

unfoldable pub page_by : Reading → List Bytes → PageAnswer
page_by (rejected e) ws = refused_at e 0
page_by (taken T) ws = accepted_page T ws

unfoldable pub page_of : Bytes → Bytes → PageAnswer
page_of tables page = page_by (tables_of tables) (lines page)

-- 17, after every other refusal: "lent output shorter than L", where it has n bytes.
abbrev pub if_page_room : Bool → Bytes → PageAnswer
if_page_room true b = wrote b
if_page_room false b = refused_at ShortSheet 0

unfoldable pub page_lent : ℕ → PageAnswer → PageAnswer
page_lent n (refused_at e p) = refused_at e p
page_lent n (wrote b) = if_page_room (leb (length b) n) b

-- The number that the tracker gets: L, or 65,536 × the refusal number + the position.
unfoldable pub page_reply : PageAnswer → ℕ
page_reply (refused_at e p) = 65536 * number_of e + p
page_reply (wrote b) = length b

-- A refusal keeps the lent bytes; success writes the first L and keeps the rest.
unfoldable pub page_after : PageAnswer → Bytes → Bytes
page_after (refused_at e p) old = old
page_after (wrote b) old = b ++ drop (length b) old

-- The case of the library's answer.
abbrev pub said_of : PageAnswer → Result ℕ Refused
said_of (refused_at e p) = Err (record { refusal = e; position = p })
said_of (wrote b) = Ok (length b)

-- A refusal of no line.
abbrev pub of_no_line : Refusal → Refused
of_no_line e = record { refusal = e; position = 0 }

-- The call with the answer a says r and turns the output old into new.
pub record PageAnswers (a : PageAnswer) (old new : Bytes) (r : Result ℕ Refused) : Type 0 where
  pub says : r ≡ said_of a
  pub output : new ≡ page_after a old
