-- The tallies of a page's lines side by side, the verdicts that they are, and what is written of them.
-- Internal: contracts of entry points do not speak of it. Assumes nothing.
use Rattle.std.specs.Prelude.{◌≡◌, cond, List, [], ◌∷◌, ◌++◌, ℕ, ◌*◌, ◌^◌, ◌≤◌, ◌<◌, ltb, length, get_or, take, drop}
use Rattle.std.proofs.Math.Option.{some}
use Rattle.std.proofs.Math.ListN.{get_elem?}
use Rattle.answers.specs.Answer.{wrote, lent}
use Rattle.answers.specs.Written.{Answers}
use Rattle.answers.specs.Written.{Written}
use Rattle.std.specs.declared.result.Result.TheVariants.{Ok, Err}
use Rattle.tables.specs.Tables.{Tables}
use Rattle.tables.specs.Bytes.{lowest_first}
use Rattle.texts.specs.Pieces.{lines}
use Rattle.syntax.specs.Bytes.{Bytes}
use Rattle.walks.specs.declared.Tally.{Tally}
use Rattle.verdicts.specs.declared.Verdict.{Verdict}
use Rattle.verdicts.specs.Verdict.{word_number, turn_verdict}
use Rattle.verdicts.specs.Code.Judging.{TablesAt, ruled_by}
use Rattle.pages.specs.Page.{accepted_page, page_lent, PageAnswers, page_limit, verdicts_on, page_outcome, full_sum, breaking_sum, page_bytes}
use Rattle.pages.specs.Page.{wrote as wrote_page}
use Rattle.pages.specs.Code.Parts.{line_at}
use Rattle.std.specs.declared.result.Result.{Result}
use Rattle.pages.specs.declared.Refused.{Refused}
use Rattle.pages.specs.declared.writing.Sums.{Sums}

-- The tally of line j: two counts, and 8 bytes of the first breaking choice.
abbrev pub choice_room : ℕ
choice_room = 8

abbrev pub tally_at : List ℕ → List ℕ → List ℕ → ℕ → Tally
tally_at fulls breakings firsts j = record {
  full = get_or fulls j 0;
  breaking = get_or breakings j 0;
  first = take choice_room (drop (j * choice_room) firsts);
}

-- There is room for the tallies of a page.
pub record Lanes (fulls breakings firsts : List ℕ) : Type 0 where
  pub for_fulls : length fulls ≡ page_limit
  pub for_breakings : length breakings ≡ page_limit
  pub for_firsts : length firsts ≡ page_limit * choice_room

-- Whatever tables the words hold, the tallies of the first k lines are their verdicts in turn.
pub record TalliesOn (ts : List ℕ) (page : Bytes) (k : ℕ) (fulls breakings firsts : List ℕ) : Type 0 where
  pub of : (T : Tables) → TablesAt ts T → (j : ℕ) → j < k → turn_verdict T (line_at page j) ≡ ruled_by (tally_at fulls breakings firsts j)

-- No breaking choice is more than full, and no line has more full choices than 64 items for 8 variables have.
pub record Fits (full breaking : ℕ) : Type 0 where
  pub part : breaking ≤ full
  pub few : full ≤ 64 ^ 8

abbrev pub AllFit : ℕ → List ℕ → List ℕ → Type 0
AllFit many fulls breakings = (j : ℕ) → j < many → Fits (get_or fulls j 0) (get_or breakings j 0)

-- The tallies are those of the verdicts vs.
pub record Rows (vs : List Verdict) (fulls breakings firsts : List ℕ) (many : ℕ) : Type 0 where
  pub count : length vs ≡ many
  pub row : (j : ℕ) → j < many → get_elem? vs j ≡ some (ruled_by (tally_at fulls breakings firsts j))

-- The greater word.
abbrev pub worse_of : ℕ → ℕ → ℕ
worse_of a b = cond (ltb a b) b a

-- The page's word and its counts.
pub record Summed (vs : List Verdict) (r : Sums) : Type 0 where
  pub word : r.word ≡ word_number (page_outcome vs)
  pub full : r.full ≡ full_sum vs
  pub breaking : r.breaking ≡ breaking_sum vs

-- The first 18 bytes of a page.
abbrev pub head_room : ℕ
head_room = 18

abbrev pub head_bytes : Sums → ℕ → Bytes
head_bytes s walks = s.word ∷ (lowest_first 8 s.full ++ (lowest_first 8 s.breaking ++ (walks ∷ [])))

-- The page of the verdicts is written.
abbrev pub WritesPage : List ℕ → List ℕ → List ℕ → ℕ → ℕ → Bytes → Bytes → Written → Type 0
WritesPage fulls breakings firsts many walks old new r =
    (vs : List Verdict) → Rows vs fulls breakings firsts many → Answers (lent (length old) (wrote (page_bytes walks vs))) old new r

-- Whatever tables the words hold, an accepted page is answered.
abbrev pub JudgesLines : List ℕ → Bytes → ℕ → Bytes → Bytes → Result ℕ Refused → Type 0
JudgesLines ts page walks old new r =
    (T : Tables) → TablesAt ts T → PageAnswers (page_lent (length old) (wrote_page (page_bytes walks (verdicts_on T (lines page))))) old new r

-- Whatever tables the words hold, the page is answered.
abbrev pub JudgesPageOn : List ℕ → Bytes → Bytes → Bytes → Result ℕ Refused → Type 0
JudgesPageOn ts page old new r = (T : Tables) → TablesAt ts T → PageAnswers (page_lent (length old) (accepted_page T (lines page))) old new r
