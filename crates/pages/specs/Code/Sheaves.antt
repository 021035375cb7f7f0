-- Lines of a page that share a walk: gathered into one rule, counted together, and the counts put in the lines' places.
-- Internal: contracts of entry points do not speak of it. Assumes nothing.
use Rattle.std.specs.Prelude.{◌≡◌, true, false, List, ℕ, ◌+◌, ◌^◌, ◌<◌, ◌≤◌, length, get_or}
use Rattle.std.proofs.Math.Option.{none, some}
use Rattle.words.specs.Words.{has, join_of}
use Rattle.tables.specs.Tables.{Tables}
use Rattle.texts.specs.Pieces.{lines}
use Rattle.syntax.specs.Bytes.{Bytes}
use Rattle.syntax.specs.Rule.{Rule, rule_of}
use Rattle.rules.specs.Accept.{choices_limit, refusal}
use Rattle.rules.specs.declared.Parsed.{Parsed}
use Rattle.values.specs.Code.Plan.{plan_room}
use Rattle.judging.specs.Code.Lent.{CaseBy}
use Rattle.verdicts.specs.Verdict.{full_count, breaking_count}
use Rattle.verdicts.specs.Code.Judging.{TablesAt}
use Rattle.sharing.specs.Code.Part.{Part}
use Rattle.sharing.specs.Code.Gathering.{gather_room, start_of, Sheaf, Bound}
use Rattle.sharing.specs.Code.Together.{full_of, breaking_of}
use Rattle.pages.specs.Page.{page_limit}
use Rattle.pages.specs.Code.Parts.{line_at}
use Rattle.pages.specs.declared.sheaves.Gathered.{Gathered}

-- The word has lines below `many` only.
pub record LinesOf (w many : ℕ) : Type 0 where
  pub small : w < 2 ^ 64
  pub inside : (j : ℕ) → has w j ≡ true → j < many

-- So it has, and those lines are accepted.
pub record Wanted (page : Bytes) (w : ℕ) : Type 0 where
  pub small : w < 2 ^ 64
  pub few : length (lines page) ≤ page_limit
  pub inside : (j : ℕ) → has w j ≡ true → j < length (lines page)
  pub accepted : (j : ℕ) → has w j ≡ true → refusal (line_at page j) ≡ none

-- There is room to gather in.
pub record Arrays (nodes list vars starts members : List ℕ) : Type 0 where
  pub for_nodes : length nodes ≡ gather_room
  pub for_list : length list ≡ gather_room
  pub for_vars : length vars ≡ choices_limit
  pub for_starts : length starts ≡ page_limit + 1
  pub for_members : length members ≡ page_limit
  pub first : get_or starts 0 0 ≡ 0

-- The rules of so many lines are gathered: where the clauses of each begin, and which line it is.
pub record Members (page : Bytes) (wanted : ℕ) (κs : List Rule) (starts members : List ℕ) : Type 0 where
  pub few : length κs ≤ page_limit
  pub for_starts : length starts ≡ page_limit + 1
  pub for_members : length members ≡ page_limit
  pub starts_at : (l : ℕ) → l ≤ length κs → get_or starts l 0 ≡ start_of κs l
  pub inside : (l : ℕ) → l < length κs → has wanted (get_or members l 0) ≡ true
  pub rule : (l : ℕ) (d : Rule) → l < length κs → rule_of (line_at page (get_or members l 0)) ≡ some (get_or κs l d)

pub record Gathers (page : Bytes) (wanted : ℕ) (nodes list vars starts members : List ℕ) (r : Gathered) : Type 0 where
  pub rules : List Rule
  pub many : length rules ≡ r.lines
  pub sheaf : Sheaf rules nodes list vars r.size.n r.size.c r.size.count
  pub members_of : Members page wanted rules starts members

-- Lengths and lines below the limit.
pub record Sizes (members : List ℕ) (many : ℕ) (counts fulls breakings : List ℕ) : Type 0 where
  pub few : many ≤ page_limit
  pub for_members : length members ≡ page_limit
  pub below : (l : ℕ) → l < many → get_or members l 0 < page_limit
  pub for_counts : length counts ≡ page_limit
  pub for_fulls : length fulls ≡ page_limit
  pub for_breakings : length breakings ≡ page_limit

-- The lines of r have their counts, and the others what they had.
pub record Spread (members : List ℕ) (many full : ℕ) (counts fulls breakings : List ℕ) (j : ℕ) : Type 0 where
  pub place : ℕ
  pub within : place < many
  pub line : get_or members place 0 ≡ j
  pub fulls_is : get_or fulls j 0 ≡ full
  pub breakings_is : get_or breakings j 0 ≡ get_or counts place 0

pub record Spreads (members : List ℕ) (many full : ℕ) (counts fulls breakings fulls' breakings' : List ℕ) (r : ℕ) : Type 0 where
  pub small : r < 2 ^ 64
  pub for_fulls : length fulls' ≡ length fulls
  pub for_breakings : length breakings' ≡ length breakings
  pub each : (j : ℕ) → has r j ≡ true → Spread members many full counts fulls' breakings' j
  pub other : (j : ℕ) → has r j ≡ false → (get_or fulls' j 0 ≡ get_or fulls j 0) × (get_or breakings' j 0 ≡ get_or breakings j 0)

-- A parsed rule whose parts are the rules of the lines.
pub record Whole (p : Parsed) (starts members : List ℕ) (many : ℕ) : Type 0 where
  pub rules : List Rule
  pub many_is : length rules ≡ many
  pub some_line : 0 < many
  pub bound : Bound rules p.nodes p.n p.root p.kinds p.vars p.count
  pub accepted : (d : Rule) → (s : Bytes) × (refusal s ≡ none) × (rule_of s ≡ some (get_or rules 0 d))
  pub few : many ≤ page_limit
  pub for_starts : length starts ≡ page_limit + 1
  pub for_members : length members ≡ page_limit
  pub starts_at : (l : ℕ) → l ≤ many → get_or starts l 0 ≡ start_of rules l
  pub room : (l : ℕ) → l < many → get_or starts (l + 1) 0 ≤ plan_room
  pub below : (l : ℕ) → l < many → get_or members l 0 < page_limit

-- The lines of r have their rules' counts, and the others what they had.
pub record CountedLine (ts : List ℕ) (p : Parsed) (starts members : List ℕ) (many : ℕ) (fulls breakings : List ℕ) (j : ℕ) : Type 0 where
  pub place : ℕ
  pub within : place < many
  pub line : get_or members place 0 ≡ j
  pub counts : (T : Tables) (ρ : Rule) → CaseBy ts p T ρ → (κ : Rule) → Part ρ κ (get_or starts place 0) (get_or starts (place + 1) 0)
      → (get_or fulls j 0 ≡ full_of T κ) × (get_or breakings j 0 ≡ breaking_of T κ)

pub record CountsLines (ts : List ℕ) (p : Parsed) (starts members : List ℕ) (many : ℕ) (fulls breakings fulls' breakings' : List ℕ) (r : ℕ) : Type 0 where
  pub small : r < 2 ^ 64
  pub for_fulls : length fulls' ≡ length fulls
  pub for_breakings : length breakings' ≡ length breakings
  pub each : (j : ℕ) → has r j ≡ true → CountedLine ts p starts members many fulls' breakings' j
  pub other : (j : ℕ) → has r j ≡ false → (get_or fulls' j 0 ≡ get_or fulls j 0) × (get_or breakings' j 0 ≡ get_or breakings j 0)

-- The lines of the word have the counts of their rules, whatever tables the words hold.
pub record KnownLines (ts : List ℕ) (page : Bytes) (fulls breakings : List ℕ) (known : ℕ) : Type 0 where
  pub small : known < 2 ^ 64
  pub for_fulls : length fulls ≡ page_limit
  pub for_breakings : length breakings ≡ page_limit
  pub counts : (T : Tables) → TablesAt ts T → (j : ℕ) → has known j ≡ true → (κ : Rule) → rule_of (line_at page j) ≡ some κ
      → (get_or fulls j 0 ≡ full_count T κ) × (get_or breakings j 0 ≡ breaking_count T κ)

-- So have the lines of r, and those that had them have them still.
abbrev pub Grows : List ℕ → Bytes → List ℕ → List ℕ → List ℕ → List ℕ → ℕ → Type 0
Grows ts page fulls breakings fulls' breakings' r = (known : ℕ) → KnownLines ts page fulls breakings known → KnownLines ts page fulls' breakings' (join_of known r)
