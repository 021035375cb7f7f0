-- The words of the lines, as they are laid: what a mask stands for, and that each line's clauses and masks are right.
-- Internal: contracts of entry points do not speak of it. Assumes nothing.
use Rattle.std.specs.Prelude.{◌≡◌, not, ◌||◌, List, ℕ, ◌+◌, ◌*◌, ◌<◌, ◌≤◌, leb, length, get_or, drop}
use Rattle.words.specs.Words.{has, word_of, any_to}
use Rattle.tables.specs.Tables.{Tables}
use Rattle.syntax.specs.Rule.{Rule}
use Rattle.rules.specs.declared.Parsed.{Parsed}
use Rattle.walks.specs.Code.Context.{Covers}
use Rattle.values.specs.Code.Clauses.{clause_count}
use Rattle.values.specs.Code.Plan.{plan_length, plan_room, levels_from}
use Rattle.judging.specs.Code.Planning.{order_from, variables_at, Layout, Planned, SetsNamedFrom, ClausesNamed}
use Rattle.judging.specs.Code.Walking.{OwnNodes}
use Rattle.sharing.specs.declared.laying.Range.{Range}
use Rattle.sharing.specs.Code.Lines.{lines_length, mask_of, from_of, to_of, Grouped}

-- The variables all of whose bits a mask has. Those beyond the eighth have none, and are in every such word.
unfoldable pub context_of : ℕ → ℕ
context_of mask = word_of 64 (λ u. leb 8 u || not (any_to 8 (λ i. not (has mask (8 * u + i)))))

abbrev pub context_in : List ℕ → ℕ → ℕ → ℕ
context_in lines l d = context_of (mask_of lines l d)

-- The plan was laid of the parsed rule's nodes, for some tables and some rule.
pub record Plotted (p : Parsed) (plan : List ℕ) : Type 0 where
  pub words : List ℕ
  pub layout : Layout
  pub tables : Tables
  pub rule : Rule
  pub planned : Planned words plan layout tables rule
  pub own : OwnNodes p layout
  pub few : p.count ≤ 8
  pub many : length layout.vars ≡ p.count

-- Where the clauses of `many` lines begin, and behind the last one's where they end.
pub record Starts (starts : List ℕ) (many : ℕ) : Type 0 where
  pub long : many < length starts
  pub within : (l : ℕ) → l < many → get_or starts (l + 1) 0 ≤ plan_room

-- Each line's words are right, whatever rule the plan holds whose clauses those are.
pub record LaysLines (p : Parsed) (plan starts : List ℕ) (many : ℕ) (lines : List ℕ) : Type 0 where
  pub long : length lines ≡ lines_length
  pub from : (l : ℕ) → l < many → from_of lines l ≡ get_or starts l 0
  pub to : (l : ℕ) → l < many → to_of lines l ≡ get_or starts (l + 1) 0
  pub right : (ts : List ℕ) (y : Layout) (T : Tables) (ρ : Rule) → Planned ts plan y T ρ → OwnNodes p y
      → ((l : ℕ) → l < many → (get_or starts l 0 ≤ get_or starts (l + 1) 0) × (get_or starts (l + 1) 0 ≤ clause_count ρ))
      → Grouped ts plan lines many (record { layout = y; tables = T; rule = ρ; context = context_in lines })

-- ---- how they are laid

-- The plan has at most 8 variables in its order, each one of the first 8.
pub record OrderIn (plan : List ℕ) : Type 0 where
  pub long : length plan ≡ plan_length
  pub short : get_or plan variables_at 0 ≤ 8
  pub known : (d : ℕ) → d < get_or plan variables_at 0 → get_or plan (order_from + d) 0 < 8

-- These are they.
abbrev pub OrderOf : List ℕ → List ℕ → Type 0
OrderOf plan order = (d : ℕ) → d < get_or plan variables_at 0 → get_or order d 0 ≡ get_or plan (order_from + d) 0

-- By depth a word has what the sets of the order's variables from there on name.
abbrev pub ByDepth : List ℕ → List ℕ → List ℕ → Type 0
ByDepth names order found = (d : ℕ) → d < 8 → SetsNamedFrom names order d (get_or found d 0)

-- The mask of a line at a depth stands for the variables of that word, and for what the line's clauses above that level name.
pub record MaskFor (plan scopes : List ℕ) (named from to d mask : ℕ) : Type 0 where
  pub sets : Covers (context_of mask) (has named)
  pub clauses : ClausesNamed (drop levels_from plan) scopes from to d (context_of mask)

pub record LineWords (plan scopes sets : List ℕ) (from to : ℕ) (lines : List ℕ) (l : ℕ) : Type 0 where
  pub begins : from_of lines l ≡ from
  pub ends : to_of lines l ≡ to
  pub masks : (d : ℕ) → d < 8 → MaskFor plan scopes (get_or sets d 0) from to d (mask_of lines l d)

-- One line's words are laid; the others' are as before.
pub record LaysLine (plan scopes sets : List ℕ) (r : Range) (old new : List ℕ) : Type 0 where
  pub long : length new ≡ length old
  pub words : LineWords plan scopes sets r.from r.to new r.line
  pub other : (j : ℕ) → (16 * r.line ≤ j → 16 * r.line + 16 ≤ j) → get_or new j 0 ≡ get_or old j 0
