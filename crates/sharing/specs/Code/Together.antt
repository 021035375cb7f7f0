-- The counts of gathered lines: what the walk starts from, and what it gives.
-- Internal: contracts of entry points do not speak of it. Assumes nothing.
use Rattle.std.specs.Prelude.{◌≡◌, List, [], ℕ, ◌+◌, ◌*◌, ◌<◌, ◌≤◌, length, get_or}
use Rattle.std.specs.declared.option.Option.{Option}
use Rattle.std.specs.declared.option.Option.TheVariants.{Some, None}
use Rattle.tables.specs.Tables.{Tables}
use Rattle.syntax.specs.Rule.{Rule, rule_vars}
use Rattle.syntax.specs.Code.Arena.{HoldsRule}
use Rattle.rules.specs.declared.Parsed.{Parsed}
use Rattle.walks.specs.Choices.{each, if_breaks, count_full, nothing_chosen}
use Rattle.walks.specs.Walk.{walk}
use Rattle.walks.specs.Code.Clauses.{breaks_any}
use Rattle.walks.specs.Code.Kept.{choice_of, Unwritten}
use Rattle.values.specs.Sets.{items_of, in_set, breaks}
use Rattle.values.specs.Code.Clauses.{clause_count}
use Rattle.judging.specs.Code.Counting.{no_choice}
use Rattle.judging.specs.Code.Lent.{CaseBy}
use Rattle.sharing.specs.Code.Part.{Part}
use Rattle.sharing.specs.Code.Lines.{lines_limit, lines_length, whole_slots, Held, clauses_in, full_below, Grouped}

-- Nothing is chosen, kept or counted yet.
pub record Starting (ts plan lines : List ℕ) (many : ℕ) (kept breaking : List ℕ) : Type 0 where
  pub held : Held
  pub grouped : Grouped ts plan lines many held
  pub long : length lines ≡ lines_length
  pub few : many ≤ lines_limit
  pub slots : 3 * whole_slots ≤ length kept
  pub fresh : Unwritten (length kept) kept
  pub counts : length breaking ≡ lines_limit
  pub none : (l : ℕ) → get_or breaking l 0 ≡ 0

-- Whatever the lent words hold, these are the full choices and each line's breaking ones.
pub record Totals (ts plan lines : List ℕ) (many : ℕ) (breaking : List ℕ) (full : ℕ) : Type 0 where
  pub long : length breaking ≡ lines_limit
  pub goes : (h : Held) → Grouped ts plan lines many h
      → (full ≡ full_below h 0 (choice_of no_choice))
      × ((l : ℕ) → l < many
      → get_or breaking l 0 ≡ walk 64 (in_set h.tables (rule_vars [] h.rule)) (if_breaks (breaks_any (clauses_in lines h l))) h.layout.order (choice_of no_choice))

-- The two counts of a rule, whatever the order.
abbrev pub full_of : Tables → Rule → ℕ
full_of T κ = count_full (items_of T (rule_vars [] κ)) (in_set T (rule_vars [] κ)) each (length (rule_vars [] κ)) nothing_chosen

abbrev pub breaking_of : Tables → Rule → ℕ
breaking_of T κ = count_full (items_of T (rule_vars [] κ)) (in_set T (rule_vars [] κ)) (if_breaks (breaks T (rule_vars [] κ) κ)) (length (rule_vars [] κ)) nothing_chosen

-- The clauses of the lines are clauses of whatever rule the nodes hold.
abbrev pub Ranges : Parsed → List ℕ → ℕ → Type 0
Ranges p starts many =
    (ρ : Rule) → HoldsRule p.nodes p.root ρ → (l : ℕ) → l < many → (get_or starts l 0 ≤ get_or starts (l + 1) 0) × (get_or starts (l + 1) 0 ≤ clause_count ρ)

-- The counts of the lines, whose rules are parts of the rule that the slices hold.
abbrev pub CountsAll : List ℕ → Parsed → List ℕ → ℕ → List ℕ → ℕ → Type 0
CountsAll ts p starts many breaking full =
    (T : Tables) (ρ : Rule) → CaseBy ts p T ρ → (l : ℕ) → l < many → (κ : Rule) → Part ρ κ (get_or starts l 0) (get_or starts (l + 1) 0)
    → (full ≡ full_of T κ) × (get_or breaking l 0 ≡ breaking_of T κ)

-- They were counted in one walk, or not at all.
pub data CountsTogether (ts : List ℕ) (p : Parsed) (starts : List ℕ) (many : ℕ) (breaking : List ℕ) : Option ℕ → Type 0 where
  no : CountsTogether ts p starts many breaking None
  yes : {full : ℕ} → length breaking ≡ lines_limit → CountsAll ts p starts many breaking full → CountsTogether ts p starts many breaking (Some full)
