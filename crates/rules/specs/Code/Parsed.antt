-- What a parsed rule is made of: its tree, the kinds of the nodes and its variables; and what the checks on the way find.
-- Internal: contracts of entry points that answer with bytes do not speak of it. Assumes nothing.
use Rattle.std.specs.Prelude.{◌≡◌, List, [], false, ℕ, ◌<◌, ◌≤◌, length, take, Result, Ok, Err}
use Rattle.std.proofs.Math.Option.{Option, none, some}
use Rattle.answers.specs.declared.Refusal.{Refusal}
use Rattle.syntax.specs.Bytes.{Bytes}
use Rattle.syntax.specs.Rule.{Rule, rule_vars, rule_of}
use Rattle.syntax.specs.Code.Arena.{HoldsRule, Tidy}
use Rattle.syntax.specs.Code.Reading.{mk, Knows}
use Rattle.answers.specs.Outcome.{Outcome, passes}
use Rattle.rules.specs.declared.Tree.{Tree}
use Rattle.rules.specs.declared.Parsed.{Parsed}
use Rattle.rules.specs.Accept.{rule_limit, choices_limit, deep, tree_refusal, refusal}
use Rattle.rules.specs.Code.Numbers.{Kinded}

-- What the checks on the bytes alone find, 11, 12, or that they pass.
pub record FitText (s : Bytes) : Type 0 where
  pub long : 0 < length s
  pub short : length s ≤ rule_limit
  pub shallow : deep 0 0 s ≡ false

pub data ChecksText (s : Bytes) : Outcome → Type 0 where
  turned : {r : Refusal} → refusal s ≡ some r → ChecksText s (Err r)
  passed : FitText s → ChecksText s passes

-- The tree of an accepted text s, at root in the first n nodes; the kinds ks of the nodes; the nodes of its variables, the first of vs.
pub record RuleAt (s : Bytes) (ns : List ℕ) (n root : ℕ) (ks vs : List ℕ) (count : ℕ) : Type 0 where
  pub tree : Rule
  pub reads : rule_of s ≡ some tree
  pub holds : HoldsRule ns root tree
  pub within : root < n
  pub tidy : Tidy ns n
  pub kinds : Kinded ns n ks
  pub knows : Knows (mk ns n) (take count vs) (rule_vars [] tree)
  pub counted : count ≡ length (rule_vars [] tree)
  pub few : count ≤ choices_limit

-- What the checks on a tree find, 14, 15, or the kinds and the variables of a tree that they accept.
pub record Fitted (ns : List ℕ) (n : ℕ) (ks vs : List ℕ) (count : ℕ) (ρ : Rule) : Type 0 where
  pub refuses : tree_refusal ρ ≡ none
  pub kinds : Kinded ns n ks
  pub knows : Knows (mk ns n) (take count vs) (rule_vars [] ρ)
  pub counted : count ≡ length (rule_vars [] ρ)
  pub few : count ≤ choices_limit

pub data ChecksTree (ns : List ℕ) (n root : ℕ) (ks vs : List ℕ) : Result Tree Refusal → Type 0 where
  unfit : {r : Refusal} → ((ρ : Rule) → HoldsRule ns root ρ → tree_refusal ρ ≡ some r) → ChecksTree ns n root ks vs (Err r)
  fit : {count : ℕ} → ((ρ : Rule) → HoldsRule ns root ρ → Fitted ns n ks vs count ρ) → ChecksTree ns n root ks vs (Ok (record { n = n; root = root; count = count }))

-- What the checks on a text find.
pub data Finds (s : Bytes) (ns ks vs : List ℕ) : Result Tree Refusal → Type 0 where
  rejected : {r : Refusal} → refusal s ≡ some r → Finds s ns ks vs (Err r)
  found : {t : Tree} → refusal s ≡ none → RuleAt s ns t.n t.root ks vs t.count → Finds s ns ks vs (Ok t)

-- The tree of an accepted text.
pub record ParsedFrom (s : Bytes) (p : Parsed) : Type 0 where
  pub accepts : refusal s ≡ none
  pub rule : RuleAt s p.nodes p.n p.root p.kinds p.vars p.count

-- The case of a check: the first refusal of 11 to 15, or that none refuses.
abbrev pub checked_of : Option Refusal → Outcome
checked_of none = passes
checked_of (some r) = Err r

-- The answer to a text: the first refusal of 11 to 15, or its tree.
pub data Parses (s : Bytes) : Result Parsed Refusal → Type 0 where
  refused : {r : Refusal} → refusal s ≡ some r → Parses s (Err r)
  parsed : {p : Parsed} → ParsedFrom s p → Parses s (Ok p)
