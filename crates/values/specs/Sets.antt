-- The sets of a rule's variables, what they name, and which choices break the rule (document 01, "Formula" and "Verdict"), or take a leaver
-- (document 02, N6). Assumes nothing.
use Rattle.std.specs.Prelude.{◌≡◌, Bool, true, false, not, ◌||◌, List, [], ℕ, ◌<◌, eqb, length, get_or}
use Rattle.std.proofs.Math.Option.{Option, none, some}
use Rattle.words.specs.Words.{has}
use Rattle.tables.specs.Tables.{Tables, is_present}
use Rattle.syntax.specs.Term.{b_u, Term, base, call, oe, ao, two, Choices}
use Rattle.syntax.specs.Rule.{Rule, rule_vars}
use Rattle.rules.specs.Kind.{Kind, s_u, set, kind}
use Rattle.walks.specs.Choices.{Items}
use Rattle.values.specs.Items.{kind_items}
use Rattle.values.specs.Values.{variable_of, value}
use Rattle.values.specs.Truth.{rule_true}

-- "Xi is the set of vi": σ has X1, X2, .. in order, and v counts from 0.
abbrev pub set_of : Choices → ℕ → Term
set_of σ v = get_or σ v (base b_u)

-- "A choice gives each variable one item of its sort (for a collection, a word's position from 0)": the items of the kind of its set.
abbrev pub items_of_kind : Tables → Option Kind → ℕ
items_of_kind T none = 0
items_of_kind T (some k) = kind_items T k

abbrev pub items_of : Tables → Choices → Items
items_of T σ v = items_of_kind T (kind (set_of σ v))

-- The item x lies in the set of v, in which "each variable is read as its item" under the choice c.
abbrev pub in_set : Tables → Choices → ℕ → List ℕ → ℕ → Bool
in_set T σ v c x = has (value T σ c (set_of σ v)) x

-- "it names the variables written in it": `OE(X)` is written as its variable, `AO(X)` as X without its variable.
unfoldable pub names_in : Choices → Term → ℕ → Bool
names_in σ (base b) u = false
names_in σ (call f a) u = names_in σ a u
names_in σ (oe a) u = eqb (variable_of σ a) u
names_in σ (ao a) u = eqb (variable_of σ a) u || names_in σ a u
names_in σ (two o a b) u = names_in σ a u || names_in σ b u

abbrev pub names : Choices → ℕ → ℕ → Bool
names σ v u = names_in σ (set_of σ v) u

-- "breaking (full choices that make the rule false)"
abbrev pub breaks : Tables → Choices → Rule → List ℕ → Bool
breaks T σ ρ c = not (rule_true T σ c ρ)

-- Document 02, N6: "U is then the users marked 1". Wherever the rule chooses from a set of users, the choice c takes one of them.
abbrev pub TakesPresent : Tables → Rule → List ℕ → Type 0
TakesPresent T ρ c =
    (v : ℕ) → v < length (rule_vars [] ρ) → kind (set_of (rule_vars [] ρ) v) ≡ some (set s_u) → is_present T.users (get_or c v 0) ≡ true
