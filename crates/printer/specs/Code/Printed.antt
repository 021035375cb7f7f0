-- What a writer leaves in the sheet that it is lent: the text behind what it had, as far as it fits, and then the old rest.
-- Internal: contracts of entry points do not speak of it. Assumes nothing.
use Rattle.std.specs.Prelude.{◌≡◌, List, [], ◌∷◌, ◌++◌, ℕ, ◌+◌, ◌≤◌, ◌<◌, min, length, take, drop, get_or}
use Rattle.syntax.specs.Bytes.{Bytes, ascii}
use Rattle.syntax.specs.Term.{Term, Choices, text}
use Rattle.syntax.specs.Rule.{Test, member, alike, empty, sized, count, count_text, Rule, rule_text}
use Rattle.syntax.specs.Code.Printing.{quantifiers_after}
use Rattle.syntax.specs.Code.Arena.{Tidy, HoldsAll}
use Rattle.printer.specs.declared.nodes.Tree.{Tree}
use Rattle.printer.specs.declared.sheet.Sheet.{Sheet}

-- The text w was put at the front of the sheet, and r bytes of it had room there.
pub record Puts (w old new : Bytes) (r : ℕ) : Type 0 where
  pub bytes : new ≡ take (length old) w ++ drop (length w) old
  pub count : r ≡ min (length w) (length old)

-- r bytes were put, and the sheet keeps its length.
pub record Room (old new : Bytes) (r : ℕ) : Type 0 where
  pub within : r ≤ length old
  pub size : length new ≡ length old

-- The text w was put behind what the sheet had: behind whatever text ends there.
pub record Adds (w : Bytes) (old new : Sheet) : Type 0 where
  pub same : new.out.ghost_name ≡ old.out.ghost_name
  pub size : length new.out.now ≡ length old.out.now
  pub puts : (u base : Bytes) → Puts u base old.out.now old.end → Puts (u ++ w) base new.out.now new.end

-- The same of whatever the node holds, as it is shown with the choices whose nodes are vs.
pub record Appends {A : Type 0} (ns vs : List ℕ) (holds : A → Type 0) (shown : Choices → A → Bytes) (old new : Sheet) : Type 0 where
  pub same : new.out.ghost_name ≡ old.out.ghost_name
  pub size : length new.out.now ≡ length old.out.now
  pub shows : (σ : Choices) (a : A) → HoldsAll ns vs σ → holds a → Adds (shown σ a) old new

-- The same of whatever node k of a tree holds.
abbrev pub Writes : {A : Type 0} → Tree → (List ℕ → ℕ → A → Type 0) → ℕ → (Choices → A → Bytes) → Sheet → Sheet → Type 0
Writes t Held k shown old new = Appends t.nodes.now t.vars.now (Held t.nodes.now k) shown old new

-- Whatever the node holds was put, as it is shown with the choices whose nodes are vs.
pub record Prints {A : Type 0} (ns vs : List ℕ) (holds : A → Type 0) (shown : Choices → A → Bytes) (old new : Bytes) (r : ℕ) : Type 0 where
  pub room : Room old new r
  pub shows : (σ : Choices) (a : A) → HoldsAll ns vs σ → holds a → Puts (shown σ a) old new r

-- What a writer is given: node k and the nodes of at most 8 choices are among n nodes, no two of them equal.
pub record Printable (ns : List ℕ) (k : ℕ) (vs : List ℕ) : Type 0 where
  pub n : ℕ
  pub tidy : Tidy ns n
  pub node : k < n
  pub below : (i : ℕ) → i < length vs → get_or vs i 0 < n
  pub few : length vs ≤ 8

abbrev pub Ready : Tree → ℕ → Type 0
Ready t k = Printable t.nodes.now k t.vars.now

-- What a test has left of its sign, and right of it.

unfoldable pub left_text : Choices → Test → Bytes
left_text σ (member a b) = text σ a
left_text σ (alike g a b) = text σ a
left_text σ (empty g a) = text σ a
left_text σ (sized c a k) = count_text σ (count a)

unfoldable pub right_text : Choices → Test → Bytes
right_text σ (member a b) = text σ b
right_text σ (alike g a b) = text σ b
right_text σ (empty g a) = ascii "{}"
right_text σ (sized c a k) = count_text σ k

-- A choice with its argument x after the choices σ, `[v1@X1]`.
unfoldable pub quantifier : Choices → Term → Bytes
quantifier σ x = ascii "[v" ++ ((49 + length σ) ∷ (ascii "@" ++ (text σ x ++ ascii "]")))

-- The quantifiers of the choices σ, and then a formula's rule.
abbrev pub formula_in : Choices → Rule → Bytes
formula_in σ ρ = quantifiers_after [] σ ++ (ascii ":" ++ rule_text σ ρ)
