-- From the checks on a text and on its tree to what a parsed rule is.
-- Assumes nothing.
use mathlib.Core.Path.{◌≡◌, ap, sym, ◌∙◌}
use mathlib.Core.Bool.{Bool, true, false}
use mathlib.Core.List.{List, []}
use mathlib.Core.Option.{none, some}
use Prim.Native.Nat.{ℕ, ◌<◌, ◌≤◌}
use native.Mathlib.Omega.{arith}
use lib.ListN.{length, take, length-take}
use lib.Seq.{get_or-take, length-take-le}
use Rattle.answers.specs.declared.Refusal.{Refusal}
use Rattle.answers.specs.declared.Refusal.TheVariants.{KindMismatch, Choices}
use Rattle.syntax.specs.Bytes.{Bytes}
use Rattle.syntax.specs.Rule.{Rule, rule_vars, formula, rule_of}
use Rattle.syntax.specs.Code.Arena.{HoldsRule, Tidy}
use Rattle.syntax.specs.Code.Reading.{Rooted}
use Rattle.syntax.proofs.NameLaws.{all-length}
use Rattle.answers.specs.Outcome.{Outcome, passes}
use Rattle.std.specs.declared.result.Result.{Result}
use Rattle.std.specs.declared.result.Result.TheVariants.{Ok, Err}
use Rattle.rules.specs.declared.Tree.{Tree}
use Rattle.rules.specs.declared.Parsed.{Parsed}
use Rattle.rules.specs.Kind.{rule_kinds}
use Rattle.rules.specs.Accept.{choices_limit, refusal}
use Rattle.rules.specs.Code.Numbers.{Fills}
use Rattle.rules.specs.Code.Variables.{VarsOf}
use Rattle.rules.specs.Code.Lengths.{FormulaIn}
use Rattle.rules.specs.Code.Parsed.{FitText, ChecksText, turned, passed, RuleAt, Fitted, ChecksTree, unfit, fit, Finds, rejected, found, ParsedFrom, Parses, refused, parsed}
use Rattle.rules.proofs.AcceptLaws.{refuse-tree, tree-mismatch, tree-choices, tree-fits, accepted-gives, formula-within}
use Rattle.rules.proofs.VariableLaws.{listed-count}

-- The checks on a tree.
module _ {ns : List ℕ} {n root : ℕ} {ks₀ ks : List ℕ} {r : Bool} (filled : Fills ns n root ks₀ ks r) (within : root < n) where
  rule-kinds : (ρ : Rule) → HoldsRule ns root ρ → rule_kinds ρ ≡ r
  rule-kinds ρ h = sym ((filled.kinded.at root within).rule ρ h) ∙ sym filled.fits

  pub check-tree-mismatch : {vs : List ℕ} → r ≡ false → ChecksTree ns n root ks vs (Err KindMismatch)
  check-tree-mismatch e = unfit (λ ρ h. tree-mismatch ρ (rule-kinds ρ h ∙ e))

  module _ {vs : List ℕ} {c : ℕ} (e : r ≡ true) (vars : VarsOf ns n root vs c) where
    pub check-tree-choices : choices_limit < c → ChecksTree ns n root ks vs (Err Choices)
    check-tree-choices many = unfit (λ ρ h. tree-choices ρ (rule-kinds ρ h ∙ e) ((vars.listed ρ h).more many))

    pub check-tree-fit : c ≤ choices_limit → ChecksTree ns n root ks vs (Ok (record { n = n; root = root; count = c }))
    check-tree-fit few = fit go
      where
        go : (ρ : Rule) → HoldsRule ns root ρ → Fitted ns n ks vs c ρ
        go ρ h =
            let l = vars.listed ρ h in
            let q = listed-count vars.size l few in
            let w : length (take c vs) ≡ c = length-take-le c vs (omega (arith, vars.size)) in
            record {
              refuses = tree-fits ρ (rule-kinds ρ h ∙ e) (omega arith);
              kinds = filled.kinded;
              knows = record { holds = l.held few; below = λ i z. let y : i < c = omega arith in rw (get_or-take c vs i 0 y) (l.below i y (omega arith)) };
              counted = q;
              few = few;
            }

-- What an answer says.

pub as-turned : {s : Bytes} {w : Outcome} {r : Refusal} → ChecksText s w → w ≡ Err r → refusal s ≡ some r
as-turned {r = r} (turned {r = r'} e) q = let g : r' ≡ r = cc in e ∙ ap some g
as-turned (passed f) q = let z : ◌≡◌ {A = ℕ} 0 1 = cc in absurd (omega arith)

pub as_passed : {s : Bytes} {w : Outcome} → ChecksText s w → w ≡ passes → FitText s
as_passed (turned e) q = let z : ◌≡◌ {A = ℕ} 0 1 = cc in absurd (omega arith)
as_passed (passed f) q = f

-- The checks on a text whose tree was read.
pub find-tree : {s ns : List ℕ} {n root : ℕ} {ks vs : List ℕ} {w : Result Tree Refusal} → FitText s → Rooted s ns root n (rule_of s) → ChecksTree ns n root ks vs w → Finds s ns ks vs w
find-tree {s} fits t (unfit f) = rejected (refuse-tree s fits t.is ∙ f t.rule t.holds)
find-tree {s} fits t (fit f) =
    let g = f t.rule t.holds in
    found (refuse-tree s fits t.is ∙ g.refuses)
    (record {
      tree = t.rule;
      reads = t.is;
      holds = t.holds;
      within = t.within;
      tidy = t.tidy;
      kinds = g.kinds;
      knows = g.knows;
      counted = g.counted;
      few = g.few;
    })

-- What was found of a text.

pub as-rejected : {s ns ks vs : List ℕ} {f : Result Tree Refusal} {r : Refusal} → Finds s ns ks vs f → f ≡ Err r → refusal s ≡ some r
as-rejected {r = r} (rejected {r = r'} e) q = let g : r' ≡ r = cc in e ∙ ap some g
as-rejected (found e a) q = let z : ◌≡◌ {A = ℕ} 0 1 = cc in absurd (omega arith)

pub as-found : {s ns ks vs : List ℕ} {f : Result Tree Refusal} {t : Tree} → Finds s ns ks vs f → f ≡ Ok t → (refusal s ≡ none) × RuleAt s ns t.n t.root ks vs t.count
as-found (rejected e) q = let z : ◌≡◌ {A = ℕ} 0 1 = cc in absurd (omega arith)
as-found {t = t} (found {t = t'} e a) q = let g : t' ≡ t = cc in (e, rw g at a)

-- The nodes of its variables are among those lent, and it may be measured.
module _ {s ns ks vs : List ℕ} {f : Result Tree Refusal} {t : Tree} (p : Finds s ns ks vs f) (e : f ≡ Ok t) where
  abbrev at : RuleAt s ns t.n t.root ks vs t.count
  at = (as-found p e).1

  pub found-few : t.count ≤ length vs
  found-few = omega (arith, at.counted, all-length ns (take t.count vs) (rule_vars [] at.tree) at.knows.holds, length-take t.count vs)

  pub found-tidy : Tidy ns t.n × (t.root < t.n)
  found-tidy = (at.tidy, at.within)

-- A parsed text.

pub parse-rejected : {s ns ks vs : List ℕ} {f : Result Tree Refusal} {r : Refusal} → Finds s ns ks vs f → f ≡ Err r → Parses s (Err r)
parse-rejected f q = refused (as-rejected f q)

pub parse-found : {s : List ℕ} {p : Parsed} {f : Result Tree Refusal} → Finds s p.nodes p.kinds p.vars f → f ≡ Ok (record { n = p.n; root = p.root; count = p.count })
    → Parses s (Ok p)
parse-found f q = let t = as-found f q in parsed (record { accepts = t.0; rule = t.1 })

pub as-parsed : {s : Bytes} {w : Result Parsed Refusal} {p : Parsed} → Parses s w → w ≡ Ok p → ParsedFrom s p
as-parsed (refused e) q = let z : ◌≡◌ {A = ℕ} 0 1 = cc in absurd (omega arith)
as-parsed {p = p} (parsed {p = p'} h) q = let g : p' ≡ p = cc in rw g at h

pub as-refused : {s : Bytes} {w : Result Parsed Refusal} {r : Refusal} → Parses s w → w ≡ Err r → refusal s ≡ some r
as-refused {r = r} (refused {r = r'} e) q = let g : r' ≡ r = cc in e ∙ ap some g
as-refused (parsed h) q = let z : ◌≡◌ {A = ℕ} 0 1 = cc in absurd (omega arith)

-- The formula of an accepted text is so short that its length is told exactly.
pub formula-exact : {s ns : List ℕ} {n root : ℕ} {ks vs : List ℕ} {c r : ℕ} → refusal s ≡ none → (a : RuleAt s ns n root ks vs c) → FormulaIn ns n (take c vs) root r
    → r ≡ length (formula a.tree)
formula-exact {s = s} e a f =
    let g = accepted-gives s e in
    let same : g.rule ≡ a.tree = cc (g.reads, a.reads) in
    let b : length (formula a.tree) ≤ 4096 = rw same at (formula-within g) in
    f a.tree a.holds a.knows ∙ omega arith
