-- How the code finds its answers: from what the parser, the reader and the writers say to `reduced` and `Rebuilds`.
-- Assumes nothing.
use mathlib.Core.Path.{◌≡◌, ap, sym, ◌∙◌}
use mathlib.Core.Bool.{true, false}
use mathlib.Core.List.{List, [], ◌++◌}
use mathlib.Core.Option.{Option, none, some}
use Prim.Native.Nat.{ℕ, ◌≤◌, ◌<◌}
use native.Mathlib.Omega.{arith}
use lib.ListN.{length, take, drop, get_or}
use lib.Seq.{take_all}
use Rattle.answers.specs.Answer.{refused, wrote, lent}
use Rattle.answers.specs.declared.Refusal.{Refusal}
use Rattle.answers.specs.declared.Refusal.TheVariants.{NoRulesFormula, ShortSheet}
use Rattle.syntax.specs.Bytes.{Bytes, same}
use Rattle.syntax.specs.Rule.{Rule, rule_text, rule_vars, formula, read_formula, whole}
use Rattle.syntax.specs.Code.Arena.{HoldsRule}
use Rattle.syntax.specs.Code.Printing.{printed}
use Rattle.syntax.proofs.Closed.{formula-in}
use Rattle.syntax.specs.Code.Reading.{clause_room, Rooted}
use Rattle.syntax.proofs.BytesLaws.{same-own, same_gives}
use Rattle.std.specs.declared.result.Result.{Result}
use Rattle.rules.specs.declared.Tree.{Tree}
use Rattle.rules.specs.Accept.{deep, refusal}
use Rattle.rules.specs.Code.Parsed.{RuleAt, Finds}
use Rattle.rules.specs.Code.Lengths.{capped, LengthsOf, FormulaIn}
use Rattle.rules.specs.Code.Thing.{rule}
use Rattle.syntax.proofs.FormulaLaws.{knows-none}
use Rattle.rules.proofs.ParseLaws.{as-rejected, as-found, formula-exact}
use Rattle.printer.specs.Code.Printed.{Puts, Prints, formula_in}
use Rattle.printer.proofs.PrintedLaws.{puts-as, puts-front}
use Rattle.answers.specs.Written.{Written}
use Rattle.std.specs.declared.result.Result.TheVariants.{Ok, Err}
use Rattle.formulas.specs.Formulas.{reduced, RuleOf, gives, gives_none, RebuildAnswers}
use Rattle.answers.specs.Written.{Answers}
use Rattle.answers.proofs.AnswerLaws.{kept-refused, kept-short, lent_written}
use Rattle.rules.proofs.AcceptLaws.{accepted-gives, formula-within}
use Rattle.formulas.proofs.RebuildLaws.{wrote-reduced, accepted-formula, rule-of}
use Rattle.formulas.proofs.RebuildLaws.{rule-accepted, rule-formula, rule-reduced, rule-read, rule-only}
use Rattle.formulas.proofs.DepthLaws.{formula-shallow}
use Rattle.formulas.proofs.WrittenLaws.{answers-refusal, answers-wrote, answers-refused}

-- Rule to formula.

-- 11 to 15.
pub reduce-rejected : {s ns ks vs : List ℕ} {f : Result Tree Refusal} {r : Refusal} (m : ℕ) (old : Bytes) → Finds s ns ks vs f → f ≡ Err r → Answers (lent m (reduced s)) old old (Err r)
unfolding reduced
reduce-rejected {s} m old p e = answers-refusal (reduced s) m old (rw (as-rejected p e, reduced))

module _ {s ns ks vs : List ℕ} {f : Result Tree Refusal} {t : Tree} (p : Finds s ns ks vs f) (e : f ≡ Ok t) where
  accepted : refusal s ≡ none
  accepted = (as-found p e).0

  abbrev at : RuleAt s ns t.n t.root ks vs t.count
  at = (as-found p e).1

  formula-is : reduced s ≡ wrote (formula at.tree)
  formula-is =
      let a = accepted-gives s accepted in
      let i : a.rule ≡ at.tree = cc (a.reads, at.reads) in
      wrote-reduced s (formula at.tree) accepted (accepted-formula a ∙ ap (λ (ρ : Rule). some (formula ρ)) i)

  module _ {l : ℕ} (x : FormulaIn ns t.n (take t.count vs) t.root l) where
    long : l ≡ length (formula at.tree)
    long = formula-exact accepted at x

    pub reduce-short : {old : Bytes} → length old < l → Answers (lent (length old) (reduced s)) old old (Err ShortSheet)
    reduce-short {old} h = rw formula-is (kept-short (formula at.tree) old (omega (arith, long)))

    pub reduce-made : {old new : Bytes} {m : ℕ} → l ≤ length old → Prints ns (take t.count vs) (HoldsRule ns t.root) formula_in old new m → Answers (lent (length old) (reduced s)) old new (Ok m)
    unfolding printed
    reduce-made {old} {new} {m} h q =
        let w : Bytes = formula at.tree in
        let g : length w ≤ length old = omega (arith, long) in
        let z : Puts w old new m = puts-as (sym (formula-in at.tree)) (q.shows (rule_vars [] at.tree) at.tree at.knows.holds at.holds) in
        let c : m ≡ length w = omega (arith, z.count) in
        rw (formula-is, c) (lent_written w old g (z.bytes ∙ ap (λ (v : Bytes). v ++ drop (length w) old) (take_all (length old) w g)))

-- Formula to rule.

module _ (f old : Bytes) where
  abbrev Sixteen : Type 0
  Sixteen = RebuildAnswers f old old (Err NoRulesFormula)

  sixteen : ((s : Bytes) → RuleOf f s → ⊥) → Sixteen
  sixteen h = record { answer = refused NoRulesFormula; rebuilds = gives_none h; answers = kept-refused (length old) old NoRulesFormula }

  -- No formula passes 4,096 bytes.
  pub rebuild-long : 4096 < length f → Sixteen
  rebuild-long h = sixteen (λ s p. omega (arith, formula-within (rule-accepted p), ap length (rule-formula p)))

  -- The formula of a rule that passes check 12 passes it.
  pub rebuild-deep : deep 0 0 f ≡ true → Sixteen
  rebuild-deep e = sixteen (λ s p.
      let a = rule-accepted p in
      let q : deep 0 0 (formula a.rule) ≡ false = formula-shallow a.rule (rw (← a.text) a.shallow) in
      let z : ◌≡◌ {A = ℕ} 0 1 = cc (ap (deep 0 0) (rule-formula p)) in
      omega arith)

  pub rebuild-unread : whole (read_formula clause_room 9 [] f) ≡ none → Sixteen
  rebuild-unread e = sixteen (λ s p. let z : ◌≡◌ {A = ℕ} 0 1 = cc (rule-read p) in omega arith)

  -- A rule has at most 256 bytes.
  pub rebuild-wide : {s ns : List ℕ} {k n r : ℕ} (t : Rooted s ns k n (whole (read_formula clause_room 9 [] f))) → ((ρ : Rule) → HoldsRule ns k ρ → r ≡ capped (length (rule_text [] ρ))) → 256 < r → Sixteen
  rebuild-wide t g h = sixteen (λ s p. omega (arith, g t.rule t.holds, (rule-accepted p).short, ap length (rule-only p t.rule t.is)))

  -- The candidate c is the tree's own text as far as 256 bytes.
  module _ {ρ : Rule} {c : Bytes} (e : whole (read_formula clause_room 9 [] f) ≡ some ρ) (h : c ≡ take 256 (rule_text [] ρ)) where
    other : (reduced c ≡ wrote f → ⊥) → Sixteen
    other x = sixteen go
      where
        go : (s : Bytes) → RuleOf f s → ⊥
        go s p =
            let z : c ≡ s = h ∙ ap (take 256) (sym (rule-only p ρ e)) ∙ take_all 256 s (omega (arith, (rule-accepted p).short)) in
            x (rw z (rule-reduced p))

    pub rebuild-refused : {zeros sheet : Bytes} {w : Written} {r : Refusal} → Answers (lent (length zeros) (reduced c)) zeros sheet w → w ≡ Err r → length f ≤ length zeros → Sixteen
    rebuild-refused p q l = other (λ x. answers-refused (reduced c) _ f p q l x)

    pub rebuild-apart : {zeros sheet : Bytes} {w : Written} {k : ℕ} → Answers (lent (length zeros) (reduced c)) zeros sheet w → w ≡ Ok k → same (take k sheet) f ≡ false → Sixteen
    rebuild-apart {zeros} {sheet} {w} {k} p q d =
        let t = answers-wrote (reduced c) (length zeros) p q in
        other (λ x. let z : t.text ≡ f = cc t.is in let y : ◌≡◌ {A = ℕ} 0 1 = cc (same-own f, t.front) in omega arith)

-- The candidate whose formula is the input is the rule.
pub rebuild-same : {c : Bytes} (f : Bytes) {zeros sheet : Bytes} {w : Written} {k : ℕ}
    → Answers (lent (length zeros) (reduced c)) zeros sheet w → w ≡ Ok k → same (take k sheet) f ≡ true → RuleOf f c
rebuild-same {c} f {zeros} {sheet} {w} {k} p q d =
    let t = answers-wrote (reduced c) (length zeros) p q in
    let z : t.text ≡ f = sym t.front ∙ same_gives (take k sheet) f d in
    rule-of (t.is ∙ ap wrote z)

pub rebuild-gives : {f c old new : Bytes} {w : Written} → RuleOf f c → Answers (lent (length old) (wrote c)) old new w → RebuildAnswers f old new w
rebuild-gives {c = c} p q = record { answer = wrote c; rebuilds = gives p; answers = q }

-- The measured length of a tree's text, with no choices known.
pub rule-measured : {ns ls : List ℕ} {n root : ℕ} → LengthsOf ns n [] ls → root < n → (ρ : Rule) → HoldsRule ns root ρ → capped (get_or ls root 0) ≡ capped (length (rule_text [] ρ))
rule-measured x h ρ y = omega (arith, (x.measured [] knows-none).at _ (rule ρ) h y)

pub rebuild-text : {s ns text zeros : List ℕ} {k n l : ℕ} {o : Option Rule} (t : Rooted s ns k n o) → Prints ns [] (HoldsRule ns k) rule_text zeros text l
    → take l text ≡ take (length zeros) (rule_text [] t.rule)
rebuild-text t p = puts-front (p.shows [] t.rule tt t.holds)
