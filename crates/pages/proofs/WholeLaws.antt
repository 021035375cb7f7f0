-- The rule that gathered lines make together: it is lent with the tables, its parts are the lines' rules, and its counts are theirs.
-- Assumes nothing.
use mathlib.Core.Path.{◌≡◌, refl, sym, subst, ◌∙◌}
use mathlib.Core.Bool.{Bool, true, false, true≢false, ◌||◌}
use mathlib.Core.List.{List, []}
use mathlib.Core.Logic.{⊎_elim}
use mathlib.Core.Option.{some}
use Prim.Native.Nat.{ℕ, ◌+◌, ◌<◌}
use native.Mathlib.Omega.{arith}
use lib.ListN.{length, get_or}
use lib.Seq.{length-take-le}
use Rattle.words.specs.Words.{has, join_of}
use Rattle.words.proofs.WordsLaws.{has-zero, has_in, has_join, join-lt}
use Rattle.tables.specs.Tables.{Tables}
use Rattle.syntax.specs.Bytes.{Bytes}
use Rattle.syntax.specs.Term.{Choices}
use Rattle.syntax.specs.Rule.{Rule, rule_vars, rule_of}
use Rattle.rules.specs.declared.Parsed.{Parsed}
use Rattle.walks.specs.Code.Among.{Within}
use Rattle.values.specs.Sets.{items_of, in_set}
use Rattle.values.proofs.BoundLaws.{accepted-within}
use Rattle.judging.specs.Code.Lent.{CaseBy, LentBy}
use Rattle.verdicts.specs.Verdict.{full_count, breaking_count}
use Rattle.verdicts.specs.Code.Judging.{TablesAt, Loaded}
use Rattle.verdicts.proofs.HeldLaws.{held-rule}
use Rattle.verdicts.proofs.LoadedLaws.{loaded-whole}
use Rattle.std.specs.declared.option.Option.{Option}
use Rattle.std.specs.declared.option.Option.TheVariants.{Some}
use Rattle.sharing.specs.Code.Part.{Part}
use Rattle.sharing.specs.Code.Gathering.{Bound}
use Rattle.sharing.specs.Code.Laying.{Starts}
use Rattle.sharing.specs.Code.Together.{Ranges, CountsAll, CountsTogether, no, yes}
use Rattle.sharing.proofs.ClausesLaws.{start-within}
use Rattle.sharing.proofs.WalkLaws.{true-or-false}
use Rattle.pages.specs.Page.{page_limit}
use Rattle.pages.specs.Code.Parts.{line_at}
use Rattle.pages.specs.Code.Sheaves.{Wanted, Gathers, Spreads, Whole, CountsLines, Grows}
use Rattle.pages.specs.declared.sheaves.Gathered.{Gathered}

module _ {p : Parsed} {starts members : List ℕ} {many : ℕ} (W : Whole p starts members many) where
  abbrev tree : Rule
  tree = W.bound.tree

  -- each line's rule is a part of it
  pub line-part : (l : ℕ) → l < many → Part tree (get_or W.rules l tree) (get_or starts l 0) (get_or starts (l + 1) 0)
  line-part l m = rw (W.starts_at l (omega arith), W.starts_at (l + 1) (omega arith)) (W.bound.part l tree (omega (arith, W.many_is)))

  sorts : (T : Tables) {ts : List ℕ} → TablesAt ts T → Within (items_of T (rule_vars [] tree)) (in_set T (rule_vars [] tree)) (length (rule_vars [] tree))
  sorts T H =
      let a = W.accepted tree in
      subst (λ (σ : Choices). Within (items_of T σ) (in_set T σ) (length σ)) (line-part 0 W.some_line).vars (accepted-within T H.passes a.0 (get_or W.rules 0 tree) a.1 a.2)

  pub whole-case : {ts : List ℕ} {T : Tables} → TablesAt ts T → CaseBy ts p T tree
  whole-case {T = T} H = record {
    world = record { fits = H.passes.sound.fits; words = H.words; kinds = W.bound.fitted.kinds; variables = W.bound.fitted.knows };
    holds = W.bound.holds;
    sorts = sorts T H;
  }

  pub whole-lent : {ts : List ℕ} → Loaded ts → length p.kinds ≡ 256 → length p.vars ≡ 8 → LentBy ts p
  whole-lent L lk lv = record {
    lent = record {
      ready = record {
        whole = loaded-whole L;
        tidy = W.bound.tidy;
        kinded = omega (arith, W.bound.small);
        below = W.bound.within;
      };
      small = W.bound.small;
      few = omega (arith, length-take-le p.count p.vars (omega (arith, W.bound.fitted.few)), W.bound.fitted.few);
      nodes = W.bound.fitted.knows.below;
      tables = L.tables;
      rule = tree;
      is_case = whole-case L.holds;
    };
    few = W.bound.fitted.few;
  }

  pub whole-starts : Starts starts many
  whole-starts = record { long = omega (arith, W.few, W.for_starts); within = W.room }

  pub whole-ranges : Ranges p starts many
  whole-ranges ρ h l m =
      let e : tree ≡ ρ = held-rule p.nodes p.root tree ρ W.bound.holds h in
      let q = line-part l m in
      (omega (arith, q.many), rw (← e) q.fits)

-- What counting together says.
pub as-counted : {ts : List ℕ} {p : Parsed} {starts : List ℕ} {many : ℕ} {breaking : List ℕ} {r : Option ℕ} {full : ℕ} → CountsTogether ts p starts many breaking r
    → r ≡ Some full → (length breaking ≡ page_limit) × CountsAll ts p starts many breaking full
as-counted no q = let z : ◌≡◌ {A = ℕ} 0 1 = cc in absurd (omega arith)
as-counted {ts = ts} {p = p} {starts = starts} {many = many} {breaking = breaking} {full = full} (yes {full = f} l C) q =
    let e : f ≡ full = cc in
    (l, subst (λ (k : ℕ). CountsAll ts p starts many breaking k) e C)

-- No line was counted.
pub lines-uncounted : (ts : List ℕ) (p : Parsed) (starts members : List ℕ) (many : ℕ) (fulls breakings : List ℕ) → CountsLines ts p starts members many fulls breakings fulls breakings 0
lines-uncounted ts p starts members many fulls breakings = record {
  small = omega arith;
  for_fulls = refl;
  for_breakings = refl;
  each = λ j h. absurd (true≢false (sym h ∙ has-zero j));
  other = λ j h. (refl, refl);
}

-- The counts are in the lines' places.
pub lines-counted : {ts : List ℕ} {p : Parsed} {starts members counts fulls breakings fulls' breakings' : List ℕ} {many full r : ℕ}
    → Spreads members many full counts fulls breakings fulls' breakings' r → CountsAll ts p starts many counts full
    → CountsLines ts p starts members many fulls breakings fulls' breakings' r
lines-counted S C = record {
  small = S.small;
  for_fulls = S.for_fulls;
  for_breakings = S.for_breakings;
  each = λ j h.
      let s = S.each j h in
      record {
        place = s.place;
        within = s.within;
        line = s.line;
        counts = λ T ρ K κ q. let r = C T ρ K s.place s.within κ q in (s.fulls_is ∙ r.0, s.breakings_is ∙ r.1);
      };
  other = S.other;
}

or_cases : (a b : Bool) → (a || b) ≡ true → b ≡ false → a ≡ true
or_cases true b e f = refl
or_cases false b e f = absurd (true≢false (sym e ∙ f))

-- So more lines are known, where each place has its line's rule.
module _ {ts : List ℕ} (page : Bytes) {p : Parsed} {starts members fulls breakings fulls' breakings' : List ℕ} {many r : ℕ} (W : Whole p starts members many)
    (rule : (l : ℕ) → l < many → rule_of (line_at page (get_or members l 0)) ≡ some (get_or W.rules l W.bound.tree))
    (C : CountsLines ts p starts members many fulls breakings fulls' breakings' r) where
  counted-line : (T : Tables) → TablesAt ts T → (j : ℕ) → has r j ≡ true → (κ : Rule) → rule_of (line_at page j) ≡ some κ
      → (get_or fulls' j 0 ≡ full_count T κ) × (get_or breakings' j 0 ≡ breaking_count T κ)
  unfolding full_count breaking_count
  counted-line T H j h κ e =
      let c = C.each j h in
      let l : ℕ = c.place in
      let here : rule_of (line_at page j) ≡ some (get_or W.rules l W.bound.tree) = rw c.line at (rule l c.within) in
      let same : get_or W.rules l W.bound.tree ≡ κ = cc in
      rw (← same) (c.counts T W.bound.tree (whole-case W H) (get_or W.rules l W.bound.tree) (line-part W l c.within))

  pub grows-by : Grows ts page fulls breakings fulls' breakings' r
  grows-by known K = record {
    small = join-lt known r;
    for_fulls = C.for_fulls ∙ K.for_fulls;
    for_breakings = C.for_breakings ∙ K.for_breakings;
    counts = λ T H j h κ e. ⊎_elim (λ (b : has r j ≡ true). counted-line T H j b κ e) (λ (b : has r j ≡ false).
        let was : has known j ≡ true = or_cases (has known j) (has r j) (sym (has_join known r j (has_in (join_of known r) 64 j (join-lt known r) h)) ∙ h) b in
        let k = K.counts T H j was κ e in
        let o = C.other j b in
        (o.0 ∙ k.0, o.1 ∙ k.1)) (true-or-false (has r j));
  }

-- What was gathered makes a whole.
module _ {page : Bytes} {wanted : ℕ} {nodes list vars starts members : List ℕ} {g : Gathered} (G : Gathers page wanted nodes list vars starts members g)
    (Q : Wanted page wanted) (p : Parsed) (B : Bound G.rules p.nodes p.n p.root p.kinds p.vars p.count) where
  pub whole_of : 0 < g.lines → Whole p starts members g.lines
  whole_of some_line =
      let M = G.members_of in
      let first : 0 < length G.rules = omega (arith, G.many) in
      record {
        rules = G.rules;
        many_is = G.many;
        some_line = some_line;
        bound = B;
        accepted = λ d. (line_at page (get_or members 0 0), Q.accepted _ (M.inside 0 first), M.rule 0 d first);
        few = omega (arith, M.few, G.many);
        for_starts = M.for_starts;
        for_members = M.for_members;
        starts_at = λ l h. M.starts_at l (omega (arith, G.many));
        room = λ l h. omega (arith, M.starts_at (l + 1) (omega (arith, G.many)), start-within G.rules (l + 1), G.sheaf.many, G.sheaf.room.few);
        below = λ l h. omega (arith, Q.inside _ (M.inside l (omega (arith, G.many))), Q.few);
      }

  pub whole-rule : (some_line : 0 < g.lines) → (l : ℕ) → l < g.lines → rule_of (line_at page (get_or members l 0)) ≡ some (get_or (whole_of some_line).rules l (whole_of some_line).bound.tree)
  unfolding whole_of
  whole-rule some_line l h = G.members_of.rule l B.tree (omega (arith, G.many))
