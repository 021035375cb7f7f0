-- Laws of the words of the lines: what a mask stands for, one line's words, and that all of them are right whatever rule the plan holds.
-- Assumes nothing.
use mathlib.Core.Path.{◌≡◌, refl, sym, ap, ◌∙◌}
use mathlib.Core.Bool.{Bool, true, false, not, ◌||◌, true≢false}
use mathlib.Core.List.{List, []}
use Prim.Native.Nat.{ℕ, ◌+◌, ◌*◌, ◌^◌, ◌<◌, ◌≤◌}
use native.Mathlib.Decide.{ℕ_discrete, dec_lt}
use native.Mathlib.Omega.{arith}
use borrow.Author.Tests.{le-leb, leb-true, ltb-true}
use lib.Dec.{leb, ltb}
use lib.ListN.{length, get_or, set, take, drop, length-set}
use lib.Seq.{get_or-set_same, get_or-set_other, get_or-take, length-take-le}
use Rattle.words.specs.Words.{has, any_to, join_of}
use Rattle.words.proofs.WordsLaws.{has_in, word_in, any_here, any_none, and-true}
use Rattle.words.proofs.LoopLaws.{or_right}
use Rattle.tables.specs.Tables.{Tables}
use Rattle.syntax.specs.Rule.{Rule, rule_vars}
use Rattle.syntax.proofs.NameLaws.{all-length}
use Rattle.rules.specs.declared.Parsed.{Parsed}
use Rattle.walks.specs.Code.Context.{Covers, open_in, Context}
use Rattle.walks.specs.Code.Kept.{Masks}
use Rattle.walks.proofs.ContextLaws.{covers-left, covers-right, context-from}
use Rattle.values.specs.Sets.{set_of, names}
use Rattle.values.specs.Code.Clauses.{clause_count, clause_at, clause_names}
use Rattle.values.specs.Code.Nodes.{NamesTo, Variables, Named, SetsNamed}
use Rattle.values.specs.Code.Plan.{levels_from, clauses_at, ClausesIn}
use Rattle.values.proofs.PlanLaws.{clause-low}
use Rattle.values.proofs.ClausesLaws.{clauses_of, names-small, clause-small}
use Rattle.values.proofs.TruthLaws.{low-more}
use Rattle.judging.specs.Code.Lent.{vars_of}
use Rattle.judging.specs.Code.Planning.{variables_at, Layout, Planned, Filled, ClausesLow, Scoped, ClausesNamed}
use Rattle.judging.specs.Code.Walking.{OwnNodes}
use Rattle.judging.proofs.PlanningLaws.{joined_small}
use Rattle.sharing.specs.declared.laying.Range.{Range}
use Rattle.sharing.specs.Code.Lines.{lines_limit, lines_length, mask_of, from_of, to_of, within, line_of}
use Rattle.sharing.specs.Code.Laying.{context_of, context_in, LaysLines, OrderIn, OrderOf, ByDepth, MaskFor, LineWords, LaysLine}

-- ---- what a mask stands for

-- some bit of the variable's is not in the mask
abbrev lacks : ℕ → ℕ → Bool
lacks mask u = any_to 8 (λ i. not (has mask (8 * u + i)))

context-is : (mask u : ℕ) → u < 64 → has (context_of mask) u ≡ (leb 8 u || not (lacks mask u))
unfolding context_of
context-is mask u l = word_in 64 (λ u. leb 8 u || not (lacks mask u)) u l

context-has : (word mask : ℕ) → Masks word mask → (u : ℕ) → u < 64 → has word u ≡ true → has (context_of mask) u ≡ true
context-has word mask m u l h = context-is mask u l ∙ go (dec_lt u 8)
  where
    go : Dec (u < 8) → (leb 8 u || not (lacks mask u)) ≡ true
    go (yes k) = or_right (leb 8 u) (not (lacks mask u)) (ap not (any_none 8 (λ i. not (has mask (8 * u + i))) (λ i n. ap not (m u i k n h))))
    go (no k) = ap (λ (b : Bool). b || not (lacks mask u)) (le-leb 8 u (omega arith))

-- a mask has all the bits of what it stands for
pub context-masks : (mask : ℕ) → Masks (context_of mask) mask
context-masks mask u i l k h = go (leb 8 u) refl (has mask (8 * u + i)) refl
  where
    go : (a : Bool) → leb 8 u ≡ a → (b : Bool) → has mask (8 * u + i) ≡ b → has mask (8 * u + i) ≡ true
    go true e b q = absurd (omega (arith, leb-true 8 u e))
    go false e true q = q
    go false e false q =
        let some : lacks mask u ≡ true = any_here 8 (λ i. not (has mask (8 * u + i))) i k (ap not q) in
        absurd (true≢false (sym h ∙ context-is mask u (omega arith) ∙ rw (e, some) refl))

covers-context : (word mask : ℕ) (f : ℕ → Bool) → word < 2 ^ 64 → Masks word mask → Covers word f → Covers (context_of mask) f
covers-context word mask f l m h u e = context-has word mask m u (has_in word 64 u l (h u e)) (h u e)

pub mask-made : (plan scopes : List ℕ) (sets named word mask from to d : ℕ) → sets < 2 ^ 64 → named < 2 ^ 64 → word ≡ join_of sets named
    → ClausesNamed (drop levels_from plan) scopes from to d named → Masks word mask → MaskFor plan scopes sets from to d mask
mask-made plan scopes sets named word mask from to d ls ln e c m =
    let small = joined_small sets named word e in
    record {
      sets = covers-context word mask (has sets) small m (rw e (covers-left sets named (has sets) ls (λ u h. h)));
      clauses = λ i b l k. covers-context word mask (has (get_or scopes i 0)) small m (rw e (covers-right sets named (has (get_or scopes i 0)) ln (c i b l k)));
    }

-- ---- the words of a line

-- all the masks are there, and where the clauses begin and end is put behind them
module _ (plan scopes sets : List ℕ) {old new : List ℕ} {d : ℕ} (r : Range) (few : r.line < lines_limit) (room : length old ≡ lines_length)
    (F : Filled old new (16 * r.line) d (λ e w. MaskFor plan scopes (get_or sets e 0) r.from r.to e w)) (most : d ≤ 8) (all : 8 ≤ d) where
  abbrev at : ℕ
  at = 16 * r.line

  abbrev first : List ℕ
  first = set new (at + 8) r.from

  abbrev laid : List ℕ
  laid = set first (at + 9) r.to

  stays : (j : ℕ) → (j ≡ at + 8 → ⊥) → (j ≡ at + 9 → ⊥) → get_or laid j 0 ≡ get_or new j 0
  stays j a b = get_or-set_other first (at + 9) j r.to 0 b ∙ get_or-set_other new (at + 8) j r.from 0 a

  pub line_made : LaysLine plan scopes sets r old laid
  line_made = record {
    long = length-set first (at + 9) r.to ∙ length-set new (at + 8) r.from ∙ F.long;
    words = record {
      begins = get_or-set_other first (at + 9) (at + 8) r.to 0 (λ e. omega arith) ∙ get_or-set_same new (at + 8) r.from 0 (omega (arith, F.long));
      ends = get_or-set_same first (at + 9) r.to 0 (omega (arith, F.long, length-set new (at + 8) r.from));
      masks = λ i m. rw (stays (at + i) (λ e. omega arith) (λ e. omega arith)) (F.inside i (omega arith));
    };
    other = λ j h. stays j (λ e. omega (arith, h (omega arith))) (λ e. omega (arith, h (omega arith))) ∙ F.outside j (λ k. omega (arith, h k));
  }

-- so many lines have their words
abbrev pub LaidTo : List ℕ → List ℕ → List ℕ → List ℕ → ℕ → List ℕ → Type 0
LaidTo plan scopes sets starts many lines = (l : ℕ) → l < many → LineWords plan scopes sets (get_or starts l 0) (get_or starts (l + 1) 0) lines l

-- the words of a line before the one that is laid stay
words-stay : {plan scopes sets old new : List ℕ} {from to k : ℕ} (r : Range) → LaysLine plan scopes sets r old new → k < r.line
    → LineWords plan scopes sets from to old k → LineWords plan scopes sets from to new k
words-stay {k = k} r L l W = record {
  begins = L.other (16 * k + 8) (λ h. omega arith) ∙ W.begins;
  ends = L.other (16 * k + 9) (λ h. omega arith) ∙ W.ends;
  masks = λ d m. rw (L.other (16 * k + d) (λ h. omega arith)) (W.masks d m);
}

pub laid_more : (starts : List ℕ) {plan scopes sets old new : List ℕ} (r : Range) → r.from ≡ get_or starts r.line 0 → r.to ≡ get_or starts (r.line + 1) 0
    → LaysLine plan scopes sets r old new → LaidTo plan scopes sets starts r.line old → LaidTo plan scopes sets starts (r.line + 1) new
laid_more starts {plan} {scopes} {sets} {old} {new} r f t L h k l = go (ℕ_discrete k r.line)
  where
    go : Dec (k ≡ r.line) → LineWords plan scopes sets (get_or starts k 0) (get_or starts (k + 1) 0) new k
    go (yes e) = rw (e, sym f, sym t) L.words
    go (no ne) = words-stay r L (omega arith) (h k (omega arith))

-- ---- what a plan gives

pub clauses-low : {plan ns : List ℕ} {n : ℕ} {ρ : Rule} → ClausesIn plan ns n ρ → (m : ℕ) → n ≤ m → ClausesLow plan (get_or plan clauses_at 0) m
clauses-low {plan} {ns} {n} {ρ} C m l = record {
  firsts = λ i k. low-more (clause-low ns n _ _ (clause_at ρ i) (C.each i (omega (arith, C.many)))).0 l;
  seconds = λ i k. low-more (clause-low ns n _ _ (clause_at ρ i) (C.each i (omega (arith, C.many)))).1 l;
}

pub order-in : {ts plan : List ℕ} {y : Layout} {T : Tables} {ρ : Rule} → Planned ts plan y T ρ → OrderIn plan
order-in {y = y} P =
    let t = P.turns in
    record {
      long = P.long;
      short = omega (arith, t.many, t.short);
      known = λ d l. let m : d < length y.order = omega (arith, t.many) in omega (arith, t.variables d m, t.known d m, t.few);
    }

module _ {plan : List ℕ} (I : OrderIn plan) (order : List ℕ) (room : length order ≡ 8) where
  pub chosen-long : length (take (get_or plan variables_at 0) order) ≡ get_or plan variables_at 0
  chosen-long = length-take-le (get_or plan variables_at 0) order (omega (arith, I.short))

  pub chosen-below : OrderOf plan order → (i : ℕ) → i < length (take (get_or plan variables_at 0) order) → get_or (take (get_or plan variables_at 0) order) i 0 < 8
  chosen-below o i l =
      let k : i < get_or plan variables_at 0 = omega (arith, chosen-long) in
      omega (arith, get_or-take (get_or plan variables_at 0) order i 0 k, o i k, I.known i k)

-- ---- all the lines are right

-- What the masks were worked out from.
pub record Worked (p : Parsed) (plan scopes sets : List ℕ) : Type 0 where
  pub terms : List ℕ
  pub words : List ℕ
  pub order : List ℕ
  pub room : length order ≡ 8
  pub named : NamesTo p.nodes p.n (vars_of p) terms p.n
  pub scoped : Scoped plan terms (get_or plan clauses_at 0) scopes
  pub ordered : OrderOf plan order
  pub in_sets : SetsNamed terms (vars_of p) words
  pub depths : ByDepth words (take (get_or plan variables_at 0) order) sets

module _ {p : Parsed} {plan scopes sets : List ℕ} (K : Worked p plan scopes sets) where
  abbrev chosen : List ℕ
  chosen = take (get_or plan variables_at 0) K.order

  module _ {ts : List ℕ} {y : Layout} {T : Tables} {ρ : Rule} (P : Planned ts plan y T ρ) (own : OwnNodes p y) where
    variables : Variables p.nodes p.n (vars_of p) (rule_vars [] ρ)
    variables = rw (sym own.nodes, sym own.many, sym own.vars) P.world.variables

    σ-few : length (rule_vars [] ρ) ≤ 8
    σ-few = omega (arith, all-length y.nodes y.vars (rule_vars [] ρ) P.world.variables.holds, P.turns.few)

    set-named : Named (length (vars_of p)) K.words (rule_vars [] ρ)
    set-named = K.in_sets p.nodes p.n K.named (λ i l. variables.below i l) (rule_vars [] ρ) variables

    clause-named : (i : ℕ) → i < clause_count ρ → (u : ℕ) → u < 64 → has (get_or scopes i 0) u ≡ clause_names (rule_vars [] ρ) (clause_at ρ i) u
    clause-named i l =
        let low = clauses-low P.clauses p.n (omega (arith, own.many)) in
        K.scoped p.nodes p.n (vars_of p) K.named low i (omega (arith, P.clauses.many)) (rule_vars [] ρ) variables (clause_at ρ i)
        (rw (sym own.nodes, sym own.many) (P.clauses.each i l))

    -- what a word covers, the sets and the clauses do
    set-covered : (word v : ℕ) → v < length (vars_of p) → Covers word (has (get_or K.words v 0)) → Covers word (names (rule_vars [] ρ) v)
    unfolding Named
    set-covered word v l h u e =
        let small = names-small (rule_vars [] ρ) (set_of (rule_vars [] ρ) v) u e in
        h u (set-named v u l (omega (arith, σ-few)) ∙ e)

    clause-covered : (word i : ℕ) → i < clause_count ρ → Covers word (has (get_or scopes i 0)) → Covers word (clause_names (rule_vars [] ρ) (clause_at ρ i))
    clause-covered word i l h u e =
        let small = clause-small (rule_vars [] ρ) (clause_at ρ i) u e in
        h u (clause-named i l u (omega (arith, σ-few)) ∙ e)

    many-chosen : length chosen ≡ length y.order
    many-chosen = length-take-le (get_or plan variables_at 0) K.order (omega (arith, P.turns.many, P.turns.short, K.room)) ∙ P.turns.many

    same-order : (j : ℕ) → j < length y.order → get_or chosen j 0 ≡ get_or y.order j 0
    same-order j l =
        let k : j < get_or plan variables_at 0 = omega (arith, P.turns.many) in
        get_or-take (get_or plan variables_at 0) K.order j 0 k ∙ K.ordered j k ∙ P.turns.variables j l

    sets-right : (word d : ℕ) → d < 8 → Covers word (has (get_or sets d 0)) → (j : ℕ) → d ≤ j → j < length y.order
        → Covers word (names (rule_vars [] ρ) (get_or y.order j 0))
    sets-right word d l h j k m =
        let known : get_or y.order j 0 < length (vars_of p) = rw (sym own.vars) (P.turns.known j m) in
        let in_depth : Covers (get_or sets d 0) (has (get_or K.words (get_or y.order j 0) 0)) = rw (sym (same-order j m)) (K.depths d l j k (omega (arith, many-chosen))) in
        set-covered word (get_or y.order j 0) known (λ u e. h u (in_depth u e))

    context-right : (lines : List ℕ) {l from to : ℕ} → LineWords plan scopes sets from to lines l → (d : ℕ) → d < length y.order
        → Context (names (rule_vars [] ρ)) (line_of (clauses_of T ρ) (from_of lines l) (to_of lines l)) (open_in (drop levels_from plan) 1 (d + 1)) (drop d y.order) (context_in lines l d)
    context-right lines {l} {from} {to} W d m =
        let deep : d < 8 = omega (arith, P.turns.short) in
        let M = W.masks d deep in
        context-from (names (rule_vars [] ρ)) (line_of (clauses_of T ρ) (from_of lines l) (to_of lines l)) (open_in (drop levels_from plan) 1 (d + 1)) y.order d (context_in lines l d)
        (sets-right (context_in lines l d) d deep M.sets)
        (λ i n o u e.
        let mine = and-true (within (from_of lines l) (to_of lines l) i) (clause_names (rule_vars [] ρ) (clause_at ρ i) u) e in
        let between = and-true (leb (from_of lines l) i) (ltb i (to_of lines l)) mine.0 in
        let above = leb-true (from_of lines l) i between.0 in
        let below = ltb-true i (to_of lines l) between.1 in
        let high = leb-true (d + 1) (get_or (drop levels_from plan) i 0) o in
        clause-covered (context_in lines l d) i n (M.clauses i (omega (arith, W.begins)) (omega (arith, W.ends)) (omega arith)) u mine.1)

  pub lays-lines : (starts : List ℕ) (many : ℕ) (lines : List ℕ) → length lines ≡ lines_length → LaidTo plan scopes sets starts many lines
      → LaysLines p plan starts many lines
  lays-lines starts many lines long W = record {
    long = long;
    from = λ l k. (W l k).begins;
    to = λ l k. (W l k).ends;
    right = λ ts y T ρ P own ranges. record {
      planned = P;
      each = λ l k. record {
        begins = omega (arith, (ranges l k).0, (W l k).begins, (W l k).ends);
        ends = omega (arith, (ranges l k).1, (W l k).ends);
        right = context-right P own lines (W l k);
        masks = λ d m. context-masks (mask_of lines l d);
      };
    };
  }
