-- An order's sets are settled before their variables' turns, so that a plan laid along it holds what the slices hold.
-- Assumes nothing.
use mathlib.Core.Path.{◌≡◌, refl, sym, subst, ◌∙◌}
use mathlib.Core.Bool.{true, false}
use mathlib.Core.List.{List, []}
use mathlib.Core.Logic.{⊎_elim}
use Prim.Native.Nat.{ℕ, ◌-◌, ◌<◌, ◌≤◌}
use native.Mathlib.Omega.{arith}
use lib.ListN.{length, get_or, take}
use lib.Seq.{length-take-le}
use Rattle.rules.proofs.NodeLaws.{lt-or-le}
use Rattle.tables.specs.Tables.{Tables}
use Rattle.syntax.specs.Term.{Choices}
use Rattle.syntax.specs.Rule.{Rule, rule_vars}
use Rattle.syntax.proofs.NameLaws.{all-length}
use Rattle.rules.specs.declared.Parsed.{Parsed}
use Rattle.walks.specs.Meaning.{Once, After}
use Rattle.walks.specs.Order.{is_order, named_by}
use Rattle.walks.proofs.OnceLaws.{once-length}
use Rattle.walks.proofs.OrderLaws.{after-at, order-admissible, order-after, order-agree, order-length, order_small}
use Rattle.values.specs.Sets.{set_of, names}
use Rattle.values.specs.Code.Nodes.{Variables, Named}
use Rattle.values.specs.Code.Levels.{Level, Levels}
use Rattle.values.proofs.NamesLaws.{holds_at}
use Rattle.judging.specs.Code.Lent.{Case, Lent, OrderList, InTurn, vars_of, CaseBy, LentBy}
use Rattle.judging.specs.Code.Planning.{Planned, Laid, Plans}
use Rattle.judging.specs.Code.Walking.{Ordered, Lays, Sound}
use Rattle.judging.specs.declared.walking.Walk.{Walk}

-- The words of what the sets name serve the test of an order.
pub named-order : (n : ℕ) (words vs : List ℕ) (σ : Choices) → n ≤ 8 → Named n words σ → is_order (named_by words) n vs ≡ is_order (names σ) n vs
unfolding Named
named-order n words vs σ few h = order-agree (named_by words) (names σ) n (λ v u l m. h v u l (omega arith)) vs

-- What it accepts is in turn.
pub in-turn : {ns : List ℕ} {n : ℕ} {vs : List ℕ} (words order : List ℕ) → length vs ≤ 8 → ((σ : Choices) → Variables ns n vs σ → Named (length vs) words σ)
    → is_order (named_by words) (length vs) order ≡ true → InTurn ns n vs order
in-turn {vs = vs} words order few named ok σ w =
    order-after (names σ) (length vs) order (sym (named-order (length vs) words order σ few (named σ w)) ∙ ok)

-- As many nodes as variables.
pub as_many : {ts ns : List ℕ} {n : ℕ} {ks vs : List ℕ} {root : ℕ} {T : Tables} {ρ : Rule} → Case ts ns n ks vs root T ρ → length vs ≤ 8 → length vs ≡ length (rule_vars [] ρ)
as_many {ns = ns} {vs = vs} {ρ = ρ} C few = sym (all-length ns vs (rule_vars [] ρ) C.world.variables.holds)

-- In an order each set's level is below its variable's turn.
pub set-early : {ts ns : List ℕ} {n : ℕ} {ks vs : List ℕ} {root : ℕ} {levels : List ℕ} (order : List ℕ) → Lent ts ns n ks vs root → OrderList vs order
    → InTurn ns n vs order → Levels ns n vs order levels → (i : ℕ) → i < length order → get_or levels (get_or vs (get_or order i 0) 0) 0 ≤ i
set-early {ns = ns} {n = n} {vs = vs} {levels = levels} order L O A lev i l = ⊎_elim (λ (h : i < r). absurd (no h)) (λ (h : r ≤ i). h) (lt-or-le i r)
  where
    v : ℕ
    v = get_or order i 0

    r : ℕ
    r = get_or levels (get_or vs v 0) 0

    σ : Choices
    σ = rule_vars [] L.rule

    w : Variables ns n vs σ
    w = L.is_case.world.variables

    is : Level order (names σ v) r
    is = lev.each (get_or vs v 0) (L.nodes v (O.small i l)) σ w (set_of σ v) (holds_at ns vs σ w.holds v (O.small i l) _)

    no : i < r → ⊥
    no h =
        let e : true ≡ false = sym (is.met (omega arith)) ∙ after-at (names σ) order (A σ w) i (r - 1) (omega arith) (omega (arith, is.within)) in
        let o : ◌≡◌ {A = ℕ} 0 1 = cc in
        absurd (omega arith)

-- What the slices hold is what the plan holds.
pub planned-for : {ts ns : List ℕ} {n : ℕ} {ks vs : List ℕ} {root : ℕ} {plan : List ℕ} (order : List ℕ) → Lent ts ns n ks vs root → OrderList vs order → InTurn ns n vs order
    → (S : Plans ns n ks vs root order plan) → (T : Tables) (ρ : Rule) → Case ts ns n ks vs root T ρ
    → Planned ts plan (record { nodes = ns; n = n; kinds = ks; vars = vs; order = order; levels = S.levels }) T ρ
planned-for {ts} order L O A S T ρ C =
    S.planned ts T ρ L.ready.whole C.world C.holds (A (rule_vars [] ρ) C.world.variables) (set-early order L O A S.level)

module _ {ts : List ℕ} {p : Parsed} (L : LentBy ts p) where
  -- As many variables as the parse counted.
  pub vars-long : length p.vars ≡ 8 → length (vars_of p) ≡ p.count
  vars-long l = length-take-le p.count p.vars (omega (arith, L.few))

  -- What the test of an order accepts is one.
  pub tested : (words own : List ℕ) → ((σ : Choices) → Variables p.nodes p.n (vars_of p) σ → Named (length (vars_of p)) words σ)
      → is_order (named_by words) (length (vars_of p)) own ≡ true → Ordered p own
  tested words own named ok = record {
    list = record {
      short = omega (arith, order-length (named_by words) (length (vars_of p)) own ok, L.lent.few);
      small = order_small (named_by words) (length (vars_of p)) own ok;
    };
    turn = in-turn words own L.lent.few named ok;
    once = ((order-admissible (named_by words) (length (vars_of p)) own).0 ok).once;
  }

  module _ {own : List ℕ} (O : Ordered p own) where
    pub own-length : length own ≡ length (vars_of p)
    own-length = once-length (length (vars_of p)) own O.once

    -- A plan can be laid along it,
    pub laid-for : Laid p.nodes p.n p.kinds (vars_of p) p.root own
    laid-for = record {
      tidy = L.lent.ready.tidy;
      small = L.lent.small;
      kinded = L.lent.ready.kinded;
      below = L.lent.ready.below;
      few = L.lent.few;
      nodes = L.lent.nodes;
      short = O.list.short;
      known = O.list.small;
    }

    -- and holds the rule then.
    module _ {T : Tables} {ρ : Rule} (C : CaseBy ts p T ρ) where
      pub once-for : Once (length (rule_vars [] ρ)) own
      once-for = subst (λ (k : ℕ). Once k own) (as_many C L.lent.few) O.once

      pub after-for : After (names (rule_vars [] ρ)) own
      after-for = O.turn (rule_vars [] ρ) C.world.variables

    pub laid-along : {order plan : List ℕ} {e : ℕ} → Plans p.nodes p.n p.kinds (vars_of p) p.root own plan → take e own ≡ take e order → Lays ts p order e plan
    laid-along S same = record {
      long = (planned-for own L.lent O.list O.turn S L.lent.tables L.lent.rule L.lent.is_case).long;
      along = λ T ρ C. record {
        layout = record { nodes = p.nodes; n = p.n; kinds = p.kinds; vars = vars_of p; order = own; levels = S.levels };
        planned = planned-for own L.lent O.list O.turn S T ρ C;
        once = once-for C;
        begins = same;
      };
      own = λ T ρ C. record { nodes = refl; many = refl; vars = refl };
    }

-- So a sound walk's order is for its rule.
module _ {ts : List ℕ} {w : Walk} (S : Sound ts w) {T : Tables} {ρ : Rule} (C : CaseBy ts w.parsed.now T ρ) where
  pub once-in : Once (length (rule_vars [] ρ)) w.order.now
  once-in = once-for S.lent S.ordered C

  pub after-in : After (names (rule_vars [] ρ)) w.order.now
  after-in = after-for S.lent S.ordered C
