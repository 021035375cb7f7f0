-- How the code names operations by number, and what the slices that it is lent hold.
-- Internal: contracts of entry points do not speak of it. Assumes nothing.
use Rattle.std.specs.Prelude.{◌≡◌, Bool, cond, not, List, [], ◌∷◌, ℕ, ◌-◌, ◌<◌, ◌≤◌, eqb, length, get_or}
use Rattle.tables.specs.Tables.{Tables}
use Rattle.tables.specs.Accepted.{Fits}
use Rattle.tables.specs.Code.Layout.{Whole}
use Rattle.tables.specs.Flat.{flat}
use Rattle.syntax.specs.Term.{Base, b_u, b_r, b_op, b_obj, b_p, b_s, b_cr, b_cp, b_cu, Fn, user, roles, roles*, sessions, permissions}
use Rattle.syntax.specs.Term.{permissions*, object, operations, done, meet, join, Pair, calls, joins, Term, Choices}
use Rattle.syntax.specs.Rule.{Cmp, lt, le, gt, ge, eq, ne}
use Rattle.syntax.specs.Code.Nodes.{first_call, first_pair, member_op, first_alike, first_empty}
use Rattle.syntax.specs.Code.Arena.{Holds, Tidy}
use Rattle.syntax.specs.Code.Reading.{mk, Knows}
use Rattle.rules.specs.Kind.{Sort, s_u, s_r, s_op, s_obj, s_p, s_s}
use Rattle.rules.specs.Code.Numbers.{Kinded}
use Rattle.words.specs.Words.{has, meet_of}
use Rattle.values.specs.Values.{value}
use Rattle.values.specs.Sets.{names_in, names}
use Rattle.values.specs.declared.items.Comparison.{Comparison}
use Rattle.values.specs.declared.items.Comparison.TheVariants.{Lt, Le, Gt, Ge, Eq, Ne}

-- The base, the function, what makes one term of two, the comparison and the sort of a number.
unfoldable pub base_at : ℕ → Base
base_at o = get_or (b_u ∷ b_r ∷ b_op ∷ b_obj ∷ b_p ∷ b_s ∷ b_cr ∷ b_cp ∷ b_cu ∷ []) o b_u

unfoldable pub fn_at : ℕ → Fn
fn_at o = get_or (user ∷ roles ∷ roles* ∷ sessions ∷ permissions ∷ permissions* ∷ object ∷ []) (o - first_call) user

unfoldable pub pair_at : ℕ → Pair
pair_at o = get_or (calls operations ∷ calls done ∷ joins meet ∷ joins join ∷ []) (o - first_pair) (calls operations)

unfoldable pub cmp_at : ℕ → Cmp
cmp_at d = get_or (lt ∷ le ∷ gt ∷ ge ∷ eq ∷ ne ∷ []) d lt

-- What the code's own word for a comparison means.
abbrev pub cmp_of : Comparison → Cmp
cmp_of Lt = lt
cmp_of Le = le
cmp_of Gt = gt
cmp_of Ge = ge
cmp_of Eq = eq
cmp_of Ne = ne

unfoldable pub sort_at : ℕ → Sort
sort_at s = get_or (s_u ∷ s_r ∷ s_op ∷ s_obj ∷ s_p ∷ s_s ∷ []) s s_u

-- What a walk over nodes needs to stay within its slices: the tables are whole, node k is one of the first n, which are tidy and have kinds.
pub record Evaluable (ts ns : List ℕ) (n : ℕ) (ks : List ℕ) (k : ℕ) : Type 0 where
  pub whole : Whole ts
  pub tidy : Tidy ns n
  pub kinded : n ≤ length ks
  pub below : k < n

-- The nodes vs are those of the arguments σ.
abbrev pub Variables : List ℕ → ℕ → List ℕ → Choices → Type 0
Variables ns n vs σ = Knows (mk ns n) vs σ

-- The slices hold the tables T, the kinds of the nodes, and the arguments σ.
pub record World (ts ns : List ℕ) (n : ℕ) (ks vs : List ℕ) (T : Tables) (σ : Choices) : Type 0 where
  pub fits : Fits T
  pub words : ts ≡ flat T
  pub kinds : Kinded ns n ks
  pub variables : Variables ns n vs σ

-- What is shown of a node's term, whatever the slices hold: r is its value.
abbrev pub ValueAt : List ℕ → List ℕ → ℕ → List ℕ → List ℕ → List ℕ → ℕ → ℕ → Type 0
ValueAt ts ns n ks vs c k r = (T : Tables) (σ : Choices) → World ts ns n ks vs T σ → (a : Term) → Holds ns k a → r ≡ value T σ c a

-- The word r has the variables that the term of node k names.
abbrev pub NamesAt : List ℕ → ℕ → List ℕ → ℕ → ℕ → Type 0
NamesAt ns n vs k r = (σ : Choices) → Variables ns n vs σ → (t : Term) → Holds ns k t → (u : ℕ) → u < 64 → has r u ≡ names_in σ t u

-- So have the words of the first m nodes.
abbrev pub NamesTo : List ℕ → ℕ → List ℕ → List ℕ → ℕ → Type 0
NamesTo ns n vs found m = (k : ℕ) → k < m → NamesAt ns n vs k (get_or found k 0)

-- The word of each of the first n variables has the variables that its set names.
unfoldable pub Named : ℕ → List ℕ → Choices → Type 0
Named n words σ = (v u : ℕ) → v < n → u < 64 → has (get_or words v 0) u ≡ names σ v u

-- So have all of them, where the words found are those of the nodes.
abbrev pub SetsNamed : List ℕ → List ℕ → List ℕ → Type 0
SetsNamed found vs words =
    (ns : List ℕ) (n : ℕ) → NamesTo ns n vs found n → ((i : ℕ) → i < length vs → get_or vs i 0 < n) → (σ : Choices) → Variables ns n vs σ → Named (length vs) words σ

-- The tests of two values, `@`, `=`, `!=`; and those of one, `={}` and `!={}`.
unfoldable pub related_at : ℕ → ℕ → ℕ → Bool
related_at o a b = cond (eqb o member_op) (not (eqb (meet_of a b) 0)) (cond (eqb o first_alike) (eqb a b) (not (eqb a b)))

unfoldable pub empty_at : ℕ → ℕ → Bool
empty_at o a = cond (eqb o first_empty) (eqb a 0) (not (eqb a 0))
