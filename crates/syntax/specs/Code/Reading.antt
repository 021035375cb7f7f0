-- What the functions of the reader ensure: which name stands at a place, what a reader found, what the nodes hold.
-- Internal: contracts of entry points do not speak of it. Assumes nothing.
use denote.Ref.{Bor}
use Rattle.std.specs.Prelude.{◌≡◌, Bool, cond, List, [], ◌∷◌, ℕ, ◌+◌, ◌-◌, ◌<◌, ◌≤◌, eqb, ltb, leb, length, get_or, drop, map, IsTrue}
use Rattle.std.specs.List.{list_all}
use Rattle.std.specs.Prelude.{Option as Maybe, Some, None}
use Rattle.std.proofs.Math.Option.{Option, none, some}
use Rattle.syntax.specs.Bytes.{Bytes, ascii, Read, fail, got, Reader, ◌>>=◌, ◌>>◌, give, skip, begins, scan}
use Rattle.syntax.specs.Term.{Fn2, operations, done, meet, join, Pair, calls, joins, Term, oe, ao, two, Choices, Head, is_base, is_call, is_oe, is_ao}
use Rattle.syntax.specs.Term.{is_call2, is_bracket, is_choice, is_less, spell_middle, parting, known, closed, read_term}
use Rattle.syntax.specs.Rule.{Between, is_in, is_sign, Cmp, Test, Clause, Rule, last, also, sized, spell_cmp, cmps, spell_between, betweens, read_count, read_second}
use Rattle.syntax.specs.Code.Arena.{base_op, fn_op, two_op, alike_op, One, Holds, HoldsAll, HoldsClause, HoldsRule, Low, Tidy}
use Rattle.syntax.specs.declared.names.Spelled.{Spelled}
use Rattle.syntax.specs.declared.arena.Place.{Place}
use Rattle.syntax.specs.declared.tests.Clauses.{Clauses}
use Rattle.syntax.specs.declared.Root.{Root}
use Rattle.syntax.specs.declared.Listed.{Listed}
use Rattle.syntax.specs.Code.Nodes.{oe_op, ao_op, first_pair, first_join, member_op, ops_end, bracket_head, choice_head, node_of, index_room}

-- Names.

-- r says whether w stands in s at `at`.
pub record Stands (s : Bytes) (at : ℕ) (w : Bytes) (r : Bool) : Type 0 where
  pub is : r ≡ begins w (drop at s)

-- At `at` stands a thing with the number o, and e is the place behind it.
pub record Signed {A : Type 0} (number : A → ℕ) (s : Bytes) (at o e : ℕ) (r : Read A) : Type 0 where
  pub thing : A
  pub is : r ≡ got thing (drop e s)
  pub number_is : number thing ≡ o
  pub more : at + 1 ≤ e
  pub fits : e ≤ length s

pub data Named {A : Type 0} (number : A → ℕ) (s : Bytes) (at : ℕ) : Maybe Spelled → Read A → Type 0 where
  no_name : {r : Read A} → r ≡ fail → Named number s at None r
  some_name : {h : Spelled} {r : Read A} → Signed number s at h.number h.next r → Named number s at (Some h) r

-- The numbers of the beginnings of a term: that of the operation, or one of their own.
unfoldable pub head_op : Head → ℕ
head_op (is_base b) = base_op b
head_op (is_call f) = fn_op f
head_op is_oe = oe_op
head_op is_ao = ao_op
head_op (is_call2 operations) = first_pair
head_op (is_call2 done) = first_pair + 1
head_op is_bracket = bracket_head
head_op is_choice = choice_head

unfoldable pub between_op : Between → ℕ
between_op is_in = member_op
between_op (is_sign g) = alike_op g

abbrev pub itself : ℕ → ℕ
itself m = m

-- The names of a table, each with its number.
abbrev pub entries : List (Bor Bytes × ℕ) → List (Bytes × ℕ)
entries names = map (λ p. (p.0.now, p.1)) names

abbrev pub text_of : Bytes × ℕ → Bytes
text_of x = x.0

abbrev pub number_of : Bytes × ℕ → ℕ
number_of x = x.1

-- Each has a byte at least.
abbrev pub Spelt : List (Bytes × ℕ) → Type 0
Spelt xs = IsTrue (list_all (λ x. leb 1 (length (text_of x))) xs)

-- A digit in front.
unfoldable pub read_digit : Reader ℕ
read_digit [] = fail
read_digit (c ∷ s) = cond (ltb c 48) fail (cond (ltb 57 c) fail (got (c - 48) s))

-- The choice at `at` is that of index i, whose node is v.
pub record Choice (s : Bytes) (at : ℕ) (vars : List ℕ) (v e : ℕ) : Type 0 where
  pub index : ℕ
  pub byte : get_or s at 0 ≡ 49 + index
  pub known : index < length vars
  pub node : get_or vars index 0 ≡ v
  pub behind : e ≡ at + 1
  pub fits : at + 1 ≤ length s

pub data Chosen (s : Bytes) (at : ℕ) (vars : List ℕ) : Maybe Spelled → Type 0 where
  no_choice : ((σ : Choices) → length σ ≡ length vars → known σ (drop at s) ≡ fail) → Chosen s at vars None
  some_choice : {h : Spelled} → Choice s at vars h.number h.next → Chosen s at vars (Some h)

-- Nodes.

-- The nodes, and how many there are.
pub record Arena : Type 0 where
  pub nodes : List ℕ
  pub n : ℕ

abbrev pub mk : List ℕ → ℕ → Arena
mk ns n = record { nodes = ns; n = n }

-- The nodes of a stay in b.
pub record Stays (a b : Arena) : Type 0 where
  pub more : a.n ≤ b.n
  pub size : length b.nodes ≡ length a.nodes
  pub same : (i : ℕ) → i < a.n → get_or b.nodes i 0 ≡ get_or a.nodes i 0

-- r is the first index below n that holds v, or n.
pub record Sought (ns : List ℕ) (n v r : ℕ) : Type 0 where
  pub within : r ≤ n
  pub before : (k : ℕ) → k < r → get_or ns k 0 ≡ v → ⊥
  pub found : r < n → get_or ns r 0 ≡ v

-- The node of an operation on i and j may be put into a.
pub record Fresh (a : Arena) (op i j : ℕ) : Type 0 where
  pub room : a.n < length a.nodes
  pub tidy : Tidy a.nodes a.n
  pub known : op < ops_end
  pub left : i < index_room
  pub right : j < index_room
  pub low : Low (node_of op i j) a.n

-- b is a with the node v in it, at k.
pub record Interned (a : Arena) (v : ℕ) (b : Arena) (k : ℕ) : Type 0 where
  pub within : k < b.n
  pub few : b.n ≤ a.n + 1
  pub at : get_or b.nodes k 0 ≡ v
  pub stays : Stays a b
  pub tidy : Tidy b.nodes b.n

-- p says where the node v is, and that it was read up to e.
pub record Put (a : Arena) (v e : ℕ) (ns : List ℕ) (p : Place) : Type 0 where
  pub interned : Interned a v (mk ns p.n) p.node
  pub behind : p.next ≡ e

-- Readers.

-- The nodes of the choices σ.
pub record Knows (a : Arena) (vars : List ℕ) (σ : Choices) : Type 0 where
  pub holds : HoldsAll a.nodes vars σ
  pub below : (i : ℕ) → i < length vars → get_or vars i 0 < a.n

-- What a reader is given: room for a node more for each byte that is left, and the nodes of some choices.
pub record Readable (s : Bytes) (at : ℕ) (vars : List ℕ) (a : Arena) : Type 0 where
  pub room : length s ≤ length a.nodes
  pub within : at ≤ length s
  pub count : a.n + length s ≤ length a.nodes + at
  pub tidy : Tidy a.nodes a.n
  pub choices : Choices
  pub knows : Knows a vars choices

-- A thing was read from `at` to e: node k of b holds it. No more nodes came than bytes were read.
pub record Found {A : Type 0} (H : List ℕ → ℕ → A → Type 0) (s : Bytes) (at : ℕ) (a b : Arena) (k e : ℕ) (r : Read A) : Type 0 where
  pub thing : A
  pub reads : r ≡ got thing (drop e s)
  pub holds : H b.nodes k thing
  pub within : k < b.n
  pub count : b.n + at ≤ a.n + e
  pub end : e ≤ length s
  pub stays : Stays a b
  pub tidy : Tidy b.nodes b.n

pub data Agree {A : Type 0} (H : List ℕ → ℕ → A → Type 0) (s : Bytes) (at : ℕ) (a : Arena) (ns : List ℕ) : Maybe Place → Read A → Type 0 where
  no_thing : {r : Read A} → r ≡ fail → Agree H s at a ns None r
  some_thing : {p : Place} {r : Read A} → Found H s at a (mk ns p.n) p.node p.next r → Agree H s at a ns (Some p) r

-- The parts of the reader of terms that its functions read.

-- The node of op on a node that holds a term holds what make gives of the term.
pub record Makes (op : ℕ) (make : Term → Term) : Type 0 where
  pub builds : (ns : List ℕ) (k i : ℕ) (a : Term) → One ns k op i → Holds ns i a → Holds ns k (make a)

-- What stands after the first term in a bracket: what makes two terms one, or the choice that is taken away.
pub data Joint : Type 0 where
  pair : Pair → Joint
  away : Joint

unfoldable pub joint_op : Joint → ℕ
joint_op (pair o) = two_op o
joint_op away = ao_op

unfoldable pub spell_joint : Joint → Bytes
spell_joint (pair o) = parting o
spell_joint away = spell_middle is_less

-- The call of two terms with a number, from first_pair on.
unfoldable pub fn2_at : ℕ → Fn2
fn2_at op = cond (eqb op first_pair) operations done

-- Behind a call of two terms the comma, and behind the bracket a sign.
unfoldable pub joints : ℕ → List Joint
joints op = cond (ltb op first_join) (pair (calls (fn2_at op)) ∷ []) (pair (joins meet) ∷ pair (joins join) ∷ away ∷ [])

unfoldable pub choice : Choices → Reader Term
choice σ = do a ← known σ; give (oe a)

unfoldable pub less : Choices → Term → Reader Term
less σ a = do known σ; skip (ascii "})"); give (ao a)

unfoldable pub ending : Reader Term → Choices → Term → Joint → Reader Term
ending rd σ a (pair o) = closed rd (two o a)
ending rd σ a away = less σ a

unfoldable pub paired : Reader Term → Choices → ℕ → Reader Term
paired rd σ op = do a ← rd; j ← scan spell_joint (joints op); ending rd σ a j

-- The parts of the readers of tests and of formulas.

unfoldable pub counted : Choices → Cmp → Term → Reader Test
counted σ o a = do k ← read_count σ; give (sized o a k)

unfoldable pub sized_test : Choices → Reader Test
sized_test σ = do a ← read_term σ; skip (ascii "|"); o ← scan spell_cmp cmps; counted σ o a

unfoldable pub related_test : Choices → Reader Test
related_test σ = do a ← read_term σ; m ← scan spell_between betweens; read_second σ a m

unfoldable pub chosen_set : Choices → Reader Term
chosen_set σ = do skip ((49 + length σ) ∷ []); skip (ascii "@"); x ← read_term σ; skip (ascii "]"); give x

-- How many clauses are read at most: a rule has at most 256 bytes, and a clause one at least.
abbrev pub clause_room : ℕ
clause_room = 256

-- A rule behind the clauses cs.
unfoldable pub graft : List Clause → Rule → Rule
graft [] ρ = ρ
graft (c ∷ cs) ρ = also c (graft cs ρ)

-- The nodes of a list hold the clauses cs and then d; there are c of them.
pub record ClauseList (a : Arena) (list : List ℕ) (c : ℕ) (cs : List Clause) (d : Clause) : Type 0 where
  pub size : length cs + 1 ≡ c
  pub each : (i : ℕ) → i < c → HoldsClause a.nodes (get_or list i 0) (get_or cs i d)

-- c clauses were read from `at` to e, with a byte between each two of them for the node that joins them.
pub record Collected (s : Bytes) (at : ℕ) (a b : Arena) (list : List ℕ) (c e : ℕ) (r : Read Rule) : Type 0 where
  pub before : List Clause
  pub final : Clause
  pub reads : r ≡ got (graft before (last final)) (drop e s)
  pub listed : ClauseList b list c before final
  pub below : (i : ℕ) → i < c → get_or list i 0 < b.n
  pub many : c ≤ length list
  pub count : b.n + at + c ≤ a.n + e + 1
  pub end : e ≤ length s
  pub stays : Stays a b
  pub tidy : Tidy b.nodes b.n

pub data Collects (s : Bytes) (at : ℕ) (a : Arena) (ns list : List ℕ) : Maybe Clauses → Read Rule → Type 0 where
  no_clause : {r : Read Rule} → r ≡ fail → Collects s at a ns list None r
  some_clauses : {p : Clauses} {r : Read Rule} → Collected s at a (mk ns p.n) list p.count p.next r → Collects s at a ns list (Some p) r

-- The clauses of a list may be joined: there is room for a node between each two.
pub record Joinable (a : Arena) (list : List ℕ) (c next : ℕ) : Type 0 where
  pub some : 1 ≤ c
  pub many : c ≤ length list
  pub below : (i : ℕ) → i < c → get_or list i 0 < a.n
  pub room : a.n + c ≤ length a.nodes + 1
  pub tidy : Tidy a.nodes a.n

-- Node k of b holds the rule of the clauses.
pub record JoinedAt (a : Arena) (list : List ℕ) (c : ℕ) (b : Arena) (k : ℕ) : Type 0 where
  pub holds : (cs : List Clause) (d : Clause) → ClauseList a list c cs d → HoldsRule b.nodes k (graft cs (last d))
  pub within : k < b.n
  pub few : b.n + 1 ≤ a.n + c
  pub stays : Stays a b
  pub tidy : Tidy b.nodes b.n

pub record Joined (a : Arena) (list : List ℕ) (c e : ℕ) (ns : List ℕ) (p : Place) : Type 0 where
  pub rule : JoinedAt a list c (mk ns p.n) p.node
  pub behind : p.next ≡ e

-- A whole text: the rule that it is, at node k of n.
pub record Rooted (s ns : List ℕ) (k n : ℕ) (o : Option Rule) : Type 0 where
  pub rule : Rule
  pub is : o ≡ some rule
  pub holds : HoldsRule ns k rule
  pub within : k < n
  pub few : n ≤ length s
  pub tidy : Tidy ns n

pub data Reads (s ns : List ℕ) : Maybe Root → Option Rule → Type 0 where
  no_rule : {o : Option Rule} → o ≡ none → Reads s ns None o
  some_rule : {w : Root} {o : Option Rule} → Rooted s ns w.node w.n o → Reads s ns (Some w) o

-- The rule of a whole text by its clauses: the list has the nodes of the c clauses, behind the nodes of a.
pub record Listing (s : Bytes) (a b : Arena) (list : List ℕ) (c : ℕ) (o : Option Rule) : Type 0 where
  pub before : List Clause
  pub final : Clause
  pub is : o ≡ some (graft before (last final))
  pub listed : ClauseList b list c before final
  pub below : (i : ℕ) → i < c → get_or list i 0 < b.n
  pub many : c ≤ length list
  pub count : b.n + c ≤ a.n + length s + 1
  pub stays : Stays a b
  pub tidy : Tidy b.nodes b.n

pub data Lists (s : Bytes) (a : Arena) (ns list : List ℕ) : Maybe Listed → Option Rule → Type 0 where
  no_list : {o : Option Rule} → o ≡ none → Lists s a ns list None o
  some_list : {w : Listed} {o : Option Rule} → Listing s a (mk ns w.n) list w.count o → Lists s a ns list (Some w) o

-- The rule of the first c clauses of a list is at a root.
abbrev pub Together : Arena → List ℕ → ℕ → List ℕ → Root → Type 0
Together a list c ns w = JoinedAt a list c (mk ns w.n) w.node
