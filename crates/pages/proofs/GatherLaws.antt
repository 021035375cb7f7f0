-- Gathering the lines of a page: none, one more, and that each is a part of the rule that they make together.
-- Assumes nothing.
use mathlib.Core.Path.{◌≡◌, refl, sym, ap, ◌∙◌}
use mathlib.Core.Bool.{true, true≢false}
use mathlib.Core.List.{List, [], ◌∷◌, ◌++◌}
use mathlib.Core.Logic.{⊎_elim}
use Prim.Native.Nat.{ℕ, ◌+◌, ◌<◌, ◌≤◌, ◌^◌}
use native.Mathlib.Nat.{eq-or-lt_of_le}
use native.Mathlib.Decide.{ℕ_discrete}
use native.Mathlib.Omega.{arith}
use lib.ListN.{length, get_or, set, length-set, length-append, get_or-append}
use lib.Seq.{get_or-set_same, get_or-set_other, get_or-append_seam}
use Rattle.words.specs.Words.{has, Lowest, item_of, less_of}
use Rattle.words.proofs.LoopLaws.{lowest-item}
use Rattle.words.proofs.WordsLaws.{has-zero, has_in, less-here, less-lt}
use Rattle.syntax.specs.Bytes.{Bytes}
use Rattle.syntax.specs.Rule.{Rule}
use Rattle.std.specs.declared.option.Option.{Option}
use Rattle.std.specs.declared.option.Option.TheVariants.{Some, None}
use Rattle.sharing.specs.declared.gathering.Size.{Size}
use Rattle.sharing.specs.Code.Gathering.{start_of, Sheaf, Adds}
use Rattle.sharing.proofs.ClausesLaws.{start-same}
use Rattle.sharing.proofs.GatheringLaws.{sheaf-none, as-left, as-taken, sheaf-end}
use Rattle.sharing.proofs.LineLaws.{less-others}
use Rattle.pages.specs.Page.{page_limit}
use Rattle.pages.specs.Code.Parts.{line_at}
use Rattle.pages.specs.Code.Sheaves.{Wanted, Arrays, Gathers}
use Rattle.pages.specs.declared.sheaves.Gathered.{Gathered}

abbrev pub gathered_of : Size → ℕ → Gathered
gathered_of size lines = record { size = size; lines = lines }

pub gathers-none : {page : Bytes} {wanted : ℕ} {nodes list vars starts members : List ℕ} → Arrays nodes list vars starts members
    → Gathers page wanted nodes list vars starts members (gathered_of (record { n = 0; c = 0; count = 0 }) 0)
unfolding start_of
gathers-none {starts = starts} A = record {
  rules = [];
  many = refl;
  sheaf = sheaf-none A.for_nodes A.for_list A.for_vars;
  members_of = record {
    few = omega arith;
    for_starts = A.for_starts;
    for_members = A.for_members;
    starts_at = λ l h. let z : l ≡ 0 = omega arith in rw z A.first;
    inside = λ l h. absurd (omega arith);
    rule = λ l d h. absurd (omega arith);
  };
}

-- A line was left out.
pub gathers-left : {page : Bytes} {wanted : ℕ} {nodes list vars starts members nodes' list' vars' : List ℕ} {size : Size} {lines : ℕ} {s : Bytes} {r : Option Size}
    → Gathers page wanted nodes list vars starts members (gathered_of size lines)
    → ((κs : List Rule) → Sheaf κs nodes list vars size.n size.c size.count → Adds κs s nodes' list' vars' size.n size.c size.count r) → r ≡ None
    → Gathers page wanted nodes' list' vars' starts members (gathered_of size lines)
gathers-left G A q = record { rules = G.rules; many = G.many; sheaf = as-left (A G.rules G.sheaf) q; members_of = G.members_of }

-- A line was taken in.
module _ {page : Bytes} {wanted : ℕ} {nodes list vars starts members nodes' list' vars' : List ℕ} {size : Size} {lines : ℕ} {s : Bytes} {r : Option Size} {more : Size}
    (G : Gathers page wanted nodes list vars starts members (gathered_of size lines))
    (A : (κs : List Rule) → Sheaf κs nodes list vars size.n size.c size.count → Adds κs s nodes' list' vars' size.n size.c size.count r) (q : r ≡ Some more) (j : ℕ) (wants : has wanted j ≡ true)
    (room : lines < page_limit) (line : line_at page j ≡ s) where
  abbrev κ : Rule
  κ = (as-taken (A G.rules G.sheaf) q).0

  abbrev rules' : List Rule
  rules' = G.rules ++ (κ ∷ [])

  long : length rules' ≡ lines + 1
  long = simp length-append (omega (arith, G.many))

  sheaf' : Sheaf rules' nodes' list' vars' more.n more.c more.count
  sheaf' = (as-taken (A G.rules G.sheaf) q).2

  old : (l : ℕ) → l < lines → get_or (set members lines j) l 0 ≡ get_or members l 0
  old l h = get_or-set_other members lines l j 0 (λ e. omega arith)

  new : get_or (set members lines j) lines 0 ≡ j
  new = get_or-set_same members lines j 0 (omega (arith, G.members_of.for_members))

  old-rule : (l : ℕ) (x : Rule) → l < lines → get_or rules' l x ≡ get_or G.rules l x
  old-rule l x h = get_or-append G.rules (κ ∷ []) x l (omega (arith, G.many))

  new-rule : (x : Rule) → get_or rules' lines x ≡ κ
  new-rule x = ap (λ (i : ℕ). get_or rules' i x) (sym G.many) ∙ get_or-append_seam G.rules κ [] x

  start-at : (l : ℕ) → l ≤ length rules' → get_or (set starts (lines + 1) more.c) l 0 ≡ start_of rules' l
  start-at l h = ⊎_elim
      (λ (e : l ≡ lines + 1).
      rw e (get_or-set_same starts (lines + 1) more.c 0 (omega (arith, G.members_of.for_starts)) ∙ sym (sheaf-end sheaf') ∙ ap (start_of rules') long))
      (λ (e : l < lines + 1).
      get_or-set_other starts (lines + 1) l more.c 0 (λ z. omega arith) ∙ G.members_of.starts_at l (omega (arith, G.many)) ∙ sym (start-same G.rules (κ ∷ []) l (omega (arith, G.many))))
      (eq-or-lt_of_le (omega (arith, long)))

  pub gathers-next : Gathers page wanted nodes' list' vars' (set starts (lines + 1) more.c) (set members lines j) (gathered_of more (lines + 1))
  gathers-next = record {
    rules = rules';
    many = long;
    sheaf = sheaf';
    members_of = record {
      few = omega (arith, long);
      for_starts = simp length-set G.members_of.for_starts;
      for_members = simp length-set G.members_of.for_members;
      starts_at = start-at;
      inside = λ l h. ⊎_elim (λ (e : l ≡ lines). rw (e, new) wants) (λ (e : l < lines). rw (old l e) (G.members_of.inside l (omega (arith, G.many))))
          (eq-or-lt_of_le (omega (arith, long)));
      rule = λ l x h. ⊎_elim
          (λ (e : l ≡ lines). rw (e, new, line, new-rule x) (as-taken (A G.rules G.sheaf) q).1)
          (λ (e : l < lines). rw (old l e, old-rule l x e) (G.members_of.rule l x (omega (arith, G.many)))) (eq-or-lt_of_le (omega (arith, long)));
    };
  }

-- The loop: the lines that are left are wanted, and each comes behind as many as were taken in.
pub record Going (page : Bytes) (wanted : ℕ) (nodes list vars starts members : List ℕ) (size : Size) (lines rest : ℕ) : Type 0 where
  pub small : rest < 2 ^ 64
  pub inside : (j : ℕ) → has rest j ≡ true → has wanted j ≡ true
  pub behind : (j : ℕ) → has rest j ≡ true → lines ≤ j
  pub gathers : Gathers page wanted nodes list vars starts members (gathered_of size lines)

no-bit : {A : Type 0} (j : ℕ) → has 0 j ≡ true → A
no-bit j h = absurd (true≢false (sym h ∙ has-zero j))

pub going_end : {page : Bytes} {wanted : ℕ} {nodes list vars starts members : List ℕ} {size : Size} {lines : ℕ}
    → Gathers page wanted nodes list vars starts members (gathered_of size lines) → Going page wanted nodes list vars starts members size lines 0
going_end G = record { small = omega arith; inside = λ j h. no-bit j h; behind = λ j h. no-bit j h; gathers = G }

module _ (wanted : ℕ) {rest j lines : ℕ} (small : rest < 2 ^ 64) (inside : (i : ℕ) → has rest i ≡ true → has wanted i ≡ true) (behind : (i : ℕ) → has rest i ≡ true → lines ≤ i)
    (here : Lowest rest j) (low : j < 64) where
  left : (i : ℕ) → has (less_of rest (item_of j)) i ≡ true → (has rest i ≡ true) × (j < i)
  left i h =
      let b : i < 64 = has_in (less_of rest (item_of j)) 64 i (less-lt rest (item_of j)) h in
      go b (ℕ_discrete i j)
    where
      go : i < 64 → Dec (i ≡ j) → (has rest i ≡ true) × (j < i)
      go b (yes e) = absurd (true≢false (sym h ∙ ap (has (less_of rest (item_of j))) e ∙ less-here rest j low))
      go b (no ne) =
          let was : has rest i ≡ true = sym (less-others rest j i small ne) ∙ h in
          let above : i < j → ⊥ = λ l. true≢false (sym was ∙ here.least i l) in
          (was, omega arith)

  pub going_on : {page : Bytes} {nodes list vars starts members : List ℕ} {size : Size} → Gathers page wanted nodes list vars starts members (gathered_of size (lines + 1))
      → Going page wanted nodes list vars starts members size (lines + 1) (less_of rest (item_of j))
  going_on G = record {
    small = less-lt rest (item_of j);
    inside = λ i h. inside i (left i h).0;
    behind = λ i h. omega (arith, (left i h).1, behind j (here.found low));
    gathers = G;
  }

-- The next line: it is wanted, and there is room for it.
pub record Next (wanted j lines : ℕ) : Type 0 where
  pub low : j < 64
  pub wants : has wanted j ≡ true
  pub room : lines < page_limit

module _ {page : Bytes} {wanted : ℕ} {nodes list vars starts members : List ℕ} {size : Size} {lines rest j : ℕ}
    (W : Wanted page wanted) (G : Going page wanted nodes list vars starts members size lines rest) (some : rest ≡ 0 → ⊥) (here : Lowest rest j) where
  pub next : Next wanted j lines
  next =
      let low = lowest-item G.small some here in
      let wants = G.inside _ (here.found low) in
      record { low = low; wants = wants; room = omega (arith, G.behind _ (here.found low), W.inside _ wants, W.few) }

  pub gathers-more : {nodes' list' vars' : List ℕ} {s : Bytes} {r : Option Size} {more : Size}
      → ((κs : List Rule) → Sheaf κs nodes list vars size.n size.c size.count → Adds κs s nodes' list' vars' size.n size.c size.count r) → r ≡ Some more → line_at page j ≡ s
      → Gathers page wanted nodes' list' vars' (set starts (lines + 1) more.c) (set members lines j) (gathered_of more (lines + 1))
  gathers-more A q line = gathers-next G.gathers A q j next.wants next.room line
