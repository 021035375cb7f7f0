-- Which refusals the tables are turned back by: 1 to 6 while the sections are read, 7 to 10 and 20 behind them, and 7 for rank alone.
-- Assumes nothing.
use mathlib.Core.Path.{◌≡◌, refl, ap, ◌∙◌}
use mathlib.Core.Bool.{Bool, true, false, cond}
use mathlib.Core.List.{[], ◌∷◌}
use mathlib.Core.Logic.{inl}
use Prim.Native.Nat.{ℕ, zero, suc, ◌≤◌, ◌<◌}
use native.Mathlib.Omega.{arith}
use lib.Dec.{lit≤, ltb}
use lib.ListN.{length, take, drop}
use borrow.Author.Tests.{eq-eqb, ne_eqb}
use Rattle.answers.specs.Refusal.{number_of}
use Rattle.answers.specs.declared.Refusal.{Refusal}
use Rattle.answers.specs.declared.Refusal.TheVariants.{CutShort, Rank, Overreach, Twin, LeftOver, Left}
use Rattle.answers.proofs.AnswerLaws.{same_number}
use Rattle.tables.specs.Tables.{Tables}
use Rattle.tables.specs.Checks.{leavers_gone, rank_step, ranked, in_reach, no_twin, late_checks, first_failing, late}
use Rattle.tables.specs.Reading.{Bytes, Taken, stop, took, Reader, next, refuse, front, byte, count, word_within, word_row, marked_row, user_row, permission_row, session_row, done_row, rows, section}
use Rattle.tables.specs.Reading.{roles, permissions, rights, collections, sections, nothing_left, settle, whole, Reading, rejected, taken, tables_of}
use Rattle.tables.specs.Reading.{assembled, reading_number, rows_read, rank_step_of}
use Rattle.answers.specs.Outcome.{Outcome, passes, refuses}
use Rattle.std.specs.declared.result.Result.TheVariants.{Ok, Err}
use Rattle.tables.proofs.FitsLaws.{next-case}
use Rattle.tables.proofs.LoadLaws.{OfTables, load-stop, left_over, late-refusal}

-- A reader that stops with 1 to 6 only.
abbrev Low : {A : Type 0} → Reader A → Type 0
Low f = (s : Bytes) (e : Refusal) → f s ≡ stop e → number_of e ≤ 6

low-give : {A : Type 0} (a : A) → Low (λ s. took a s)
low-give a s e q = let z : ◌≡◌ {A = ℕ} 0 1 = cc in absurd (omega arith)

low-next : {A B : Type 0} {m : Reader A} {f : A → Reader B} → Low m → ((a : A) → Low (f a)) → Low (λ s. next (m s) f)
unfolding next
low-next {A} {B} {m} {f} h g s e q = go (m s) refl q
  where
    go : (t : Taken A) → m s ≡ t → next t f ≡ stop e → number_of e ≤ 6
    go (stop d) i q = let x : d ≡ e = cc in rw (← x) (h s d i)
    go (took a u) i q = g a u e q

low-refuse : (b : Bool) (d : Refusal) → number_of d ≤ 6 → Low (refuse b d)
unfolding refuse
low-refuse true d l s e q = let x : d ≡ e = cc in rw (← x) l
low-refuse false d l s e q = let z : ◌≡◌ {A = ℕ} 0 1 = cc in absurd (omega arith)

low-front : (n : ℕ) → Low (front n)
unfolding front
low-front n s e q = go (ltb (length s) n) q
  where
    go : (b : Bool) → cond b (stop CutShort) (took (take n s) (drop n s)) ≡ stop e → number_of e ≤ 6
    go true q = let x : CutShort ≡ e = cc in rw (← x) (omega arith)
    go false q = let z : ◌≡◌ {A = ℕ} 0 1 = cc in absurd (omega arith)

low_byte : Low byte
unfolding byte
low_byte = low-next (low-front 1) (λ b. low-give _)

low_count : (limit : ℕ) → Low (count limit)
unfolding count
low_count limit = low-next low_byte (λ n. low-next (low-refuse _ _ (lit≤ tt)) (λ _. low-give _))

low-within : (n : ℕ) (b : Bytes) → Low (word_within n b)
unfolding word_within
low-within n b = low-next (low-refuse _ _ (lit≤ tt)) (λ _. low-give _)

low_word : (n : ℕ) → Low (word_row n)
unfolding word_row
low_word n = low-next (low-front 8) (λ b. low-within n b)

low-marked : (highest n : ℕ) → Low (marked_row highest n)
unfolding marked_row
low-marked highest n =
    low-next (low-front 9) (λ b.
    low-next (low-refuse _ _ (lit≤ tt)) (λ _. low-next (low-refuse _ _ (lit≤ tt)) (λ _. low-next (low-within n (drop 1 b)) (λ w. low-give _))))

low-user : (n : ℕ) → Low (user_row n)
unfolding user_row
low-user n = low-next (low-marked _ n) (λ m. low-give _)

low-permission : (n : ℕ) → Low (permission_row n)
unfolding permission_row
low-permission n = low-next (low-marked _ n) (λ m. low-give _)

low-session : (users roles : ℕ) → Low (session_row users roles)
unfolding session_row
low-session users roles = low-next (low-front 9) (λ b. low-next (low-refuse _ _ (lit≤ tt)) (λ _. low-next (low-within roles (drop 1 b)) (λ w. low-give _)))

low-done : (users operations objects : ℕ) → Low (done_row users operations objects)
unfolding done_row
low-done users operations objects =
    low-next (low-front 3) (λ b.
    low-next (low-refuse _ _ (lit≤ tt)) (λ _. low-next (low-refuse _ _ (lit≤ tt)) (λ _. low-next (low-refuse _ _ (lit≤ tt)) (λ _. low-give _))))

low_rows : {A : Type 0} {row : Reader A} → Low row → (n : ℕ) → Low (rows row n)
unfolding rows
low_rows h zero = low-give _
low_rows h (suc n) = low-next h (λ a. low-next (low_rows h n) (λ more. low-give _))

low-section : {A : Type 0} {row : ℕ → Reader A} → ((n : ℕ) → Low (row n)) → Low (section row)
unfolding section
low-section h = low-next (low_count 64) (λ n. low_rows (h n) n)

low-permissions : (product roles : ℕ) → Low (permissions product roles)
unfolding permissions
low-permissions product roles = low-next low_byte (λ n. low-next (low-refuse _ _ (lit≤ tt)) (λ _. low_rows (low-permission roles) n))

low-rights : (roles : ℕ) → Low (rights roles)
unfolding rights
low-rights roles = low-next (low_count 8) (λ a. low-next (low_count 8) (λ b. low-next (low-permissions _ roles) (λ ps. low-give _)))

low-collections : (roles users items : ℕ) → Low (collections roles users items)
unfolding collections
low-collections roles users items =
    low-next (low-section (λ _. low_word roles)) (λ r. low-next (low-section (λ _. low_word users)) (λ u. low-next (low-section (λ _. low_word items)) (λ p. low-give _)))

low-sections : Low sections
unfolding sections
low-sections =
    low-next (low-section (λ n. low_word n)) (λ rs.
    low-next (low-section (λ _. low-user _)) (λ us.
    low-next (low-section (λ _. low-session _ _)) (λ ss.
    low-next (low-rights _) (λ q.
    low-next (low-collections _ _ _) (λ c.
    low-next (low-section (λ _. low-done _ _ _)) (λ ds. low-give _))))))

pub tables-refusal : (b : Bytes) (e : Refusal) → tables_of b ≡ rejected e → OfTables e
tables-refusal b e q = go (sections b) refl
  where
    go : (t : Taken Tables) → sections b ≡ t → OfTables e
    go (stop d) i = let x : d ≡ e = cc (q, load-stop b i) in rw (← x) (inl (omega (arith, low-sections b d i)))
    go (took T s) i = (late-refusal b i q).1

-- Tables that are refused by rank have all their sections and nothing behind them, and a step of the hierarchy test fails.
pub record RankRefused (b : Bytes) : Type 0 where
  pub tables : Tables
  pub reads : sections b ≡ took tables []
  pub fails : rank_step tables.role_rows ≡ 0 → ⊥

late-rank : (T : Tables) → late T ≡ refuses Rank → rank_step T.role_rows ≡ 0 → ⊥
unfolding late_checks first_failing ranked
late-rank T q z = go (leavers_gone T) (in_reach T) (no_twin T) (rw (eq-eqb (rank_step T.role_rows) 0 z) at q)
  where
    go : (a b c : Bool) → cond a (cond b (cond c passes (refuses Twin)) (refuses Overreach)) (refuses Left) ≡ refuses Rank → ⊥
    go false b c q = let x : Left ≡ Rank = cc in absurd (omega (arith, ap number_of x))
    go true false c q = let x : Overreach ≡ Rank = cc in absurd (omega (arith, ap number_of x))
    go true true false q = let x : Twin ≡ Rank = cc in absurd (omega (arith, ap number_of x))
    go true true true q = let x : ◌≡◌ {A = ℕ} 0 1 = cc in absurd (omega arith)

-- A refusal above 6 that is not 10 is that of a late check, on tables with all their sections and nothing behind them.
late-refused : (b : Bytes) (e : Refusal) → 6 < number_of e → (LeftOver ≡ e → ⊥) → tables_of b ≡ rejected e
    → (T : Tables) × (sections b ≡ took T []) × (late T ≡ refuses e)
unfolding tables_of whole next nothing_left refuse settle
late-refused b e l other q = go (sections b) refl
  where
    outcome : (T : Tables) → sections b ≡ took T [] → (o : Outcome) → late T ≡ o → late T ≡ refuses e
    outcome T i (Err d) k = let x : d ≡ e = cc (rw (i, k) at q) in k ∙ ap Err x
    outcome T i (Ok tt) k = let x : ◌≡◌ {A = ℕ} 0 1 = cc (rw (i, k) at q) in absurd (omega arith)

    go : (t : Taken Tables) → sections b ≡ t → (T : Tables) × (sections b ≡ took T []) × (late T ≡ refuses e)
    go (stop d) i = let x : d ≡ e = cc (q, load-stop b i) in absurd (omega (arith, low-sections b d i, ap number_of x))
    go (took T []) i = (T, i, outcome T i (late T) refl)
    go (took T (x ∷ s)) i = let y : LeftOver ≡ e = cc (q, left_over b i (omega arith)) in absurd (other y)

pub rank-refused : (b : Bytes) → tables_of b ≡ rejected Rank → RankRefused b
rank-refused b q =
    let w = late-refused b Rank (omega arith) (λ x. absurd (omega (arith, ap number_of x))) q in
    record { tables = w.0; reads = w.1; fails = late-rank w.0 w.2 }

-- The same of 20: something of a leaver remains.
pub record LeftRefused (b : Bytes) : Type 0 where
  pub tables : Tables
  pub reads : sections b ≡ took tables []
  pub fails : leavers_gone tables ≡ false

late-left : (T : Tables) → late T ≡ refuses Left → leavers_gone T ≡ false
unfolding late_checks first_failing
late-left T q = go (leavers_gone T) (ranked T.role_rows) (in_reach T) (no_twin T) q
  where
    go : (g a b c : Bool) → cond g (cond a (cond b (cond c passes (refuses Twin)) (refuses Overreach)) (refuses Rank)) (refuses Left) ≡ refuses Left → g ≡ false
    go false a b c q = refl
    go true false b c q = let x : Rank ≡ Left = cc in absurd (omega (arith, ap number_of x))
    go true true false c q = let x : Overreach ≡ Left = cc in absurd (omega (arith, ap number_of x))
    go true true true false q = let x : Twin ≡ Left = cc in absurd (omega (arith, ap number_of x))
    go true true true true q = let x : ◌≡◌ {A = ℕ} 0 1 = cc in absurd (omega arith)

pub left-refused : (b : Bytes) → tables_of b ≡ rejected Left → LeftRefused b
left-refused b q =
    let w = late-refused b Left (omega arith) (λ x. absurd (omega (arith, ap number_of x))) q in
    record { tables = w.0; reads = w.1; fails = late-left w.0 w.2 }

-- The role rows are those of section 1.
pub roles-read : (b : Bytes) {T : Tables} {t : Bytes} → sections b ≡ took T t → rows_read (roles b) ≡ T.role_rows
unfolding sections
roles-read b {T} {t} e =
    next-case (roles b) _ e
    λ rs s₁ e₁ k₁. next-case (section (λ _. user_row (length rs)) s₁) _ k₁
    λ us s₂ e₂ k₂. next-case (section (λ _. session_row (length us) (length rs)) s₂) _ k₂
    λ ss s₃ e₃ k₃. next-case (rights (length rs) s₃) _ k₃
    λ q s₄ e₄ k₄. next-case (collections (length rs) (length us) (length q.permission_rows) s₄) _ k₄
    λ c s₅ e₅ k₅. next-case (section (λ _. done_row (length us) q.operation_count q.object_count) s₅) _ k₅
    λ ds s₆ e₆ k₆.
    let d : assembled rs us ss q c ds ≡ T = cc in
    rw e₁ (ap (λ (T : Tables). T.role_rows) d)

pub rank_step_lem : (b : Bytes) {T : Tables} → tables_of b ≡ rejected Rank → sections b ≡ took T [] → rank_step_of b ≡ rank_step T.role_rows
unfolding rank_step_of
rank_step_lem b e q = rw e (ap rank_step (roles-read b q))

pub rank-number : (R : Reading) → reading_number R ≡ number_of Rank → R ≡ rejected Rank
rank-number (rejected e) q = ap rejected (same_number e Rank q)
rank-number (taken T) q = absurd (omega arith)

pub rank-other : (b : Bytes) → (tables_of b ≡ rejected Rank → ⊥) → rank_step_of b ≡ 0
unfolding rank_step_of
rank-other b h = rw (ne_eqb (reading_number (tables_of b)) (number_of Rank) (λ n. h (rank-number (tables_of b) n)))
