-- Tables that are cut alike look alike to the reader: what is said of tables that look alike asks for no more than it must.
-- Assumes nothing.
use mathlib.Core.Path.{◌≡◌, refl, sym, ap, ◌∙◌}
use mathlib.Core.Bool.{Bool, true, false, true≢false}
use mathlib.Core.List.{List, [], ◌∷◌, map}
use mathlib.Core.Logic.{◌↔◌}
use mathlib.Core.Option.{some}
use Prim.Native.Nat.{ℕ, zero, suc, ◌+◌}
use native.Mathlib.Nat.{zero-add}
use native.Mathlib.Omega.{arith}
use lib.ListN.{length, get_elem?}
use Rattle.words.specs.Words.{has, meet_of}
use Rattle.tables.specs.Tables.{User, Tables}
use Rattle.cuts.specs.Cut.{row_for, rows_from, keep_if, of_reader, is_new, words_for, cut}
use Rattle.cuts.specs.Alike.{SameOwn, no_rows, same_row, other_here, other_there, Once, no_words, new_word, seen_word, SeenAlike}
use Rattle.cuts.proofs.CutLaws.{rows-length}
use Rattle.cuts.proofs.AlikeLaws.{Seen, seen_none, seen_more, once-firsts, cut-alike}

-- ---- rows that each have a user

module _ {A : Type 0} (user : A → ℕ) (w : ℕ) where
  others-only : (ys : List A) → [] ≡ of_reader user w ys → SameOwn user w [] ys
  unfolding of_reader
  others-only [] e = no_rows
  others-only (y ∷ ys) e = go (has w (user y)) refl e (λ k. others-only ys k)
    where
      go : (b : Bool) → has w (user y) ≡ b → [] ≡ keep_if b y (of_reader user w ys) → ([] ≡ of_reader user w ys → SameOwn user w [] ys) → SameOwn user w [] (y ∷ ys)
      go true h k ih = let z : ◌≡◌ {A = ℕ} 0 1 = cc in absurd (omega arith)
      go false h k ih = other_there h (ih k)

  -- The next row that is kept stands behind others' rows.
  next-found : (x : A) (xs : List A) → ((ys : List A) → of_reader user w xs ≡ of_reader user w ys → SameOwn user w xs ys)
      → (ys : List A) → x ∷ of_reader user w xs ≡ of_reader user w ys → SameOwn user w (x ∷ xs) ys
  unfolding of_reader
  next-found x xs same [] e = let z : ◌≡◌ {A = ℕ} 0 1 = cc in absurd (omega arith)
  next-found x xs same (y ∷ ys) e = go (has w (user y)) refl e (λ k. next-found x xs same ys k)
    where
      go : (b : Bool) → has w (user y) ≡ b → x ∷ of_reader user w xs ≡ keep_if b y (of_reader user w ys)
          → (x ∷ of_reader user w xs ≡ of_reader user w ys → SameOwn user w (x ∷ xs) ys) → SameOwn user w (x ∷ xs) (y ∷ ys)
      go true h k ih =
          let one : y ≡ x = cc in
          let rest : of_reader user w xs ≡ of_reader user w ys = cc in
          rw one (same_row (same ys rest))
      go false h k ih = other_there h (ih k)

  own-told : (xs ys : List A) → of_reader user w xs ≡ of_reader user w ys → SameOwn user w xs ys
  unfolding of_reader
  own-told [] ys e = others-only ys e
  own-told (x ∷ xs) ys e = go (has w (user x)) refl e (λ zs k. own-told xs zs k)
    where
      go : (b : Bool) → has w (user x) ≡ b → keep_if b x (of_reader user w xs) ≡ of_reader user w ys
          → ((zs : List A) → of_reader user w xs ≡ of_reader user w zs → SameOwn user w xs zs) → SameOwn user w (x ∷ xs) ys
      go true h k ih = next-found x xs ih ys k
      go false h k ih = other_here h (ih ys k)

-- ---- the words of CU

-- What stays of words, each once.
once-made : {seen ws : List ℕ} → Seen seen ws → (xs : List ℕ) → (ys : List ℕ) × Once seen xs ys
once-made s [] = ([], no_words)
once-made {seen} {ws} s (x ∷ xs) = go (is_new ws x) refl (once-made (seen_more x s) xs) (once-made s xs)
  where
    go : (b : Bool) → is_new ws x ≡ b → (ys : List ℕ) × Once (x ∷ seen) xs ys → (ys : List ℕ) × Once seen xs ys → (ys : List ℕ) × Once seen (x ∷ xs) ys
    go true e (ys, o) _ = (x ∷ ys, new_word (λ k. true≢false (sym e ∙ s.known x k)) o)
    go false e _ (ys, o) = (ys, seen_word (s.back x e) o)

words-once : (w : ℕ) (cs : List ℕ) → Once [] (map (λ x. meet_of x w) cs) (words_for w cs)
words-once w cs = let (ys, o) = once-made seen_none (map (λ x. meet_of x w) cs) in rw (once-firsts seen_none o) o

-- ---- the users' rows

row_told : (w k : ℕ) (us vs : List User) → rows_from w k us ≡ rows_from w k vs → (i : ℕ) → has w (k + i) ≡ true → get_elem? us i ≡ get_elem? vs i
unfolding rows_from
row_told w k [] [] e i h = refl
row_told w k [] (v ∷ vs) e i h = let z : ◌≡◌ {A = ℕ} 0 1 = cc in absurd (omega arith)
row_told w k (u ∷ us) [] e i h = let z : ◌≡◌ {A = ℕ} 0 1 = cc in absurd (omega arith)
row_told w k (u ∷ us) (v ∷ vs) e zero h =
    let q : k + 0 ≡ k = omega arith in
    let own : has w k ≡ true = rw q at h in
    let one : row_for (has w k) u ≡ row_for (has w k) v = cc in
    ap some (rw own at one)
row_told w k (u ∷ us) (v ∷ vs) e (suc i) h =
    let q : k + suc i ≡ suc k + i = omega arith in
    let rest : rows_from w (suc k) us ≡ rows_from w (suc k) vs = cc in
    row_told w (suc k) us vs rest i (rw q at h)

-- ---- the tables

-- Tables look alike to the reader exactly where they are one where the reader looks.
pub alike-exactly : (w : ℕ) (T U : Tables) → SeenAlike w T U ↔ (cut w T ≡ cut w U)
unfolding cut
alike-exactly w T U = (cut-alike, λ e. told e)
  where
    told : cut w T ≡ cut w U → SeenAlike w T U
    told e =
        let rows : rows_from w 0 T.users ≡ rows_from w 0 U.users = ap (λ (X : Tables). X.users) e in
        let words : words_for w T.cu ≡ words_for w U.cu = ap (λ (X : Tables). X.cu) e in
        record {
          user_count = sym (rows-length w 0 T.users) ∙ ap length rows ∙ rows-length w 0 U.users;
          role_rows = ap (λ (X : Tables). X.role_rows) e;
          operations = ap (λ (X : Tables). X.operation_count) e;
          objects = ap (λ (X : Tables). X.object_count) e;
          permissions = ap (λ (X : Tables). X.permission_rows) e;
          cr = ap (λ (X : Tables). X.cr) e;
          cp = ap (λ (X : Tables). X.cp) e;
          rows = λ u h. row_told w 0 T.users U.users rows u (rw zero-add h);
          sessions = own-told _ w T.sessions U.sessions (ap (λ (X : Tables). X.sessions) e);
          done = own-told _ w T.done U.done (ap (λ (X : Tables). X.done) e);
          cu = record { words = words_for w T.cu; here = words-once w T.cu; there = rw words (words-once w U.cu) };
        }
