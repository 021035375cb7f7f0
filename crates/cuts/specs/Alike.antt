-- Document 02, N10, in its own words and apart from the cut: tables that the reader with the word w of users cannot tell apart.
-- Assumes nothing.
use Rattle.std.specs.Prelude.{◌≡◌, true, false, List, [], ◌∷◌, map, ℕ, length}
use Rattle.std.proofs.Math.ListN.{get_elem?}
use Rattle.words.specs.Words.{has, meet_of}
use Rattle.tables.specs.Tables.{Tables}

-- "equal .. sessions, Done rows .. of the reader's users, each in the same order": row for row, with others' rows anywhere between them.
pub data SameOwn {A : Type 0} (user : A → ℕ) (w : ℕ) : List A → List A → Type 0 where
  no_rows : SameOwn user w [] []
  same_row : {x : A} {xs ys : List A} → SameOwn user w xs ys → SameOwn user w (x ∷ xs) (x ∷ ys)
  other_here : {x : A} {xs ys : List A} → has w (user x) ≡ false → SameOwn user w xs ys → SameOwn user w (x ∷ xs) ys
  other_there : {y : A} {xs ys : List A} → has w (user y) ≡ false → SameOwn user w xs ys → SameOwn user w xs (y ∷ ys)

-- The word x is one of these.
pub data OneOf (x : ℕ) : List ℕ → Type 0 where
  first_one : {xs : List ℕ} → OneOf x (x ∷ xs)
  later_one : {y : ℕ} {xs : List ℕ} → OneOf x xs → OneOf x (y ∷ xs)

-- "words that become equal become one, the earliest": ys are the words xs but for those that were seen before.
pub data Once : List ℕ → List ℕ → List ℕ → Type 0 where
  no_words : {seen : List ℕ} → Once seen [] []
  new_word : {seen : List ℕ} {x : ℕ} {xs ys : List ℕ} → (OneOf x seen → ⊥) → Once (x ∷ seen) xs ys → Once seen (x ∷ xs) (x ∷ ys)
  seen_word : {seen : List ℕ} {x : ℕ} {xs ys : List ℕ} → OneOf x seen → Once seen xs ys → Once seen (x ∷ xs) ys

-- "each CU word cut to the reader's users"; "equal .. cut CU words .. in the same order".
pub record SameWords (w : ℕ) (cs ds : List ℕ) : Type 0 where
  pub words : List ℕ
  pub here : Once [] (map (λ x. meet_of x w) cs) words
  pub there : Once [] (map (λ x. meet_of x w) ds) words

-- "with the same user count, role rows, operations, objects, permissions, CR and CP, and with equal rows, sessions, Done rows and cut CU words of the
-- reader's users, each in the same order".
pub record SeenAlike (w : ℕ) (T U : Tables) : Type 0 where
  pub user_count : length T.users ≡ length U.users
  pub role_rows : T.role_rows ≡ U.role_rows
  pub operations : T.operation_count ≡ U.operation_count
  pub objects : T.object_count ≡ U.object_count
  pub permissions : T.permission_rows ≡ U.permission_rows
  pub cr : T.cr ≡ U.cr
  pub cp : T.cp ≡ U.cp
  pub rows : (u : ℕ) → has w u ≡ true → get_elem? T.users u ≡ get_elem? U.users u
  pub sessions : SameOwn (λ s. s.user) w T.sessions U.sessions
  pub done : SameOwn (λ d. d.user) w T.done U.done
  pub cu : SameWords w T.cu U.cu
