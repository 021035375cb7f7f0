-- Laws of what the code makes of the parts of the words: they are the parts of the tables as the reader sees them.
-- Assumes nothing.
use mathlib.Core.Path.{◌≡◌, refl, sym, ap, ap₂, ◌∙◌}
use mathlib.Core.Bool.{Bool, true, false, not, ◌&&◌}
use mathlib.Core.List.{List, [], ◌∷◌, ◌++◌, map, append_assoc}
use Prim.Native.Nat.{ℕ, zero, suc, ◌^◌, ◌≤◌, ◌<◌}
use native.Mathlib.Omega.{arith}
use native.Mathlib.Nat.{zero-add}
use native.Mathlib.Decide.{dec_lt}
use lib.Dec.{eqb}
use lib.ListN.{length, get_or, take, length-map}
use lib.Seq.{ext_get_or, take-suc, take-length}
use Rattle.words.specs.Words.{has, gate, any_to, item_of, meet_of}
use Rattle.words.proofs.WordsLaws.{word-ext, any_word, any_none, has-zero, has-out, item-none, and_comm}
use Rattle.tables.specs.Tables.{User, is_present, present_in}
use Rattle.tables.specs.Flat.{tabulate}
use Rattle.tables.proofs.FlatLaws.{length-tabulate, tabulate-at}
use Rattle.tables.proofs.PutLaws.{map_more}
use Rattle.words.proofs.RelationLaws.{some_item}
use Rattle.tables.proofs.PresentLaws.{has-present}
use Rattle.cuts.specs.Cut.{rows_from, keep_if, of_reader, is_new, add_if, firsts_behind, words_for}
use Rattle.cuts.specs.Code.Cutting.{rows_to, kept_to, firsts_to}
use Rattle.cuts.proofs.CutLaws.{rows-length, assigned-at, present-at}
use Rattle.cuts.proofs.FirstsLaws.{firsts_more}

-- ---- the users' rows, and who is present

pub rows_made : (w : ℕ) (us : List User) → rows_to w (map (λ u. u.assigned) us) (length us) ≡ map (λ u. u.assigned) (rows_from w 0 us)
rows_made w us =
    let f : ℕ → ℕ = λ u. gate (has w u) (get_or (map (λ (x : User). x.assigned) us) u 0) in
    let l = length-tabulate (length us) f in
    let m = length-map (rows_from w 0 us) (λ u. u.assigned) ∙ rows-length w 0 us in
    ext_get_or 0 (tabulate (length us) f) (map (λ u. u.assigned) (rows_from w 0 us)) (l ∙ sym m)
    (λ i k. tabulate-at (length us) f i (omega (arith, l)) ∙ sym (rw zero-add at (assigned-at w 0 us i)))

pub present-made : (w : ℕ) (us : List User) → meet_of (present_in us) w ≡ present_in (rows_from w 0 us)
unfolding meet_of present_in
present-made w us =
    word-ext 64 _ _
    (λ i l.
    ap (λ (b : Bool). b && has w i) (has-present us i l) ∙ and_comm (is_present us i) (has w i) ∙ sym (rw zero-add at (present-at w 0 us i)))

-- ---- rows that each have a user

-- The word of a user meets the reader's where the user is one of them.
met-item : (w u : ℕ) → w < 2 ^ 64 → not (eqb (meet_of (item_of u) w) 0) ≡ has w u
unfolding meet_of
met-item w u h = sym (any_word 64 (λ i. has (item_of u) i && has w i)) ∙ go (dec_lt u 64)
  where
    go : Dec (u < 64) → any_to 64 (λ i. has (item_of u) i && has w i) ≡ has w u
    go (yes l) = some_item u (has w) l
    go (no l) =
        let k : 64 ≤ u = omega arith in
        any_none 64 (λ i. has (item_of u) i && has w i)
        (λ i m. ap (λ (b : Bool). b && has w i) (ap (λ (x : ℕ). has x i) (item-none u k) ∙ has-zero i))
        ∙ sym (has-out w 64 u h k)

add-front : (b : Bool) (xs ys : List ℕ) (y : ℕ) → add_if b (xs ++ ys) y ≡ xs ++ add_if b ys y
add-front true xs ys y = append_assoc xs ys (y ∷ [])
add-front false xs ys y = refl

add_none : (b : Bool) (y : ℕ) → add_if b [] y ≡ keep_if b y [] ++ []
add_none true y = refl
add_none false y = refl

kept_cons : (w x y : ℕ) (xs ys : List ℕ) (i : ℕ)
    → kept_to w (x ∷ xs) (y ∷ ys) (suc i) ≡ keep_if (not (eqb (meet_of x w) 0)) y [] ++ kept_to w xs ys i
unfolding kept_to
kept_cons w x y xs ys zero = add_none (not (eqb (meet_of x w) 0)) y
kept_cons w x y xs ys (suc i) =
    let b = not (eqb (meet_of (get_or xs i 0) w) 0) in
    ap (λ (zs : List ℕ). add_if b zs (get_or ys i 0)) (kept_cons w x y xs ys i)
    ∙ add-front b (keep_if (not (eqb (meet_of x w) 0)) y []) (kept_to w xs ys i) (get_or ys i 0)

-- What is kept of the column that f gives, beside the users of the rows.
pub column-made : {A : Type 0} (user : A → ℕ) (w : ℕ) → w < 2 ^ 64 → (f : A → ℕ) (xs : List A)
    → kept_to w (map item_of (map user xs)) (map f xs) (length xs) ≡ map f (of_reader user w xs)
unfolding of_reader kept_to
column-made user w h f [] = refl
column-made user w h f (x ∷ xs) =
    kept_cons w (item_of (user x)) (f x) (map item_of (map user xs)) (map f xs) (length xs)
    ∙ ap₂ (λ (b : Bool) (zs : List ℕ). keep_if b (f x) [] ++ zs) (met-item w (user x) h) (column-made user w h f xs)
    ∙ front (has w (user x))
  where
    front : (b : Bool) → keep_if b (f x) [] ++ map f (of_reader user w xs) ≡ map f (keep_if b x (of_reader user w xs))
    front true = refl
    front false = refl

-- ---- the words of CU

firsts-to : (w : ℕ) (cu : List ℕ) (i : ℕ) → i ≤ length cu → firsts_to w cu i ≡ firsts_behind [] (map (λ x. meet_of x w) (take i cu))
unfolding firsts_to firsts_behind
firsts-to w cu zero l = refl
firsts-to w cu (suc i) l =
    let x = meet_of (get_or cu i 0) w in
    ap (λ (zs : List ℕ). add_if (is_new zs x) zs x) (firsts-to w cu i (omega arith))
    ∙ sym (firsts_more [] (map (λ x. meet_of x w) (take i cu)) x)
    ∙ ap (firsts_behind []) (sym (map_more (λ x. meet_of x w) (take i cu) (get_or cu i 0)))
    ∙ ap (λ (zs : List ℕ). firsts_behind [] (map (λ x. meet_of x w) zs)) (sym (take-suc cu i 0 (omega arith)))

pub words-made : (w : ℕ) (cu : List ℕ) → firsts_to w cu (length cu) ≡ words_for w cu
words-made w cu = firsts-to w cu (length cu) (omega arith) ∙ ap (λ (zs : List ℕ). firsts_behind [] (map (λ x. meet_of x w) zs)) (take-length cu)
