-- Laws of writing lists into the words: one word more, and two lists that grow side by side.
-- Assumes nothing.
use mathlib.Core.Path.{◌≡◌, refl, ap, ◌∙◌}
use mathlib.Core.List.{List, [], ◌∷◌, ◌++◌, map}
use Prim.Native.Nat.{ℕ, zero, suc, ◌+◌, ◌/◌, ◌%◌, ◌<◌}
use native.Mathlib.Omega.{arith}
use native.Mathlib.Numerals.{add-one}
use lib.ListN.{length, get_or, set, length-set}
use lib.Seq.{set_comm, get_or-set_other}
use Rattle.words.specs.Words.{item_of}
use Rattle.tables.specs.Code.Reads.{put, with_names}
use Rattle.tables.specs.Code.Layout.{object_rows_at, operation_rows_at}
use Rattle.tables.specs.Flat.{room, tabulate}
use Rattle.tables.proofs.FlatLaws.{length-tabulate}

pub map_more : {A B : Type 0} (f : A → B) (xs : List A) (x : A) → map f (xs ++ (x ∷ [])) ≡ map f xs ++ (f x ∷ [])
map_more f [] x = refl
map_more f (y ∷ xs) x = ap (λ r. f y ∷ r) (map_more f xs x)

pub length-put : (ws : List ℕ) (k : ℕ) (xs : List ℕ) → length (put ws k xs) ≡ length ws
unfolding put
length-put ws k [] = refl
length-put ws k (x ∷ xs) = length-put (set ws k x) (suc k) xs ∙ length-set ws k x

-- One word more, behind those written.
pub put-more : (ws : List ℕ) (k : ℕ) (xs : List ℕ) (x : ℕ) → set (put ws k xs) (k + length xs) x ≡ put ws k (xs ++ (x ∷ []))
unfolding put
put-more ws k [] x = let q : k + 0 ≡ k = omega arith in rw q
put-more ws k (y ∷ xs) x =
    let q : k + suc (length xs) ≡ suc k + length xs = omega arith in
    rw q (put-more (set ws k y) (suc k) xs x)

-- A word below the list.
pub put-below : (ws : List ℕ) (k j : ℕ) (xs : List ℕ) (x : ℕ) → j < k → set (put ws k xs) j x ≡ put (set ws j x) k xs
unfolding put
put-below ws k j [] x l = refl
put-below ws k j (y ∷ xs) x l =
    put-below (set ws k y) (suc k) j xs x (omega arith) ∙ ap (λ (v : List ℕ). put v (suc k) xs) (set_comm ws k j y x (omega arith))

-- Two lists that grow side by side, the first below the second.
pub put_both : (ws : List ℕ) (a b i : ℕ) (xs ys : List ℕ) (x y : ℕ) → length xs ≡ i → length ys ≡ i → a + i < b
    → set (set (put (put ws a xs) b ys) (a + i) x) (b + i) y ≡ put (put ws a (xs ++ (x ∷ []))) b (ys ++ (y ∷ []))
put_both ws a b i xs ys x y p q l =
    let e : set (put (put ws a xs) b ys) (a + i) x ≡ put (put ws a (xs ++ (x ∷ []))) b ys =
    put-below (put ws a xs) b (a + i) ys x l ∙ ap (λ (v : List ℕ). put v b ys) (rw (← p) (put-more ws a xs x)) in
    rw e (rw (← q) (put-more (put ws a (xs ++ (x ∷ []))) b ys y))

-- Three, each below the next.
pub put_three : (ws : List ℕ) (a b c i : ℕ) (xs ys zs : List ℕ) (x y z : ℕ) → length xs ≡ i → length ys ≡ i → length zs ≡ i → a + i < b → b + i < c
    → set (set (set (put (put (put ws a xs) b ys) c zs) (a + i) x) (b + i) y) (c + i) z
    ≡ put (put (put ws a (xs ++ (x ∷ []))) b (ys ++ (y ∷ []))) c (zs ++ (z ∷ []))
put_three ws a b c i xs ys zs x y z p q r l m =
    let w = put (put ws a xs) b ys in
    let v = put (put ws a (xs ++ (x ∷ []))) b (ys ++ (y ∷ [])) in
    let e : set (set (put w c zs) (a + i) x) (b + i) y ≡ put v c zs =
    ap (λ (t : List ℕ). set t (b + i) y) (put-below w c (a + i) zs x (omega arith)) ∙ put-below (set w (a + i) x) c (b + i) zs y m
    ∙ ap (λ (t : List ℕ). put t c zs) (put_both ws a b i xs ys x y p q l) in
    rw e (rw (← r) (put-more v c zs z))

-- A list that is written leaves the words below it.
pub put_keeps : (ws : List ℕ) (k j : ℕ) (xs : List ℕ) → j < k → get_or (put ws k xs) j 0 ≡ get_or ws j 0
unfolding put
put_keeps ws k j [] l = refl
put_keeps ws k j (x ∷ xs) l = put_keeps (set ws k x) (suc k) j xs (omega arith) ∙ get_or-set_other ws k j x 0 (λ e. absurd (omega arith))

pub tabulate-more : (n : ℕ) (f : ℕ → ℕ) → tabulate (suc n) f ≡ tabulate n f ++ (f n ∷ [])
unfolding tabulate
tabulate-more zero f = refl
tabulate-more (suc n) f = ap (λ (r : List ℕ). f 0 ∷ r) (tabulate-more n (λ i. f (suc i)))

-- The objects and operations of the permissions below p.
pub names-none : (ws : List ℕ) (o : ℕ) → ws ≡ with_names ws 0 o
unfolding with_names tabulate put
names-none ws o = refl

pub names-long : (ws : List ℕ) (p o : ℕ) {new : List ℕ} → new ≡ with_names ws p o → length new ≡ length ws
unfolding with_names
names-long ws p o e = ap length e ∙ length-put _ operation_rows_at _ ∙ length-put ws object_rows_at _

pub names_more : (ws : List ℕ) (p o : ℕ) {new : List ℕ} {x y : ℕ} → p < room → x ≡ item_of (p % o) → y ≡ item_of (p / o)
    → new ≡ with_names ws p o → set (set new (object_rows_at + p) x) (operation_rows_at + p) y ≡ with_names ws (p + 1) o
unfolding with_names
names_more ws p o {new} {x} {y} l ex ey e =
    let xs = tabulate p (λ i. item_of (i % o)) in
    let ys = tabulate p (λ i. item_of (i / o)) in
    let f = put_both ws object_rows_at operation_rows_at p xs ys x y (length-tabulate p _) (length-tabulate p _) (omega arith) in
    rw (e, f, add-one, tabulate-more p (λ i. item_of (i % o)), tabulate-more p (λ i. item_of (i / o)), ← ex, ← ey)
