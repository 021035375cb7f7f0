-- Laws of a section, or a count, that is written over the words: they are laid of the sections with another in its place.
-- Assumes nothing.
use mathlib.Core.Path.{◌≡◌, refl, sym, ap, ◌∙◌}
use mathlib.Core.List.{List, [], ◌∷◌, ◌++◌, append_assoc}
use Prim.Native.Nat.{ℕ, zero, suc, ◌+◌, ◌*◌, ◌≤◌, ◌<◌}
use native.Mathlib.Omega.{arith}
use lib.ListN.{length, set, take, drop, length-set, take-append-drop}
use lib.Seq.{take-suc-set, take-append-add, drop-append-add, drop_at, set-append_left}
use Rattle.tables.specs.Flat.{room, padded, laid}
use Rattle.tables.specs.Code.Reads.{put}
use Rattle.tables.proofs.FlatLaws.{length-padded, length-laid}

-- What is written lies between what was before and behind it.
drop-set-lt : (n : ℕ) (ws : List ℕ) (i v : ℕ) → i < n → drop n (set ws i v) ≡ drop n ws
drop-set-lt zero ws i v l = absurd (omega arith)
drop-set-lt (suc n) [] i v l = refl
drop-set-lt (suc n) (x ∷ ws) zero v l = refl
drop-set-lt (suc n) (x ∷ ws) (suc i) v l = drop-set-lt n ws i v (omega arith)

put-between : (xs ws : List ℕ) (k : ℕ) → k + length xs ≤ length ws → put ws k xs ≡ take k ws ++ (xs ++ drop (k + length xs) ws)
unfolding put
put-between [] ws k l = let e : k + 0 ≡ k = omega arith in rw e (sym (take-append-drop k ws))
put-between (x ∷ xs) ws k l =
    let e : suc k + length xs ≡ k + suc (length xs) = omega arith in
    let m : suc k + length xs ≤ length (set ws k x) = rw length-set (omega arith) in
    put-between xs (set ws k x) (suc k) m
    ∙ rw (take-suc-set ws k x (omega arith), drop-set-lt (suc k + length xs) ws k x (omega arith), e)
    (append_assoc (take k ws) (x ∷ []) (xs ++ drop (k + suc (length xs)) ws))

section-between : (ss : List (List ℕ)) (k : ℕ) (xs : List ℕ) → k < length ss
    → take (room * k) (laid ss) ++ (padded room xs ++ drop (room * k + room) (laid ss)) ≡ laid (set ss k xs)
unfolding laid
section-between [] k xs l = absurd (omega arith)
section-between (s ∷ ss) zero xs l =
    ap (λ (r : List ℕ). padded room xs ++ r) (drop_at (padded room s) (laid ss) (room * 0 + room) (length-padded room s ∙ omega arith))
section-between (s ∷ ss) (suc k) xs l =
    let e : room * suc k ≡ length (padded room s) + room * k = omega (arith, length-padded room s) in
    let f : room * suc k + room ≡ length (padded room s) + (room * k + room) = omega (arith, length-padded room s) in
    rw (f, drop-append-add (padded room s) (laid ss) (room * k + room), e, take-append-add (padded room s) (laid ss) (room * k))
    (append_assoc (padded room s) (take (room * k) (laid ss)) (padded room xs ++ drop (room * k + room) (laid ss))
    ∙ ap (λ (r : List ℕ). padded room s ++ r) (section-between ss k xs (omega arith)))

pub section-put : (ss : List (List ℕ)) (k : ℕ) (xs : List ℕ) → k < length ss → put (laid ss) (room * k) (padded room xs) ≡ laid (set ss k xs)
section-put ss k xs l =
    let p = length-padded room xs in
    let m : room * k + length (padded room xs) ≤ length (laid ss) = omega (arith, length-laid ss) in
    put-between (padded room xs) (laid ss) (room * k) m ∙ rw p (section-between ss k xs l)

padded-set : (n : ℕ) (xs : List ℕ) (i v : ℕ) → i < length xs → i < n → set (padded n xs) i v ≡ padded n (set xs i v)
unfolding padded
padded-set n [] i v l m = absurd (omega arith)
padded-set zero (x ∷ xs) i v l m = absurd (omega arith)
padded-set (suc n) (x ∷ xs) zero v l m = refl
padded-set (suc n) (x ∷ xs) (suc i) v l m = ap (λ (r : List ℕ). x ∷ r) (padded-set n xs i v (omega arith) (omega arith))

-- A count is a word of the first section.
pub count-put : (cs : List ℕ) (ss : List (List ℕ)) (i v : ℕ) → i < length cs → i < room → set (laid (cs ∷ ss)) i v ≡ laid (set cs i v ∷ ss)
unfolding laid
count-put cs ss i v l m =
    set-append_left (padded room cs) (laid ss) i v (omega (arith, length-padded room cs)) ∙ ap (λ (r : List ℕ). r ++ laid ss) (padded-set room cs i v l m)
