-- Laws of the flat tables: word i of section k stands at room × k + i, and is 0 past the section's list.
-- Assumes nothing.
use mathlib.Core.Path.{◌≡◌, refl, sym, ap, ◌∙◌}
use mathlib.Core.List.{List, [], ◌∷◌, ◌++◌, map}
use Prim.Native.Nat.{ℕ, zero, suc, ◌+◌, ◌*◌, ◌/◌, ◌%◌, ◌<◌}
use native.Mathlib.Omega.{arith}
use lib.ListN.{length, get_or, drop, length-append, length-map, get_or-append}
use lib.Seq.{get_or-append-add, get_or-drop, ext_get_or}
use Rattle.words.specs.Words.{item_of}
use Rattle.tables.specs.Tables.{Tables}
use Rattle.tables.specs.Code.Layout.{Whole, section_at}
use Rattle.tables.specs.Flat.{room, padded, tabulate, counts, sections, laid, flat}

pub length-padded : (n : ℕ) (xs : List ℕ) → length (padded n xs) ≡ n
unfolding padded
length-padded zero xs = refl
length-padded (suc n) [] = ap suc (length-padded n [])
length-padded (suc n) (x ∷ xs) = ap suc (length-padded n xs)

pub padded-at : (n : ℕ) (xs : List ℕ) (i : ℕ) → i < n → get_or (padded n xs) i 0 ≡ get_or xs i 0
unfolding padded
padded-at zero xs i l = absurd (omega arith)
padded-at (suc n) [] zero l = refl
padded-at (suc n) [] (suc i) l = padded-at n [] i (omega arith)
padded-at (suc n) (x ∷ xs) zero l = refl
padded-at (suc n) (x ∷ xs) (suc i) l = padded-at n xs i (omega arith)

pub length-tabulate : (n : ℕ) (f : ℕ → ℕ) → length (tabulate n f) ≡ n
unfolding tabulate
length-tabulate zero f = refl
length-tabulate (suc n) f = ap suc (length-tabulate n (λ i. f (suc i)))

pub tabulate-at : (n : ℕ) (f : ℕ → ℕ) (i : ℕ) → i < n → get_or (tabulate n f) i 0 ≡ f i
unfolding tabulate
tabulate-at zero f i l = absurd (omega arith)
tabulate-at (suc n) f zero l = refl
tabulate-at (suc n) f (suc i) l = tabulate-at n (λ j. f (suc j)) i (omega arith)

pub map_at : (f : ℕ → ℕ) (xs : List ℕ) (i : ℕ) → i < length xs → get_or (map f xs) i 0 ≡ f (get_or xs i 0)
map_at f [] i l = absurd (omega arith)
map_at f (x ∷ xs) zero l = refl
map_at f (x ∷ xs) (suc i) l = map_at f xs i (omega arith)

-- The words of the numbers that f gives of the members of a list: one for each.
pub numbers-long : {A : Type 0} (xs : List A) (f : A → ℕ) → length (map item_of (map f xs)) ≡ length xs
numbers-long xs f = length-map (map f xs) item_of ∙ length-map xs f

pub length-laid : (ss : List (List ℕ)) → length (laid ss) ≡ room * length ss
unfolding laid
length-laid [] = refl
length-laid (s ∷ ss) = omega (arith, length-append (padded room s) (laid ss), length-padded room s, length-laid ss)

-- The one law of sections; past the last one both sides are 0.
pub laid-at : (ss : List (List ℕ)) (k i : ℕ) → i < room → get_or (laid ss) (room * k + i) 0 ≡ get_or (get_or ss k []) i 0
unfolding laid
laid-at [] k i l = refl
laid-at (s ∷ ss) zero i l =
    let e : room * 0 + i ≡ i = omega arith in
    ap (λ (n : ℕ). get_or (padded room s ++ laid ss) n 0) e ∙ get_or-append (padded room s) (laid ss) 0 i (omega (arith, length-padded room s)) ∙ padded-at room s i l
laid-at (s ∷ ss) (suc k) i l =
    let e : room * suc k + i ≡ length (padded room s) + (room * k + i) = omega (arith, length-padded room s) in
    ap (λ (n : ℕ). get_or (padded room s ++ laid ss) n 0) e ∙ get_or-append-add (padded room s) (laid ss) (room * k + i) 0 ∙ laid-at ss k i l

pub length-flat : (T : Tables) → Whole (flat T)
unfolding flat sections
length-flat T = length-laid (sections T)

pub flat-at : (T : Tables) (k i : ℕ) → i < room → get_or (flat T) (room * k + i) 0 ≡ get_or (get_or (sections T) k []) i 0
unfolding flat
flat-at T = laid-at (sections T)

-- The same of the rest of the words from where a section begins.
pub section-at : (T : Tables) (at i : ℕ) → at % room ≡ 0 → i < room → get_or (drop at (flat T)) i 0 ≡ get_or (section_at T at) i 0
section-at T at i b l =
    let e : room * (at / room) ≡ at = omega arith in
    get_or-drop at (flat T) i 0 ∙ rw e at (flat-at T (at / room) i l)

-- The counts stand first.
pub count_at : (T : Tables) (n : ℕ) → n < room → get_or (flat T) n 0 ≡ get_or (counts T) n 0
unfolding sections
count_at T n l =
    let e : n ≡ room * 0 + n = omega arith in
    ap (λ (i : ℕ). get_or (flat T) i 0) e ∙ flat-at T 0 n l

-- Words whose sections are those of T are T's.
pub flat-words : (T : Tables) (ws : List ℕ) → Whole ws → ((k i : ℕ) → i < room → get_or ws (room * k + i) 0 ≡ get_or (get_or (sections T) k []) i 0) → ws ≡ flat T
flat-words T ws whole h =
    ext_get_or 0 ws (flat T) (whole ∙ sym (length-flat T))
    (λ j l.
    let e : room * (j / room) + j % room ≡ j = omega arith in
    rw e at (h (j / room) (j % room) (omega arith) ∙ sym (flat-at T (j / room) (j % room) (omega arith))))
