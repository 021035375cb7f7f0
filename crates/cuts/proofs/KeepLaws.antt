-- Laws of the loops that fill a section's words: where they begin, one turn, and where they end.
-- Assumes nothing.
use mathlib.Core.Path.{◌≡◌, refl, sym, ap, ap₂, ◌∙◌}
use mathlib.Core.Bool.{Bool, true, false}
use mathlib.Core.List.{List, [], ◌∷◌, ◌++◌}
use Prim.Native.Nat.{ℕ, zero, suc, ◌+◌, ◌≤◌, ◌<◌}
use native.Mathlib.Omega.{arith}
use native.Mathlib.Numerals.{add-one}
use lib.ListN.{length, get_or, set, take, drop, replicate, length-append, length-drop}
use lib.Seq.{get_or-drop, drop-drop}
use borrow.Author.Tests.{eq-eqb, ne_eqb}
use Rattle.words.specs.Words.{has, gate, meet_of}
use Rattle.tables.specs.Flat.{room, padded, tabulate}
use Rattle.tables.specs.Code.Reads.{put}
use Rattle.tables.proofs.FlatLaws.{length-padded, length-tabulate}
use Rattle.tables.proofs.PutLaws.{tabulate-more, length-put}
use Rattle.tables.proofs.PartLaws.{padded-front}
use Rattle.cuts.specs.Cut.{is_new}
use Rattle.cuts.specs.Code.Cutting.{rows_to, kept_to, firsts_to, Fills, ClosesUp}

-- One word more in a section; a 0 more is there already.
pub padded-add : (n : ℕ) (xs : List ℕ) (v : ℕ) → length xs < n → set (padded n xs) (length xs) v ≡ padded n (xs ++ (v ∷ []))
unfolding padded
padded-add zero xs v l = absurd (omega arith)
padded-add (suc n) [] v l = refl
padded-add (suc n) (x ∷ xs) v l = ap (λ (r : List ℕ). x ∷ r) (padded-add n xs v (omega arith))

padded-zero : (n : ℕ) (xs : List ℕ) → length xs < n → padded n xs ≡ padded n (xs ++ (0 ∷ []))
unfolding padded
padded-zero zero xs l = absurd (omega arith)
padded-zero (suc n) [] l = refl
padded-zero (suc n) (x ∷ xs) l = ap (λ (r : List ℕ). x ∷ r) (padded-zero n xs (omega arith))

padded-none : replicate room 0 ≡ padded room []
unfolding padded
padded-none = refl

-- ---- the users' rows

pub record Rows (w : ℕ) (rows kept : List ℕ) (i : ℕ) : Type 0 where
  pub within : i ≤ length rows
  pub words : kept ≡ padded room (rows_to w rows i)

pub rows_long : {w : ℕ} {rows kept : List ℕ} {i : ℕ} → Rows w rows kept i → length kept ≡ room
rows_long {w} {rows} {kept} {i} r = ap length r.words ∙ length-padded room (rows_to w rows i)

pub rows_none : (w : ℕ) (rows : List ℕ) {kept : List ℕ} → kept ≡ replicate room 0 → Rows w rows kept 0
unfolding tabulate
rows_none w rows e = record { within = omega arith; words = e ∙ padded-none }

module _ {w : ℕ} {rows kept : List ℕ} {i : ℕ} (few : length rows ≤ room) (r : Rows w rows kept i) (l : i < length rows) where
  more : rows_to w rows (i + 1) ≡ rows_to w rows i ++ (gate (has w i) (get_or rows i 0) ∷ [])
  more = rw add-one (tabulate-more i (λ u. gate (has w u) (get_or rows u 0)))

  size : length (rows_to w rows i) ≡ i
  size = length-tabulate i (λ u. gate (has w u) (get_or rows u 0))

  pub rows_in : {b : Bool} {new : List ℕ} → b ≡ has w i → b ≡ true → new ≡ set kept i (get_or rows i 0) → Rows w rows new (i + 1)
  rows_in {b} {new} e q n =
      let h : has w i ≡ true = sym e ∙ q in
      let p : set kept i (get_or rows i 0) ≡ padded room (rows_to w rows i ++ (get_or rows i 0 ∷ [])) =
      ap (λ (k : List ℕ). set k i (get_or rows i 0)) r.words
      ∙ ap (λ (j : ℕ). set (padded room (rows_to w rows i)) j (get_or rows i 0)) (sym size)
      ∙ padded-add room (rows_to w rows i) (get_or rows i 0) (omega (arith, size)) in
      record { within = omega arith; words = n ∙ p ∙ sym (ap (padded room) (more ∙ ap (λ (x : Bool). rows_to w rows i ++ (gate x (get_or rows i 0) ∷ [])) h)) }

  pub rows_out : {b : Bool} {new : List ℕ} → b ≡ has w i → b ≡ false → new ≡ kept → Rows w rows new (i + 1)
  rows_out {b} {new} e q n =
      let h : has w i ≡ false = sym e ∙ q in
      record {
        within = omega arith;
        words = n ∙ r.words ∙ padded-zero room (rows_to w rows i) (omega (arith, size))
            ∙ sym (ap (padded room) (more ∙ ap (λ (x : Bool). rows_to w rows i ++ (gate x (get_or rows i 0) ∷ [])) h));
      }

pub rows_all : {w : ℕ} {rows kept : List ℕ} {i : ℕ} → Rows w rows kept i → length rows ≤ i → kept ≡ padded room (rows_to w rows (length rows))
rows_all {w} {rows} {kept} {i} r l = let e : i ≡ length rows = omega (arith, r.within) in rw e at r.words

-- ---- words that are closed up: what F says of the first i, below a limit

pub record Keeping (F : ℕ → List ℕ) (limit : ℕ) (kept : List ℕ) (n i : ℕ) : Type 0 where
  pub within : i ≤ limit
  pub few : n ≤ i
  pub fills : Fills (F i) kept n

module _ {F : ℕ → List ℕ} {limit : ℕ} where
  pub keeping_none : {kept : List ℕ} → F 0 ≡ [] → kept ≡ replicate room 0 → Keeping F limit kept 0 0
  keeping_none q e =
      record { within = omega arith; few = omega arith; fills = record { count = sym (ap length q); words = e ∙ padded-none ∙ sym (ap (padded room) q) } }

  module _ {kept : List ℕ} {n i : ℕ} (k : Keeping F limit kept n i) where
    pub keeping-long : length kept ≡ room
    keeping-long = ap length k.fills.words ∙ length-padded room (F i)

    -- The words kept so far.
    pub keeping-front : limit ≤ room → take n kept ≡ F i
    keeping-front m =
        rw (k.fills.words, k.fills.count) (padded-front room (F i) (omega (arith, k.fills.count, k.few, k.within)))

    pub keeping-in : (x : ℕ) {m : ℕ} {new : List ℕ} → limit ≤ room → i < limit → F (suc i) ≡ F i ++ (x ∷ []) → new ≡ set kept n x → m ≡ n + 1 → Keeping F limit new m (i + 1)
    keeping-in x {m} {new} lr l q e p =
        let c = k.fills.count in
        let w : set kept n x ≡ padded room (F i ++ (x ∷ [])) =
        ap (λ (ks : List ℕ). set ks n x) k.fills.words ∙ ap (λ (j : ℕ). set (padded room (F i)) j x) c
        ∙ padded-add room (F i) x (omega (arith, c, k.few)) in
        record {
          within = omega arith;
          few = omega (arith, k.few);
          fills = rw (add-one i, q) (record { count = omega (arith, c, length-append (F i) (x ∷ [])); words = e ∙ w });
        }

    pub keeping-out : {m : ℕ} {new : List ℕ} → i < limit → F (suc i) ≡ F i → new ≡ kept → m ≡ n → Keeping F limit new m (i + 1)
    keeping-out {m} {new} l q e p =
        record {
          within = omega arith;
          few = omega (arith, k.few);
          fills = rw (add-one i, q) (record { count = p ∙ k.fills.count; words = e ∙ k.fills.words });
        }

    pub keeping_all : limit ≤ i → Fills (F limit) kept n
    keeping_all l = let e : i ≡ limit = omega (arith, k.within) in rw e at k.fills

-- The user beside word i is the reader's, or not.
module _ (w : ℕ) (users column : List ℕ) (i : ℕ) {m : ℕ} (e : m ≡ meet_of (get_or users i 0) w) where
  pub kept_in : (m ≡ 0 → ⊥) → kept_to w users column (suc i) ≡ kept_to w users column i ++ (get_or column i 0 ∷ [])
  unfolding kept_to
  kept_in h = rw (← e, ne_eqb m 0 h)

  pub kept_out : m ≡ 0 → kept_to w users column (suc i) ≡ kept_to w users column i
  unfolding kept_to
  kept_out h = rw (← e, eq-eqb m 0 h)

-- The first of the words that are left is word k of all.
pub first-left : (k : ℕ) (xs : List ℕ) {x : ℕ} {ls rest : List ℕ} → ls ≡ drop k xs → ls ≡ x ∷ rest → (k < length xs) × ((x ≡ get_or xs k 0) × (rest ≡ drop (k + 1) xs))
first-left k xs {x} {ls} {rest} e q =
    let h : drop k xs ≡ x ∷ rest = sym e ∙ q in
    let z : k + 0 ≡ k = omega arith in
    let n : length (drop k xs) ≡ suc (length rest) = ap length h in (
      omega (arith, n, length-drop k xs),
      (sym (ap (λ (l : List ℕ). get_or l 0 0) h) ∙ get_or-drop k xs 0 0 ∙ ap (λ (j : ℕ). get_or xs j 0) z, sym (ap (drop 1) h) ∙ drop-drop 1 k xs),
    )

-- Of the first k users' words those of the reader's are kept; behind them these users and words are left.
pub record KeepingTo (w : ℕ) (users column kept : List ℕ) (n k : ℕ) (us cs : List ℕ) : Type 0 where
  pub keeping : Keeping (kept_to w users column) (length users) kept n k
  pub users-left : us ≡ drop k users
  pub column-left : cs ≡ drop k column

module _ {w : ℕ} {users column kept : List ℕ} {n k : ℕ} {us cs : List ℕ} (p : KeepingTo w users column kept n k us cs)
    {u c : ℕ} {us' cs' : List ℕ} (eu : us ≡ u ∷ us') (ec : cs ≡ c ∷ cs') {m : ℕ} (e : m ≡ meet_of u w) {k' : ℕ} (q : k' ≡ k + 1) where
  user : (k < length users) × ((u ≡ get_or users k 0) × (us' ≡ drop (k + 1) users))
  user = first-left k users p.users-left eu

  word : (k < length column) × ((c ≡ get_or column k 0) × (cs' ≡ drop (k + 1) column))
  word = first-left k column p.column-left ec

  pub keeping-word : length users ≤ room → (m ≡ 0 → ⊥) → KeepingTo w users column (set kept n c) (n + 1) k' us' cs'
  keeping-word few h =
      let f = kept_in w users column k (e ∙ ap (λ (x : ℕ). meet_of x w) user.1.0) h in
      rw q (record {
        keeping = keeping-in p.keeping c few user.0 (f ∙ rw (sym word.1.0)) refl refl;
        users-left = user.1.1;
        column-left = word.1.1;
      })

  pub passing-word : m ≡ 0 → KeepingTo w users column kept n k' us' cs'
  passing-word h =
      let f = kept_out w users column k (e ∙ ap (λ (x : ℕ). meet_of x w) user.1.0) h in
      rw q (record { keeping = keeping-out p.keeping user.0 f refl refl; users-left = user.1.1; column-left = word.1.1 })

pub kept-none : (w : ℕ) (users column : List ℕ) → kept_to w users column 0 ≡ []
unfolding kept_to
kept-none w users column = refl

-- The word i, cut, is new, or not.
module _ (w : ℕ) (words : List ℕ) (i : ℕ) {m : ℕ} {b : Bool} (e : m ≡ meet_of (get_or words i 0) w) {front : List ℕ} (f : front ≡ firsts_to w words i) (q : b ≡ is_new front m) where
  pub first-in : b ≡ true → firsts_to w words (suc i) ≡ firsts_to w words i ++ (m ∷ [])
  unfolding firsts_to
  first-in h = let n : is_new (firsts_to w words i) m ≡ true = ap (λ (x : List ℕ). is_new x m) (sym f) ∙ sym q ∙ h in rw (← e, n)

  pub first_out : b ≡ false → firsts_to w words (suc i) ≡ firsts_to w words i
  unfolding firsts_to
  first_out h = let n : is_new (firsts_to w words i) m ≡ false = ap (λ (x : List ℕ). is_new x m) (sym f) ∙ sym q ∙ h in rw (← e, n)

pub first-none : (w : ℕ) (words : List ℕ) → firsts_to w words 0 ≡ []
unfolding firsts_to
first-none w words = refl

-- ---- a column that is written back

pub closes-up : {w users n at : ℕ} {old new p q kept : List ℕ} {r : ℕ} → p ≡ take n (drop users old) → q ≡ take n (drop at old) → length p ≡ n
    → Fills (kept_to w p q (length p)) kept r → new ≡ put old at kept → ClosesUp w users n at old new r
closes-up {w} {users} {n} {at} {old} {new} {p} {q} ep eq l f e =
    let same : kept_to w p q (length p) ≡ kept_to w (take n (drop users old)) (take n (drop at old)) n =
    ap (kept_to w p q) l ∙ ap₂ (λ (x y : List ℕ). kept_to w x y n) ep eq in
    record { count = f.count ∙ ap length same; words = e ∙ ap (put old at) (f.words ∙ ap (padded room) same) }

pub closes-long : {w users n at : ℕ} {old new : List ℕ} {r : ℕ} → ClosesUp w users n at old new r → length new ≡ length old
closes-long {at = at} {old = old} c = ap length c.words ∙ length-put old at _

pub fills-long : {xs new : List ℕ} {n : ℕ} → Fills xs new n → length new ≡ room
fills-long {xs} f = ap length f.words ∙ length-padded room xs
