-- Laws of the readers of specs/Reading, one for each way a count or a row is refused or taken.
-- Assumes nothing.
use Rattle.std.specs.Prelude.{Result, Ok, Err, IsErrAnd}
use Rattle.std.specs.Int.{w64, from_le_bytes}
use mathlib.Core.Path.{◌≡◌, refl, ap, ◌∙◌}
use mathlib.Core.Bool.{Bool, true, false}
use mathlib.Core.List.{[], ◌∷◌}
use Prim.Native.Nat.{ℕ, suc, ◌+◌, ◌*◌, ◌-◌, ◌^◌, ◌≤◌, ◌<◌}
use native.Mathlib.Omega.{arith}
use native.Mathlib.Numerals.{add-one}
use lib.Dec.{leb}
use lib.ListN.{length, get_or, take, drop, length-drop, drop_of_length-le}
use lib.Seq.{drop-cons, drop-drop}
use borrow.Author.Tests.{lt-ltb, le-ltb, le-leb, lt-leb, eq-eqb, ne_eqb}
use Rattle.answers.specs.declared.Refusal.{Refusal}
use Rattle.answers.specs.declared.Refusal.TheVariants.{CutShort, Overfull, NotEntered, BadMark, NoSuchItem}
use Rattle.tables.specs.declared.Piece.{Piece}
use Rattle.tables.specs.Reading.{Bytes, Taken, stop, took, next, refuse, front, byte, count, word_from, word_within}
use Rattle.tables.specs.Reading.{word_row, marked_row, session_row, done_row}
use Rattle.tables.specs.Code.Reads.{Reads, stops, takes, Is, IsMarked, IsSession, deed_at, IsDeed}

-- What the code took.
pub record Got {A : Type 0} (s : Bytes) (Holds : A → ℕ → Type 0) (v n : ℕ) (r : Taken A) : Type 0 where
  pub value : A
  pub reads : r ≡ took value (drop n s)
  pub within : n ≤ length s
  pub holds : Holds value v

module _ {A : Type 0} {s : Bytes} {Holds : A → ℕ → Type 0} where
  pub as-took : {p : Piece} {r : Taken A} → Reads s Holds (Ok p) r → Got s Holds p.value p.next r
  as-took (takes {a = a} e w h) = record { value = a; reads = e; within = w; holds = h }

  pub as-stop : {e : Refusal} {r : Taken A} → Reads s Holds (Err e) r → r ≡ stop e
  as-stop (stops q) = q

  -- The refusal that `?` hands on is the one met.
  pub stops_as : {c : Result Piece Refusal} {r : Taken A} {e : Refusal} → IsErrAnd c (λ x. x ≡ e) → r ≡ stop e → Reads s Holds c r
  stops_as {c = Ok _} q p = elim q [ ]
  stops_as {c = Err x} q p = rw q (stops p)

  -- What is taken is told in other words.
  pub reads_as : {Holds' : A → ℕ → Type 0} {c : Result Piece Refusal} {r : Taken A} → Reads s Holds c r → ((a : A) (v : ℕ) → Holds a v → Holds' a v)
      → Reads s Holds' c r
  reads_as (stops q) h = stops q
  reads_as (takes {p = p} {a = a} q w x) h = takes q w (h a p.value x)

  -- Read on behind what was taken; what was read last is made into another value.
  pub read-on : {B : Type 0} {Holds' : B → ℕ → Type 0} {c : Result Piece Refusal} {r : Taken A} {v n : ℕ} (f : A → Bytes → Taken B)
      → (g : Got s Holds v n r) → Reads s Holds' c (f g.value (drop n s)) → Reads s Holds' c (next r f)
  unfolding next
  read-on f g x = rw g.reads x

  pub read-last : {B : Type 0} {Holds' : B → ℕ → Type 0} {c : Result Piece Refusal} {r : Taken A} (f : A → B)
      → Reads s Holds c r → ((a : A) (v : ℕ) → Holds a v → Holds' (f a) v) → Reads s Holds' c (next r (λ a t. took (f a) t))
  unfolding next
  read-last {r = r} f (stops {e = e} q) h =
      let p : next r (λ a t. took (f a) t) ≡ stop e = rw q in
      stops p
  read-last {r = r} f (takes {p = p} {a = a} q w x) h =
      let e : next r (λ a t. took (f a) t) ≡ took (f a) (drop p.next s) = rw q in
      takes e w (h a p.value x)

module _ (s : Bytes) (at : ℕ) where
  pub front-took : (n : ℕ) → at + n ≤ length s → front n (drop at s) ≡ took (take n (drop at s)) (drop (at + n) s)
  unfolding front
  front-took n h = rw (le-ltb (length (drop at s)) n (rw length-drop (omega arith)), drop-drop)

  pub front_cut : (n : ℕ) → length s - at < n → front n (drop at s) ≡ stop CutShort
  unfolding front
  front_cut n h = rw (lt-ltb (length (drop at s)) n (rw length-drop (omega arith)))

  pub byte-took : at < length s → byte (drop at s) ≡ took (get_or s at 0) (drop (at + 1) s)
  unfolding byte next
  byte-took h = rw (front-took 1 (omega arith), drop-cons s at 0)

  pub byte_cut : length s ≤ at → byte (drop at s) ≡ stop CutShort
  unfolding byte next
  byte_cut h = rw (front_cut 1 (omega arith))

  pub count-stop : (limit : ℕ) {e : Refusal} → byte (drop at s) ≡ stop e → count limit (drop at s) ≡ stop e
  unfolding count next
  count-stop limit q = rw q

  pub count-over : (limit : ℕ) {v n : ℕ} → Got s Is v n (byte (drop at s)) → limit < v → count limit (drop at s) ≡ stop Overfull
  unfolding count next refuse
  count-over limit g h = rw (g.reads, g.holds, lt-ltb limit _ h)

  pub count-took : (limit : ℕ) {v n : ℕ} → Got s Is v n (byte (drop at s)) → v ≤ limit → count limit (drop at s) ≡ took v (drop n s)
  unfolding count next refuse
  count-took limit g h = rw (g.reads, g.holds, le-ltb limit _ h)

-- A word is its eight bytes, lowest first.
word-rest : (b : Bytes) (j : ℕ) → j < length b → word_from (drop j b) ≡ get_or b j 0 + 256 * word_from (drop (suc j) b)
unfolding word_from
word-rest b j l = rw (drop-cons b j 0 l)

word_none : (b : Bytes) → length b ≡ 8 → word_from (drop 8 b) ≡ 0
unfolding word_from
word_none b q = rw (drop_of_length-le b {i = 8} (omega arith))

pub word_lem : (b : Bytes) → length b ≡ 8 → from_le_bytes w64 b ≡ word_from b
word_lem b q =
    let first : word_from b ≡ get_or b 0 0 + 256 * word_from (drop 1 b) = word-rest b 0 (omega arith) in
    omega (
      arith,
      first,
      word-rest b 1 (omega arith),
      word-rest b 2 (omega arith),
      word-rest b 3 (omega arith),
      word-rest b 4 (omega arith),
      word-rest b 5 (omega arith),
      word-rest b 6 (omega arith),
      word-rest b 7 (omega arith),
      word_none b q,
    )

-- The word of a row, held against its count.
pub within-over : (n : ℕ) (b t : Bytes) {w : ℕ} {r : Bool} → w ≡ word_from b → r ≡ leb (2 ^ n) w → r ≡ true → word_within n b t ≡ stop NoSuchItem
unfolding word_within next refuse
within-over n b t e q p = rw (← e, ← q, p)

pub within-took : (n : ℕ) (b t : Bytes) {w : ℕ} {r : Bool} → w ≡ word_from b → r ≡ leb (2 ^ n) w → r ≡ false → word_within n b t ≡ took w t
unfolding word_within next refuse
within-took n b t e q p = rw (← e, ← q, p)

module _ (s : Bytes) (at : ℕ) where
  pub word-row-cut : (n : ℕ) → length s - at < 8 → word_row n (drop at s) ≡ stop CutShort
  unfolding word_row next
  word-row-cut n h = rw (front_cut s at 8 h)

  pub word_row_lem : (n : ℕ) → at + 8 ≤ length s → word_row n (drop at s) ≡ word_within n (take 8 (drop at s)) (drop (at + 8) s)
  unfolding word_row next
  word_row_lem n h = rw (front-took s at 8 h)

  -- A row of nine bytes: what stands in front of its word, the word, and what is behind.
  pub nine : at + 9 ≤ length s → front 9 (drop at s) ≡ took (get_or s at 0 ∷ take 8 (drop (at + 1) s)) (drop (at + 1 + 8) s)
  nine h =
      let q : at + 1 + 8 ≡ at + 9 = omega arith in
      let l : at < length s = omega arith in
      rw (q, front-took s at 9 h, drop-cons s at 0, add-one)

  module _ (highest n : ℕ) where
    pub marked-cut : length s - at < 9 → marked_row highest n (drop at s) ≡ stop CutShort
    unfolding marked_row next
    marked-cut h = rw (front_cut s at 9 h)

    pub marked-none : at + 9 ≤ length s → get_or s at 0 ≡ 0 → marked_row highest n (drop at s) ≡ stop NotEntered
    unfolding marked_row next refuse
    marked-none h q = rw (nine h, eq-eqb (get_or s at 0) 0 q)

    pub marked-bad : at + 9 ≤ length s → highest < get_or s at 0 → marked_row highest n (drop at s) ≡ stop BadMark
    unfolding marked_row next refuse
    marked-bad h l = rw (nine h, ne_eqb (get_or s at 0) 0 (omega arith), lt-ltb highest (get_or s at 0) l)

    pub marked_row_lem : {c : Result Piece Refusal} → at + 9 ≤ length s → (get_or s at 0 ≡ 0 → ⊥) → get_or s at 0 ≤ highest
        → Reads s Is c (word_within n (take 8 (drop (at + 1) s)) (drop (at + 1 + 8) s)) → Reads s (IsMarked s at) c (marked_row highest n (drop at s))
    unfolding marked_row next refuse
    marked_row_lem h k l (stops {e = e} q) =
        let f : marked_row highest n (drop at s) ≡ stop e = rw (nine h, ne_eqb (get_or s at 0) 0 k, le-ltb highest (get_or s at 0) l, q) in
        stops f
    marked_row_lem h k l (takes {p = p} {a = a} q w e) =
        let f : marked_row highest n (drop at s) ≡ took (record { mark = get_or s at 0; word = a }) (drop p.next s) =
        rw (nine h, ne_eqb (get_or s at 0) 0 k, le-ltb highest (get_or s at 0) l, q) in
        takes f w (record { mark = refl; word = e; complete = omega arith })

  pub session-cut : (users n : ℕ) → length s - at < 9 → session_row users n (drop at s) ≡ stop CutShort
  unfolding session_row next
  session-cut users n h = rw (front_cut s at 9 h)

  pub session-none : (users n : ℕ) → at + 9 ≤ length s → users ≤ get_or s at 0 → session_row users n (drop at s) ≡ stop NoSuchItem
  unfolding session_row next refuse
  session-none users n h l = rw (nine h, le-leb users (get_or s at 0) l)

  pub session-row : (users n : ℕ) {c : Result Piece Refusal} → at + 9 ≤ length s → get_or s at 0 < users
      → Reads s Is c (word_within n (take 8 (drop (at + 1) s)) (drop (at + 1 + 8) s))
      → Reads s (IsSession s at users) c (session_row users n (drop at s))
  unfolding session_row next refuse
  session-row users n h l (stops {e = e} q) =
      let f : session_row users n (drop at s) ≡ stop e = rw (nine h, lt-leb users (get_or s at 0) l, q) in
      stops f
  session-row users n h l (takes {p = p} {a = a} q w e) =
      let f : session_row users n (drop at s) ≡ took (record { user = get_or s at 0; active = a }) (drop p.next s) =
      rw (nine h, lt-leb users (get_or s at 0) l, q) in
      takes f w (record { user = refl; known = l; active = e; complete = omega arith })

  -- A row of three bytes.
  three : at + 3 ≤ length s → front 3 (drop at s) ≡ took (get_or s at 0 ∷ get_or s (at + 1) 0 ∷ get_or s (at + 2) 0 ∷ []) (drop (at + 3) s)
  three h =
      let p : suc at ≡ at + 1 = omega arith in
      let q : suc (at + 1) ≡ at + 2 = omega arith in
      let l : at < length s = omega arith in
      let m : at + 1 < length s = omega arith in
      let n : at + 2 < length s = omega arith in
      let c : drop at s ≡ get_or s at 0 ∷ drop (at + 1) s = rw p at (drop-cons s at 0 l) in
      let d : drop (at + 1) s ≡ get_or s (at + 1) 0 ∷ drop (at + 2) s = rw q at (drop-cons s (at + 1) 0 m) in
      let e = drop-cons s (at + 2) 0 n in
      let f : take 3 (drop at s) ≡ get_or s at 0 ∷ get_or s (at + 1) 0 ∷ get_or s (at + 2) 0 ∷ [] = rw (c, d, e) in
      front-took s at 3 h ∙ ap (λ (b : Bytes). took b (drop (at + 3) s)) f

  module _ (users operations objects : ℕ) where
    pub done-cut : length s - at < 3 → done_row users operations objects (drop at s) ≡ stop CutShort
    unfolding done_row next
    done-cut h = rw (front_cut s at 3 h)

    module _ (h : at + 3 ≤ length s) where
      pub done-no-user : users ≤ get_or s at 0 → done_row users operations objects (drop at s) ≡ stop NoSuchItem
      unfolding done_row next refuse
      done-no-user l = rw (three h, le-leb users (get_or s at 0) l)

      module _ (u : get_or s at 0 < users) where
        pub done-no-operation : operations ≤ get_or s (at + 1) 0 → done_row users operations objects (drop at s) ≡ stop NoSuchItem
        unfolding done_row next refuse
        done-no-operation l = rw (three h, lt-leb users (get_or s at 0) u, le-leb operations (get_or s (at + 1) 0) l)

        module _ (a : get_or s (at + 1) 0 < operations) where
          pub done-no-object : objects ≤ get_or s (at + 2) 0 → done_row users operations objects (drop at s) ≡ stop NoSuchItem
          unfolding done_row next refuse
          done-no-object l =
              rw (three h, lt-leb users (get_or s at 0) u, lt-leb operations (get_or s (at + 1) 0) a, le-leb objects (get_or s (at + 2) 0) l)

          module _ (b : get_or s (at + 2) 0 < objects) where
            pub done-took : done_row users operations objects (drop at s)
                ≡ took (record { user = get_or s at 0; operation = get_or s (at + 1) 0; object = get_or s (at + 2) 0 }) (drop (at + 3) s)
            unfolding done_row next refuse
            done-took = rw (three h, lt-leb users (get_or s at 0) u, lt-leb operations (get_or s (at + 1) 0) a, lt-leb objects (get_or s (at + 2) 0) b)

            pub done-row : {v : ℕ} → Reads s (IsDeed s at) (Ok (record { value = v; next = at + 3 })) (done_row users operations objects (drop at s))
            unfolding deed_at
            done-row = takes done-took h (record { is = refl; complete = h })
