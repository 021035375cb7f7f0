-- Laws of `Written`: no piece, one byte, one byte more, one piece after another.
-- Assumes nothing.
use mathlib.Core.Path.{◌≡◌, refl, sym}
use mathlib.Core.List.{List, [], ◌∷◌, ◌++◌, append_assoc, append-nil}
use Prim.Native.Nat.{ℕ, suc, ◌+◌, ◌-◌, ◌≤◌, ◌<◌}
use native.Mathlib.Omega.{arith}
use lib.ListN.{length, take, drop, get_or, set, length-append, length-drop, length-take, drop_of_length-le}
use borrow.Rule.Slice.PartMut.{mid_of, post_of, put_mid}
use lib.Seq.{drop-cons, set_at, take-length, take_all, take_at, drop_at, drop-drop}
use Rattle.texts.specs.Code.Overwritten.{Overwritten, over, Added}

pub over-length : (w old : List ℕ) → length w ≤ length old → length (over w old) ≡ length old
over-length w old h = simp (length-append, length-drop) (omega arith)

pub written-length : {w old new : List ℕ} {n : ℕ} → Overwritten w old new n → length new ≡ length old
written-length {w} {old} r = rw r.bytes (over-length w old r.fits)

pub none_written : (old : List ℕ) → Overwritten [] old old 0
none_written old = record { count = refl; bytes = refl; fits = omega arith }

-- The whole of w, copied.
pub copied : (w old : List ℕ) {new : List ℕ} {n : ℕ} → n ≡ length w → new ≡ take (length w) w ++ drop (length w) old → length w ≤ length old → Overwritten w old new n
copied w old c e h = record { count = c; bytes = rw take-length at e; fits = h }

-- One byte, set behind the text w.
pub written_byte : {w old mid : List ℕ} {k : ℕ} (v : ℕ) → Overwritten w old mid k → k < length old → Overwritten (w ++ (v ∷ [])) old (set mid k v) (k + 1)
written_byte {w} {old} {mid} {k} v r h =
    let k' : k ≡ length w = r.count in
    let l : length w < length old = omega arith in
    let d : drop (length w) old ≡ get_or old (length w) 0 ∷ drop (suc (length w)) old = drop-cons old (length w) 0 l in
    let n : length (w ++ (v ∷ [])) ≡ suc (length w) = simp length-append (omega arith) in
    record {
      count = omega arith;
      bytes = rw (r.bytes, d, set_at w _ _ v k (sym k'), n, append_assoc);
      fits = omega arith;
    }

-- The text v, written to the rest of the bytes behind w.
pub written_then : {w v old mid tail : List ℕ} {n m : ℕ} → Overwritten w old mid n → Overwritten v (drop n mid) tail m → Overwritten (w ++ v) old (take n mid ++ tail) (n + m)
written_then {w} {v} {old} {mid} {tail} {n} {m} r s =
    let n' : length w ≡ n = sym r.count in
    let t : take n mid ≡ w = rw (r.bytes, take_at w _ n n') in
    let d : drop n mid ≡ drop n old = rw (r.bytes, drop_at w _ n n', n') in
    let f : length v ≤ length old - n = rw (← length-drop n old, ← d) s.fits in
    let l : length (w ++ v) ≡ n + length v = simp length-append (omega arith) in
    record {
      count = omega (arith, s.count);
      bytes = rw (t, s.bytes, d, drop-drop (length v) n old, l, append_assoc);
      fits = omega (arith, r.fits);
    }

-- The same where the rest was lent as a part, up to the end, and came back.
pub written-rest : {w v old mid tail : List ℕ} {n m : ℕ} → Overwritten w old mid n → Overwritten v (mid_of n (length mid - n) mid) tail m
    → Overwritten (w ++ v) old (put_mid n (length mid - n) mid tail) (n + m)
written-rest {v = v} {mid = mid} {tail = tail} {n = n} {m = m} r s =
    let l : length (drop n mid) ≤ length mid - n = omega (arith, length-drop n mid) in
    let t : mid_of n (length mid - n) mid ≡ drop n mid = take_all (length mid - n) (drop n mid) l in
    let d : post_of n (length mid - n) mid ≡ [] = drop_of_length-le (drop n mid) l in
    rw (d, append-nil) (written_then r (rw t at s))

-- The part lent behind w has room for what old had room for.
pub rest-room : {w old mid : List ℕ} {n : ℕ} (k : ℕ) → Overwritten w old mid n → length w + k ≤ length old → k ≤ length (mid_of n (length mid - n) mid)
rest-room {w} {old} {mid} {n} k r h =
    simp (length-take, length-drop) (omega (arith, written-length r, r.count))

-- What was written is a part of the lent bytes, and is the text.
pub written-part : {w old new : List ℕ} {n : ℕ} → Overwritten w old new n → take n new ≡ w
written-part {w} {n = n} r = rw (r.bytes, take_at w _ n (sym r.count))

pub part_length : {w old new : List ℕ} {n : ℕ} → Overwritten w old new n → n ≡ length (take n new)
part_length r = rw (written-part r) r.count

-- Pieces that are added one behind the other: the first, and one more.
pub add-first : {w mid new : List ℕ} {r : ℕ} → Added 0 w mid new r → Overwritten w mid new r
add-first {w} {mid} p = rw p.0 (p.1 [] mid (none_written mid))

pub add-more : {v old w mid new : List ℕ} {n r : ℕ} → Overwritten v old mid n → Added n w mid new r → Overwritten (v ++ w) old new r
add-more {v} {old} o p = rw p.0 (p.1 v old o)
