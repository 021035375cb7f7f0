-- Laws of the loops over the lines of a word, of the slots of the lines, and of what is kept there.
-- Assumes nothing.
use mathlib.Core.Path.{◌≡◌, refl, sym, ap, ◌∙◌}
use mathlib.Core.Bool.{Bool, true, false, ◌||◌, true≢false, or-true, or-false}
use mathlib.Core.List.{List, []}
use mathlib.Core.Logic.{⊎_elim}
use Prim.Native.Nat.{ℕ, ◌+◌, ◌*◌, ◌-◌, ◌%◌, ◌^◌, ◌<◌, ◌≤◌}
use native.Mathlib.Decide.{ℕ_discrete, dec_lt}
use native.Mathlib.Nat.{mul-le-mul, mod-lt}
use native.Mathlib.Omega.{arith}
use lib.Dec.{lit<}
use lib.ListN.{length, get_or, set, take, drop}
use lib.Seq.{take-set-le}
use borrow.Author.Tests.{eq-eqb, ne_eqb}
use Rattle.words.specs.Words.{has, Lowest, item_of, meet_of, join_of, less_of}
use Rattle.words.proofs.WordsLaws.{has-zero, has-out, has_join, has-item, less-here, less_other, less-lt, join-lt}
use Rattle.words.proofs.LoopLaws.{lowest-item, less-smaller}
use Rattle.syntax.specs.Rule.{rule_vars}
use Rattle.walks.specs.Code.Context.{Alike}
use Rattle.walks.specs.Code.Kept.{choice_of, unwritten, written, Keeping}
use Rattle.walks.proofs.ReorderLaws.{after-drop}
use Rattle.walks.proofs.ContextLaws.{full-alike, weight-alike}
use Rattle.walks.proofs.BytesLaws.{bytes-length, alike-key}
use Rattle.walks.proofs.KeptLaws.{written-length, full-there, breaking-there, choice-there, other-stays, keeping-length}
use Rattle.values.specs.Sets.{in_set, names}
use Rattle.values.specs.Code.Plan.{levels_from}
use Rattle.values.proofs.ReadsLaws.{sets-read}
use Rattle.sharing.specs.Code.Lines.{lines_limit, whole_slots, slot_of, slot_for, mask_of, Lines, Held, clauses_in, Grouped, CountedFor, KeptFor, HitFor, KeepsFor}

-- ---- a word without its lowest item, and with one more

pub less-others : (w l j : ℕ) → w < 2 ^ 64 → (j ≡ l → ⊥) → has (less_of w (item_of l)) j ≡ has w j
less-others w l j small ne = go (dec_lt j 64)
  where
    go : Dec (j < 64) → has (less_of w (item_of l)) j ≡ has w j
    go (yes b) = less_other w l j b ne
    go (no b) = has-out _ 64 j (less-lt w (item_of l)) (omega arith) ∙ sym (has-out w 64 j small (omega arith))

pub join-here : (w l : ℕ) → l < 64 → has (join_of w (item_of l)) l ≡ true
join-here w l b = has_join w (item_of l) l b ∙ ap (λ (t : Bool). has w l || t) (has-item l l b ∙ eq-eqb l l refl) ∙ or-true (has w l)

pub join-other : (w l j : ℕ) → w < 2 ^ 64 → (j ≡ l → ⊥) → has (join_of w (item_of l)) j ≡ has w j
join-other w l j small ne = go (dec_lt j 64)
  where
    go : Dec (j < 64) → has (join_of w (item_of l)) j ≡ has w j
    go (yes b) = has_join w (item_of l) j b ∙ ap (λ (t : Bool). has w j || t) (has-item l j b ∙ ne_eqb j l ne) ∙ or-false (has w j)
    go (no b) = has-out _ 64 j (join-lt w (item_of l)) (omega arith) ∙ sym (has-out w 64 j small (omega arith))

-- ---- the loop over the lines of a word: `rest` is still to come. P is said of the lines that were gone over, Q of all others.

pub record Going (active rest : ℕ) (P Q : ℕ → Type 0) : Type 0 where
  pub small : rest < 2 ^ 64
  pub inside : (l : ℕ) → has rest l ≡ true → has active l ≡ true
  pub done : (l : ℕ) → has active l ≡ true → has rest l ≡ false → P l
  pub ahead : (l : ℕ) → has rest l ≡ true → Q l
  pub outside : (l : ℕ) → has active l ≡ false → Q l

pub going_start : (P Q : ℕ → Type 0) {active many : ℕ} → Lines active many → ((l : ℕ) → Q l) → Going active active P Q
going_start P Q L q = record {
  small = L.small;
  inside = λ l h. h;
  done = λ l h z. absurd (true≢false (sym h ∙ z));
  ahead = λ l h. q l;
  outside = λ l h. q l;
}

pub going_end : {active rest : ℕ} {P Q : ℕ → Type 0} → Going active rest P Q → rest ≡ 0 → (l : ℕ) → has active l ≡ true → P l
going_end g z l h = g.done l h (ap (λ (w : ℕ). has w l) z ∙ has-zero l)

-- The lowest line that is still to come.
pub record Turn (active many rest l : ℕ) : Type 0 where
  pub coming : has rest l ≡ true
  pub counted : has active l ≡ true
  pub within : l < many
  pub few : l < lines_limit
  pub less : less_of rest (item_of l) < rest

pub turn : {active many rest l : ℕ} {P Q : ℕ → Type 0} → Lines active many → Going active rest P Q → (rest ≡ 0 → ⊥) → Lowest rest l → Turn active many rest l
turn {active} {many} {rest} {l} L g ne low =
    let b : l < 64 = lowest-item g.small ne low in
    let h : has rest l ≡ true = low.found b in
    let w : l < many = L.inside l (g.inside l h) in
    record { coming = h; counted = g.inside l h; within = w; few = omega (arith, L.few); less = less-smaller rest l g.small b h }

-- One turn.
pub going_on : (P Q P' Q' : ℕ → Type 0) {active many rest l : ℕ} → Turn active many rest l → Going active rest P Q
    → P' l → ((j : ℕ) → (j ≡ l → ⊥) → P j → P' j) → ((j : ℕ) → (j ≡ l → ⊥) → Q j → Q' j) → Going active (less_of rest (item_of l)) P' Q'
going_on P Q P' Q' {active} {many} {rest} {l} t g p ps qs = record {
  small = less-lt rest (item_of l);
  inside = λ j h. g.inside j (kept j h);
  done = λ j h z. gone j h z (ℕ_discrete j l);
  ahead = λ j h. qs j (apart j h) (g.ahead j (kept j h));
  outside = λ j z. qs j (λ e. true≢false (sym t.counted ∙ ap (has active) (sym e) ∙ z)) (g.outside j z);
}
  where
    apart : (j : ℕ) → has (less_of rest (item_of l)) j ≡ true → j ≡ l → ⊥
    apart j h e = true≢false (sym h ∙ ap (has (less_of rest (item_of l))) e ∙ less-here rest l (omega (arith, t.few)))

    kept : (j : ℕ) → has (less_of rest (item_of l)) j ≡ true → has rest j ≡ true
    kept j h = sym (less-others rest l j g.small (apart j h)) ∙ h

    gone : (j : ℕ) → has active j ≡ true → has (less_of rest (item_of l)) j ≡ false → Dec (j ≡ l) → P' j
    gone j h z (yes e) = rw e p
    gone j h z (no ne) = ps j ne (g.done j h (sym (less-others rest l j g.small ne) ∙ z))

-- ---- slots

pub mul-le : (a b m n : ℕ) → a ≤ m → b ≤ n → a * b ≤ m * n
mul-le a b m n p q = mul-le-mul p q

row_apart : (many e l e' l' : ℕ) → l < many → many * e + l ≡ many * e' + l' → e < e' → ⊥
row_apart many e l e' l' h q less =
    let step : many * (e + 1) ≤ many * e' = mul-le many (e + 1) many e' (omega arith) (omega arith) in
    let more : many * (e + 1) ≡ many * e + many = omega arith in
    omega arith

pub slot_apart : (many e l i e' l' i' : ℕ) → l < many → l' < many → i < 64 → i' < 64 → slot_of many e l i ≡ slot_of many e' l' i'
    → (e ≡ e') × (l ≡ l') × (i ≡ i')
slot_apart many e l i e' l' i' h h' b b' q =
    let row : many * e + l ≡ many * e' + l' = omega arith in
    let deep : e ≡ e' = go row (dec_lt e e') (dec_lt e' e) in
    (deep, omega (arith, row, ap (λ (t : ℕ). many * t) deep), omega arith)
  where
    go : many * e + l ≡ many * e' + l' → Dec (e < e') → Dec (e' < e) → e ≡ e'
    go row (yes p) r = absurd (row_apart many e l e' l' h row p)
    go row (no p) (yes r) = absurd (row_apart many e' l' e l h' (sym row) r)
    go row (no p) (no r) = omega arith

-- ---- what is kept of a line

-- The mask stands at its depth.
pub key-at : (lines : List ℕ) (l d choice key : ℕ) → 0 < d → key ≡ meet_of choice (mask_of lines l d) → key ≡ meet_of choice (mask_of lines l (d - 1 + 1))
key-at lines l d choice key h e =
    let deep : d ≡ d - 1 + 1 = omega arith in
    e ∙ ap (λ (t : ℕ). meet_of choice (mask_of lines l t)) deep

-- A hit under the key of a line is one of that line.
pub hit-is : (lines kept : List ℕ) (many e l choice key place count : ℕ) → key ≡ meet_of choice (mask_of lines l (e + 1)) → place ≡ slot_for many e l key
    → 3 * place + 2 < length kept → (get_or kept (3 * place) 0 ≡ unwritten → ⊥) → get_or kept (3 * place + 2) 0 ≡ key → count ≡ get_or kept (3 * place + 1) 0
    → HitFor lines kept many e l choice count
hit-is lines kept many e l choice key place count ek ep fits there same is =
    let k : place ≡ slot_for many e l (meet_of choice (mask_of lines l (e + 1))) = ep ∙ ap (slot_for many e l) ek in
    record { fits = rw k at fits; there = rw k at there; key = ap (λ (t : ℕ). get_or kept (3 * t + 2) 0) (sym k) ∙ same ∙ ek; is = rw k at is }

-- What stands before the slot that is written stays.
front-stays : (n : ℕ) (kept : List ℕ) (k full breaking choice : ℕ) → n ≤ 3 * k → take n (written kept k full breaking choice) ≡ take n kept
front-stays n kept k full breaking choice b =
    let one : List ℕ = set kept (3 * k) (full + 1) in
    take-set-le n (set one (3 * k + 1) breaking) (3 * k + 2) choice (omega arith) ∙ take-set-le n one (3 * k + 1) breaking (omega arith)
    ∙ take-set-le n kept (3 * k) (full + 1) b

module _ {ts plan lines : List ℕ} {many : ℕ} {h : Held} (G : Grouped ts plan lines many h) where
  -- The choice is alike, at the line's context, with what its key is the choice of.
  key-alike : (l d choice : ℕ) → l < many → d < length h.layout.order → Alike (h.context l d) (choice_of (meet_of choice (mask_of lines l d))) (choice_of choice)
  key-alike l d choice b ld = alike-key (h.context l d) (mask_of lines l d) ((G.each l b).masks d ld) choice

  -- The counts of a line are right for every choice alike.
  line-alike : (l d : ℕ) → l < many → d < length h.layout.order → (a b : List ℕ) → length a ≡ length b → Alike (h.context l d) a b
      → (full breaking : ℕ) → CountedFor plan lines h l d a full breaking → CountedFor plan lines h l d b full breaking
  line-alike l d lm ld a b e same full breaking p =
      let vars = rule_vars [] h.rule in
      let s = in_set h.tables vars in
      let K = clauses_in lines h l in
      let x = (G.each l lm).right d ld in
      let af = after-drop (names vars) h.layout.order G.planned.after d in
      let law = sets-read h.tables vars in
      record {
        fulls = p.fulls ∙ full-alike 64 s (names vars) law K (drop levels_from plan) (drop d h.layout.order) af (h.context l d) x a b e same;
        breakings = p.breakings ∙ weight-alike 64 s (names vars) law K (drop levels_from plan) (drop d h.layout.order) af (h.context l d) 1 (d + 1) x a b e same;
      }

  -- A hit is right.
  pub hit-for : {kept : List ℕ} → KeptFor plan lines many h kept → (e l choice count : ℕ) → e + 1 < length h.layout.order → l < many
      → HitFor lines kept many e l choice count
      → CountedFor plan lines h l (e + 1) (choice_of choice) (get_or kept (3 * slot_for many e l (meet_of choice (mask_of lines l (e + 1)))) 0 - 1) count
  hit-for {kept} K e l choice count deep b H =
      let key : ℕ = meet_of choice (mask_of lines l (e + 1)) in
      rw H.is
      (K.each e l (key % 255 % 64) deep b (mod-lt (key % 255) (lit< tt)) H.fits H.there (choice_of choice) (bytes-length 8 choice)
      (rw H.key (key-alike l (e + 1) choice b deep)))

  -- Writing what was counted of a line: the rule's own slots stay, and those of other lines and depths.
  module _ {kept : List ℕ} (K : KeptFor plan lines many h kept) (e l choice full breaking : ℕ) (deep : e + 1 < length h.layout.order) (lm : l < many)
      (C : CountedFor plan lines h l (e + 1) (choice_of choice) full breaking) where
    abbrev key : ℕ
    key = meet_of choice (mask_of lines l (e + 1))

    abbrev place : ℕ
    place = slot_for many e l key

    abbrev new : List ℕ
    new = written kept place full breaking key

    here : (c : List ℕ) → length c ≡ 8 → Alike (h.context l (e + 1)) (choice_of key) c → CountedFor plan lines h l (e + 1) c full breaking
    here c lc a =
        line-alike l (e + 1) lm deep (choice_of choice) c (bytes-length 8 choice ∙ sym lc) (λ u q. sym (key-alike l (e + 1) choice lm deep u q) ∙ a u q) full breaking C

    each_on : 3 * place + 2 < length kept → (e' l' i' : ℕ) → e' + 1 < length h.layout.order → l' < many → i' < 64
        → 3 * slot_of many e' l' i' + 2 < length new → (get_or new (3 * slot_of many e' l' i') 0 ≡ unwritten → ⊥) → (c : List ℕ) → length c ≡ 8
        → Alike (h.context l' (e' + 1)) (choice_of (get_or new (3 * slot_of many e' l' i' + 2) 0)) c → Dec (slot_of many e' l' i' ≡ place)
        → CountedFor plan lines h l' (e' + 1) c (get_or new (3 * slot_of many e' l' i') 0 - 1) (get_or new (3 * slot_of many e' l' i' + 1) 0)
    each_on fits e' l' i' de b' bi r ne c lc a (yes q) =
        let same = slot_apart many e' l' i' e l (key % 255 % 64) b' lm bi (mod-lt (key % 255) (lit< tt)) q in
        let ef : get_or new (3 * slot_of many e' l' i') 0 ≡ full + 1 = ap (λ (t : ℕ). get_or new (3 * t) 0) q ∙ full-there kept place full breaking key fits in
        let eb : get_or new (3 * slot_of many e' l' i' + 1) 0 ≡ breaking = ap (λ (t : ℕ). get_or new (3 * t + 1) 0) q ∙ breaking-there kept place full breaking key fits in
        let eh : get_or new (3 * slot_of many e' l' i' + 2) 0 ≡ key = ap (λ (t : ℕ). get_or new (3 * t + 2) 0) q ∙ choice-there kept place full breaking key fits in
        let less : full + 1 - 1 ≡ full = omega arith in
        rw (ef, eb, less, same.0, same.1) (here c lc (rw same.0 at (rw same.1 at (rw eh at a))))
    each_on fits e' l' i' de b' bi r ne c lc a (no q) =
        let k : ℕ = slot_of many e' l' i' in
        let zero-place : 3 * k ≡ 3 * k + 0 = omega arith in
        let ef : get_or new (3 * k) 0 ≡ get_or kept (3 * k) 0 =
        ap (λ (t : ℕ). get_or new t 0) zero-place ∙ other-stays kept place full breaking key fits k 0 (omega arith) q ∙ ap (λ (t : ℕ). get_or kept t 0) (sym zero-place) in
        let eb = other-stays kept place full breaking key fits k 1 (omega arith) q in
        let eh = other-stays kept place full breaking key fits k 2 (omega arith) q in
        rw (ef, eb) (K.each e' l' i' de b' bi (omega (arith, written-length kept place full breaking key fits)) (λ z. ne (ef ∙ z)) c lc (rw eh at a))

    pub kept_line : {after : List ℕ} → Keeping kept after place full breaking key → KeptFor plan lines many h after
    kept_line = ⊎_elim (λ e. rw e K) (λ q. rw q.1 (record {
      whole = rw (front-stays (3 * whole_slots) kept place full breaking key (omega arith)) K.whole;
      each = λ e' l' i' de b' bi r ne c lc a. each_on q.0 e' l' i' de b' bi r ne c lc a (ℕ_discrete (slot_of many e' l' i') place);
    }))

-- The counts of the lines are kept one by one.
pub keeps-next : {lines : List ℕ} {many e active choice full : ℕ} {breaking old now new : List ℕ} (l key place : ℕ) → has active l ≡ true → l < many
    → key ≡ meet_of choice (mask_of lines l (e + 1)) → place ≡ slot_for many e l key → Keeping now new place full (get_or breaking l 0) key
    → KeepsFor lines many e active choice full breaking old now → KeepsFor lines many e active choice full breaking old new
keeps-next {lines} {many} {e} {active} {choice} {full} {breaking} {old} {now} {new} l key place c b ek ep q k =
    record {
      long = keeping-length place full (get_or breaking l 0) key q ∙ k.long;
      goes = λ ts plan h G deep C K.
          kept_line G (k.goes ts plan h G deep C K) e l choice full (get_or breaking l 0) deep b (C l c) (rw ek at (rw ep at q));
    }

-- Nothing is said of single lines.
abbrev pub Any : ℕ → Type 0
Any l = Unit {0}
