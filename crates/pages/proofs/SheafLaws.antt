-- Laws of the lines that share a walk: the words of lines, the counts put in the lines' places, the lines that have theirs.
-- Assumes nothing.
use mathlib.Core.Path.{◌≡◌, refl, sym, ap, ◌∙◌}
use mathlib.Core.Bool.{Bool, true, false, ◌||◌, true≢false, or-false}
use mathlib.Core.List.{List}
use mathlib.Core.Option.{some}
use Prim.Native.Nat.{ℕ, ◌+◌, ◌^◌, ◌≤◌, ◌<◌}
use native.Mathlib.Decide.{ℕ_discrete}
use native.Mathlib.Omega.{arith}
use lib.Dec.{lit<}
use lib.ListN.{length, get_or, set, length-set}
use lib.Seq.{get_or-set_same, get_or-set_other}
use Rattle.words.specs.Words.{has, item_of, join_of}
use Rattle.words.proofs.WordsLaws.{has-zero, has_join, join-lt, same_bits}
use Rattle.sharing.proofs.LineLaws.{join-here, join-other}
use Rattle.tables.specs.Tables.{Tables}
use Rattle.syntax.specs.Bytes.{Bytes}
use Rattle.syntax.specs.Rule.{Rule, rule_of}
use Rattle.verdicts.specs.Verdict.{full_count, breaking_count}
use Rattle.verdicts.specs.Code.Judging.{TablesAt, KnownCounts}
use Rattle.pages.specs.Page.{page_limit}
use Rattle.pages.specs.Code.Parts.{line_at}
use Rattle.pages.specs.Code.Sheaves.{LinesOf, Sizes, Spread, Spreads, KnownLines, Grows}

-- ---- words of lines

pub lines_none : (many : ℕ) → LinesOf 0 many
lines_none many = record { small = lit< tt; inside = λ j h. absurd (true≢false (sym h ∙ has-zero j)) }

pub lines-add : {w many : ℕ} (j : ℕ) → LinesOf w many → many ≤ page_limit → j < many → LinesOf (join_of w (item_of j)) many
lines-add {w} {many} j L few below = record { small = join-lt w (item_of j); inside = λ i h. go i h (ℕ_discrete i j) }
  where
    go : (i : ℕ) → has (join_of w (item_of j)) i ≡ true → Dec (i ≡ j) → i < many
    go i h (yes e) = omega arith
    go i h (no ne) = L.inside i (sym (join-other w j i L.small ne) ∙ h)

-- ---- counts put in the lines' places

pub spreads-none : (members : List ℕ) (full : ℕ) (counts fulls breakings : List ℕ) → Spreads members 0 full counts fulls breakings fulls breakings 0
spreads-none members full counts fulls breakings = record {
  small = lit< tt;
  for_fulls = refl;
  for_breakings = refl;
  each = λ j h. absurd (true≢false (sym h ∙ has-zero j));
  other = λ j h. (refl, refl);
}

-- Those of one line more.
module _ {members counts fulls breakings fulls' breakings' : List ℕ} {many full known l : ℕ} (sizes : Sizes members many counts fulls breakings)
    (old : Spreads members l full counts fulls breakings fulls' breakings' known) (here : l < many) where
  abbrev at : ℕ
  at = get_or members l 0

  below : at < page_limit
  below = sizes.below l here

  pub spreads-next : Spreads members (l + 1) full counts fulls breakings (set fulls' (get_or members l 0) full) (set breakings' (get_or members l 0) (get_or counts l 0)) (join_of known (item_of (get_or members l 0)))
  spreads-next = record {
    small = join-lt known (item_of at);
    for_fulls = length-set fulls' at full ∙ old.for_fulls;
    for_breakings = length-set breakings' at (get_or counts l 0) ∙ old.for_breakings;
    each = λ j h. go j h (ℕ_discrete j at);
    other = λ j h. stays j h (ℕ_discrete j at);
  }
    where
      go : (j : ℕ) → has (join_of known (item_of at)) j ≡ true → Dec (j ≡ at) → Spread members (l + 1) full counts (set fulls' at full) (set breakings' at (get_or counts l 0)) j
      go j h (yes e) = record {
        place = l;
        within = omega arith;
        line = sym e;
        fulls_is = ap (λ (i : ℕ). get_or (set fulls' at full) i 0) e ∙ get_or-set_same fulls' at full 0 (omega (arith, below, old.for_fulls, sizes.for_fulls));
        breakings_is = ap (λ (i : ℕ). get_or (set breakings' at (get_or counts l 0)) i 0) e ∙ get_or-set_same breakings' at (get_or counts l 0) 0 (omega (arith, below, old.for_breakings, sizes.for_breakings));
      }
      go j h (no ne) =
          let s = old.each j (sym (join-other known at j old.small ne) ∙ h) in
          record {
            place = s.place;
            within = omega (arith, s.within);
            line = s.line;
            fulls_is = get_or-set_other fulls' at j full 0 ne ∙ s.fulls_is;
            breakings_is = get_or-set_other breakings' at j (get_or counts l 0) 0 ne ∙ s.breakings_is;
          }

      stays : (j : ℕ) → has (join_of known (item_of at)) j ≡ false → Dec (j ≡ at) → (get_or (set fulls' at full) j 0 ≡ get_or fulls j 0) × (get_or (set breakings' at (get_or counts l 0)) j 0 ≡ get_or breakings j 0)
      stays j h (yes e) = absurd (true≢false (sym (join-here known at (omega (arith, below))) ∙ ap (has (join_of known (item_of at))) (sym e) ∙ h))
      stays j h (no ne) =
          let s = old.other j (sym (join-other known at j old.small ne) ∙ h) in
          (get_or-set_other fulls' at j full 0 ne ∙ s.0, get_or-set_other breakings' at j (get_or counts l 0) 0 ne ∙ s.1)

-- ---- lines that have their counts

pub known-none : (ts : List ℕ) (page : Bytes) (fulls breakings : List ℕ) → length fulls ≡ page_limit → length breakings ≡ page_limit → KnownLines ts page fulls breakings 0
known-none ts page fulls breakings f b = record {
  small = lit< tt;
  for_fulls = f;
  for_breakings = b;
  counts = λ T H j h. absurd (true≢false (sym h ∙ has-zero j));
}

join-zero : (w : ℕ) → w < 2 ^ 64 → join_of w 0 ≡ w
join-zero w small = same_bits 64 (join_of w 0) w (join-lt w 0) small (λ i l. has_join w 0 i l ∙ ap (λ (t : Bool). has w i || t) (has-zero i) ∙ or-false (has w i))

-- Where nothing is counted nothing is lost.
pub grows_none : (ts : List ℕ) (page : Bytes) (fulls breakings : List ℕ) → Grows ts page fulls breakings fulls breakings 0
grows_none ts page fulls breakings known K = rw (join-zero known K.small) K

-- ---- the lines from k on that have their counts still

pub record KnownFrom (ts : List ℕ) (page : Bytes) (fulls breakings : List ℕ) (known k : ℕ) : Type 0 where
  pub counts : (T : Tables) → TablesAt ts T → (j : ℕ) → k ≤ j → has known j ≡ true → (κ : Rule) → rule_of (line_at page j) ≡ some κ
      → (get_or fulls j 0 ≡ full_count T κ) × (get_or breakings j 0 ≡ breaking_count T κ)

pub known_from : {ts fulls breakings : List ℕ} {page : Bytes} {known : ℕ} → KnownLines ts page fulls breakings known → KnownFrom ts page fulls breakings known 0
known_from K = record { counts = λ T H j _. K.counts T H j }

pub known-after : {ts fulls breakings : List ℕ} {page : Bytes} {known k : ℕ} (f b : ℕ) → KnownFrom ts page fulls breakings known k
    → KnownFrom ts page (set fulls k f) (set breakings k b) known (k + 1)
known-after {ts} {fulls} {breakings} {page} {known} {k} f b K = record {
  counts = λ T H j l h κ e.
      let ne : j ≡ k → ⊥ = λ q. omega arith in
      let r = K.counts T H j (omega arith) h κ e in
      (get_or-set_other fulls k j f 0 ne ∙ r.0, get_or-set_other breakings k j b 0 ne ∙ r.1);
}

pub known-counts : {ts fulls breakings : List ℕ} {page : Bytes} {known k : ℕ} → KnownFrom ts page fulls breakings known k → has known k ≡ true
    → KnownCounts ts (line_at page k) (get_or fulls k 0) (get_or breakings k 0)
known-counts {k = k} K h T H = K.counts T H k (omega arith) h
