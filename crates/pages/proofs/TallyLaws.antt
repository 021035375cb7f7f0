-- Laws of the tallies side by side: one line more, their bounds, the verdicts that they are.
-- Assumes nothing.
use mathlib.Core.Path.{◌≡◌, refl, sym, ap, ◌∙◌}
use mathlib.Core.List.{List, [], ◌∷◌, ◌++◌}
use mathlib.Core.Option.{none, some}
use Prim.Native.Nat.{ℕ, zero, suc, ◌+◌, ◌-◌, ◌*◌, ◌≤◌, ◌<◌}
use native.Mathlib.Decide.{ℕ_discrete}
use native.Mathlib.Omega.{arith}
use lib.ListN.{length, get_or, get_elem?, take, drop, set, length-set}
use lib.Seq.{take_at, take-append-le, drop_at, length-take-le, get_or-set_same, get_or-set_other}
use borrow.Rule.Slice.PartMut.{mid_of, post_of, put_mid, take_put, same_len_mid}
use Rattle.tables.specs.Tables.{Tables}
use Rattle.tables.specs.Accepted.{Passes}
use Rattle.texts.specs.Pieces.{lines}
use Rattle.texts.specs.Code.Overwritten.{Overwritten}
use Rattle.texts.proofs.OverwrittenLaws.{written-length}
use Rattle.syntax.specs.Bytes.{Bytes}
use Rattle.rules.specs.Accept.{refusal}
use Rattle.rules.proofs.AcceptLaws.{tree-few, accepted-rule, accepted-tree}
use Rattle.values.proofs.BoundLaws.{accepted-within}
use Rattle.walks.specs.declared.Tally.{Tally}
use Rattle.verdicts.specs.declared.Verdict.{Verdict}
use Rattle.verdicts.specs.Verdict.{verdict_along, turn_verdict}
use Rattle.verdicts.specs.Code.Judging.{TablesAt, Loaded, ruled_by, JudgesInTurn}
use Rattle.verdicts.proofs.VerdictLaws.{breaking-le-full, full-fits}
use Rattle.verdicts.proofs.TurnLaws.{judged-in-turn}
use Rattle.pages.specs.Page.{verdicts_on}
use Rattle.pages.specs.Code.Parts.{line_at, Ready}
use Rattle.pages.specs.Code.Tallies.{choice_room, tally_at, Lanes, TalliesOn, Fits, AllFit, Rows}
use Rattle.pages.proofs.SortLaws.{stayed}

-- The tally in a verdict.
abbrev tally_in : Verdict → Tally
tally_in v = record { full = v.full; breaking = v.breaking; first = v.first }

-- The verdict of an accepted line is ruled by its tally, and its counts fit.
module _ (T : Tables) (w : Bytes) (ok : refusal w ≡ none) where
  turn-ruled : turn_verdict T w ≡ ruled_by (tally_in (turn_verdict T w))
  unfolding verdict_along
  turn-ruled = let (ρ, h, _) = accepted-rule w ok in rw (judged-in-turn T w ok ρ h)

  pub turn-fits : Passes T → Fits (turn_verdict T w).full (turn_verdict T w).breaking
  unfolding verdict_along
  turn-fits passes =
      let (ρ, h, _) = accepted-rule w ok in
      let few = tree-few ρ (accepted-tree w ρ ok h) in
      let sorts = accepted-within T passes w ρ ok h in
      rw (judged-in-turn T w ok ρ h) (record { part = breaking-le-full T ρ few sorts; few = full-fits T ρ few sorts })

pub tallies-none : (ts : List ℕ) (page : Bytes) (fulls breakings firsts : List ℕ) → TalliesOn ts page 0 fulls breakings firsts
tallies-none ts page fulls breakings firsts = record { of = λ T H j l. absurd (omega arith) }

-- The choices with that of line k.
abbrev with_choice : List ℕ → List ℕ → ℕ → List ℕ
with_choice firsts tail k = put_mid (k * choice_room) (length firsts - k * choice_room) firsts tail

-- One line more is judged.
module _ {ts page fulls breakings firsts tail : List ℕ} {k m : ℕ} (v : Verdict) (lanes : Lanes fulls breakings firsts) (within : k < 32)
    (old : TalliesOn ts page k fulls breakings firsts) (judged : JudgesInTurn ts (line_at page k) v) (ok : refusal (line_at page k) ≡ none)
    (eight : length v.first ≡ choice_room) (put : Overwritten v.first (mid_of (k * choice_room) (length firsts - k * choice_room) firsts) tail m) where
  start : k * choice_room ≤ length firsts
  start = omega (arith, lanes.for_firsts)

  chosen : take choice_room (drop (k * choice_room) (with_choice firsts tail k)) ≡ v.first
  chosen =
      let behind : drop (k * choice_room) (with_choice firsts tail k) ≡ tail ++ post_of (k * choice_room) (length firsts - k * choice_room) firsts =
      drop_at (take (k * choice_room) firsts) _ (k * choice_room) (length-take-le (k * choice_room) firsts start) in
      let wide : choice_room ≤ length tail = omega (arith, written-length put, put.fits) in
      rw behind (take-append-le choice_room tail _ wide ∙ rw put.bytes (take_at v.first _ choice_room eight))

  pub tallies-next : TalliesOn ts page (k + 1) (set fulls k v.full) (set breakings k v.breaking) (with_choice firsts tail k)
  tallies-next = record { of = λ T H j l. go T H j l (ℕ_discrete j k) }
    where
      go : (T : Tables) → TablesAt ts T → (j : ℕ) → j < k + 1 → Dec (j ≡ k) → turn_verdict T (line_at page j) ≡ ruled_by (tally_at (set fulls k v.full) (set breakings k v.breaking) (with_choice firsts tail k) j)
      go T H j l (yes e) =
          let f : get_or (set fulls k v.full) k 0 ≡ v.full = get_or-set_same fulls k v.full 0 (omega (arith, lanes.for_fulls)) in
          let b : get_or (set breakings k v.breaking) k 0 ≡ v.breaking = get_or-set_same breakings k v.breaking 0 (omega (arith, lanes.for_breakings)) in
          let is : turn_verdict T (line_at page k) ≡ v = sym (judged T H) in
          rw (e, f, b, chosen) (turn-ruled T (line_at page k) ok ∙ ap (λ (u : Verdict). ruled_by (tally_in u)) is)
      go T H j l (no ne) =
          let before : j < k = omega (arith, ne) in
          let f : get_or (set fulls k v.full) j 0 ≡ get_or fulls j 0 = get_or-set_other fulls k j v.full 0 ne in
          let b : get_or (set breakings k v.breaking) j 0 ≡ get_or breakings j 0 = get_or-set_other breakings k j v.breaking 0 ne in
          let kept : take choice_room (drop (j * choice_room) (with_choice firsts tail k)) ≡ take choice_room (drop (j * choice_room) firsts) =
          stayed (j * choice_room) choice_room (k * choice_room) (with_choice firsts tail k) firsts (take_put (k * choice_room) (length firsts - k * choice_room) firsts tail start) (omega arith) in
          rw (f, b, kept) (old.of T H j before)

  pub lanes_next : Lanes (set fulls k v.full) (set breakings k v.breaking) (with_choice firsts tail k)
  lanes_next = record {
    for_fulls = length-set fulls k v.full ∙ lanes.for_fulls;
    for_breakings = length-set breakings k v.breaking ∙ lanes.for_breakings;
    for_firsts = same_len_mid (k * choice_room) (length firsts - k * choice_room) firsts tail (written-length put) ∙ lanes.for_firsts;
  }

-- The verdicts are as many as the lines, and each is its line's.
module _ (T : Tables) where
  pub length-verdicts : (ws : List Bytes) → length (verdicts_on T ws) ≡ length ws
  unfolding verdicts_on
  length-verdicts [] = refl
  length-verdicts (w ∷ ws) = ap suc (length-verdicts ws)

  pub verdict-at : (ws : List Bytes) (j : ℕ) → j < length ws → get_elem? (verdicts_on T ws) j ≡ some (turn_verdict T (get_or ws j []))
  unfolding verdicts_on
  verdict-at [] j h = absurd (omega arith)
  verdict-at (w ∷ ws) zero h = refl
  verdict-at (w ∷ ws) (suc j) h = verdict-at ws j (omega arith)

-- All lines are judged: the counts fit, and the tallies are those of the page's verdicts.
module _ {ts page groups fulls breakings firsts : List ℕ} {many : ℕ} (ready : Ready page groups many) (all : TalliesOn ts page many fulls breakings firsts) where
  pub all_fit : Loaded ts → AllFit many fulls breakings
  all_fit q j l =
      let is = all.of q.tables q.holds j l in
      let fits = turn-fits q.tables (line_at page j) (ready.accepted j l) q.holds.passes in
      rw is at fits

  pub all-rows : (T : Tables) → TablesAt ts T → Rows (verdicts_on T (lines page)) fulls breakings firsts many
  all-rows T H = record { count = length-verdicts T (lines page) ∙ ready.count; row = λ j l. verdict-at T (lines page) j (omega (arith, ready.count)) ∙ ap some (all.of T H j l) }
