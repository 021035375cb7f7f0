-- Document 02, N3, sentence by sentence, of what the tracker sees of `judge_page`: the number r that it returns and the lent bytes, old before it and
-- new after it. The call's contract says `JudgesPage` of them. Assumes nothing.
use mathlib.Core.Path.{◌≡◌}
use mathlib.Core.Option.{some}
use mathlib.Core.Logic.{◌↔◌}
use Prim.Native.Nat.{ℕ, ◌+◌, ◌*◌, ◌≤◌, ◌<◌}
use native.Mathlib.Omega.{arith}
use lib.ListN.{length, get_elem?, drop}
use Rattle.answers.specs.Refusal.{number_of}
use Rattle.answers.specs.declared.Refusal.{Refusal}
use Rattle.tables.specs.Tables.{Tables}
use Rattle.texts.specs.Pieces.{lines}
use Rattle.syntax.specs.Bytes.{Bytes}
use Rattle.syntax.specs.Rule.{Rule, rule_of}
use Rattle.verdicts.specs.Verdict.{turn_order}
use Rattle.verdicts.specs.Report.{Admitted, ReportsIn, SharesIn}
use Rattle.verdicts.proofs.ReportLaws.{reported-share}
use Rattle.pages.specs.Met.{PageAdmitted}
use Rattle.rcl2000.specs.Calls.{JudgesPage, PageEnds, page_size, PageRefuses, PageReported, AsJudged}
use Rattle.rcl2000.proofs.CallLaws.{through}
use Rattle.rcl2000.proofs.RefusalLaws.{page-own}
use Rattle.rcl2000.proofs.PageLaws.{bounded, page-call-ends, page-refuses-exactly, page-writes-exactly, page-refused, page-written-admitted}
use Rattle.rcl2000.proofs.PageLaws.{page-number, page-reported, page-as-judged, page-line-told}

module _ (tables page old new : Bytes) (r : ℕ) (s : JudgesPage tables page old new r) where
  -- DEMAND 1. "every public entry point, on every input, finishes with an answer or a numbered refusal; a refusal carries no result and changes no lent
  -- byte": so a refused page "carries counts 0 and no quantifier parts".
  pub page-ends : PageEnds old new r
  page-ends = page-call-ends s (bounded tables page) (λ e p q. page-own ((page-refused tables page (length old) e p).0 q))

  -- DEMAND 2. "It is refused with the refusal number of its first refused line, and with that line's position, counted from 1. Every other refusal has
  -- position 0": exactly where document 02 says, by that number and at that position.
  pub page-refuses : (e : Refusal) (p : ℕ) → p < 65536 → (r ≡ 65536 * number_of e + p) ↔ PageRefuses tables page (length old) e p
  page-refuses e p l = through (page-refuses-exactly s (bounded tables page) e p l) (page-refused tables page (length old) e p)

  -- DEMAND 3. "Otherwise it is broken if some line is broken, else idle if some line is idle, else held. Its full and breaking counts are the sums over its
  -- lines. .. The answer carries the number of walks made, which is that of different quantifier parts on the page .. It carries each line's verdict, as
  -- when judged by itself, in the order 1, 2, ..": a number below 65,536 is returned exactly where the page is admitted and has room, and then all of it
  -- stands in the lent bytes.
  pub page-writes : (r < 65536)
      ↔ ((T : Tables) × PageAdmitted tables page T × (page_size (length (lines page)) ≤ length old) × (r ≡ page_size (length (lines page))) × PageReported T page old new
      × AsJudged tables page new)
  page-writes = (
    λ q.
        let w = (page-writes-exactly s (bounded tables page)).0 q in
        let (T, a, room) = page-written-admitted (length old) w.0 w.1 in
        (T, a, room, page-number a s room, page-reported a s room, page-as-judged a s room),
    λ (T, a, room, n, told, own). omega (arith, a.sized.few, n),
  )

  -- The 26 bytes of each line report what document 01 says of a verdict: its two counts are the order-free counts, and it is broken, idle or held exactly
  -- as they say.
  pub page-line-reports : (T : Tables) → PageAdmitted tables page T → page_size (length (lines page)) ≤ length old → (j : ℕ) (w : Bytes) → get_elem? (lines page) j ≡ some w
      → (ρ : Rule) × Admitted tables w (turn_order (rule_of w)) T ρ × ReportsIn T ρ (turn_order (rule_of w)) (drop (page_size j) new)
  page-line-reports T a room j w q = page-line-told a s room j w q

  -- DOCUMENT 02, N7, of each line of a page that is written.
  pub page-share-written : r < 65536 → (j : ℕ) (w : Bytes) → get_elem? (lines page) j ≡ some w → SharesIn (drop (page_size j) new)
  page-share-written q j w h =
      let (T, a, room, _, _, _) = page-writes.0 q in
      let (_, _, told) = page-line-reports T a room j w h in
      reported-share (drop (page_size j) new) told
