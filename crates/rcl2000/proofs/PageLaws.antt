-- What `judge_page` answers where n bytes are lent: exactly where it refuses, with which number and position, and what it writes.
-- Assumes nothing.
use mathlib.Core.Path.{◌≡◌, refl, ap, sym, ◌∙◌}
use mathlib.Core.Bool.{Bool, true, false}
use mathlib.Core.List.{List, [], ◌∷◌, ◌++◌}
use mathlib.Core.Option.{some}
use mathlib.Core.Logic.{◌↔◌}
use Prim.Native.Nat.{ℕ, zero, suc, ◌+◌, ◌*◌, ◌≤◌, ◌<◌}
use native.Mathlib.Omega.{arith}
use lib.Dec.{leb}
use lib.ListN.{length, get_or, get_elem?, take, drop, length-append, length-drop, take-append-drop}
use lib.Seq.{take_at, drop_at}
use borrow.Author.Tests.{leb-true, leb-false, le-leb, lt-leb}
use Rattle.answers.specs.Refusal.{number_of}
use Rattle.answers.specs.Answer.{lent}
use Rattle.answers.specs.declared.Refusal.{Refusal}
use Rattle.answers.specs.declared.Refusal.TheVariants.{ShortSheet, Page}
use Rattle.answers.proofs.AnswerLaws.{number-some, number-few, same_number, lent_fits}
use Rattle.tables.specs.Tables.{Tables}
use Rattle.tables.specs.Reading.{word_from}
use Rattle.texts.specs.Pieces.{lines}
use Rattle.syntax.specs.Bytes.{Bytes}
use Rattle.syntax.specs.Rule.{Rule, rule_of}
use Rattle.verdicts.specs.Verdict.{turn_order}
use Rattle.verdicts.specs.Report.{ReportsIn, Admitted}
use Rattle.verdicts.proofs.ReportLaws.{judged-reports}
use Rattle.pages.specs.Page.{PageAnswer, refused_at, wrote, page_of, if_page_room, page_lent, page_reply, page_after, said_of, PageAnswers, walks_of, verdicts_on, page_bytes}
use Rattle.pages.specs.Met.{PageAdmitted, PageMet, bad_tables, bad_size, bad_line, good}
use Rattle.std.specs.declared.result.Result.{Result}
use Rattle.pages.specs.declared.Refused.{Refused}
use Rattle.pages.proofs.PageLaws.{tables-refused}
use Rattle.pages.proofs.MetLaws.{size-refused, line-refused-at, page-admitted, page-met}
use Rattle.pages.proofs.ReportLaws.{page-length, page-word, page-full, page-breaking, page-walks, page-line, line_of, turn-admitted, line-judged, line-length}
use Rattle.rcl2000.specs.Code.Reply.{page_reply_of}
use Rattle.rcl2000.specs.Calls.{Writes, BesidesNumber, SeesPage, JudgesPage, RefusesPage, PageEnds, answers_page, refuses_page, page_size, PageRefuses, page_tables, page_unsized}
use Rattle.rcl2000.specs.Calls.{page_line, page_longer, PageReported, AsJudged}
use Rattle.rcl2000.proofs.CallLaws.{sees-wrote}
use Rattle.rcl2000.proofs.JudgeLaws.{judged-short}

-- What a page's answer is bounded by: positions up to 32, and 850 bytes.
abbrev Bounded : PageAnswer → Type 0
Bounded (refused_at e p) = p ≤ 32
Bounded (wrote b) = length b ≤ 850

-- The line of a position is one of the page's.
there-below : {A : Type 0} (ws : List A) (k : ℕ) {w : A} → get_elem? ws k ≡ some w → k < length ws
there-below [] k e = let z : ◌≡◌ {A = ℕ} 0 1 = cc in absurd (omega arith)
there-below (x ∷ ws) zero e = omega arith
there-below (x ∷ ws) (suc k) e = omega (arith, there-below ws k e)

module _ (tables page : Bytes) where
  pub bounded : Bounded (page_of tables page)
  bounded = go (page-met tables page)
    where
      go : PageMet tables page → Bounded (page_of tables page)
      go (bad_tables e t) = rw (tables-refused tables page t) (omega arith)
      go (bad_size T t h) = rw (size-refused tables page t h) (omega arith)
      go (bad_line T k e t s f) = rw (line-refused-at tables page t s f) (omega (arith, there-below (lines page) k f.there, s.few))
      go (good T a) = rw (page-admitted a) (omega (arith, page-length a (walks_of (lines page)), a.sized.few))

lent-bounded : (n : ℕ) (a : PageAnswer) → Bounded a → Bounded (page_lent n a)
unfolding page_lent
lent-bounded n (refused_at e p) h = h
lent-bounded n (wrote b) h = go (leb (length b) n)
  where
    go : (x : Bool) → Bounded (if_page_room x b)
    go true = h
    go false = omega arith

-- A refusal stays, bytes that fit are written, others are 17.
pub page-stays : (n : ℕ) (e : Refusal) (p : ℕ) → page_lent n (refused_at e p) ≡ refused_at e p
unfolding page_lent
page-stays n e p = refl

page-fits : (n : ℕ) (b : Bytes) → length b ≤ n → page_lent n (wrote b) ≡ wrote b
unfolding page_lent
page-fits n b h = rw (le-leb (length b) n h)

page-short : (n : ℕ) (b : Bytes) → n < length b → page_lent n (wrote b) ≡ refused_at ShortSheet 0
unfolding page_lent
page-short n b h = rw (lt-leb (length b) n h)

-- What is written was the answer, and fits.
page-room : (n : ℕ) (a : PageAnswer) (b : Bytes) → page_lent n a ≡ wrote b → (a ≡ wrote b) × (length b ≤ n)
unfolding page_lent
page-room n (refused_at e p) b q = let z : ◌≡◌ {A = ℕ} 0 1 = cc in absurd (omega arith)
page-room n (wrote c) b q = go (leb (length c) n) refl q
  where
    go : (x : Bool) → leb (length c) n ≡ x → if_page_room x c ≡ wrote b → (wrote c ≡ wrote b) × (length b ≤ n)
    go true e q = let s : c ≡ b = cc in (ap wrote s, rw (← s) (leb-true (length c) n e))
    go false e q = let z : ◌≡◌ {A = ℕ} 0 1 = cc in absurd (omega arith)

-- What the crate below said, as the tracker's number: it fits, and the tracker sees the answer.
reply-said : (a : PageAnswer) → page_reply_of (said_of a) ≡ page_reply a
unfolding page_reply
reply-said (refused_at e p) = refl
reply-said (wrote b) = refl

reply-small : (a : PageAnswer) → Bounded a → page_reply a < 4294967296
unfolding page_reply
reply-small (refused_at e p) h = omega (arith, number-few e)
reply-small (wrote b) h = omega arith

module _ (a : PageAnswer) {old new : Bytes} {w : Result ℕ Refused} (p : PageAnswers (page_lent (length old) a) old new w) where
  said : page_reply_of w ≡ page_reply (page_lent (length old) a)
  said = ap page_reply_of p.says ∙ reply-said (page_lent (length old) a)

  pub page-call-fits : Bounded a → page_reply_of w < 4294967296
  page-call-fits h = rw said (reply-small _ (lent-bounded (length old) a h))

  pub page-call-seen : {r : ℕ} → r ≡ page_reply_of w → SeesPage a old new r
  page-call-seen e = record { number = e ∙ said; bytes = p.output }

-- What the tracker sees says what was answered.
module _ {a : PageAnswer} {old new : Bytes} {r : ℕ} (s : SeesPage a old new r) (h : Bounded a) where
  pub page-sees-refused : {e : Refusal} {p : ℕ} → page_lent (length old) a ≡ refused_at e p → RefusesPage e p old new r
  unfolding page_reply page_after
  page-sees-refused q = record {
    number = s.number ∙ ap page_reply q;
    place = rw q at (lent-bounded (length old) a h);
    kept = s.bytes ∙ ap (λ (b : PageAnswer). page_after b old) q;
  }

  pub page-sees-wrote : {b : Bytes} → page_lent (length old) a ≡ wrote b → Writes b old new r
  unfolding page_reply page_after
  page-sees-wrote {b} q =
      let number : r ≡ length b = s.number ∙ ap page_reply q in
      let bytes : new ≡ b ++ drop (length b) old = s.bytes ∙ ap (λ (x : PageAnswer). page_after x old) q in
      let few : length b ≤ 850 = rw q at (lent-bounded (length old) a h) in
      let room : length b ≤ length old = (page-room (length old) a b q).1 in
      record {
        number = number;
        below = omega arith;
        front = rw (number, bytes) (take_at b (drop (length b) old) (length b) refl);
        kept = rw (number, bytes) (drop_at b (drop (length b) old) (length b) refl);
        same = rw (bytes, length-append, length-drop) (omega arith);
      }

  -- The number of a refusal and a position is returned exactly where the page is refused so, and a number below 65,536 exactly where it is written.
  pub page-refuses-exactly : (e : Refusal) (p : ℕ) → p < 65536 → (r ≡ 65536 * number_of e + p) ↔ (page_lent (length old) a ≡ refused_at e p)
  page-refuses-exactly e p l = (λ q. go (page_lent (length old) a) refl q, λ q. (page-sees-refused q).number)
    where
      go : (b : PageAnswer) → page_lent (length old) a ≡ b → r ≡ 65536 * number_of e + p → page_lent (length old) a ≡ refused_at e p
      go (refused_at f q) is n =
          let x = page-sees-refused is in
          let k : number_of f ≡ number_of e = omega (arith, x.number, x.place) in
          let m : q ≡ p = omega (arith, x.number, x.place) in
          is ∙ ap (λ (g : Refusal). refused_at g q) (same_number f e k) ∙ ap (refused_at e) m
      go (wrote b) is n = absurd (omega (arith, number-some e, (page-sees-wrote is).below))

  pub page-writes-exactly : (r < 65536) ↔ ((b : Bytes) × (page_lent (length old) a ≡ wrote b))
  page-writes-exactly = (λ q. go (page_lent (length old) a) refl q, λ q. (page-sees-wrote q.1).below)
    where
      go : (b : PageAnswer) → page_lent (length old) a ≡ b → r < 65536 → (w : Bytes) × (page_lent (length old) a ≡ wrote w)
      go (refused_at e p) is q = absurd (omega (arith, (page-sees-refused is).number, number-some e))
      go (wrote b) is q = (b, is)

  -- "an answer or a numbered refusal"
  pub page-call-ends : ((e : Refusal) (p : ℕ) → page_lent (length old) a ≡ refused_at e p → BesidesNumber Page (number_of e)) → PageEnds old new r
  page-call-ends own = go (page_lent (length old) a) refl
    where
      go : (b : PageAnswer) → page_lent (length old) a ≡ b → PageEnds old new r
      go (refused_at e p) is = refuses_page e p (own e p is) (page-sees-refused is)
      go (wrote b) is = answers_page b (page-sees-wrote is)

-- A page is refused exactly where document 02 says.
module _ (tables page : Bytes) (n : ℕ) where
  pub page-refused : (e : Refusal) (p : ℕ) → (page_lent n (page_of tables page) ≡ refused_at e p) ↔ PageRefuses tables page n e p
  page-refused e p = (λ q. there (page-met tables page) q, λ x. back x)
    where
      same : {d : Refusal} {k : ℕ} → page_of tables page ≡ refused_at d k → page_lent n (page_of tables page) ≡ refused_at e p → (d ≡ e) × (k ≡ p)
      same {d} {k} is q = let all : refused_at d k ≡ refused_at e p = sym (page-stays n d k) ∙ ap (page_lent n) (sym is) ∙ q in (cc, cc)

      there : PageMet tables page → page_lent n (page_of tables page) ≡ refused_at e p → PageRefuses tables page n e p
      there (bad_tables d t) q = let s = same (tables-refused tables page t) q in rw (← s.0, ← s.1) (page_tables t)
      there (bad_size T t h) q = let s = same (size-refused tables page t h) q in rw (← s.0, ← s.1) (page_unsized t h)
      there (bad_line T k d t z f) q = let s = same (line-refused-at tables page t z f) q in rw (← s.0, ← s.1) (page_line t z f)
      there (good T a) q = at_room (leb (length b) n) refl
        where
          b : Bytes
          b = page_bytes (walks_of (lines page)) (verdicts_on T (lines page))

          at_room : (x : Bool) → leb (length b) n ≡ x → PageRefuses tables page n e p
          at_room true h =
              let z : ◌≡◌ {A = ℕ} 0 1 = cc (sym (page-fits n b (leb-true (length b) n h)) ∙ ap (page_lent n) (sym (page-admitted a)) ∙ q) in
              absurd (omega arith)
          at_room false h =
              let all : refused_at ShortSheet 0 ≡ refused_at e p = sym (page-short n b (leb-false (length b) n h)) ∙ ap (page_lent n) (sym (page-admitted a)) ∙ q in
              let x : ShortSheet ≡ e = cc in
              let y : 0 ≡ p = cc in
              rw (← x, ← y) (page_longer a (omega (arith, leb-false (length b) n h, page-length a (walks_of (lines page)))))

      refuse : {d : Refusal} {k : ℕ} → page_of tables page ≡ refused_at d k → page_lent n (page_of tables page) ≡ refused_at d k
      refuse {d} {k} is = ap (page_lent n) is ∙ page-stays n d k

      back : {d : Refusal} {k : ℕ} → PageRefuses tables page n d k → page_lent n (page_of tables page) ≡ refused_at d k
      back (page_tables t) = refuse (tables-refused tables page t)
      back (page_unsized t h) = refuse (size-refused tables page t h)
      back (page_line t z f) = refuse (line-refused-at tables page t z f)
      back (page_longer a l) = ap (page_lent n) (page-admitted a) ∙ page-short n _ (omega (arith, page-length a (walks_of (lines page))))

-- An admitted page is answered with its bytes, on every output that has room for them.
module _ {tables page old new : Bytes} {T : Tables} {r : ℕ} (a : PageAdmitted tables page T) (s : JudgesPage tables page old new r)
    (room : page_size (length (lines page)) ≤ length old) where
  abbrev text : Bytes
  text = page_bytes (walks_of (lines page)) (verdicts_on T (lines page))

  page-text : Writes text old new r
  page-text =
      page-sees-wrote s (bounded tables page)
      (ap (page_lent (length old)) (page-admitted a) ∙ page-fits (length old) text (omega (arith, page-length a (walks_of (lines page)))))

  pub page-number : r ≡ page_size (length (lines page))
  page-number = page-text.number ∙ page-length a (walks_of (lines page))

  whole : new ≡ text ++ drop r new
  whole = sym (take-append-drop r new) ∙ ap (λ (x : Bytes). x ++ drop r new) page-text.front

  pub page-reported : PageReported T page old new
  page-reported = record {
    word = ap (λ (x : Bytes). get_or x 0 255) whole ∙ page-word a (walks_of (lines page)) (drop r new);
    full = ap (λ (x : Bytes). word_from (take 8 (drop 1 x))) whole ∙ page-full a (walks_of (lines page)) (drop r new);
    breaking = ap (λ (x : Bytes). word_from (take 8 (drop 9 x))) whole ∙ page-breaking a (walks_of (lines page)) (drop r new);
    walks = ap (λ (x : Bytes). get_or x 17 255) whole ∙ page-walks a (walks_of (lines page)) (drop r new);
    kept = rw page-number at page-text.kept;
    same = page-text.same;
  }

  -- From line j on its own bytes stand in front,
  line-there : (j : ℕ) (w : Bytes) → get_elem? (lines page) j ≡ some w → (more : Bytes) × (drop (page_size j) new ≡ line_of T w ++ more)
  line-there j w q =
      let (more, e) = page-line a (walks_of (lines page)) (drop r new) j w q in
      (more, ap (drop (page_size j)) whole ∙ e)

  -- as `judge` writes them,
  pub page-as-judged : AsJudged tables page new
  page-as-judged j w q old₂ new₂ r₂ wide s₂ =
      let (more, e) = line-there j w q in
      let ok = a.accepts j w q in
      let long = line-length tables a.reads w ok in
      let v = sees-wrote s₂ (judged-short tables w (turn_order (rule_of w))) (ap (lent (length old₂)) (line-judged tables a.reads w ok) ∙ lent_fits (length old₂) (line_of T w) (omega arith)) in
      let n : r₂ ≡ 26 = v.number ∙ long in
      (n, rw e (take_at (line_of T w) more 26 long) ∙ sym (rw n at v.front))

  -- and they report the line's verdict.
  pub page-line-told : (j : ℕ) (w : Bytes) → get_elem? (lines page) j ≡ some w → (ρ : Rule) × Admitted tables w (turn_order (rule_of w)) T ρ × ReportsIn T ρ (turn_order (rule_of w)) (drop (page_size j) new)
  page-line-told j w q =
      let (more, e) = line-there j w q in
      let ok = a.accepts j w q in
      let (ρ, m) = turn-admitted tables a.reads w ok in
      let (b, is, told) = judged-reports m in
      let own : b ≡ line_of T w = cc (is, line-judged tables a.reads w ok) in
      (ρ, m, rw (e, ← own) (told.reports more))

-- Whatever was written was written of an admitted page.
pub page-written-admitted : {tables page : Bytes} (n : ℕ) (b : Bytes) → page_lent n (page_of tables page) ≡ wrote b
    → (T : Tables) × PageAdmitted tables page T × (page_size (length (lines page)) ≤ n)
page-written-admitted {tables} {page} n b q = go (page-met tables page)
  where
    never : {d : Refusal} {k : ℕ} {A : Type 0} → page_of tables page ≡ refused_at d k → A
    never {d} {k} is = let z : ◌≡◌ {A = ℕ} 0 1 = cc (sym (page-stays n d k) ∙ ap (page_lent n) (sym is) ∙ q) in absurd (omega arith)

    go : PageMet tables page → (T : Tables) × PageAdmitted tables page T × (page_size (length (lines page)) ≤ n)
    go (bad_tables d t) = never (tables-refused tables page t)
    go (bad_size T t h) = never (size-refused tables page t h)
    go (bad_line T k d t z f) = never (line-refused-at tables page t z f)
    go (good T a) =
        let (is, room) = page-room n (page_of tables page) b q in
        let own : page_bytes (walks_of (lines page)) (verdicts_on T (lines page)) ≡ b = cc (page-admitted a, is) in
        (T, a, omega (arith, page-length a (walks_of (lines page)), ap length own))
