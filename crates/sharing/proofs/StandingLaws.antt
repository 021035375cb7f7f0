-- What `StandingFor` gives at each turn of the walk: the next variable's place, what the calls ask for, and what one of its items counts.
-- Assumes nothing.
use mathlib.Core.Path.{◌≡◌, ◌∙◌}
use mathlib.Core.Bool.{true, cond}
use mathlib.Core.List.{List}
use Prim.Native.Nat.{ℕ, ◌+◌, ◌-◌, ◌<◌, ◌≤◌, ◌^◌}
use native.Mathlib.Omega.{arith}
use lib.ListN.{length, get_or, set, replicate}
use Rattle.words.specs.Words.{has, less_of}
use Rattle.tables.specs.Code.Layout.{Whole}
use Rattle.walks.specs.Code.Kept.{choice_of}
use Rattle.values.specs.Code.Plan.{plan_room, Runs, SettlesBy}
use Rattle.judging.specs.Code.Planning.{order_from, sets_from, Caches}
use Rattle.judging.specs.Code.Counting.{depth_of}
use Rattle.judging.proofs.CountingLaws.{plan-runs, set-in}
use Rattle.sharing.specs.Code.Lines.{lines_limit, Held, Grouped, CountedFor, full_below, KeptFor, Lines, Ranged, Fails, StandingFor, StaysFor}
use Rattle.sharing.proofs.WalkLaws.{some_line, zeros-none, ranged, TurningFor, turn_end, ItemFor, turn-room, TurnFor, turned-for, last-for}

module _ {ts plan lines : List ℕ} {active many left choice : ℕ} {cache kept breaking : List ℕ}
    (S : StandingFor ts plan lines active many left choice cache kept breaking) where
  pub active-line : 0 < active → (l : ℕ) × (has active l ≡ true)
  active-line p = some_line active S.listed.small (λ e. omega (arith, p))

  -- some of the active lines are a word of lines
  pub among-all : {w : ℕ} → w < 2 ^ 64 → ((l : ℕ) → has w l ≡ true → has active l ≡ true) → Lines w lines_limit
  among-all s i = record { small = s; few = omega arith; inside = λ l a. omega (arith, S.listed.inside l (i l a), S.listed.few) }

  pub failed-asks : (now : List ℕ) → length now ≡ length cache → Runs plan × (length now ≡ plan_room) × Lines active many × Ranged plan lines many
  failed-asks now e = (plan-runs S.grouped.planned, e ∙ S.room, S.listed, ranged S.grouped S.long)

  module _ (some : 0 < left) where
    abbrev d : ℕ
    d = depth_of plan left

    pub one-deeper : depth_of plan (left - 1) ≡ d + 1
    one-deeper = omega (arith, S.within, some)

    pub settle-asks : (now : List ℕ) → length now ≡ length cache → Whole ts × Runs plan × (length now ≡ plan_room) × (d + 1 < 9)
    settle-asks now e =
        let P = S.grouped.planned in (P.whole, plan-runs P, e ∙ S.room, omega (arith, P.turns.many, P.turns.short, S.within, some))

    module _ {h : Held} (G : Grouped ts plan lines many h) where
      pub next-in : d < length h.layout.order
      next-in = omega (arith, G.planned.turns.many, S.within, some)

      -- the items of the next variable that are gone through, of those that the cache has
      abbrev pub Going : ℕ → ℕ → List ℕ → Type 0
      Going rest full sums = (l : ℕ) → has active l ≡ true → TurningFor G l d choice (get_or cache (get_or plan (sets_from + d) 0) 0) rest full (get_or sums l 0)

      module _ {x chosen closed : ℕ} {old entered : List ℕ} (put : choice_of chosen ≡ set (choice_of choice) (get_or plan (order_from + d) 0) x)
          (settled : SettlesBy ts plan chosen (d + 1) old entered) (failed : Fails plan lines entered active (d + 1) closed) (stored : Caches ts h.layout choice old (d + 1)) where
        pub inner-turn : {next sum : ℕ} {after keeps kept' under : List ℕ} → next ≡ less_of active closed
            → StaysFor ts plan lines next many (left - 1) chosen entered keeps (replicate lines_limit 0) after kept' under sum → KeptFor plan lines many h keeps
            → TurnFor G choice x d chosen active closed sum under after kept'
        inner-turn less below keeps =
            turned-for G choice x d (left - 1) S.listed next-in one-deeper put settled failed less below zeros-none stored keeps

        pub last-turn : left ≡ 1 → ((l : ℕ) → has active l ≡ true → ItemFor G l d choice chosen x closed 1 0) × Caches ts h.layout choice entered (d + 1)
        last-turn one = last-for G choice x d S.listed next-in (omega (arith, G.planned.turns.many, one)) put settled failed stored

      module _ (stored : Caches ts h.layout choice cache (d + 1)) where
        pub turn-fits : {l chosen x closed sum u rest full : ℕ} (sums : List ℕ) → ItemFor G l d choice chosen x closed sum u → Going rest full sums → has active l ≡ true → x < 64 → has rest x ≡ true
            → (full + sum ≤ 64 ^ 8) × (get_or sums l 0 + cond (has closed l) sum u ≤ 64 ^ 8)
        turn-fits {l} sums I t a lx hx = turn-room G I _ (t l a) lx hx next-in (set-in G.planned choice d next-in stored)

        pub all-gone : {rest full : ℕ} (sums : List ℕ) → Going rest full sums → rest ≡ 0 → 0 < active
            → (full ≡ full_below h d (choice_of choice)) × ((l : ℕ) → has active l ≡ true → CountedFor plan lines h l d (choice_of choice) full (get_or sums l 0))
        all-gone {full = full} sums t z p =
            let counts : (l : ℕ) → has active l ≡ true → CountedFor plan lines h l d (choice_of choice) full (get_or sums l 0) = λ l a. turn_end G l d choice _ next-in (set-in G.planned choice d next-in stored) (t l a) z in
            let l = active-line p in
            ((counts l.0 l.1).fulls, counts)
