-- A word with a bit at or above the user count: as a sentence, and as the code tests it.
-- Assumes nothing.
use mathlib.Core.Path.{◌≡◌, sym, ◌∙◌}
use mathlib.Core.Bool.{Bool, true, false, ◌&&◌, true≢false}
use mathlib.Core.Logic.{◌↔◌}
use Prim.Native.Nat.{ℕ, ◌^◌, ◌≤◌, ◌<◌}
use lib.Dec.{leb}
use lib.ListN.{length}
use borrow.Author.Tests.{le-leb, leb-true}
use Rattle.words.specs.Words.{has}
use Rattle.words.proofs.WordsLaws.{any-witness, any_here, and-true, and_both}
use Rattle.tables.specs.Tables.{Tables}
use Rattle.tables.proofs.PageLaws.{outside-bits}
use Rattle.readers.specs.Reader.{Beyond, is_beyond}

module _ (w : ℕ) (T : Tables) where
  abbrev above : ℕ → Bool
  above u = leb (length T.users) u && has w u

  pub beyond-exactly : (is_beyond w T ≡ true) ↔ Beyond w T
  unfolding is_beyond
  beyond-exactly = (
    λ e.
        let (u, l, q) = any-witness 64 above e in
        let (over, held) = and-true (leb (length T.users) u) (has w u) q in
        record { user = u; bit = l; held = held; above = leb-true (length T.users) u over },
    λ x. any_here 64 above x.user x.bit (and_both (le-leb (length T.users) x.user x.above) x.held),
  )

  pub not_beyond : is_beyond w T ≡ false → Beyond w T → ⊥
  not_beyond e x = true≢false (sym (beyond-exactly.1 x) ∙ e)

  pub beyond-word : w < 2 ^ 64 → length T.users ≤ 64 → leb (2 ^ length T.users) w ≡ is_beyond w T
  unfolding is_beyond
  beyond-word h few = outside-bits (length T.users) w few h
