-- Two ways to choose, each among its own items, that have the same full choices: they count alike, and have the same first breaking choice.
-- Assumes nothing.
use mathlib.Core.Path.{◌≡◌, ap, sym, ◌∙◌, fun_ext}
use mathlib.Core.Bool.{Bool, true, false}
use mathlib.Core.List.{List}
use Prim.Native.Nat.{ℕ, ◌≤◌}
use lib.ListN.{length}
use Rattle.words.specs.Words.{gate}
use Rattle.walks.specs.Choices.{Items, Sets, variables, full_on, count_full}
use Rattle.walks.specs.Meaning.{FirstBreaking}
use Rattle.walks.specs.Code.Among.{total_among, count_among, Within}
use Rattle.walks.proofs.AmongLaws.{full-own, count-among}

weighed : (a b : Bool) {m n : ℕ} → a ≡ b → (a ≡ true → m ≡ n) → gate a m ≡ gate b n
weighed a true e h = rw e (h e)
weighed a false e h = rw e

module _ {items items' : Items} {s s' : Sets} (n : ℕ) (w : Within items s n) (w' : Within items' s' n)
    (same : (c : List ℕ) → full_on s (variables n) c ≡ full_on s' (variables n) c) where
  pub counts-alike : (g g' : List ℕ → ℕ) → ((c : List ℕ) → full_on s (variables n) c ≡ true → g c ≡ g' c)
      → (base : List ℕ) → n ≤ length base → count_full items s g n base ≡ count_full items' s' g' n base
  unfolding count_among
  counts-alike g g' h base fits =
      count-among items s n w g base fits
      ∙ ap (λ (k : List ℕ → ℕ). total_among 64 (variables n) k base) (fun_ext (λ c. weighed (full_on s (variables n) c) (full_on s' (variables n) c) (same c) (h c)))
      ∙ sym (count-among items' s' n w' g' base fits)

  pub first_alike : {b b' : List ℕ → Bool} → ((c : List ℕ) → full_on s (variables n) c ≡ true → b c ≡ b' c)
      → {order base d : List ℕ} → FirstBreaking items n s b order base d → FirstBreaking items' n s' b' order base d
  first_alike h {d = d} f =
      record {
        choice = record { long = f.choice.long; chosen = full-own items' s' n w' d (sym (same d) ∙ f.full); rest = f.choice.rest };
        full = sym (same d) ∙ f.full;
        breaks = sym (h d f.full) ∙ f.breaks;
        least = λ e c full breaks.
            let here = same e ∙ full in
            f.least e (record { long = c.long; chosen = full-own items s n w e here; rest = c.rest }) here (h e here ∙ breaks);
      }
