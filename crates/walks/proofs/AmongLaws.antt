-- Counting among the items of each variable is counting among the 64 items of a word, where no full choice has another item: so the walk
-- along every admissible order counts the choices that document 01 speaks of. Assumes nothing.
use mathlib.Core.Path.{◌≡◌, refl, ap, sym, ◌∙◌, fun_ext}
use mathlib.Core.Bool.{Bool, true, false}
use mathlib.Core.List.{List, [], ◌∷◌}
use Prim.Native.Nat.{ℕ, zero, suc, ◌<◌, ◌≤◌}
use native.Mathlib.Omega.{arith}
use lib.ListN.{length, get_or, set}
use Rattle.words.specs.Words.{gate, has}
use Rattle.words.proofs.WordsLaws.{and_both}
use Rattle.walks.specs.Choices.{Items, Sets, sum_over, total, variables, full_on, count_full}
use Rattle.walks.specs.Walk.{walk}
use Rattle.walks.specs.Meaning.{Every, After, Reads, Admissible}
use Rattle.walks.specs.Code.Among.{total_among, count_among, Within}
use Rattle.walks.proofs.SumLaws.{sum-ext}
use Rattle.walks.proofs.OnceLaws.{count-variables, once-distinct, below}
use Rattle.walks.proofs.PruneLaws.{every_map, pruned, walk-among}

-- what holds of each number below n holds of the n variables
pub every-below : (P : ℕ → Type 0) (n : ℕ) → ((v : ℕ) → v < n → P v) → Every P (variables n)
unfolding variables
every-below P zero h = tt
every-below P (suc n) h = (h n (omega arith), every-below P n (λ v l. h v (omega arith)))

every-full : (s : Sets) (c vs : List ℕ) → Every (λ v. s v c (get_or c v 0) ≡ true) vs → full_on s vs c ≡ true
unfolding full_on
every-full s c [] h = refl
every-full s c (v ∷ vs) h = and_both h.0 (every-full s c vs h.1)

all-free : (v : ℕ) (vs : List ℕ) → Every (λ w. false ≡ false) vs
all-free v [] = tt
all-free v (w ∷ vs) = (refl, all-free v vs)

all_after : (vs : List ℕ) → After (λ v u. false) vs
all_after [] = tt
all_after (v ∷ vs) = (all-free v (v ∷ vs), all_after vs)

gate-implied : (a b : Bool) (n : ℕ) → (b ≡ true → a ≡ true) → gate a (gate b n) ≡ gate b n
gate-implied true b n h = refl
gate-implied false true n h = let z : ◌≡◌ {A = ℕ} 0 1 = cc (h refl) in absurd (omega arith)
gate-implied false false n h = refl

module _ (items : Items) where
  -- the items of the variables, as sets that name none
  abbrev own : Sets
  own v c x = has (items v) x

  own-reads : Reads own (λ v u. false)
  own-reads v c d h x = refl

  -- giving each variable one of its items is a walk along those sets
  total-walk : (g : List ℕ → ℕ) (vs c : List ℕ) → total items vs g c ≡ walk 64 own g vs c
  unfolding total sum_over walk
  total-walk g [] c = refl
  total-walk g (v ∷ vs) c = sum-ext 64 _ _ (λ x. ap (gate (has (items v) x)) (total-walk g vs (set c v x)))

  -- a full choice has items of the variables
  pub full-own : (s : Sets) (n : ℕ) → Within items s n → (c : List ℕ) → full_on s (variables n) c ≡ true
      → Every (λ v. has (items v) (get_or c v 0) ≡ true) (variables n)
  full-own s n w c h = every-below _ n (w.full c h)

  module _ (s : Sets) (n : ℕ) (w : Within items s n) (g : List ℕ → ℕ) (base : List ℕ) (fits : n ≤ length base) where
    pub count-among : count_full items s g n base ≡ count_among 64 s g n base
    unfolding count_full count_among
    count-among =
        let vs = variables n in
        let h : List ℕ → ℕ = λ d. gate (full_on s vs d) (g d) in
        total-walk h vs base
        ∙ pruned 64 own (λ v u. false) own-reads h (length base) vs (once-distinct n vs (count-variables n)) (all_after vs)
        (every_map (λ v. v < n) (λ v. v < length base) (λ v l. omega arith) vs (below n vs (λ u. (count-variables n u).1))) base refl
        ∙ ap (λ (k : List ℕ → ℕ). total_among 64 vs k base)
        (fun_ext (λ d. gate-implied (full_on own vs d) (full_on s vs d) (g d) (λ q. every-full own d vs (full-own s n w d q))))

    -- THE THEOREM: along every admissible order the walk counts the full choices, which know no order
    pub walk-counts : (names : ℕ → ℕ → Bool) → Reads s names → (order : List ℕ) → Admissible names n order
        → walk 64 s g order base ≡ count_full items s g n base
    walk-counts names law order a = walk-among 64 s names law g (length base) n order a fits base refl ∙ sym count-among
