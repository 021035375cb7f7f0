-- Going along a section of the flat tables, forth or back, is going along the section's own list.
-- Assumes nothing.
use mathlib.Core.Path.{◌≡◌, refl, sym, ap, ◌∙◌}
use mathlib.Core.Bool.{Bool, true, false}
use mathlib.Core.List.{List}
use Prim.Native.Nat.{ℕ, ◌%◌, ◌≤◌, ◌<◌, min}
use native.Mathlib.Omega.{arith}
use borrow.Author.Tests.{ltb-true, ltb-false}
use lib.Dec.{ltb}
use lib.ListN.{length, get_or, take, drop, length-take, get_or-eq_default}
use lib.Seq.{get_or-take}
use Rattle.words.specs.Words.{image_of, preimage_of}
use Rattle.words.proofs.RelationLaws.{image-ext, preimage-ext}
use Rattle.tables.specs.Tables.{Tables}
use Rattle.tables.specs.Flat.{room, flat}
use Rattle.tables.specs.Code.Layout.{section_at}
use Rattle.tables.proofs.FlatLaws.{section-at}

module _ (T : Tables) (at n : ℕ) (begins : at % room ≡ 0) (h : min 64 (length (section_at T at)) ≤ n) where
  -- The part of n words from where a section begins has the section's rows, if n reaches the last of them.
  part_at : (i : ℕ) → i < 64 → get_or (take n (drop at (flat T))) i 0 ≡ get_or (section_at T at) i 0
  part_at i l = go (ltb i n) refl
    where
      go : (b : Bool) → ltb i n ≡ b → get_or (take n (drop at (flat T))) i 0 ≡ get_or (section_at T at) i 0
      go true e = get_or-take n (drop at (flat T)) i 0 (ltb-true i n e) ∙ section-at T at i begins l
      go false e =
          let p : n ≤ i = ltb-false i n e in
          let short : length (take n (drop at (flat T))) ≤ i = omega (arith, length-take n (drop at (flat T))) in
          let last : length (section_at T at) ≤ i = omega arith in
          get_or-eq_default (take n (drop at (flat T))) 0 short ∙ sym (get_or-eq_default (section_at T at) 0 last)

  pub image-section : {t : List ℕ} (w : ℕ) → t ≡ flat T → image_of (take n (drop at t)) w ≡ image_of (section_at T at) w
  image-section w e =
      ap (λ (l : List ℕ). image_of (take n (drop at l)) w) e ∙ image-ext (take n (drop at (flat T))) (section_at T at) w part_at

  pub preimage-section : {t : List ℕ} (w : ℕ) → t ≡ flat T → preimage_of (take n (drop at t)) w ≡ preimage_of (section_at T at) w
  preimage-section w e =
      ap (λ (l : List ℕ). preimage_of (take n (drop at l)) w) e ∙ preimage-ext (take n (drop at (flat T))) (section_at T at) w part_at
