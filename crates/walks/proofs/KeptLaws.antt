-- Kept counts: none is kept at first, a hit is right, and writing what was counted keeps them right.
-- Assumes nothing.
use mathlib.Core.Path.{◌≡◌, refl, sym, ap, ◌∙◌}
use mathlib.Core.Bool.{Bool}
use mathlib.Core.List.{List}
use mathlib.Core.Logic.{⊎_elim}
use Prim.Native.Nat.{ℕ, ◌+◌, ◌-◌, ◌*◌, ◌/◌, ◌%◌, ◌<◌}
use native.Mathlib.Decide.{ℕ_discrete}
use native.Mathlib.Omega.{arith}
use lib.ListN.{length, get_or, set, drop, length-set}
use lib.Seq.{get_or-set_same, get_or-set_other}
use Rattle.walks.specs.Choices.{Sets}
use Rattle.walks.specs.Meaning.{After, Reads}
use Rattle.walks.specs.Code.Clauses.{Clauses}
use Rattle.walks.specs.Code.Context.{Alike, Contexts}
use Rattle.walks.specs.Code.Kept.{choice_of, Counted, unwritten, slot_at, KeptRight, written, Keeping, Unwritten}
use Rattle.walks.proofs.ContextLaws.{full-alike, weight-alike}
use Rattle.walks.proofs.ReorderLaws.{after-drop}

-- ---- entries after a write

module _ (kept : List ℕ) (k full breaking choice : ℕ) (fits : 3 * k + 2 < length kept) where
  abbrev one : List ℕ
  one = set kept (3 * k) (full + 1)

  abbrev two : List ℕ
  two = set one (3 * k + 1) breaking

  pub written-length : length (written kept k full breaking choice) ≡ length kept
  written-length = simp length-set refl

  pub full-there : get_or (written kept k full breaking choice) (3 * k) 0 ≡ full + 1
  full-there =
      get_or-set_other two (3 * k + 2) (3 * k) choice 0 (λ e. omega arith) ∙ get_or-set_other one (3 * k + 1) (3 * k) breaking 0 (λ e. omega arith)
      ∙ get_or-set_same kept (3 * k) (full + 1) 0 (omega arith)

  pub breaking-there : get_or (written kept k full breaking choice) (3 * k + 1) 0 ≡ breaking
  breaking-there =
      get_or-set_other two (3 * k + 2) (3 * k + 1) choice 0 (λ e. omega arith)
      ∙ get_or-set_same one (3 * k + 1) breaking 0 (omega (arith, length-set kept (3 * k) (full + 1)))

  pub choice-there : get_or (written kept k full breaking choice) (3 * k + 2) 0 ≡ choice
  choice-there =
      get_or-set_same two (3 * k + 2) choice 0 (omega (arith, length-set kept (3 * k) (full + 1), length-set one (3 * k + 1) breaking))

  -- the other slots stay
  pub other-stays : (j i : ℕ) → i < 3 → (j ≡ k → ⊥) → get_or (written kept k full breaking choice) (3 * j + i) 0 ≡ get_or kept (3 * j + i) 0
  other-stays j i l ne =
      get_or-set_other two (3 * k + 2) (3 * j + i) choice 0 (λ e. ne (omega arith))
      ∙ get_or-set_other one (3 * k + 1) (3 * j + i) breaking 0 (λ e. ne (omega arith))
      ∙ get_or-set_other kept (3 * k) (3 * j + i) (full + 1) 0 (λ e. ne (omega arith))

module _ (s : Sets) (K : Clauses) (levels order contexts : List ℕ) where
  -- nothing was written
  pub kept-none : (kept : List ℕ) → Unwritten (length kept) kept → KeptRight s K levels order contexts kept
  kept-none kept h = record { right = λ k b ne c lc a. absurd (ne (h (3 * k) (omega arith))) }

  -- a hit is right
  pub kept-hit : {kept : List ℕ} → KeptRight s K levels order contexts kept → (mode d i : ℕ) → mode < 2 → d < 8 → 3 * slot_at mode d i + 2 < length kept
      → (get_or kept (3 * slot_at mode d i) 0 ≡ unwritten → ⊥) → (c : List ℕ) → length c ≡ 8
      → Alike (get_or contexts (8 * mode + d) 0) (choice_of (get_or kept (3 * slot_at mode d i + 2) 0)) c
      → Counted s K levels order mode d c (get_or kept (3 * slot_at mode d i) 0 - 1) (get_or kept (3 * slot_at mode d i + 1) 0)
  kept-hit {kept} r mode d i lm ld fits ne c lc a =
      let k : ℕ = slot_at mode d i in
      let em : k % 16 / 8 ≡ mode = omega arith in
      let ed : k % 8 ≡ d = omega arith in
      let ec : k % 16 ≡ 8 * mode + d = omega arith in
      rw em at (rw ed at (r.right k fits ne c lc (rw ec a)))

  -- writing what was counted under a choice
  module _ (names : ℕ → ℕ → Bool) (law : Reads s names) (after : After names order) (right : Contexts names K levels order contexts) where
    -- it is right for every choice alike
    pub alike-counted : (mode d : ℕ) → mode < 2 → d < length order → (a b : List ℕ) → length a ≡ length b → Alike (get_or contexts (8 * mode + d) 0) a b
        → (full breaking : ℕ) → Counted s K levels order mode d a full breaking → Counted s K levels order mode d b full breaking
    alike-counted mode d lm ld a b l h full breaking p =
        let x = right mode d lm ld in
        let af = after-drop names order after d in
        record {
          fulls = p.fulls ∙ full-alike 64 s names law K levels (drop d order) af (get_or contexts (8 * mode + d) 0) x a b l h;
          breakings = p.breakings ∙ weight-alike 64 s names law K levels (drop d order) af (get_or contexts (8 * mode + d) 0) mode (d + 1) x a b l h;
        }

    pub kept-write : {kept : List ℕ} → KeptRight s K levels order contexts kept → (mode d i : ℕ) → mode < 2 → d < 8 → d < length order
        → (full breaking choice : ℕ) (a : List ℕ) → length a ≡ 8 → Alike (get_or contexts (8 * mode + d) 0) (choice_of choice) a
        → Counted s K levels order mode d a full breaking → 3 * slot_at mode d i + 2 < length kept
        → KeptRight s K levels order contexts (written kept (slot_at mode d i) full breaking choice)
    kept-write {kept} r mode d i lm ld lo full breaking choice a la same p fits = record { right = λ j b ne c lc h. go j b ne c lc h (ℕ_discrete j k) }
      where
        k : ℕ
        k = slot_at mode d i

        new : List ℕ
        new = written kept k full breaking choice

        here : (c : List ℕ) → length c ≡ 8 → Alike (get_or contexts (8 * mode + d) 0) (choice_of choice) c → Counted s K levels order mode d c full breaking
        here c lc h = alike-counted mode d lm lo a c (la ∙ sym lc) (λ u e. sym (same u e) ∙ h u e) full breaking p

        go : (j : ℕ) → 3 * j + 2 < length new → (get_or new (3 * j) 0 ≡ unwritten → ⊥) → (c : List ℕ) → length c ≡ 8
            → Alike (get_or contexts (j % 16) 0) (choice_of (get_or new (3 * j + 2) 0)) c → Dec (j ≡ k)
            → Counted s K levels order (j % 16 / 8) (j % 8) c (get_or new (3 * j) 0 - 1) (get_or new (3 * j + 1) 0)
        go j b ne c lc h (yes e) =
            let em : k % 16 / 8 ≡ mode = omega arith in
            let ed : k % 8 ≡ d = omega arith in
            let ec : k % 16 ≡ 8 * mode + d = omega arith in
            let ef = full-there kept k full breaking choice fits in
            let eb = breaking-there kept k full breaking choice fits in
            let eh = choice-there kept k full breaking choice fits in
            let less : full + 1 - 1 ≡ full = omega arith in
            rw (e, em, ed, ef, eb, less) (here c lc (rw ec at (rw eh at (rw e at h))))
        go j b ne c lc h (no q) =
            let zero-place : 3 * j ≡ 3 * j + 0 = omega arith in
            let ef : get_or new (3 * j) 0 ≡ get_or kept (3 * j) 0 =
            ap (λ (t : ℕ). get_or new t 0) zero-place ∙ other-stays kept k full breaking choice fits j 0 (omega arith) q ∙ ap (λ (t : ℕ). get_or kept t 0) (sym zero-place) in
            let eb = other-stays kept k full breaking choice fits j 1 (omega arith) q in
            let eh = other-stays kept k full breaking choice fits j 2 (omega arith) q in
            rw (ef, eb) (r.right j (omega (arith, written-length kept k full breaking choice fits)) (λ z. ne (ef ∙ z)) c lc (rw eh at h))

    -- or left out
    pub kept_on : {kept new : List ℕ} → KeptRight s K levels order contexts kept → (mode d i : ℕ) → mode < 2 → d < 8 → d < length order
        → (full breaking choice : ℕ) (a : List ℕ) → length a ≡ 8 → Alike (get_or contexts (8 * mode + d) 0) (choice_of choice) a
        → Counted s K levels order mode d a full breaking → Keeping kept new (slot_at mode d i) full breaking choice → KeptRight s K levels order contexts new
    kept_on {kept} {new} r mode d i lm ld lo full breaking choice a la same p k =
        ⊎_elim (λ e. rw e r) (λ q. rw q.1 (kept-write r mode d i lm ld lo full breaking choice a la same p q.0)) k

-- the slots are as many as before
pub keeping-length : {kept new : List ℕ} (k full breaking choice : ℕ) → Keeping kept new k full breaking choice → length new ≡ length kept
keeping-length {kept} {new} k full breaking choice = ⊎_elim (λ e. ap length e) (λ q. ap length q.1 ∙ written-length kept k full breaking choice q.0)
