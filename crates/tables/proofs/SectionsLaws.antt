-- Laws of the sections one after another: where one stops all stop, and what the words hold once all are read.
-- Assumes nothing.
use Rattle.std.specs.Prelude.{Result, Ok}
use mathlib.Core.Path.{◌≡◌, ◌∙◌}
use mathlib.Core.List.{List}
use Prim.Native.Nat.{ℕ, ◌*◌, ◌≤◌, ◌<◌}
use native.Mathlib.Nat.{mul-le-mul}
use lib.ListN.{length, get_or, drop, set, length-set}
use lib.Seq.{get_or-set_same, get_or-set_other}
use native.Mathlib.Omega.{arith}
use Rattle.answers.specs.declared.Refusal.{Refusal}
use Rattle.tables.specs.declared.Piece.{Piece}
use Rattle.tables.specs.Reading.{Bytes, stop, took, next, count, section, permissions, Rights, rights, Collections, collections}
use Rattle.tables.specs.Reading.{word_row, user_row, session_row, done_row, sections, assembled}
use Rattle.tables.specs.Code.Reads.{Reads, stops, takes, IsCount, SectionAt, PermissionsAt, RightsAt, CollectionsAt, Filled}
use Rattle.tables.specs.Code.Reads.{with_names, rows_from, put_users, put_sessions, put_deeds, with_count, with_section, with_rights, with_collections}
use Rattle.tables.specs.Code.Layout.{role_count_at, user_count_at, session_count_at, operation_count_at, object_count_at, cr_count_at, cu_count_at}
use Rattle.tables.specs.Code.Layout.{Whole, cp_count_at, done_count_at, permission_count_at, role_rows_at, permission_rows_at, cr_at, cu_at, cp_at, object_rows_at, operation_rows_at}
use Rattle.tables.proofs.ReadLaws.{Got}
use Rattle.tables.proofs.PutLaws.{put_keeps}

pub product-few : {a b : ℕ} → a ≤ 8 → b ≤ 8 → a * b ≤ 64
product-few h k = mul-le-mul h k

module _ (s : Bytes) (at roles : ℕ) where
  pub rights-stop : {e : Refusal} → count 8 (drop at s) ≡ stop e → rights roles (drop at s) ≡ stop e
  unfolding rights next
  rights-stop q = rw q

  module _ {a i : ℕ} (f : Got s (IsCount 8) a i (count 8 (drop at s))) where
    pub rights-stop-2 : {e : Refusal} → count 8 (drop i s) ≡ stop e → rights roles (drop at s) ≡ stop e
    unfolding rights next
    rights-stop-2 q = rw (f.reads, q)

    module _ {b j : ℕ} (g : Got s (IsCount 8) b j (count 8 (drop i s))) where
      pub rights-stop-3 : {e : Refusal} → permissions (a * b) roles (drop j s) ≡ stop e → rights roles (drop at s) ≡ stop e
      unfolding rights next
      rights-stop-3 q = rw (f.reads, g.reads, f.holds.is, g.holds.is, q)

      pub rights-all : {old w new : List ℕ} {n k : ℕ}
          → Got s (PermissionsAt (set (set old operation_count_at a) object_count_at b) w (a * b)) n k (permissions (a * b) roles (drop j s))
          → new ≡ with_names w n b → Reads s (RightsAt old new) (Ok (record { value = n; next = k })) (rights roles (drop at s))
      unfolding rights next with_rights
      rights-all {old} {w} {new} {n} {k} h e =
          let x = h.holds.section in
          let q : Rights = record { operation_count = a; object_count = b; permission_rows = h.value } in
          let p : rights roles (drop at s) ≡ took q (drop k s) = rw (f.reads, g.reads, f.holds.is, g.holds.is, h.reads) in
          let y : RightsAt old new q n = record { count = x.count; few = x.few; words = e ∙ rw (x.words, x.count) } in
          takes p h.within y

module _ (s : Bytes) (at r u p : ℕ) where
  pub collections-stop : {e : Refusal} → section (λ _. word_row r) (drop at s) ≡ stop e → collections r u p (drop at s) ≡ stop e
  unfolding collections next
  collections-stop q = rw q

  module _ {old w₁ : List ℕ} {v i : ℕ} (f : Got s (SectionAt (rows_from cr_at) cr_count_at old w₁) v i (section (λ _. word_row r) (drop at s))) where
    pub collections-stop-2 : {e : Refusal} → section (λ _. word_row u) (drop i s) ≡ stop e → collections r u p (drop at s) ≡ stop e
    unfolding collections next
    collections-stop-2 q = rw (f.reads, q)

    module _ {w₂ : List ℕ} {v' j : ℕ} (g : Got s (SectionAt (rows_from cu_at) cu_count_at w₁ w₂) v' j (section (λ _. word_row u) (drop i s))) where
      pub collections-all : {new : List ℕ} {c : Result Piece Refusal} → Reads s (SectionAt (rows_from cp_at) cp_count_at w₂ new) c (section (λ _. word_row p) (drop j s))
          → Reads s (CollectionsAt old new) c (collections r u p (drop at s))
      unfolding collections next with_collections
      collections-all (stops {e = e} q) =
          let k : collections r u p (drop at s) ≡ stop e = rw (f.reads, g.reads, q) in
          stops k
      collections-all {new} (takes {p = p'} {a = a} q w h) =
          let x : Collections = record { cr = f.value; cu = g.value; cp = a } in
          let k : collections r u p (drop at s) ≡ took x (drop p'.next s) = rw (f.reads, g.reads, q) in
          let y : new ≡ with_collections old x = h.words ∙ rw (g.holds.words, f.holds.words) in
          takes k w (record { words = y })

-- What is stored behind the counts of operations and objects leaves them.
section-keeps : (ws : List ℕ) (place to j : ℕ) (xs : List ℕ) → j < place → j < to → get_or (with_section ws place to xs) j 0 ≡ get_or ws j 0
unfolding with_count
section-keeps ws place to j xs l m = put_keeps (set ws place (length xs)) to j xs m ∙ get_or-set_other ws place j (length xs) 0 (λ e. absurd (omega arith))

module _ (ws : List ℕ) (q : Rights) (c : Collections) where
  stored-keeps : (j : ℕ) → j < permission_count_at
      → get_or (with_collections (with_rights ws q) c) j 0 ≡ get_or (set (set ws operation_count_at q.operation_count) object_count_at q.object_count) j 0
  unfolding with_collections with_rights with_names
  stored-keeps j l =
      section-keeps _ cp_count_at cp_at j c.cp (omega arith) (omega arith)
      ∙ section-keeps _ cu_count_at cu_at j c.cu (omega arith) (omega arith)
      ∙ section-keeps _ cr_count_at cr_at j c.cr (omega arith) (omega arith)
      ∙ put_keeps _ operation_rows_at j _ (omega arith)
      ∙ put_keeps _ object_rows_at j _ (omega arith)
      ∙ section-keeps _ permission_count_at permission_rows_at j q.permission_rows (omega arith) (omega arith)

  pub operations-stored : Whole ws → get_or (with_collections (with_rights ws q) c) operation_count_at 0 ≡ q.operation_count
  operations-stored w =
      stored-keeps operation_count_at (omega arith)
      ∙ get_or-set_other (set ws operation_count_at q.operation_count) object_count_at operation_count_at q.object_count 0 (λ e. absurd (omega arith))
      ∙ get_or-set_same ws operation_count_at q.operation_count 0 (omega arith)

  pub objects-stored : Whole ws → get_or (with_collections (with_rights ws q) c) object_count_at 0 ≡ q.object_count
  objects-stored w =
      stored-keeps object_count_at (omega arith)
      ∙ get_or-set_same (set ws operation_count_at q.operation_count) object_count_at q.object_count 0
      (omega (arith, length-set ws operation_count_at q.operation_count))

module _ (s : Bytes) where
  pub sections-stop : {e : Refusal} → section (λ n. word_row n) s ≡ stop e → sections s ≡ stop e
  unfolding sections next
  sections-stop q = rw q

  module _ {old w₁ : List ℕ} {r i : ℕ} (f : Got s (SectionAt (rows_from role_rows_at) role_count_at old w₁) r i (section (λ n. word_row n) s)) where
    pub sections-stop-2 : {e : Refusal} → section (λ _. user_row r) (drop i s) ≡ stop e → sections s ≡ stop e
    unfolding sections next
    sections-stop-2 q = rw (f.reads, ← f.holds.count, q)

    module _ {w₂ : List ℕ} {u j : ℕ} (g : Got s (SectionAt put_users user_count_at w₁ w₂) u j (section (λ _. user_row r) (drop i s))) where
      pub sections-stop-3 : {e : Refusal} → section (λ _. session_row u r) (drop j s) ≡ stop e → sections s ≡ stop e
      unfolding sections next
      sections-stop-3 q = rw (f.reads, ← f.holds.count, g.reads, ← g.holds.count, q)

      module _ {w₃ : List ℕ} {v k : ℕ} (h : Got s (SectionAt put_sessions session_count_at w₂ w₃) v k (section (λ _. session_row u r) (drop j s))) where
        pub sections-stop-4 : {e : Refusal} → rights r (drop k s) ≡ stop e → sections s ≡ stop e
        unfolding sections next
        sections-stop-4 q = rw (f.reads, ← f.holds.count, g.reads, ← g.holds.count, h.reads, q)

        module _ {w₄ : List ℕ} {p l : ℕ} (t : Got s (RightsAt w₃ w₄) p l (rights r (drop k s))) where
          pub sections-stop-5 : {e : Refusal} → collections r u p (drop l s) ≡ stop e → sections s ≡ stop e
          unfolding sections next
          sections-stop-5 q = rw (f.reads, ← f.holds.count, g.reads, ← g.holds.count, h.reads, t.reads, ← t.holds.count, q)

          module _ {w₅ : List ℕ} {v' m : ℕ} (z : Got s (CollectionsAt w₄ w₅) v' m (collections r u p (drop l s))) (whole : Whole w₃) where
            stored : w₅ ≡ with_collections (with_rights w₃ t.value) z.value
            stored = z.holds.words ∙ rw t.holds.words

            operations-are : get_or w₅ operation_count_at 0 ≡ t.value.operation_count
            operations-are = rw stored (operations-stored w₃ t.value z.value whole)

            objects-are : get_or w₅ object_count_at 0 ≡ t.value.object_count
            objects-are = rw stored (objects-stored w₃ t.value z.value whole)

            pub sections-all : {new : List ℕ} {c : Result Piece Refusal}
                → Reads s (SectionAt put_deeds done_count_at w₅ new) c (section (λ _. done_row u (get_or w₅ operation_count_at 0) (get_or w₅ object_count_at 0)) (drop m s))
                → Reads s (Filled old new) c (sections s)
            unfolding sections next
            sections-all (stops {e = e} q) =
                let x : sections s ≡ stop e =
                rw (f.reads, ← f.holds.count, g.reads, ← g.holds.count, h.reads, t.reads, ← t.holds.count, z.reads, ← operations-are, ← objects-are, q) in
                stops x
            sections-all {new} (takes {p = p'} {a = a} q w y) =
                let x : sections s ≡ took (assembled f.value g.value h.value t.value z.value a) (drop p'.next s) =
                rw (f.reads, ← f.holds.count, g.reads, ← g.holds.count, h.reads, t.reads, ← t.holds.count, z.reads, ← operations-are, ← objects-are, q) in
                takes x w
                (record { words = y.words ∙ rw (z.holds.words, t.holds.words, h.holds.words, g.holds.words, f.holds.words) })
