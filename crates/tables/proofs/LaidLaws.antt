-- Laws of the flat words: a list written into an empty section, and a section taken out again.
-- Assumes nothing.
use mathlib.Core.Path.{◌≡◌, refl, ap, ◌∙◌}
use mathlib.Core.List.{List, [], ◌∷◌, ◌++◌, map, append_assoc, append-nil}
use Prim.Native.Nat.{ℕ, zero, suc, ◌+◌, ◌*◌, ◌/◌, ◌%◌, ◌≤◌, ◌<◌}
use native.Mathlib.Omega.{arith}
use lib.ListN.{length, get_or, set, length-set, length-append, length-map, replicate}
use lib.Seq.{set-append_left, set-get_or, set-set, get_or-set_same}
use Rattle.words.specs.Words.{item_of}
use Rattle.tables.specs.Tables.{User, Session, Deed, Tables, user_rows, present_in, present_users}
use Rattle.tables.specs.Accepted.{Fits}
use Rattle.tables.specs.Flat.{whole_length, room, padded, tabulate, counts, object_rows, operation_rows, sections, laid, flat}
use Rattle.tables.specs.Reading.{Rights, Collections}
use Rattle.tables.specs.Code.Reads.{put, put_users, put_sessions, with_count, with_section, with_users, with_session_rows, with_names, with_rights, with_collections, Filled}
use Rattle.tables.specs.Code.Reads.{put_deeds, with_deeds}
use Rattle.tables.proofs.FlatLaws.{length-padded, numbers-long, length-tabulate}
use Rattle.tables.proofs.SectionsLaws.{product-few}

-- One word more in a section.
padded-add : (n : ℕ) (xs : List ℕ) (v : ℕ) → length xs < n → set (padded n xs) (length xs) v ≡ padded n (xs ++ (v ∷ []))
unfolding padded
padded-add zero xs v l = absurd (omega arith)
padded-add (suc n) [] v l = refl
padded-add (suc n) (x ∷ xs) v l = ap (λ (r : List ℕ). x ∷ r) (padded-add n xs v (omega arith))

set-right : (xs ys : List ℕ) (i v : ℕ) → set (xs ++ ys) (length xs + i) v ≡ xs ++ set ys i v
set-right [] ys i v = let e : 0 + i ≡ i = omega arith in rw e
set-right (x ∷ xs) ys i v =
    let e : suc (length xs) + i ≡ suc (length xs + i) = omega arith in
    rw e (ap (λ (r : List ℕ). x ∷ r) (set-right xs ys i v))

laid-add : (ss : List (List ℕ)) (k v : ℕ) → k < length ss → length (get_or ss k []) < room
    → set (laid ss) (room * k + length (get_or ss k [])) v ≡ laid (set ss k (get_or ss k [] ++ (v ∷ [])))
unfolding laid
laid-add [] k v h l = absurd (omega arith)
laid-add (s ∷ ss) zero v h l =
    let e : room * 0 + length s ≡ length s = omega arith in
    rw e (set-append_left (padded room s) (laid ss) (length s) v (omega (arith, length-padded room s)) ∙ ap (λ (r : List ℕ). r ++ laid ss) (padded-add room s v l))
laid-add (s ∷ ss) (suc k) v h l =
    let e : room * suc k + length (get_or ss k []) ≡ length (padded room s) + (room * k + length (get_or ss k [])) = omega (arith, length-padded room s) in
    rw e
    (set-right (padded room s) (laid ss) (room * k + length (get_or ss k [])) v
    ∙ ap (λ (r : List ℕ). padded room s ++ r) (laid-add ss k v (omega arith) l))

-- A list more in a section.
pub laid-put : (xs : List ℕ) (ss : List (List ℕ)) (k : ℕ) → k < length ss → length (get_or ss k []) + length xs ≤ room
    → put (laid ss) (room * k + length (get_or ss k [])) xs ≡ laid (set ss k (get_or ss k [] ++ xs))
unfolding put
laid-put [] ss k h l = rw (append-nil, set-get_or ss k [])
laid-put (x ∷ xs) ss k h l =
    let d = get_or ss k [] in
    let tt' = set ss k (d ++ (x ∷ [])) in
    let g : get_or tt' k [] ≡ d ++ (x ∷ []) = get_or-set_same ss k (d ++ (x ∷ [])) [] h in
    let m : length (get_or tt' k []) ≡ suc (length d) = rw g (length-append d (x ∷ []) ∙ omega arith) in
    let e : suc (room * k + length d) ≡ room * k + length (get_or tt' k []) = omega arith in
    let ih = laid-put xs tt' k (rw length-set h) (omega arith) in
    rw (laid-add ss k x h (omega arith), e) (ih ∙ ap laid (rw (g, set-set, append_assoc)))

-- A count more in section 0; the rows of an empty section; both.
module _ (cs : List ℕ) (ss : List (List ℕ)) where
  count-laid : (v : ℕ) → length cs < room → set (laid (cs ∷ ss)) (length cs) v ≡ laid ((cs ++ (v ∷ [])) ∷ ss)
  count-laid v l =
      let e : room * 0 + length cs ≡ length cs = omega arith in
      rw e at (laid-add (cs ∷ ss) 0 v (omega arith) l)

  rows-laid : (k : ℕ) (xs : List ℕ) → k < length ss → get_or ss k [] ≡ [] → length xs ≤ room
      → put (laid (cs ∷ ss)) (room * suc k) xs ≡ laid (cs ∷ set ss k xs)
  rows-laid k xs h q l =
      let z : length (get_or ss k []) ≡ 0 = ap length q in
      let e : room * suc k + length (get_or ss k []) ≡ room * suc k = omega arith in
      let p = laid-put xs (cs ∷ ss) (suc k) (omega arith) (omega arith) in
      rw (e, q) at p

section-laid : (cs : List ℕ) (ss : List (List ℕ)) (k : ℕ) (xs : List ℕ) → length cs < room → k < length ss → get_or ss k [] ≡ [] → length xs ≤ room
    → with_section (laid (cs ∷ ss)) (length cs) (room * suc k) xs ≡ laid ((cs ++ (length xs ∷ [])) ∷ set ss k xs)
unfolding with_count
section-laid cs ss k xs l h q m = rw (count-laid cs ss (length xs) l) (rows-laid (cs ++ (length xs ∷ [])) ss k xs h q m)

-- Ten lists before the three of Done, which are empty so far.
abbrev ten : (a b c d e f g h i j : List ℕ) → List (List ℕ)
ten a b c d e f g h i j = a ∷ b ∷ c ∷ d ∷ e ∷ f ∷ g ∷ h ∷ i ∷ j ∷ [] ∷ [] ∷ [] ∷ []

users-laid : (x : ℕ) (r : List ℕ) (us : List User) → length us ≤ room
    → with_users (laid ((x ∷ []) ∷ ten r [] [] [] [] [] [] [] [] [])) us
    ≡ laid ((x ∷ length us ∷ present_in us ∷ []) ∷ ten r (map (λ u. u.assigned) us) [] [] [] [] [] [] [] [])
unfolding with_count put_users
users-laid x r us l =
    let rows = map (λ u. u.assigned) us in
    let lr : length rows ≡ length us = length-map us (λ u. u.assigned) in
    rw (count-laid (x ∷ []) (ten r [] [] [] [] [] [] [] [] []) (length us) (omega arith))
    (rw (rows-laid (x ∷ length us ∷ []) (ten r [] [] [] [] [] [] [] [] []) 1 rows (omega arith) refl (omega arith))
    (count-laid (x ∷ length us ∷ []) (ten r rows [] [] [] [] [] [] [] []) (present_in us) (omega arith)))

module _ (x y h : ℕ) (r u : List ℕ) where
  sessions-laid : (ss : List Session) → length ss ≤ room
      → with_session_rows (laid ((x ∷ y ∷ h ∷ []) ∷ ten r u [] [] [] [] [] [] [] [])) ss
      ≡ laid ((x ∷ y ∷ h ∷ length ss ∷ []) ∷ ten r u (map item_of (map (λ s. s.user) ss)) (map (λ s. s.active) ss) [] [] [] [] [] [])
  unfolding with_count put_sessions
  sessions-laid ss l =
      let o = map item_of (map (λ s. s.user) ss) in
      let v = map (λ s. s.active) ss in
      let lo : length o ≡ length ss = length-map (map (λ s. s.user) ss) item_of ∙ length-map ss (λ s. s.user) in
      let lv : length v ≡ length ss = length-map ss (λ s. s.active) in
      rw (count-laid (x ∷ y ∷ h ∷ []) (ten r u [] [] [] [] [] [] [] []) (length ss) (omega arith))
      (rw (rows-laid (x ∷ y ∷ h ∷ length ss ∷ []) (ten r u [] [] [] [] [] [] [] []) 2 o (omega arith) refl (omega arith))
      (rows-laid (x ∷ y ∷ h ∷ length ss ∷ []) (ten r u o [] [] [] [] [] [] []) 3 v (omega arith) refl (omega arith)))

  module _ (z : ℕ) (o v : List ℕ) where
    rights-laid : (q : Rights) → length q.permission_rows ≤ room
        → with_rights (laid ((x ∷ y ∷ h ∷ z ∷ []) ∷ ten r u o v [] [] [] [] [] [])) q
        ≡ laid ((x ∷ y ∷ h ∷ z ∷ q.operation_count ∷ q.object_count ∷ length q.permission_rows ∷ [])
        ∷ ten r u o v q.permission_rows [] [] []
        (tabulate (length q.permission_rows) (λ p. item_of (p % q.object_count)))
        (tabulate (length q.permission_rows) (λ p. item_of (p / q.object_count))))
    unfolding with_rights with_names
    rights-laid q l =
        let a = q.operation_count in
        let b = q.object_count in
        let ps = q.permission_rows in
        let i = tabulate (length ps) (λ p. item_of (p % b)) in
        let j = tabulate (length ps) (λ p. item_of (p / b)) in
        let li : length i ≡ length ps = length-tabulate (length ps) (λ p. item_of (p % b)) in
        let lj : length j ≡ length ps = length-tabulate (length ps) (λ p. item_of (p / b)) in
        let none = ten r u o v [] [] [] [] [] [] in
        let seven = x ∷ y ∷ h ∷ z ∷ a ∷ b ∷ length ps ∷ [] in
        rw (count-laid (x ∷ y ∷ h ∷ z ∷ []) none a (omega arith))
        (rw (count-laid (x ∷ y ∷ h ∷ z ∷ a ∷ []) none b (omega arith))
        (rw (section-laid (x ∷ y ∷ h ∷ z ∷ a ∷ b ∷ []) none 4 ps (omega arith) (omega arith) refl l)
        (rw (rows-laid seven (ten r u o v ps [] [] [] [] []) 8 i (omega arith) refl (omega arith))
        (rows-laid seven (ten r u o v ps [] [] [] i []) 9 j (omega arith) refl (omega arith)))))

    module _ (a b n : ℕ) (ps i j : List ℕ) where
      collections-laid : (c : Collections) → length c.cr ≤ room → length c.cu ≤ room → length c.cp ≤ room
          → with_collections (laid ((x ∷ y ∷ h ∷ z ∷ a ∷ b ∷ n ∷ []) ∷ ten r u o v ps [] [] [] i j)) c
          ≡ laid ((x ∷ y ∷ h ∷ z ∷ a ∷ b ∷ n ∷ length c.cr ∷ length c.cu ∷ length c.cp ∷ []) ∷ ten r u o v ps c.cr c.cu c.cp i j)
      unfolding with_collections
      collections-laid c l₁ l₂ l₃ =
          let seven = x ∷ y ∷ h ∷ z ∷ a ∷ b ∷ n ∷ [] in
          let k₁ = length c.cr in
          let k₂ = length c.cu in
          rw (section-laid seven (ten r u o v ps [] [] [] i j) 5 c.cr (omega arith) (omega arith) refl l₁)
          (rw (section-laid (seven ++ (k₁ ∷ [])) (ten r u o v ps c.cr [] [] i j) 6 c.cu (omega arith) (omega arith) refl l₂)
          (section-laid (seven ++ (k₁ ∷ k₂ ∷ [])) (ten r u o v ps c.cr c.cu [] i j) 7 c.cp (omega arith) (omega arith) refl l₃))

deeds-laid : (x y h z a b n k₁ k₂ k₃ : ℕ) (r u o v ps cr cu cp i j : List ℕ) (ds : List Deed) → length ds ≤ room
    → with_deeds (laid ((x ∷ y ∷ h ∷ z ∷ a ∷ b ∷ n ∷ k₁ ∷ k₂ ∷ k₃ ∷ []) ∷ ten r u o v ps cr cu cp i j)) ds
    ≡ laid ((x ∷ y ∷ h ∷ z ∷ a ∷ b ∷ n ∷ k₁ ∷ k₂ ∷ k₃ ∷ length ds ∷ []) ∷ r ∷ u ∷ o ∷ v ∷ ps ∷ cr ∷ cu ∷ cp ∷ i ∷ j
    ∷ map item_of (map (λ d. d.user) ds) ∷ map item_of (map (λ d. d.object) ds) ∷ map item_of (map (λ d. d.operation) ds) ∷ [])
unfolding with_count put_deeds
deeds-laid x y h z a b n k₁ k₂ k₃ r u o v ps cr cu cp i j ds l =
    let us = map item_of (map (λ (d : Deed). d.user) ds) in
    let bs = map item_of (map (λ (d : Deed). d.object) ds) in
    let as' = map item_of (map (λ (d : Deed). d.operation) ds) in
    let cs = x ∷ y ∷ h ∷ z ∷ a ∷ b ∷ n ∷ k₁ ∷ k₂ ∷ k₃ ∷ [] in
    let cs' = cs ++ (length ds ∷ []) in
    let none = ten r u o v ps cr cu cp i j in
    rw (count-laid cs none (length ds) (omega arith))
    (rw (rows-laid cs' none 10 us (omega arith) refl (few (λ d. d.user)))
    (rw (rows-laid cs' (set none 10 us) 11 bs (omega arith) refl (few (λ d. d.object)))
    (rows-laid cs' (set (set none 10 us) 11 bs) 12 as' (omega arith) refl (few (λ d. d.operation)))))
  where
    few : (f : Deed → ℕ) → length (map item_of (map f ds)) ≤ room
    few f = omega (arith, numbers-long ds f)

-- All sections stored in empty words are the flat tables.
empty : replicate whole_length 0 ≡ laid ([] ∷ ten [] [] [] [] [] [] [] [] [] [])
unfolding laid padded
empty = refl

pub filled-flat : {T : Tables} {new : List ℕ} {v : ℕ} → Fits T → Filled (replicate whole_length 0) new T v → new ≡ flat T
unfolding flat sections counts object_rows operation_rows
filled-flat {T} fits g =
    let rs = T.role_rows in
    let us = user_rows T in
    let h = present_users T in
    let ss = T.sessions in
    let held : length T.permission_rows ≤ room = rw fits.permissions (product-few fits.operations fits.objects) in
    let x = length rs in
    let y = length T.users in
    let o = map item_of (map (λ s. s.user) ss) in
    let v = map (λ s. s.active) ss in
    let q : Rights = record { operation_count = T.operation_count; object_count = T.object_count; permission_rows = T.permission_rows } in
    let c : Collections = record { cr = T.cr; cu = T.cu; cp = T.cp } in
    g.words ∙
    rw (empty, section-laid [] (ten [] [] [] [] [] [] [] [] [] []) 0 rs (omega arith) (omega arith) refl fits.roles)
    (rw (users-laid x rs T.users fits.users)
    (rw (sessions-laid x y h rs us ss fits.sessions)
    (rw (rights-laid x y h rs us (length ss) o v q held)
    (rw (collections-laid x y h rs us (length ss) o v T.operation_count T.object_count (length T.permission_rows) T.permission_rows (object_rows T) (operation_rows T) c
    fits.crs fits.cus fits.cps)
    (deeds-laid x y h (length ss) T.operation_count T.object_count (length T.permission_rows) (length T.cr) (length T.cu) (length T.cp)
    rs us o v T.permission_rows T.cr T.cu T.cp (object_rows T) (operation_rows T) T.done fits.done)))))
