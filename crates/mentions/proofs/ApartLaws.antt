-- A term that mentions neither S nor `sessions` is not of sessions: nothing else makes a session of what is none.
-- Assumes nothing.
use mathlib.Core.Path.{◌≡◌, refl, ◌∙◌}
use mathlib.Core.Bool.{Bool, true, false, ◌&&◌}
use mathlib.Core.Option.{Option, none, some}
use Rattle.syntax.specs.Bytes.{begins, skip}
use Rattle.syntax.specs.Term.{Base, b_u, b_r, b_op, b_obj, b_p, b_s, b_cr, b_cp, b_cu, Fn, user, roles, roles*, sessions, permissions, permissions*}
use Rattle.syntax.specs.Term.{object, Fn2, operations, done, Pair, calls, joins, Term, base, call, oe, ao, two, is_base, is_call, spell, text}
use Rattle.rules.specs.Kind.{Sort, Sort≟, s_u, s_s, CR, CP, CU, Kind, Kind≟, element, set, collection, holds, one_of, base_kind, takes, makes}
use Rattle.rules.specs.Kind.{of_element, call_kind, inside, one_kind, others_kind, as_set, joined, row, call2_kind, two_kind, with, kind}
use Rattle.values.specs.Values.{of_sort}
use Rattle.mentions.specs.Mention.{stands, mentions}
use Rattle.mentions.proofs.MentionLaws.{Silent, front, Plain, inside as parts}

-- An element or a set of sessions.
abbrev pub of_sessions : Option Kind → Bool
of_sessions k = of_sort s_s k

-- A name mentions sessions exactly where it makes some.
base-mentions : (b : Base) → of_sessions (some (base_kind b)) ≡ mentions (spell (is_base b))
unfolding of_sort base_kind mentions stands begins skip spell
base-mentions b_u = refl
base-mentions b_r = refl
base-mentions b_op = refl
base-mentions b_obj = refl
base-mentions b_p = refl
base-mentions b_s = refl
base-mentions b_cr = refl
base-mentions b_cp = refl
base-mentions b_cu = refl

call-mentions : (f : Fn) (s : Sort)
    → (of_sessions (some (set (makes f))) ≡ mentions (spell (is_call f))) × (of_sessions (some (of_element f s)) ≡ mentions (spell (is_call f)))
unfolding of_sort makes of_element mentions stands begins skip spell
call-mentions user s = (refl, one (Sort≟ s s_s))
  where
    one : (q : Dec (s ≡ s_s)) → of_sessions (some (elim q [ yes p ↦ element s_u | no n ↦ set s_u ])) ≡ false
    one (yes p) = refl
    one (no n) = refl
call-mentions roles s = (refl, refl)
call-mentions roles* s = (refl, refl)
call-mentions sessions s = (refl, refl)
call-mentions permissions s = (refl, refl)
call-mentions permissions* s = (refl, refl)
call-mentions object s = (refl, refl)

-- A kind that is given where a test holds.
tested : (b : Bool) (k : Kind) → of_sessions (some k) ≡ false → of_sessions (elim b [ true ↦ some k | false ↦ none ]) ≡ false
unfolding of_sort
tested true k e = e
tested false k e = refl

call-apart : (f : Fn) → Silent (spell (is_call f)) → (o : Option Kind) → of_sessions (with o (call_kind f)) ≡ false
unfolding of_sort call_kind
call-apart f s none = refl
call-apart f s (some (element r)) = tested (one_of r (takes f)) (of_element f r) ((call-mentions f r).1 ∙ s.silent)
call-apart f s (some (set r)) = tested (one_of r (takes f)) (set (makes f)) ((call-mentions f r).0 ∙ s.silent)
call-apart f s (some (collection c)) = refl

one_apart : (o : Option Kind) → of_sessions o ≡ false → of_sessions (with o one_kind) ≡ false
unfolding of_sort one_kind inside
one_apart none e = refl
one_apart (some (element s)) e = refl
one_apart (some (set s)) e = e
one_apart (some (collection CR)) e = refl
one_apart (some (collection CP)) e = refl
one_apart (some (collection CU)) e = refl

others_apart : (o : Option Kind) → of_sessions o ≡ false → of_sessions (with o others_kind) ≡ false
unfolding of_sort others_kind
others_apart none e = refl
others_apart (some (element s)) e = refl
others_apart (some (set s)) e = e
others_apart (some (collection c)) e = refl

set_apart : (k : Kind) → of_sessions (some k) ≡ false → of_sessions (some (as_set k)) ≡ false
unfolding of_sort as_set
set_apart (element s) e = e
set_apart (set s) e = e
set_apart (collection c) e = refl

gives_apart : (f : Fn2) → of_sessions (some (set (row f).gives)) ≡ false
unfolding of_sort row
gives_apart operations = refl
gives_apart done = refl

two-apart : (o : Pair) (k l : Option Kind) → of_sessions k ≡ false → of_sessions (with k (λ x. with l (λ y. two_kind o x y))) ≡ false
unfolding of_sort two_kind call2_kind joined
two-apart o none l e = refl
two-apart o (some k) none e = refl
two-apart (calls f) (some k) (some l) e =
    tested (holds (Kind≟ (as_set k) (set (row f).first)) && holds (Kind≟ l (element (row f).second))) (set (row f).gives) (gives_apart f)
two-apart (joins o) (some k) (some l) e = go (Kind≟ (as_set k) (as_set l))
  where
    go : (q : Dec (as_set k ≡ as_set l)) → of_sessions (elim q [ yes p ↦ some (as_set k) | no n ↦ none ]) ≡ false
    go (yes p) = set_apart k e
    go (no n) = refl

-- THE THEOREM: no term that mentions neither is of sessions.
pub apart : (t : Term) → Plain t → of_sessions (kind t) ≡ false
unfolding kind text
apart (base b) p = base-mentions b ∙ p.quiet.silent
apart (call f a) p = call-apart f (front (spell (is_call f)) _ p.quiet) (kind a)
apart (oe a) p = one_apart (kind a) (apart a (parts.in_oe a p).0)
apart (ao a) p = others_apart (kind a) (apart a (parts.in_ao a p).0)
apart (two o a b) p = two-apart o (kind a) (kind b) (apart a (parts.in_two o a b p).0)
