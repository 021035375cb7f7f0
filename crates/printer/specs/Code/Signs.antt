-- What is written for an operation: a name with its bracket, or the sign that stands between two things.
-- Internal: contracts of entry points do not speak of it. Assumes nothing.
use Rattle.std.specs.Prelude.{List, [], ◌∷◌, ◌++◌, ℕ, ◌-◌, get_or}
use Rattle.syntax.specs.Bytes.{Bytes, ascii}
use Rattle.syntax.specs.Term.{b_u, b_r, b_op, b_obj, b_p, b_s, b_cr, b_cp, b_cu, user, roles, roles*, sessions, permissions, permissions*, object}
use Rattle.syntax.specs.Term.{is_base, is_call, is_oe, is_ao, calls, joins, operations, done, meet, join, opening, parting, spell}
use Rattle.syntax.specs.Rule.{is, isnt, is_in, is_sign, spell_between, lt, le, gt, ge, eq, ne, spell_cmp}
use Rattle.syntax.specs.Code.Nodes.{first_pair, when_op}

-- The comparisons of counts.
unfoldable pub cmp_signs : List Bytes
cmp_signs = spell_cmp lt ∷ spell_cmp le ∷ spell_cmp gt ∷ spell_cmp ge ∷ spell_cmp eq ∷ spell_cmp ne ∷ []

-- What opens a term of two terms.
unfoldable pub openings : List Bytes
openings = spell (opening (calls operations)) ∷ spell (opening (calls done)) ∷ spell (opening (joins meet)) ∷ spell (opening (joins join)) ∷ []

-- By the operation's number; of those that make one term of two what parts the two. A count is compared with a number, and with a count.
unfoldable pub signs : List Bytes
signs =
    spell (is_base b_u) ∷ spell (is_base b_r) ∷ spell (is_base b_op) ∷ spell (is_base b_obj) ∷ spell (is_base b_p) ∷ spell (is_base b_s)
    ∷ spell (is_base b_cr) ∷ spell (is_base b_cp) ∷ spell (is_base b_cu)
    ∷ spell (is_call user) ∷ spell (is_call roles) ∷ spell (is_call roles*) ∷ spell (is_call sessions) ∷ spell (is_call permissions)
    ∷ spell (is_call permissions*) ∷ spell (is_call object) ∷ spell is_oe ∷ spell is_ao
    ∷ parting (calls operations) ∷ parting (calls done) ∷ parting (joins meet) ∷ parting (joins join)
    ∷ spell_between is_in ∷ spell_between (is_sign is) ∷ spell_between (is_sign isnt) ∷ spell_between (is_sign is) ∷ spell_between (is_sign isnt)
    ∷ (cmp_signs ++ cmp_signs)

abbrev pub sign_of : ℕ → Bytes
sign_of op = get_or signs op []

abbrev pub signs_end : ℕ
signs_end = when_op

-- What stands before the first of two terms.
abbrev pub open_of : ℕ → Bytes
open_of op = get_or openings (op - first_pair) []

-- What names a choice, by its digit: its variable, the beginning of its quantifier, and the end of a term without it.

abbrev pub variable : ℕ → Bytes
variable c = ascii "v" ++ (c ∷ [])

abbrev pub bound : ℕ → Bytes
bound c = ascii "[v" ++ (c ∷ ascii "@")

abbrev pub without : ℕ → Bytes
without c = ascii "-{v" ++ (c ∷ ascii "})")
