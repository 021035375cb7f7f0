-- Worked examples of what a reader sees, by computing.
-- Assumes nothing.
use mathlib.Core.Path.{◌≡◌, refl}
use mathlib.Core.Bool.{true, false}
use mathlib.Core.List.{[], ◌∷◌}
use Rattle.words.specs.Words.{has, word_of, meet_of}
use Rattle.tables.specs.Checks.{all_to}
use Rattle.cuts.specs.Cut.{rows_from, of_reader, sessions_for, done_for, is_new, firsts_behind, words_for}

-- The reader of users 0 and 2 (word 5): user 1 is as left, and a leaver stays one.
rows_seen : rows_from 5 0 (record { present = true; assigned = 3 } ∷ record { present = true; assigned = 1 } ∷ record { present = false; assigned = 0 } ∷ [])
    ≡ record { present = true; assigned = 3 } ∷ record { present = false; assigned = 0 } ∷ record { present = false; assigned = 0 } ∷ []
unfolding rows_from has
rows_seen = refl

-- Sessions of users 1, 0, 1, 2: two stay, closed up in order.
sessions-seen : sessions_for 5 (record { user = 1; active = 1 } ∷ record { user = 0; active = 2 } ∷ record { user = 1; active = 1 } ∷ record { user = 2; active = 0 } ∷ [])
    ≡ record { user = 0; active = 2 } ∷ record { user = 2; active = 0 } ∷ []
unfolding of_reader has
sessions-seen = refl

-- Rows of Done of users 1, 2, 0 and 2 again: the leaver keeps his, also the one that stands there twice.
done-seen : done_for 5 (record { user = 1; operation = 0; object = 0 } ∷ record { user = 2; operation = 1; object = 0 } ∷ record { user = 0; operation = 0; object = 1 }
    ∷ record { user = 2; operation = 1; object = 0 } ∷ [])
    ≡ record { user = 2; operation = 1; object = 0 } ∷ record { user = 0; operation = 0; object = 1 } ∷ record { user = 2; operation = 1; object = 0 } ∷ []
unfolding of_reader has
done-seen = refl

-- CU words {1}, {0,1}, {}, {0}, {2}: cut {}, {0}, {}, {0}, {2}; of equal words the earliest stays, so one empty word does.
words-seen : words_for 5 (2 ∷ 3 ∷ 0 ∷ 1 ∷ 4 ∷ []) ≡ 0 ∷ 1 ∷ 4 ∷ []
unfolding firsts_behind is_new all_to meet_of word_of has
words-seen = refl
