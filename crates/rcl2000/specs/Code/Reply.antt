-- The tracker's number of what a call has written: "L, or 65,536 × the refusal number".
-- Internal: the calls' own contracts speak of `reply`. Assumes nothing.
use Rattle.std.specs.Prelude.{ℕ, ◌+◌, ◌*◌}
use Rattle.answers.specs.Refusal.{number_of}
use Rattle.answers.specs.Written.{Written}
use Rattle.std.specs.declared.result.Result.TheVariants.{Ok, Err}
use Rattle.std.specs.declared.result.Result.{Result}
use Rattle.pages.specs.declared.Refused.{Refused}

abbrev pub reply_of : Written → ℕ
reply_of (Err r) = 65536 * number_of r
reply_of (Ok l) = l

-- The same for a page: "65,536 × the refusal number", and the position.
abbrev pub page_reply_of : Result ℕ Refused → ℕ
page_reply_of (Err r) = 65536 * number_of r.refusal + r.position
page_reply_of (Ok l) = l
