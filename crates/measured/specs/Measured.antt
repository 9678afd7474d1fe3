-- What a call that is counted answers. Definitions only.
use Rattle.std.specs.Prelude.{ℕ, ◌+◌, ◌*◌}
use Rattle.points.specs.declared.answers.Filled.{Filled}

-- a fill's number in the high half of 64 bits, and in the low half how many of its samples have the mark
abbrev pub told_of : Filled → ℕ
told_of f = f.refusal * 4294967296 + f.marks
