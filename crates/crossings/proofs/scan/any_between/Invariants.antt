-- Each turn looks at the next sample.
use mathlib.Core.Path.{◌≡◌}
use lib.ListN.{take}
use Rattle.levels.specs.Levels.{between}
use Rattle.crossings.specs.Answers.{some?}
use Rattle.crossings.proofs.scan.any_between.Given as goal

abbrev pub invariant-loop-z : goal.invariant-loop-z
invariant-loop-z l = l.any ≡ some? (between l.low l.high) (take l.z-index l.samples)
