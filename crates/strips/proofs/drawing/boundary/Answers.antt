-- The product fits 64 bits.
use native.Mathlib.Omega.{arith}
use mathlib.Core.Path.{refl}
use Rattle.columns.specs.Columns.{start}
use Rattle.strips.proofs.Telling.{product_fits}
use Rattle.strips.proofs.drawing.boundary.Goals as goal

pub overflow_mul-result : goal.overflow_mul-result
overflow_mul-result c = let p = c.requires in record { fits = product_fits c.args.q c.args.count (omega (arith, p.1, p.2, p.3)) p.2 }

pub returns : goal.returns
unfolding start
returns c = refl
