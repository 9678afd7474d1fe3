-- Four floats of finite patterns.
use Rattle.block.proofs.opening.calibration_of.Goals as goal

pub returns : goal.returns
returns c =
    let g = c.single.ensures in
    let o = c.single-2.ensures in
    let n = c.single-3.ensures in
    let h = c.double.ensures in
    λ i. record { gain = g i; offset = o i; interval = n i; horizontal = h i }
