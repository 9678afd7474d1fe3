-- Each check is the next rule of the list.
use mathlib.Core.Path.{ap}
use Prim.Native.Nat.{ℕ, ◌*◌}
use native.Mathlib.Omega.{arith}
use Rattle.cuts.specs.Cuts.{setup_as}
use Rattle.cuts.proofs.Asking.{word_product, block-number, order-number, segment-number, point_number, sparse_number, no_number}
use Rattle.cuts.proofs.asked.Goals as goal

pub returns-then-n-ne0 : goal.returns-then-n-ne0
returns-then-n-ne0 c = λ s e. block-number s c.args.o e c.args.order (setup_as c.args.setup) c.if-n-ne0.true

pub returns-then-order-gt1 : goal.returns-then-order-gt1
returns-then-order-gt1 c = λ s e. order-number s c.args.o e c.args.order (setup_as c.args.setup) c.if-n-ne0.false c.if-order-gt1.true

pub returns-then-o-setup : goal.returns-then-o-setup
returns-then-o-setup c = λ s e. segment-number s c.args.o e c.args.order (setup_as c.args.setup) c.if-n-ne0.false c.if-order-gt1.false c.if-o-setup.true

pub returns-then-o-setup-2 : goal.returns-then-o-setup-2
returns-then-o-setup-2 c =
    λ s e.
    point_number s c.args.o e c.args.order (setup_as c.args.setup) c.if-n-ne0.false c.if-order-gt1.false c.if-o-setup.false (omega (arith, c.if-o-setup-2.true))

pub overflow_mul-o : goal.overflow_mul-o
overflow_mul-o c =
    omega (arith, word_product c.args.o.sparsing c.step-step.result (omega arith) (omega arith))

pub returns-then-o-step-gt268435455 : goal.returns-then-o-step-gt268435455
returns-then-o-step-gt268435455 c =
    λ s e.
    sparse_number s c.args.o e c.args.order (setup_as c.args.setup) c.if-n-ne0.false c.if-order-gt1.false c.if-o-setup.false c.if-o-setup-2.false
    (omega (arith, c.if-o-step-gt268435455.true, ap (λ (k : ℕ). c.args.o.sparsing * k) c.step-step.ensures))

pub returns : goal.returns
returns c =
    λ s e.
    no_number s c.args.o e c.args.order (setup_as c.args.setup) c.if-n-ne0.false c.if-order-gt1.false c.if-o-setup.false c.if-o-setup-2.false
    (omega (arith, c.if-o-step-gt268435455.false, ap (λ (k : ℕ). c.args.o.sparsing * k) c.step-step.ensures))
