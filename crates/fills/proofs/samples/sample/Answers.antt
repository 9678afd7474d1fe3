-- The byte, or the word, as a signed number.
use mathlib.Core.Path.{◌≡◌, sym, ap, ◌∙◌}
use Prim.Native.Nat.{ℕ, ◌+◌, ◌*◌}
use native.Mathlib.Omega.{arith}
use lib.ListN.{take, drop}
use lib.IntN.{ℤ}
use mir.Syntax.{w8, w16}
use mir.ValLaws.{to_z-of_z}
use Rattle.rules.specs.Numbers.{number, signed}
use Rattle.fills.specs.Fills.{sample_at}
use Rattle.fills.proofs.Sampling.{counted, words}
use Rattle.fills.proofs.samples.sample.Goals as goal

pub overflow_add-from : goal.overflow_add-from
overflow_add-from c = omega (arith, counted c.requires)

pub u8_at-b-requires : goal.u8_at-b-requires
u8_at-b-requires c = omega (arith, counted c.requires)

pub returns-then-size-eq1 : goal.returns-then-size-eq1
returns-then-size-eq1 c =
    let a = c.args in
    let n = c.u8_at-b in
    let s = a.block.now in
    let e : a.k ≡ a.k * 1 = omega arith in
    to_z-of_z w16 c.from.result (record { sfits = c.from.type_inv })
    ∙ c.from.ensures
    ∙ to_z-of_z w8 c.signed8.result (record { sfits = c.signed8.type_inv })
    ∙ c.signed8.ensures
    ∙ ap (λ (m : ℕ). signed 1 m) (c.u8_at-b.ensures a.order)
    ∙ ap (λ (m : ℕ). signed 1 (number a.order (take 1 (drop (a.from + m) s)))) e
    ∙ ap {B = ℤ} (λ (w : ℕ). sample_at a.order w s a.from a.k) (sym c.if-size-eq1.true)

pub overflow_mul-k : goal.overflow_mul-k
overflow_mul-k c = omega (arith, (words c.requires c.if-size-eq1.false).1)

pub overflow_add-from-2 : goal.overflow_add-from-2
overflow_add-from-2 c = omega (arith, (words c.requires c.if-size-eq1.false).1)

pub word_at-w-requires : goal.word_at-w-requires
word_at-w-requires c = omega (arith, (words c.requires c.if-size-eq1.false).1)

pub returns : goal.returns
returns c =
    let a = c.args in
    let n = c.word_at-w in
    let w = words c.requires c.if-size-eq1.false in
    to_z-of_z w16 c.signed16.result (record { sfits = c.signed16.type_inv })
    ∙ c.signed16.ensures
    ∙ ap (λ (m : ℕ). signed 2 m) c.word_at-w.ensures
    ∙ ap {B = ℤ} (λ (w : ℕ). sample_at a.order w a.block.now a.from a.k) (sym w.0)
