-- The library's test of both, whichever the rule.
use mathlib.Core.Path.{sym, ap, ap₂, ◌∙◌}
use mathlib.Core.Bool.{Bool, ◌&&◌}
use mathlib.Core.Logic.{inl, inr}
use Rattle.scale.specs.declared.TimeRule.{TimeRule}
use Rattle.scale.specs.Scale.{rule_as, finite_rule}
use Rattle.scale.proofs.Finite.{library_finite}
use Rattle.scale.proofs.is_finite_rule.Goals as goal

pub returns : goal.returns
returns c =
    let a = c.in-Segment in
    ap₂ {C = Bool} (λ x y. x && y) (c.is_finite.ensures.value ∙ library_finite a.interval) (c.is_finite-in-Segment.ensures.value ∙ library_finite a.offset)
    ∙ elim a.is [
      | inl e ↦ ap (λ (x : TimeRule). finite_rule (rule_as x)) (sym e)
      | inr (inl e) ↦ ap (λ (x : TimeRule). finite_rule (rule_as x)) (sym e.1)
      | inr (inr e) ↦ ap (λ (x : TimeRule). finite_rule (rule_as x)) (sym e)
    ]
