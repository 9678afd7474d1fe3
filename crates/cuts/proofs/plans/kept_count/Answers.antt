-- By NP: no limit, or one.
use Rattle.cuts.specs.Cuts.{setup_as}
use Rattle.cuts.proofs.Asking.{count-all, count_most}
use Rattle.cuts.proofs.plans.kept_count.Goals as goal

pub returns-then-setup-eq0 : goal.returns-then-setup-eq0
returns-then-setup-eq0 c = count-all (setup_as c.args.setup) c.args.points c.step-step.result c.div_ceil-n.result c.step-step.ensures c.div_ceil-n.ensures c.if-setup-eq0.true

pub returns : goal.returns
returns c = count_most (setup_as c.args.setup) c.args.points c.step-step.result c.div_ceil-n.result c.step-step.ensures c.div_ceil-n.ensures c.if-setup-eq0.false c.min.result c.min.ensures
