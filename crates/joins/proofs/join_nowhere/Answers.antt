-- Without any room, parts that can be joined are refused for room.
use Rattle.rules.specs.Numbers.{Bytes}
use Rattle.rules.proofs.Numbers.{below-index}
use Rattle.joins.proofs.Joining.{no_room}
use Rattle.joins.proofs.join_nowhere.Goals as goal

pub returns-in-Ok : goal.returns-in-Ok
returns-in-Ok c =
    let s = c.args.parts.now in
    let b : Bytes s = below-index 256 s (λ i h. (c.type_inv.parts i).fits) in
    let k = c.in-Ok.ensures.ok in
    no_room s b s c.in-Ok.field-0 k.0 k.1 k.2
