-- `other_stripes`: each turn adds the next server's offset, or none.
use mathlib.Core.Path.{◌∙◌}
use native.Mathlib.Omega.{arith}
use Rattle.parity_server.proofs.OtherServers.{others_none, others_more, others_same, others_few}
use Rattle.parity_server.proofs.sums.other_stripes.Goals as goal
use Rattle.parity_server.proofs.sums.other_stripes.Goals.{then-other-server, else-other-server}

pub loop-other-init : goal.loop-other-init
loop-other-init c = c.new-others.ensures ∙ others_none c.stripe_bytes-long.result c.args.server

pub push-requires : goal.push-requires
push-requires c =
    let l = c.loop-other in
    (omega arith, omega (arith, others_few c.stripe_bytes-long.result c.args.server l.other l.others l.invariant, c.stripes-other-end.ensures))

pub loop-other-preserved : goal.loop-other-preserved
loop-other-preserved c =
    let l = c.loop-other in
    let long = c.stripe_bytes-long.result in
    elim c.if-other-server.branch [
      | then-other-server w ↦ w.others-is ∙ others_more long c.args.server l.other l.others w.push.new.self w.if-other-server.true l.invariant w.push.ensures
      | else-other-server w ↦ w.others-is ∙ others_same long c.args.server l.other l.others w.if-other-server.false l.invariant
    ]
