use Rattle.std.proofs.Common.{◌-◌, arith}
use Rattle.copies.proofs.Copies.{run_none, run_all, run_up, run_down}
use Rattle.copies.proofs.copy.copy_run.Goals as goal

pub loop-i-init : goal.loop-i-init
loop-i-init g c h = record { call = λ p. run_none _ _ _ _ _ (omega arith); ready = h }

pub loop-i-preserved : goal.loop-i-preserved
loop-i-preserved g c h =
    let i = c.loop-i.invariant h in
    let e = c.in_ok-copy_word.ensures i.ready in
    record { call = λ p. run_up _ _ _ c.args.len c.loop-i.i _ _ _ _ c.ahead.ensures c.ahead-in-loop-i.ensures e.call p c.loop-i-test.true (omega (arith, c.if-forward.true)) (i.call p); ready = e.ready }

pub loop-i-else-forward-init : goal.loop-i-else-forward-init
loop-i-else-forward-init g c h = record { call = λ p. run_none _ _ _ _ _ (omega arith); ready = h }

pub returns-after-loop-i : goal.returns-after-loop-i
returns-after-loop-i g c h =
    let i = c.loop-i.invariant h in
    record { call = λ p. run_all _ _ _ _ _ _ _ (omega arith) (omega arith) (i.call p); ready = i.ready }

pub returns-after-loop-i-else-forward : goal.returns-after-loop-i-else-forward
returns-after-loop-i-else-forward g c h =
    let i = c.loop-i-else-forward.invariant h in
    record { call = λ p. run_all _ _ _ _ _ _ _ (omega arith) (omega arith) (i.call p); ready = i.ready }

pub loop-i-else-forward-preserved : goal.loop-i-else-forward-preserved
loop-i-else-forward-preserved g c h =
    let i = c.loop-i-else-forward.invariant h in
    let e = c.in_ok-copy_word-2.ensures i.ready in
    record { call = λ p. run_down _ _ _ c.args.len (c.loop-i-else-forward.i - 1) c.loop-i-else-forward.i _ _ _ _ (omega arith) c.ahead-in-loop-i-else-forward.ensures c.ahead-in-loop-i-else-forward-2.ensures e.call p (omega arith) (omega arith) (i.call p); ready = e.ready }
