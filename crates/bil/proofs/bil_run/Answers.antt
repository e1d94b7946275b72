-- `bil::bil_run`: the run's result and its five numbers, or nothing. Assumes nothing.
use mathlib.Core.Path.{◌≡◌}
use native.Mathlib.Omega.{arith}
use lib.ListN.{length, length-set}
use Rattle.starts.specs.Lent.{lent}
use Rattle.bil.proofs.RunCallLaws.{call_runs}
use Rattle.bil.proofs.bil_run.Goals as goal

pub bounds-out-1 : goal.bounds-out-1
bounds-out-1 c = simp length-set (omega arith)

pub bounds-out-2 : goal.bounds-out-2
bounds-out-2 c = simp length-set (omega arith)

pub bounds-out-3 : goal.bounds-out-3
bounds-out-3 c = simp length-set (omega arith)

pub bounds-out-4 : goal.bounds-out-4
bounds-out-4 c = simp length-set (omega arith)

pub returns : goal.returns
returns c =
    let five : length c.args.out.now ≡ 5 = omega arith in
    call_runs (lent c.args.table.now c.args.state.now c.args.log.now c.args.count c.args.next c.args.budget) c.args.out.now five c.run-r.ensures c.code_of-code.ensures c.place_of-place.ensures
