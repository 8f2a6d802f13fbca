-- `new`: the loop goes from the last octet to the first; what it has passed is in the table.
use Prim.Native.Nat.{suc, ◌-◌}
use native.Mathlib.Nat.{zero-add}
use native.Mathlib.Omega.{arith}
use mathlib.Core.Path.{◌≡◌, refl, ◌∙◌}
use lib.ListN.{length, replicate, length-replicate, get_or-replicate}
use Rattle.samples.specs.Signals.{table_size}
use Rattle.samples.proofs.RoleLaws.{filled_none, filled-set, filled-skip}
use Rattle.samples.proofs.places.Places.new.Goals as goal

pub loop-i-init : goal.loop-i-init
loop-i-init c =
    let width = length c.args.roles.now in
    (filled_none (replicate table_size width) c.args.roles.now width (length-replicate table_size width) (λ k b. get_or-replicate table_size k width 0 b) (omega arith), refl)

pub loop-i-preserved-then-role-lt-TABLE : goal.loop-i-preserved-then-role-lt-TABLE
loop-i-preserved-then-role-lt-TABLE c =
    let q : suc (c.loop-i.i - 1) ≡ c.loop-i.i = omega arith in
    (filled-set c.loop-i.places.table c.args.roles.now (c.loop-i.i - 1) _ (rw q c.loop-i.invariant.0) (omega arith) c.from-role.ensures c.if-role-lt-TABLE.true, c.loop-i.invariant.1)

pub loop-i-preserved : goal.loop-i-preserved
loop-i-preserved c =
    let q : suc (c.loop-i.i - 1) ≡ c.loop-i.i = omega arith in
    (filled-skip c.loop-i.places.table c.args.roles.now (c.loop-i.i - 1) _ (rw q c.loop-i.invariant.0) (omega arith) c.from-role.ensures c.if-role-lt-TABLE.false, c.loop-i.invariant.1)

pub returns-clause-table : goal.returns-clause-table
returns-clause-table c k h =
    let e : c.loop-i.i ≡ 0 = omega arith in
    (rw e at c.loop-i.invariant.0.1 k h) ∙ zero-add _
