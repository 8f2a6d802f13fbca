-- `lines::text::numbers` meets its contract.
use Prim.Native.Nat.{◌≤◌}
use native.Mathlib.Omega.{arith}
use mathlib.Core.Path.{refl}
use mathlib.Core.List.{◌∷◌}
use lib.ListN.{length, take, get_or, length-take, length-drop}
use Rattle.std.proofs.Common.{rules}
use Rattle.lines.specs.Text.{decimal, spaced}
use Rattle.lines.proofs.FrontLaws.{front_none, front_more, spaced-more, spaced-short}
use Rattle.lines.proofs.text.numbers.Goals as goal

pub loop-n-init : goal.loop-n-init
unfolding spaced
loop-n-init c = (front_none _, refl)

pub number-at-requires : goal.number-at-requires
number-at-requires c =
    let short = spaced-short (take c.loop-n.n-index c.args.ns.now) in
    let most : length (take c.loop-n.n-index c.args.ns.now) ≤ c.loop-n.n-index = rw length-take (omega arith) in
    simp (length-take, length-drop) (omega (arith, short, most, c.loop-n.invariant.0.count, c.loop-n.invariant.1, c.loop-n-test.true, c.requires))

pub loop-n-preserved : goal.loop-n-preserved
loop-n-preserved c = (
  rw (spaced-more c.args.ns.now c.loop-n.n-index c.loop-n-test.true)
      (front_more (spaced (take c.loop-n.n-index c.args.ns.now)) (32 ∷ decimal (get_or c.args.ns.now c.loop-n.n-index 0)) c.loop-n.invariant.0 c.number-at.ensures),
  search rules,
)
