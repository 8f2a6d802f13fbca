-- `count_lit`: the loop counts the lit ones of the samples that it has passed.
use Prim.Native.Nat.{◌-◌, ◌<◌}
use native.Mathlib.Omega.{arith}
use mathlib.Core.Path.{◌≡◌, refl}
use borrow.Author.Rules.{rules}
use Rattle.samples.specs.Points.{samples_in, lit_in}
use Rattle.samples.specs.PointsLaws.{samples_in-behind}
use Rattle.samples.proofs.PointLaws.{lit-one}
use Rattle.samples.proofs.points.count_lit.Goals as goal

pub loop-i-init : goal.loop-i-init
unfolding lit_in
loop-i-init c = let none : c.args.start - c.args.start ≡ 0 = omega arith in (omega arith, omega arith, refl, rw none refl)

pub overflow_add-lit : goal.overflow_add-lit
overflow_add-lit c =
    let roles = c.args.roles.now in
    let b : c.loop-i.i < samples_in roles c.args.octets.now = omega (arith, c.samples_in-i-end.ensures) in
    let counted = lit-one roles c.args.octets.now c.args.start c.loop-i.i b c.draw_all-lit.result c.loop-i.lit (omega arith) c.draw_all-lit.ensures.lit c.loop-i.invariant.3 in
    omega (arith, counted.0)

pub loop-i-preserved : goal.loop-i-preserved
loop-i-preserved c =
    let roles = c.args.roles.now in
    let b : c.loop-i.i < samples_in roles c.args.octets.now = omega (arith, c.samples_in-i-end.ensures) in
    let counted = lit-one roles c.args.octets.now c.args.start c.loop-i.i b c.draw_all-lit.result c.loop-i.lit (omega arith) c.draw_all-lit.ensures.lit c.loop-i.invariant.3 in
    (omega arith, omega (arith, counted.0), search rules, counted.1)

pub returns : goal.returns
returns c =
    let roles = c.args.roles.now in
    let e : c.loop-i.i - c.args.start ≡ samples_in roles c.args.octets.now - c.args.start = omega (arith, c.samples_in-i-end.ensures) in
    rw samples_in-behind (rw e at c.loop-i.invariant.3)
