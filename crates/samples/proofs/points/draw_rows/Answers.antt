-- `draw_rows`: the rows of the samples that the loop has passed stand at the start, and after them what stood there.
use Prim.Native.Nat.{◌-◌, ◌<◌}
use native.Mathlib.Omega.{arith}
use mathlib.Core.Path.{◌≡◌, refl, sym, ◌∙◌, ap}
use mathlib.Core.Bool.{◌&&◌}
use lib.Dec.{leb}
use Rattle.samples.specs.Row.{row_of, lit_of}
use Rattle.samples.specs.Points.{samples_in, rows_of, lit_in}
use Rattle.samples.specs.PointsLaws.{samples_in-behind}
use Rattle.samples.proofs.PointLaws.{sample_is, ready, rows_more, lit-more, byte-le}
use Rattle.samples.proofs.points.draw_rows.Goals as goal

pub loop-i-init : goal.loop-i-init
unfolding lit_in rows_of
loop-i-init c = let none : 0 - c.args.start ≡ 0 = omega arith in (omega arith, λ d. (rw none refl, refl))

pub loop-i-preserved : goal.loop-i-preserved
loop-i-preserved c = (
  omega (arith, c.from-lit.ensures, byte-le (c.draw-shown.result && leb c.args.start c.loop-i.i)),
  λ d.
      let octets = c.args.octets.now in
      let end : c.samples_in-i-end.result ≡ samples_in d.roles octets = rw (sym d.sized) at c.samples_in-i-end.ensures in
      let b : c.loop-i.i < samples_in d.roles octets = omega (arith, end) in
      let sample = sample_is d.roles octets c.loop-i.i in
      let each = rw (sym d.sized) at c.draw-shown.ensures in
      let drawn = each (ready d.roles octets c.loop-i.i c.args.plan.now d.waves b d.planned) in
      let before = c.loop-i.invariant.1 d in (
        lit-more d.roles octets c.args.start c.loop-i.i c.from-lit.result c.loop-i.lit c.draw-shown.result (drawn.1 ∙ ap (lit_of d.roles) sample) c.from-lit.ensures before.0,
        rows_more d.roles d.waves octets c.loop-i.i c.args.rows.now c.loop-i.rows _ (drawn.0 ∙ ap (row_of d.roles d.waves) sample) before.1,
      ),
)

pub returns-clause-lit : goal.returns-clause-lit
returns-clause-lit c d =
    let end : c.samples_in-i-end.result ≡ samples_in d.roles c.args.octets.now = rw (sym d.sized) at c.samples_in-i-end.ensures in
    let e : c.loop-i.i ≡ samples_in d.roles c.args.octets.now = omega (arith, end) in
    rw samples_in-behind (rw e at (c.loop-i.invariant.1 d).0)
