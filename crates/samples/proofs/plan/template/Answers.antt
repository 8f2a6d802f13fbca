-- `template`: the wavelengths are filled in from the front.
use Prim.Native.Nat.{◌<◌}
use native.Mathlib.Omega.{arith}
use mathlib.Core.Path.{◌≡◌, refl, ◌∙◌}
use mathlib.Core.Bool.{Bool, true, false, cond, not}
use lib.IntN.{pos}
use lib.ListN.{get_or, get_or-eq_default}
use mir.Syntax.{w32}
use mir.Val.{bool_byte}
use mir.ValLaws.{to_z-of_z}
use borrow.Author.Rules.{rules}
use Rattle.std.proofs.lemmas.Int.{ints}
use Rattle.samples.proofs.TemplateLaws.{waved_first, waved_more, waved_all}
use Rattle.samples.proofs.plan.template.Goals as goal

flag : (b : Bool) → pos (bool_byte (not b)) ≡ pos (cond b 0 1)
flag true = refl
flag false = refl

pub loop-k-init : goal.loop-k-init
loop-k-init c =
    waved_first c.args.shutter c.args.waves.now _ (to_z-of_z w32 c.from.result (search rules) ∙ c.from.ensures ∙ flag c.args.shutter)

pub loop-k-preserved : goal.loop-k-preserved
loop-k-preserved c =
    let small : get_or c.args.waves.now c.loop-k.k 0 < 65536 = search rules in
    waved_more c.args.shutter c.args.waves.now c.loop-k.row c.loop-k.k _ (omega arith) (omega (arith, ints)) c.loop-k.invariant

pub returns : goal.returns
returns c = (
  c.loop-k.invariant.0,
  waved_all c.args.shutter c.args.waves.now c.loop-k.row c.loop-k.k (λ j u b. get_or-eq_default c.args.waves.now 0 (omega arith)) c.loop-k.invariant,
)
