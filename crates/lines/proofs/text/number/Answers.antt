-- `lines::text::number` meets its contract: a space is stored, and the digits are copied after it.
use native.Mathlib.Omega.{arith}
use mathlib.Core.Path.{◌≡◌}
use mathlib.Core.List.{[], ◌∷◌}
use lib.ListN.{take}
use Rattle.lines.specs.Text.{decimal}
use Rattle.lines.proofs.DecimalLaws.{decimal_is}
use Rattle.lines.proofs.FrontLaws.{front_more, front_one}
use Rattle.lines.proofs.text.number.Goals as goal

pub returns : goal.returns
returns c =
    let text : take c.decimal-k.result c.decimal-k.new.out ≡ decimal c.args.n = decimal_is c.ranges.n.fits c.decimal-k.ensures.len c.decimal-k.ensures.digits in
    front_more (32 ∷ []) (decimal c.args.n) (front_one c.args.out.now 32 (omega arith))
    (rw text at c.copy.ensures)
