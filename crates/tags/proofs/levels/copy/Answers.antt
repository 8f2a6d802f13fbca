-- `tags::levels::copy` meets its contract: one octet more is one more of the part in place.
use Prim.Native.Nat.{◌+◌}
use mathlib.Core.Path.{◌∙◌}
use native.Mathlib.Numerals.{add-one}
use native.Mathlib.Omega.{arith}
use lib.ListN.{get_or, length-set}
use lib.Seq.{paste-suc}
use borrow.Author.Rules.{rules}
use Rattle.tags.proofs.levels.copy.Goals as goal

pub loop-i-preserved : goal.loop-i-preserved
loop-i-preserved c = (
  search rules,
  rw (add-one c.loop-i.i, c.loop-i.invariant.1)
      (paste-suc c.args.levels.now c.args.place c.args.part.now c.loop-i.i 0 (omega arith) (omega arith)),
  length-set c.loop-i.levels (c.args.place + c.loop-i.i) (get_or c.args.part.now c.loop-i.i 0) ∙ c.loop-i.invariant.2,
)
