-- `put_colours`: without a hint its octet is 0.
use Prim.Native.Nat.{ℕ}
use mathlib.Core.Path.{◌≡◌, refl, sym, ◌∙◌}
use mathlib.Core.Bool.{false}
use mathlib.Core.List.{List}
use Rattle.std.specs.Prelude.{Option, Some, None, is_some}
use Rattle.samples.specs.Plan.{octet_in}
use Rattle.samples.proofs.plan.Plan.put_colours.Goals as goal

none-zero : (o : Option ℕ) (sample : List ℕ) → is_some o ≡ false → octet_in o sample ≡ 0
unfolding octet_in
none-zero None sample e = refl
none-zero (Some x) sample e = (cc)

pub returns-else-is_some-clause-stored : goal.returns-else-is_some-clause-stored
returns-else-is_some-clause-stored c =
    let e : c.args.hint ≡ 0 = c.requires.1 ∙ none-zero c.args.self.now.hint c.args.sample.now (sym c.is_some.ensures ∙ c.if-is_some.false) in
    rw e c.put_scaled-else-is_some.ensures.stored

pub returns-else-is_some-clause-dark : goal.returns-else-is_some-clause-dark
returns-else-is_some-clause-dark c =
    let e : c.args.hint ≡ 0 = c.requires.1 ∙ none-zero c.args.self.now.hint c.args.sample.now (sym c.is_some.ensures ∙ c.if-is_some.false) in
    rw e c.put_scaled-else-is_some.ensures.dark
