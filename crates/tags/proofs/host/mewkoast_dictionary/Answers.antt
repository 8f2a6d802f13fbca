-- `mewkoast_dictionary`: the width of the layout is the number of roles.
use Rattle.std.proofs.Common.{ap}
use borrow.Author.Tests.{ne_eqb}
use Rattle.tags.specs.Dictionary.{host_sample, host_check}
use Rattle.tags.specs.declared.Checked.{Checked}
use Rattle.tags.proofs.DictionaryWalkLaws.{not-zero}
use Rattle.tags.proofs.host.mewkoast_dictionary.Goals as goal

pub returns-in-Ok : goal.returns-in-Ok
unfolding host_check host_sample
returns-in-Ok c =
    let number = ap (λ (k : Checked). k.number) c.in-Ok.ensures in
    rw (c.from.ensures, ← number) (rw (← number) at (ap (λ (k : Checked). k.layout.width) c.in-Ok.ensures))

pub returns-in-Err : goal.returns-in-Err
unfolding host_check
returns-in-Err c =
    let number = ap (λ (k : Checked). k.number) c.in-Err.ensures in
    rw (c.from-in-Err.ensures, c.number.ensures, ← number, ne_eqb _ 0 (not-zero c.in-Err.refusal))
