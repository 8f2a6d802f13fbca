-- `lines::reading::front` meets its contract: what two octets claim, or all that they claim, decides.
use Rattle.std.proofs.Common.{◌≡◌, rules, arith, ◌∙◌}
use Rattle.receiver.specs.Stream.{entry_of}
use Rattle.receiver.specs.StreamLaws.{entry_more}
use Rattle.lines.proofs.ReadingLaws.{few}
use Rattle.lines.proofs.reading.front.Goals as goal

pub returns-in_default : goal.returns-in_default
returns-in_default c = (few c.args.octets.now (c.in_default.ensures), omega (arith, c.in_default.ensures))

pub returns-else-octets-size : goal.returns-else-octets-size
returns-else-octets-size c = λ more.
    let none : entry_of c.args.octets.now ≡ 0 = search rules in
    entry_more c.args.octets.now more c.in-Some.ensures.0 (rw c.in-Some.ensures.1 at c.if-octets-size.false) ∙ none
