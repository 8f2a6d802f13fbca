-- `Input::consume` lets octets go.
use Rattle.std.proofs.Common.{rules}
use Rattle.listing.proofs.WaitingLaws.{let_go}
use Rattle.listing.proofs.input.Input.consume.Goals as goal

pub returns-clause-waiting : goal.returns-clause-waiting
returns-clause-waiting g c = let_go c.args.self.now.octets c.args.self.now.start c.args.self.now.end c.args.count c.args.self.now.ordered (search rules)
