use Rattle.std.proofs.Common.{◌∙◌}
use Rattle.tags.proofs.DictionaryWalkLaws.{any_has}
use Rattle.tags.proofs.walk.Walk.has.Goals as goal

pub returns : goal.returns
returns c = c.contains.ensures ∙ any_has c.args.role c.args.self.now.roles
