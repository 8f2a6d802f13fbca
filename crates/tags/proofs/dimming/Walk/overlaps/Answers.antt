-- `tags::dimming::Walk::overlaps` meets its contract.
use Rattle.std.proofs.Common.{◌∙◌, rules, tests}
use Rattle.std.proofs.lemmas.Iterator.{YieldsList-from_slice}
use Rattle.std.proofs.lemmas.Iterator.Search.{any_from_yields_List}
use Rattle.tags.specs.Dimmer.{overlap}
use Rattle.tags.specs.DimmerView.{subset_number}
use Rattle.tags.proofs.DimmerWalkLaws.{overlaps_map}
use Rattle.tags.proofs.dimming.Walk.overlaps.Goals as goal

pub returns : goal.returns
returns c =
    let subset = subset_number c.args.subset in
    let subsets = c.args.self.now.subsets in
    any_from_yields_List (λ other. overlap subset (subset_number other)) _ _ _ c.any.ensures.ran (YieldsList-from_slice subsets cc) (λ x b q k. search (rules, tests))
    ∙ overlaps_map subset subsets
