-- `tags::kept::keep_dimmer` meets its contract: the area is `dimmer_put` of what it was.
use Rattle.std.proofs.Common.{ℕ, List, ◌≡◌, ◌∷◌, [], length, ap, ◌∙◌, rules}
use Rattle.tags.specs.Limits.{subset_limit}
use Rattle.tags.specs.Kept.{counts_place, base_place, area_size, octets_put, word_octets, dimmer_put}
use Rattle.tags.specs.KeptLaws.{dimmer_kept}
use Rattle.tags.proofs.kept.keep_dimmer.Goals as goal

pub returns-clause-area_after : goal.returns-clause-area_after
unfolding dimmer_put
returns-clause-area_after c =
    let bases : length c.args.dimmer.bases ≡ subset_limit = search rules in
    let counts : length c.args.dimmer.counts ≡ subset_limit = search rules in
    let room : length c.args.area.now ≡ area_size = search rules in
    let put : c.put_words-2.new.area ≡ dimmer_put c.args.dimmer c.args.area.now =
    c.put_words-2.ensures
    ∙ ap (λ (a : List ℕ). octets_put a base_place (word_octets (c.args.dimmer.base ∷ [])))
    (c.copy.ensures ∙ ap (λ (a : List ℕ). octets_put a counts_place c.args.dimmer.counts) c.put_words.ensures)
    in
    rw put (dimmer_kept c.args.dimmer c.args.area.now room bases counts).0
