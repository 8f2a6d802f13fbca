-- `tags::kept::keep_layout` meets its contract: the area is `layout_put` of what it was.
use Rattle.std.proofs.Common.{ℕ, List, ◌≡◌, ◌∷◌, [], length, ap, ◌∙◌, rules}
use Rattle.tags.specs.Limits.{octet_limit, colour_limit}
use Rattle.tags.specs.Kept.{space_place, area_size, octets_put, word_octets, layout_put}
use Rattle.tags.specs.KeptLaws.{layout_kept}
use Rattle.tags.proofs.kept.keep_layout.Goals as goal

pub returns-clause-area_after : goal.returns-clause-area_after
unfolding layout_put
returns-clause-area_after c =
    let roles : length c.args.layout.roles ≡ octet_limit = search rules in
    let waves : length c.args.layout.waves ≡ colour_limit = search rules in
    let room : length c.args.area.now ≡ area_size = search rules in
    let put : c.put_words-2.new.area ≡ layout_put c.args.layout c.args.area.now =
    c.put_words-2.ensures
    ∙ ap (λ (a : List ℕ). octets_put a space_place (word_octets (c.args.layout.space ∷ [])))
    (c.put_words.ensures ∙ ap (λ (a : List ℕ). octets_put a octet_limit (word_octets c.args.layout.waves)) (search rules))
    in
    rw put (layout_kept c.args.layout c.args.area.now room roles waves).0
