-- `listing::list_input` meets its contract: what waits is left of the input, and what is read behind a cut.
use Rattle.std.proofs.Common.{◌≡◌, ◌≤◌, ◌∙◌, ap, Ok, Err, length, rules, arith}
use Rattle.std.proofs.lemmas.Grind.{common_steps}
use Rattle.lines.specs.Reading.{StandsFirst, largest}
use Rattle.lines.specs.declared.reading.Next.TheVariants.{End}
use Rattle.listing.specs.Waiting.{waiting_in}
use Rattle.listing.proofs.ProgressLaws.{counts, cut_or_many, ends}
use Rattle.listing.proofs.list_input.Goals as goal

pub returns-in-Ok-End : goal.returns-in-Ok-End
returns-in-Ok-End g c =
    let w = waiting_in c.list_messages.new.input in
    let p = c.in-Ok-End.ensures.progress in
    let bound : length c.waiting.result.now ≤ largest = omega (arith, c.waiting.type_inv.0) in
    let few : length w ≤ largest = rw c.waiting.ensures at bound in
    let none : StandsFirst End w = rw c.in-Ok-End.field-0-is at p.2.0 in
    rw c.waiting.ensures (ends w p.1 none.0 few (Ok tt) (c.list_messages.ensures.end (c.in-Ok-End.is ∙ ap Ok c.in-Ok-End.field-0-is)))

pub returns-in-Ok : goal.returns-in-Ok
returns-in-Ok g c =
    let w = waiting_in c.list_messages.new.input in
    let p = c.in-Ok.ensures.progress in
    let other : c.in-Ok.field-0 ≡ End → ⊥ = first_of (search rules, grind (arith, common_steps)) in
    counts w p.1 (cut_or_many c.in-Ok.field-0 w p.0 other p.2.0 p.2.1) c.count_rest.ensures

pub returns-in-Err : goal.returns-in-Err
returns-in-Err g c =
    let w = waiting_in c.list_messages.new.input in
    let p = c.in-Err.ensures.progress in
    let bound : length c.waiting-in-Err.result.now ≤ largest = omega (arith, c.waiting-in-Err.type_inv.0) in
    let few : length w ≤ largest = rw c.waiting-in-Err.ensures at bound in
    rw c.waiting-in-Err.ensures (ends w p.1 p.2 few (Err c.in-Err.e) tt)
