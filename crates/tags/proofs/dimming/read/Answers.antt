-- `tags::dimming::read` meets its contract.
use Rattle.std.proofs.Common.{◌≡◌, ◌+◌, ◌%◌, sym, ◌∙◌, Err, ◌-◌, length, length-drop, get_or, drop, arith, rules}
use Rattle.std.proofs.lemmas.List.{take_all}
use Rattle.tags.specs.DimmerView.{mapping_so_far}
use Rattle.tags.proofs.DimmerWalkLaws.{begins, ends, read_refused, take_refused, free, within, taken}
use Rattle.tags.proofs.dimming.read.Goals as goal

pub loop-rest-init : goal.loop-rest-init
loop-rest-init c = (rw c.new-walk.ensures.value (begins c.args.tags.now), c.new-walk.ensures.based)

pub returns-in_err-read : goal.returns-in_err-read
returns-in_err-read c =
    let same : c.from_residual.result ≡ Err c.in_err-read.field-0.0 = search rules in
    rw same (read_refused c.args.tags.now c.loop-rest.rest.now (mapping_so_far c.loop-rest.walk) c.loop-rest.invariant.0 (omega arith) _ (sym c.read.ensures.value ∙ c.in_err-read.was))

pub returns-in_err-take : goal.returns-in_err-take
returns-in_err-take c =
    let same : c.from_residual-in_err-take.result ≡ Err c.in_err-take.field-0.0 = search rules in
    rw same (take_refused c.args.tags.now c.loop-rest.rest.now (mapping_so_far c.loop-rest.walk) c.loop-rest.invariant.0 (omega arith) c.in_ok-read.field-0 (sym c.read.ensures.value ∙ c.in_ok-read.was) _ (sym c.take.ensures.value ∙ c.in_err-take.was))

pub slice_bounds-rest-count : goal.slice_bounds-rest-count
slice_bounds-rest-count c =
    rw c.from.ensures (within c.args.tags.now c.loop-rest.rest.now (mapping_so_far c.loop-rest.walk) c.loop-rest.invariant.0 (omega arith) c.in_ok-read.field-0 (sym c.read.ensures.value ∙ c.in_ok-read.was) tt (sym c.take.ensures.value ∙ c.in_ok-take.was))

pub slice_bounds-rest-start : goal.slice_bounds-rest-start
slice_bounds-rest-start c =
    let fits = within c.args.tags.now c.loop-rest.rest.now (mapping_so_far c.loop-rest.walk) c.loop-rest.invariant.0 (omega arith) c.in_ok-read.field-0 (sym c.read.ensures.value ∙ c.in_ok-read.was) tt (sym c.take.ensures.value ∙ c.in_ok-take.was) in
    search (rules, fits)

pub loop-rest-preserved : goal.loop-rest-preserved
loop-rest-preserved c =
    let rest = c.loop-rest.rest.now in
    let m = mapping_so_far c.loop-rest.walk in
    let reached = taken c.args.tags.now rest m c.loop-rest.invariant.0 (omega arith) c.in_ok-read.field-0 (sym c.read.ensures.value ∙ c.in_ok-read.was) tt (sym c.take.ensures.value ∙ c.in_ok-take.was) in
    let passes = free c.args.tags.now rest m c.loop-rest.invariant.0 (omega arith) c.in_ok-read.field-0 (sym c.read.ensures.value ∙ c.in_ok-read.was) tt (sym c.take.ensures.value ∙ c.in_ok-take.was) in
    let after = rw passes at c.take.ensures.after in
    let next = take_all (length rest - (1 + get_or rest 0 0 % 16)) (drop (1 + get_or rest 0 0 % 16) rest) (omega (arith, length-drop (1 + get_or rest 0 0 % 16) rest)) in
    (rw (c.from.ensures, after, next) reached, c.take.ensures.based)

pub returns : goal.returns
returns c = rw c.to_dimmer.ensures (ends c.args.tags.now c.loop-rest.rest.now (mapping_so_far c.loop-rest.walk) c.loop-rest.invariant.0 (omega arith))
