-- `receiver::stream::Parts::next` meets its contract: the part at the front, and then those of the rest.
use mathlib.Core.Path.{◌≡◌, sym, ap, ◌∙◌}
use Prim.Native.Nat.{◌<◌}
use native.Mathlib.Omega.{arith}
use mathlib.Core.List.{◌∷◌}
use lib.ListN.{length}
use Rattle.receiver.specs.Stream.{parts_in}
use Rattle.receiver.proofs.UnderwayLaws.{parts_empty, part_next}
use Rattle.receiver.proofs.stream.PartsIterator.next.Goals as goal

pub returns-then-is_empty-clause-steps : goal.returns-then-is_empty-clause-steps
returns-then-is_empty-clause-steps c =
    let none : length c.args.self.now.octets.now ≡ 0 = grind arith in
    (parts_empty _ none, parts_empty _ none)

pub returns-clause-steps : goal.returns-clause-steps
returns-clause-steps c =
    let some : 0 < length c.args.self.now.octets.now = grind arith in
    part_next c.args.self.now.octets.now _ _ c.size_at_front.ensures.value c.size_at_front.ensures.bounds c.unwrap_or-size.ensures some
    ∙ (λ i. sym c.split_at.ensures.front i ∷ parts_in (sym c.split_at.ensures.back i))

pub returns-clause-goes : goal.returns-clause-goes
returns-clause-goes c = let fewer = ap length (returns-clause-steps c) in search (arith, fewer)
