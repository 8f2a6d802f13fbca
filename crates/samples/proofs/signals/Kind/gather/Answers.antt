-- `gather`: the loop goes through the slots, and adds each to one of the lists or to none.
use Prim.Native.Nat.{◌+◌, ◌-◌, ◌<◌}
use mathlib.Core.Path.{◌≡◌, sym, ◌∙◌}
use borrow.Author.Tests.{ltb-true, ltb-false}
use borrow.Author.Rules.{rules}
use Rattle.samples.specs.declared.signals.Kind.{Kind}
use Rattle.samples.proofs.SignalLaws.{gathered-fine, gathered-coarse}
use Rattle.samples.proofs.signals.Kind.gather.Goals as goal

pub loop-slot-preserved-then-within-2 : goal.loop-slot-preserved-then-within-2
loop-slot-preserved-then-within-2 c =
    let places = c.args.places.now in
    let start = c.args.slots.start in
    let count = c.args.slots.end - start in
    let passed = c.loop-slot.slot-iterator.start - start in
    let kind : Kind = record { fine = c.loop-slot.fine; coarse = c.loop-slot.coarse } in
    let next : c.next.new.self.start - start ≡ passed + 1 = search rules in
    let below : passed < count = search rules in
    let place : c.in-Some.slot ≡ start + passed = search rules in (
      search rules,
      search rules,
      search rules,
      rw (next, c.push.ensures, c.signal-signal.ensures)
          (gathered-fine places.table places.width c.args.waves.now start count _ c.in-Some.slot kind c.loop-slot.invariant.3 below place
          (sym c.is_free.ensures ∙ c.if-is_free.true)
          (ltb-true _ _ (sym (rw c.signal-signal.ensures at c.within.ensures) ∙ c.if-within.true))
          (ltb-true _ _ (sym (rw c.signal-signal.ensures at c.within-then-within.ensures) ∙ c.if-within-2.true))),
    )

pub loop-slot-preserved-else-within-2 : goal.loop-slot-preserved-else-within-2
loop-slot-preserved-else-within-2 c =
    let places = c.args.places.now in
    let start = c.args.slots.start in
    let count = c.args.slots.end - start in
    let passed = c.loop-slot.slot-iterator.start - start in
    let kind : Kind = record { fine = c.loop-slot.fine; coarse = c.loop-slot.coarse } in
    let next : c.next.new.self.start - start ≡ passed + 1 = search rules in
    let below : passed < count = search rules in
    let place : c.in-Some.slot ≡ start + passed = search rules in (
      search rules,
      search rules,
      search rules,
      rw (next, c.push-else-within-2.ensures, c.signal-signal.ensures)
          (gathered-coarse places.table places.width c.args.waves.now start count _ c.in-Some.slot kind c.loop-slot.invariant.3 below place
          (sym c.is_free.ensures ∙ c.if-is_free.true)
          (ltb-true _ _ (sym (rw c.signal-signal.ensures at c.within.ensures) ∙ c.if-within.true))
          (ltb-false _ _ (sym (rw c.signal-signal.ensures at c.within-then-within.ensures) ∙ c.if-within-2.false))),
    )
