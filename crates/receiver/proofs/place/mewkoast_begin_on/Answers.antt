-- `receiver::place::mewkoast_begin_on` meets its contract: the arrays of a record become those of a fresh one.
use mathlib.Core.Path.{◌≡◌, sym, ap, ◌∙◌}
use mathlib.Core.Bool.{true, false≢true}
use Prim.Native.Nat.{ℕ}
use lib.ListN.{replicate}
use Rattle.receiver.specs.Record.{record_in, sized}
use Rattle.receiver.specs.Steps.{fresh_channels}
use Rattle.receiver.proofs.FreshLaws.{started_with}
use Rattle.receiver.proofs.SizedLaws.{sized-each}
use Rattle.receiver.proofs.place.mewkoast_begin_on.Goals as goal

pub returns : goal.returns
unfolding fresh_channels
returns c =
    let r = record_in c.args.channels.now c.args.meters.now c.args.gathered.now in
    let whole : sized r ≡ true = sym c.is_record.ensures ∙ c.if-not-is_record.false in
    let lengths = sized-each r whole in
    record {
      started = λ e.
          started_with (record { lit_time = c.args.lit_time; points = c.args.points; lit_points = c.args.lit_points }) c.starting.result _ _ _ _
          c.starting.ensures
          (c.copy_from_slice.ensures.after ∙ c.into-first.ensures)
          (c.fill-2.ensures.after (λ y e. e) ∙ ap (λ (n : ℕ). replicate n 0) lengths.gathered)
          (c.fill.ensures.after (λ y e. e) ∙ ap (λ (n : ℕ). replicate n 0) lengths.channels)
          c.start_reply.ensures;
      refused = λ e. absurd (false≢true (sym e ∙ whole));
    }
