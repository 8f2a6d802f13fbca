-- `Input::read_more`: what was read waits behind what waited.
use Rattle.std.proofs.Common.{rules, arith, sym, ◌≡◌, ◌<◌, ◌≤◌, ◌-◌, [], length, take, ltb-true, ltb-false, append-nil, ◌∙◌}
use Rattle.listing.proofs.WaitingLaws.{waits_behind, waits_still, ends_at, still, gained, none_more}
use Rattle.listing.proofs.ProgressLaws.{failed_with}
use Rattle.listing.proofs.input.Input.read_more.Goals as goal

pub returns-in_err-more : goal.returns-in_err-more
returns-in_err-more g c =
    let i = c.to_front.new.self in
    let same = waits_still i.octets c.read.new.buf _ i.start i.end _ c.to_front.ensures.start (omega (arith, i.within, i.sized)) c.to_front.ensures.waiting in
    record {
      more = [];
      waiting = same ∙ sym (append-nil _);
      keeps = still _ _ _ _ same (rw c.to_front.ensures.from at c.in_err-more.ensures.bytes);
      some = failed_with c.from_residual.result _ _ c.from_residual.ensures.0 same;
    }

pub returns : goal.returns
returns g c =
    let i = c.to_front.new.self in
    let fits : i.end ≤ length i.octets = omega (arith, i.within, i.sized) in
    let end = ends_at i.octets i.start i.end _ c.to_front.ensures.start fits c.to_front.ensures.waiting in
    record {
      more = take c.in_ok-more.more c.read.new.buf;
      waiting = waits_behind i.octets c.read.new.buf _ i.start i.end c.in_ok-more.more _ c.to_front.ensures.start fits c.in_ok-more.ensures.bound.0 c.to_front.ensures.waiting;
      keeps = gained _ _ _ _ _ (waits_behind i.octets c.read.new.buf _ i.start i.end c.in_ok-more.more _ c.to_front.ensures.start fits c.in_ok-more.ensures.bound.0 c.to_front.ensures.waiting) (rw c.to_front.ensures.from at c.in_ok-more.ensures.bytes.0);
      some = (
        λ some.
            let more : 0 < c.in_ok-more.more = ltb-true 0 c.in_ok-more.more some in
            rw (← c.in_ok-more.ensures.bound.1) more,
        λ none.
            let few : c.in_ok-more.more ≤ 0 = ltb-false 0 c.in_ok-more.more none in
            let zero : c.in_ok-more.more ≡ 0 = omega (arith, few) in
            let lent : length c.read.new.buf ≡ 131072 - c.to_front.new.self.end = search rules in (
              none_more _ c.read.new.buf _ c.in_ok-more.more (waits_behind i.octets c.read.new.buf _ i.start i.end c.in_ok-more.more _ c.to_front.ensures.start fits c.in_ok-more.ensures.bound.0 c.to_front.ensures.waiting) zero,
              c.in_ok-more.ensures.bytes.1 zero (omega (arith, lent, end, c.requires)),
            ),
      );
    }
