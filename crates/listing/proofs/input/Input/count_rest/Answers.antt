-- One read more is given and counted.
use Rattle.std.proofs.Common.{List, ℕ, rules, ◌≡◌, ◌++◌, ◌∙◌, ap, length, length-append}
use Rattle.std.specs.Io.KnownBytes.{Consumes}
use Rattle.listing.specs.Waiting.{waiting_in}
use Rattle.lines.specs.Reading.{counted_of}
use Rattle.lines.proofs.ReadingLaws.{consumed}
use Rattle.listing.proofs.ProgressLaws.{count_ends}
use Rattle.listing.proofs.WaitingLaws.{read_of, counted_more}
use Rattle.listing.proofs.input.Input.count_rest.Goals as goal

pub returns-then-counted_all : goal.returns-then-counted_all
returns-then-counted_all g c =
    let rem = g.R.Read.remaining in
    let m = waiting_in c.read_more.new.self in
    let given : Consumes (rem c.loop-came.self.from) (rem c.read_more.new.self.from) m =
    rw c.clear.ensures.from at (read_of (rem c.clear.new.self.from) (rem c.read_more.new.self.from) (waiting_in c.clear.new.self) m c.read_more.ensures.more c.clear.ensures.waiting c.read_more.ensures.waiting c.read_more.ensures.keeps) in
    let count : c.counted-count.result ≡ counted_of c.loop-came.count (length m) = c.counted-count.ensures ∙ ap (λ (l : List ℕ). counted_of c.loop-came.count (length l)) c.waiting.ensures in
    record {
      octets = c.loop-came.invariant.0 ++ m;
      given = consumed (rem c.args.self.now.from) (rem c.loop-came.self.from) (rem c.read_more.new.self.from) c.loop-came.invariant.0 m c.loop-came.invariant.1 given;
      counted = rw length-append (count ∙ counted_more (length (waiting_in c.args.self.now)) c.loop-came.count (length c.loop-came.invariant.0) (length m) c.loop-came.invariant.2);
      all = count_ends (rem c.args.self.now.from) (rem c.loop-came.self.from) (rem c.read_more.new.self.from) c.loop-came.invariant.0 m c.counted-count.result c.in-Ok.came c.loop-came.invariant.1 given
          (λ none. (c.in-Ok.ensures.some.1 none).1) (search rules);
    }

pub loop-came-preserved : goal.loop-came-preserved
loop-came-preserved g c =
    let rem = g.R.Read.remaining in
    let m = waiting_in c.read_more.new.self in
    let given : Consumes (rem c.loop-came.self.from) (rem c.read_more.new.self.from) m =
    rw c.clear.ensures.from at (read_of (rem c.clear.new.self.from) (rem c.read_more.new.self.from) (waiting_in c.clear.new.self) m c.read_more.ensures.more c.clear.ensures.waiting c.read_more.ensures.waiting c.read_more.ensures.keeps) in
    let count : c.counted-count.result ≡ counted_of c.loop-came.count (length m) = c.counted-count.ensures ∙ ap (λ (l : List ℕ). counted_of c.loop-came.count (length l)) c.waiting.ensures in (
      c.loop-came.invariant.0 ++ m,
      consumed (rem c.args.self.now.from) (rem c.loop-came.self.from) (rem c.read_more.new.self.from) c.loop-came.invariant.0 m c.loop-came.invariant.1 given,
      rw length-append (count ∙ counted_more (length (waiting_in c.args.self.now)) c.loop-came.count (length c.loop-came.invariant.0) (length m) c.loop-came.invariant.2),
    )
