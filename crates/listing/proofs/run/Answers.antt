-- `listing::run` meets its contract: nothing waits and nothing is collected at first, and the lines are all written out.
use Rattle.listing.proofs.ProgressLaws.{reader_begins, put_all}
use Rattle.listing.proofs.run.Goals as goal

pub returns : goal.returns
returns g c =
    let listed = c.list-read.ensures.listed in
    let begins = reader_begins g.R.Read.remaining c.new-input.result c.args.from c.new-input.ensures.from c.new-input.ensures.waiting in
    let put = put_all g.W.Write.contents c.new-out.result c.list-read.new.out listed.text c.new-out.ensures.collected listed.put c.list-read.ensures.written in
    record {
      octets = listed.octets;
      text = listed.text;
      listing = listed.listing;
      given = rw c.finish.ensures (rw begins at listed.given);
      put = rw (c.finish-to.ensures.to, c.finish-to.ensures.written) (rw c.new-out.ensures.to at put);
      all = rw begins at listed.all;
    }
