-- `listing::list` meets its contract: the lines of the replies, of what is cut and of the meters are the listing.
use Rattle.std.proofs.Common.{◌++◌, refl}
use Rattle.lines.specs.Lines.{cut_line, meters_line}
use Rattle.lines.specs.Listing.{ListingOf}
use Rattle.listing.proofs.ProgressLaws.{put_more, put_out}
use Rattle.listing.proofs.list.Goals as goal

pub returns-clause-listed : goal.returns-clause-listed
returns-clause-listed g c =
    let contents = g.W.Write.contents in
    let read = c.list_input-cut.ensures in
    let cut = cut_line c.list_input-cut.result.0 in
    let meters = meters_line c.readings.result in
    let text = read.lines ++ cut ++ meters in
    let with_cut = put_more contents c.args.out.now c.list_input-cut.new.out c.put.new.self read.lines cut read.put c.put.ensures.put in
    let with_meters = put_more contents c.args.out.now c.put.new.self c.put-2.new.self (read.lines ++ cut) meters with_cut c.put-2.ensures.put in
    let listing : ListingOf read.octets text = record {
      messages = read.messages;
      receiver = c.list_input-cut.new.host.receiver;
      assembly = read.assembly;
      rest = read.rest;
      lines = read.lines;
      ran = read.ran;
      whole = read.whole;
      is = rw (read.counted, c.readings.ensures) refl;
    } in
    record {
      octets = read.octets;
      text = text;
      listing = listing;
      given = read.given;
      put = put_out contents c.args.out.now c.put-2.new.self c.flush.new.self text with_meters c.flush.ensures.put;
      all = read.all;
    }
