-- `lines::reply_line` meets its contract: the channel's digits are the line's word.
use mathlib.Core.Path.{◌≡◌}
use lib.ListN.{take}
use borrow.Author.Rules.{rules}
use Rattle.lines.specs.Text.{decimal}
use Rattle.lines.proofs.DecimalLaws.{decimal_is}
use Rattle.lines.proofs.reply_line.Goals as goal

pub returns : goal.returns
returns c =
    let text : take c.decimal-k.result c.decimal-k.new.out ≡ decimal c.from-5.result = decimal_is (search rules) c.decimal-k.ensures.len c.decimal-k.ensures.digits in
    rw (text, c.from.ensures, c.from-2.ensures, c.from-3.ensures, c.from-4.ensures, c.from-5.ensures) at c.line.ensures
