-- `draw`: the steps, each over the row that the one before it left.
use mathlib.Core.Path.{◌≡◌, sym, ◌∙◌}
use lib.ListN.{length}
use borrow.Author.Rules.{rules}
use Rattle.samples.specs.Limits.{row_size}
use Rattle.samples.proofs.RowLaws.{drawn}
use Rattle.samples.proofs.LitLaws.{lit-drawn}
use Rattle.samples.proofs.plan.Plan.draw.Goals as goal

pub returns : goal.returns
returns c d =
    let plan = c.args.self.now in
    let sample = c.args.sample.now in
    let coloured : length c.put_colours-joined.new.row ≡ row_size = search rules in
    let sized : length c.put_scaled.new.row ≡ row_size = search rules in (
      drawn plan d.roles d.waves sample d.planned (sym d.sized) _ c.hint-hint.ensures c.put_colours-joined.new.row c.put_singles.new.row c.put_signed.new.row c.put_scaled.new.row
          (rw (c.copy_template.ensures ∙ c.requires.1) at c.put_colours-joined.ensures.stored) coloured c.put_singles.ensures c.put_signed.ensures c.put_scaled.ensures.stored sized,
      lit-drawn plan d.roles d.waves sample d.planned (sym d.sized) _ c.hint-hint.ensures _ c.put_colours-joined.ensures.dark,
    )
