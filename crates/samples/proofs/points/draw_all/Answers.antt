-- `draw_all`: the plan is that of the roles and the wavelengths.
use mathlib.Core.Path.{refl}
use Rattle.samples.proofs.points.draw_all.Goals as goal

pub returns-clause-rows : goal.returns-clause-rows
returns-clause-rows c =
    c.draw_rows.ensures.rows (record { roles = c.args.roles.now; waves = c.args.waves.now; sized = refl; planned = c.new.ensures })

pub returns-clause-lit : goal.returns-clause-lit
returns-clause-lit c =
    c.draw_rows.ensures.lit (record { roles = c.args.roles.now; waves = c.args.waves.now; sized = refl; planned = c.new.ensures })
