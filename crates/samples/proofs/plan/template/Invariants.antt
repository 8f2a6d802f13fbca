use Rattle.samples.proofs.TemplateLaws.{Waved}
use Rattle.samples.proofs.plan.template.Given as goal

-- `template`: the wavelengths are filled in from the front.
abbrev pub invariant-loop-k : goal.invariant-loop-k
invariant-loop-k l = Waved l.shutter l.waves l.row l.k
