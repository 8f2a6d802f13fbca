-- `receiver::governing::read_dimmer` meets its contract: what dimmer tags say is within the sizes of an area.
use Prim.Native.Nat.{ℕ, ◌<◌}
use mathlib.Core.Path.{◌≡◌, ap}
use mathlib.Core.Bool.{true}
use mathlib.Core.List.{List}
use lib.ListN.{get_or}
use Rattle.std.proofs.Common.{Result, Ok, Err, IfOk}
use Rattle.tags.specs.Layout.{dimmer_mapped}
use Rattle.tags.specs.Kept.{sizes_fit}
use Rattle.tags.specs.KeptLaws.{dimmer_sizes}
use Rattle.tags.specs.DimmerView.{mapped_in}
use Rattle.tags.specs.declared.Dimmer.{Dimmer}
use Rattle.tags.specs.declared.Mapped.{Mapped}
use Rattle.tags.specs.declared.refusal.Refusal.{Refusal}
use Rattle.receiver.proofs.governing.read_dimmer.Goals as goal

sizes : (r : Result Dimmer Refusal) (tags : List ℕ) → ((k : ℕ) → get_or tags k 0 < 256) → mapped_in r ≡ dimmer_mapped tags
    → IfOk r (λ d. sizes_fit d.count 0 ≡ true)
sizes (Ok d) tags octets e = rw (ap (λ (m : Mapped). m.dimmer) e) (dimmer_sizes tags octets)
sizes (Err r) tags octets e = tt

pub returns-clause-sizes : goal.returns-clause-sizes
returns-clause-sizes c = sizes c.read.result c.args.tags.now (λ i. (c.type_inv.tags i).fits) c.read.ensures
