-- What the listing lends to its receiver.
use Rattle.receiver.specs.Slices.{Slices, slices}
use Rattle.listing.specs.declared.host.Host.{Host}

abbrev pub slices_of : Host → Slices
slices_of h = slices h.rows h.levels h.assembly
