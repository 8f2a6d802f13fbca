-- What the archive exports is the tag layer's own call: its contract lets a caller learn what the contract of that call does, neither more nor
-- less. `Learnt` is generated from the `ensures` of either function, so that the clauses, which stand in both, cannot come apart.
use mathlib.Core.Path.{◌≡◌, refl}
use mathlib.Core.List.{List}
use Prim.Native.Nat.{ℕ}
use lib.IntN.{ℤ}
use contract.Lifetimes.{Lfts}
use denote.Ref.{Bor, MutBor}
use Rattle.tags.specs.declared.Layout.{Layout}
use Rattle.tags.specs.declared.Dimmer.{Dimmer}
use Rattle.tags.specs.declared.Checked.{Checked}
use Rattle.tags.specs.declared.Mapped.{Mapped}
use Rattle.tags.proofs.host.mewkoast_layout.Reads as own_layout
use Rattle.tags.proofs.host.mewkoast_dictionary.Reads as own_dictionary
use Rattle.tags.proofs.host.mewkoast_draw.Reads as own_draw
use Rattle.tags.proofs.host.mewkoast_mapping.Reads as own_mapping
use Rattle.tags.proofs.host.mewkoast_levels.Reads as own_levels
use Rattle.tags_c.proofs.mewkoast_layout.Reads as layout_reads
use Rattle.tags_c.proofs.mewkoast_dictionary.Reads as dictionary_reads
use Rattle.tags_c.proofs.mewkoast_draw.Reads as draw_reads
use Rattle.tags_c.proofs.mewkoast_mapping.Reads as mapping_reads
use Rattle.tags_c.proofs.mewkoast_levels.Reads as levels_reads

pub layout-learnt : (κs : Lfts 1) (mode : ℕ) (tags : Bor (List ℕ)) (checked : Checked)
    → layout_reads.Learnt κs (mode, (tags, tt)) checked (mode, (tags, tt)) ≡ own_layout.Learnt κs (mode, (tags, tt)) checked (mode, (tags, tt))
layout-learnt κs mode tags checked = refl

pub dictionary-learnt : (κs : Lfts 1) (mode : ℕ) (tags : Bor (List ℕ)) (number : ℕ)
    → dictionary_reads.Learnt κs (mode, (tags, tt)) number (mode, (tags, tt)) ≡ own_dictionary.Learnt κs (mode, (tags, tt)) number (mode, (tags, tt))
dictionary-learnt κs mode tags number = refl

pub draw-learnt : (κs : Lfts 2) (layout : Layout) (octets : Bor (List ℕ)) (rows left : MutBor (List ℤ)) (lit : ℕ)
    → draw_reads.Learnt κs (layout, (octets, (rows, tt))) lit (layout, (octets, (left, tt)))
    ≡ own_draw.Learnt κs (layout, (octets, (rows, tt))) lit (layout, (octets, (left, tt)))
draw-learnt κs layout octets rows left lit = refl

pub mapping-learnt : (κs : Lfts 1) (tags : Bor (List ℕ)) (mapped : Mapped)
    → mapping_reads.Learnt κs (tags, tt) mapped (tags, tt) ≡ own_mapping.Learnt κs (tags, tt) mapped (tags, tt)
mapping-learnt κs tags mapped = refl

pub levels-learnt : (κs : Lfts 2) (dimmer : Dimmer) (mode : ℕ) (octets : Bor (List ℕ)) (levels left : MutBor (List ℕ)) (written : ℕ)
    → levels_reads.Learnt κs (dimmer, (mode, (octets, (levels, tt)))) written (dimmer, (mode, (octets, (left, tt))))
    ≡ own_levels.Learnt κs (dimmer, (mode, (octets, (levels, tt)))) written (dimmer, (mode, (octets, (left, tt))))
levels-learnt κs dimmer mode octets levels left written = refl
