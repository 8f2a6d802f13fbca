-- `receiver::draw::write_levels` meets its contract: each way out is the first of checks 21 and 22 that refuses, or the writing.
use Rattle.std.proofs.Common.{rules, ◌≡◌, refl, sym, length, Err}
use Rattle.tags.specs.Dimmer.{Mapping}
use Rattle.tags.specs.Levels.{levels_counted, levels_drawn}
use Rattle.tags.specs.Kept.{mapping_in}
use Rattle.receiver.specs.Slices.{slices, lengths}
use Rattle.receiver.specs.Chunk.{Chunk, chunk, body}
use Rattle.receiver.specs.Checks.{content_number, whole_number}
use Rattle.receiver.specs.Kinds.{type_number}
use Rattle.receiver.specs.Views.{meaning, config_of}
use Rattle.receiver.specs.declared.governing.Governing as governing
use Rattle.receiver.proofs.ChunkLaws.{not-drawing, drawn-levels}
use Rattle.receiver.proofs.MeterLaws.{meter-idle}
use Rattle.receiver.proofs.NumberLaws.{first-refused}
use Rattle.receiver.proofs.WorkLaws.{first-passed}
use Rattle.receiver.proofs.DrawLaws.{concluded-refused, concluded-done, content-dimming}
use Rattle.receiver.proofs.draw.write_levels.Goals as goal

pub returns-in_err-check_levels : goal.returns-in_err-check_levels
unfolding whole_number
returns-in_err-check_levels c rows a meters dims within =
    let t = type_number c.args.chunk.now.chunk_type in
    let g : governing.Governing = c.args.governing.now in
    let refused : c.from_residual.result ≡ Err c.in_err-check_levels.field-0.0 = search rules in
    concluded-refused (chunk t c.args.chunk.now.section.now) (meaning g) meters (slices rows c.args.levels.now a) _ _ refused
    (rw (content-dimming t c.args.chunk.now.section.now (config_of g) g.area (lengths (slices rows c.args.levels.now a)) dims, ← c.dimmer_in-dimmer.ensures, ← c.body-octets.ensures.value)
    (first-refused _ c.in_err-check_levels.field-0.0 _ _ refl c.in_err-check_levels.ensures))

pub returns : goal.returns
unfolding whole_number
returns c rows a meters dims within =
    let t = type_number c.args.chunk.now.chunk_type in
    let g : governing.Governing = c.args.governing.now in
    let this : Chunk = chunk t c.args.chunk.now.section.now in
    let mapping : Mapping = mapping_in g.size g.area in
    let written : c.write-written.result ≡ levels_counted mapping (length (body this)) = rw (← c.dimmer_in-dimmer.ensures, ← c.body-octets.ensures.value) c.write-written.ensures.value in
    let passed : 0 ≡ content_number this (meaning g) (lengths (slices rows c.args.levels.now a)) =
    rw (content-dimming t c.args.chunk.now.section.now (config_of g) g.area (lengths (slices rows c.args.levels.now a)) dims, ← c.dimmer_in-dimmer.ensures, ← c.body-octets.ensures.value)
    c.in_ok-check_levels.ensures in
    let after : c.write-written.new.levels ≡ levels_drawn c.mode_number.result mapping (body this) c.args.levels.now = rw (← c.dimmer_in-dimmer.ensures, ← c.body-octets.ensures.value) c.write-written.ensures.levels_after in
    concluded-done this (meaning g) meters (slices rows c.args.levels.now a) _ (slices rows c.write-written.new.levels a)
    (first-passed _ _ _ passed (sym (meter-idle this (meaning g) meters (not-drawing t (meaning g) dims) within)))
    (drawn-levels t c.args.chunk.now.section.now (config_of g) g.area (slices rows c.args.levels.now a) c.mode_number.result c.write-written.result c.write-written.new.levels dims (sym passed) c.mode_number.ensures written after)
