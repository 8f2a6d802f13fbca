-- `receiver::work::carry_out` meets its contract: what is drawn or written is the message's own chunk, or the frame that it completes.
use Rattle.std.proofs.Common.{rules, ◌≡◌, true, false}
use mathlib.Core.Bool.{◌&&◌}
use Rattle.receiver.specs.Slices.{slices}
use Rattle.receiver.specs.Chunk.{is_fragment}
use Rattle.receiver.specs.Contract.{sums_in}
use Rattle.receiver.specs.Kinds.{type_number}
use Rattle.receiver.specs.Views.{meaning, config_of}
use Rattle.receiver.specs.declared.governing.Governing as governing
use Rattle.receiver.proofs.WorkLaws.{end-read, whole-own, whole-frame}
use Rattle.receiver.proofs.DrawLaws.{concluded-idle}
use Rattle.receiver.proofs.work.carry_out.Goals as goal

pub returns-in-Nothing-clause-concluded : goal.returns-in-Nothing-clause-concluded
returns-in-Nothing-clause-concluded c m a read =
    let g : governing.Governing = c.args.governing.now in
    let own : (c.args.message.now.last && is_fragment (type_number c.args.message.now.chunk.chunk_type) (meaning g)) ≡ false = search rules in
    rw (whole-own m c.args.message.now read (meaning g) _ own)
    (concluded-idle (type_number c.args.message.now.chunk.chunk_type) c.args.message.now.chunk.section.now (config_of g) g.area (sums_in c.args.meters) (slices c.args.rows.now c.args.levels.now a) (search rules) (search rules) c.requires.within)

pub returns-then-not-message-clause-concluded : goal.returns-then-not-message-clause-concluded
returns-then-not-message-clause-concluded c m a read =
    let g : governing.Governing = c.args.governing.now in
    let own : (c.args.message.now.last && is_fragment (type_number c.args.message.now.chunk.chunk_type) (meaning g)) ≡ false = search rules in
    rw (whole-own m c.args.message.now read (meaning g) _ own)
    (concluded-idle (type_number c.args.message.now.chunk.chunk_type) c.args.message.now.chunk.section.now (config_of g) g.area (sums_in c.args.meters) (slices c.args.rows.now c.args.levels.now a) (search rules) (search rules) c.requires.within)

pub returns-in-Draw-clause-concluded : goal.returns-in-Draw-clause-concluded
returns-in-Draw-clause-concluded c m a read =
    let g : governing.Governing = c.args.governing.now in
    let own : (c.args.message.now.last && is_fragment (type_number c.args.message.now.chunk.chunk_type) (meaning g)) ≡ false = search rules in
    rw (whole-own m c.args.message.now read (meaning g) _ own) (c.draw_points.ensures c.args.levels.now a)

pub returns-in-Dim-clause-concluded : goal.returns-in-Dim-clause-concluded
returns-in-Dim-clause-concluded c m a read =
    let g : governing.Governing = c.args.governing.now in
    let own : (c.args.message.now.last && is_fragment (type_number c.args.message.now.chunk.chunk_type) (meaning g)) ≡ false = search rules in
    rw (whole-own m c.args.message.now read (meaning g) _ own)
    (c.write_levels.ensures c.args.rows.now a (sums_in c.args.meters) (search rules) c.requires.within)

pub returns-else-not-message-clause-concluded : goal.returns-else-not-message-clause-concluded
returns-else-not-message-clause-concluded c m a read =
    let g : governing.Governing = c.args.governing.now in
    let last : c.args.message.now.last ≡ true = search rules in
    let fragment : is_fragment (type_number c.args.message.now.chunk.chunk_type) (meaning g) ≡ true = search rules in
    rw (whole-frame m c.args.message.now read (meaning g) _ last fragment, end-read m c.args.message.now read c.args.gathered c.args.assembly.now, ← c.place-place.ensures)
    (c.draw_points-in-Gather.ensures c.args.levels.now a)
