-- `receiver::work::judge` meets its contract: each way out is the number of the first check that refuses.
use Rattle.std.proofs.Common.{rules, ◌≡◌, sym, ap}
use mathlib.Core.Path.{◌∙◌}
use Rattle.receiver.specs.Governing.{Configuration}
use Rattle.receiver.specs.Refusal.{number_in, refusal_number}
use Rattle.receiver.specs.Kinds.{mode_number}
use Rattle.receiver.specs.Views.{meaning}
use Rattle.receiver.specs.declared.governing.Governing as governing
use Rattle.receiver.specs.declared.modes.Mode.TheVariants.{Void}
use Rattle.receiver.proofs.NumberLaws.{first-refused}
use Rattle.receiver.proofs.WorkLaws.{first-passed, void-nothing, meaning-mode, meaning-other, meaning-match, own-closed, own-void, own-open}
use Rattle.receiver.proofs.work.judge.Goals as goal

pub returns-in_default-clause-number : goal.returns-in_default-clause-number
returns-in_default-clause-number c m a r read header route channels gathered governed =
    sym (own-closed m a r c.args.governing.now c.args.assembly header route governed c.in_default.is)

pub returns-then-eq-clause-number : goal.returns-then-eq-clause-number
returns-then-eq-clause-number c m a r read header route channels gathered governed =
    let void : c.in-Some.mode ≡ Void = search rules in
    sym (own-void m a r c.args.governing.now c.args.assembly header route governed c.in-Some.mode c.in-Some.is (ap mode_number void))

pub returns-then-eq-clause-work : goal.returns-then-eq-clause-work
returns-then-eq-clause-work c =
    let void : c.in-Some.mode ≡ Void = search rules in
    void-nothing _ _ (meaning-mode c.args.governing.now c.in-Some.mode c.in-Some.is ∙ ap mode_number void)

pub returns-in_err-check_sequel-clause-number : goal.returns-in_err-check_sequel-clause-number
returns-in_err-check_sequel-clause-number c m a r read header route channels gathered governed =
    let g : governing.Governing = c.args.governing.now in
    let mode = meaning-mode g _ c.in-Some.is in
    let other = meaning-other g _ c.in-Some.is (search rules) in
    first-refused _ c.in_err-check_sequel.field-0.0 _ _ (search rules) (c.in_err-check_sequel.ensures m a (meaning g) read other)
    ∙ sym (own-open m a r g c.args.assembly header route governed _ c.in-Some.is c.args.message.now c.args.gathered read gathered other)

pub returns-in_err-work-clause-number : goal.returns-in_err-work-clause-number
returns-in_err-work-clause-number c m a r read header route channels gathered governed =
    let g : governing.Governing = c.args.governing.now in
    let mode = meaning-mode g _ c.in-Some.is in
    let other = meaning-other g _ c.in-Some.is (search rules) in
    first-passed _ _ _ (c.in_ok-check_sequel.ensures m a (meaning g) read other)
    (first-refused _ c.in_err-work.field-0.0 _ _ (search rules) (c.in_err-work.ensures.number (meaning g) c.args.message.now.chunk.section.now mode))
    ∙ sym (own-open m a r g c.args.assembly header route governed _ c.in-Some.is c.args.message.now c.args.gathered read gathered other)

pub returns-in_err-check_data-clause-number : goal.returns-in_err-check_data-clause-number
returns-in_err-check_data-clause-number c m a r read header route channels gathered governed =
    let g : governing.Governing = c.args.governing.now in
    let mode = meaning-mode g _ c.in-Some.is in
    let other = meaning-other g _ c.in-Some.is (search rules) in
    first-passed _ _ _ (c.in_ok-check_sequel.ensures m a (meaning g) read other)
    (first-passed _ _ _ (c.in_ok-work.ensures.number (meaning g) c.args.message.now.chunk.section.now mode)
    (first-refused _ c.in_err-check_data.field-0.0 _ _ (search rules) (c.in_err-check_data.ensures)))
    ∙ sym (own-open m a r g c.args.assembly header route governed _ c.in-Some.is c.args.message.now c.args.gathered read gathered other)

pub returns-in_err-check_match_bits-clause-number : goal.returns-in_err-check_match_bits-clause-number
returns-in_err-check_match_bits-clause-number c m a r read header route channels gathered governed =
    let g : governing.Governing = c.args.governing.now in
    let mode = meaning-mode g _ c.in-Some.is in
    let other = meaning-other g _ c.in-Some.is (search rules) in
    first-passed _ _ _ (c.in_ok-check_sequel.ensures m a (meaning g) read other)
    (first-passed _ _ _ (c.in_ok-work.ensures.number (meaning g) c.args.message.now.chunk.section.now mode)
    (first-passed _ _ _ (c.in_ok-check_data.ensures)
    (first-refused _ c.in_err-check_match_bits.field-0.0 _ _ (search rules) (c.in_err-check_match_bits.ensures (meaning g) (meaning-match g _ c.in-Some.is)))))
    ∙ sym (own-open m a r g c.args.assembly header route governed _ c.in-Some.is c.args.message.now c.args.gathered read gathered other)

pub returns-in_err-check_holder-clause-number : goal.returns-in_err-check_holder-clause-number
returns-in_err-check_holder-clause-number c m a r read header route channels gathered governed =
    let g : governing.Governing = c.args.governing.now in
    let mode = meaning-mode g _ c.in-Some.is in
    let other = meaning-other g _ c.in-Some.is (search rules) in
    first-passed _ _ _ (c.in_ok-check_sequel.ensures m a (meaning g) read other)
    (first-passed _ _ _ (c.in_ok-work.ensures.number (meaning g) c.args.message.now.chunk.section.now mode)
    (first-passed _ _ _ (c.in_ok-check_data.ensures)
    (first-passed _ _ _ (c.in_ok-check_match_bits.ensures (meaning g) (meaning-match g _ c.in-Some.is))
    (first-refused _ c.in_err-check_holder.field-0.0 _ _ (search rules) (c.in_err-check_holder.ensures m r read channels (sym (ap (λ (k : Configuration). k.mode) governed) ∙ mode))))))
    ∙ sym (own-open m a r g c.args.assembly header route governed _ c.in-Some.is c.args.message.now c.args.gathered read gathered other)

pub returns-in_err-check_room-clause-number : goal.returns-in_err-check_room-clause-number
returns-in_err-check_room-clause-number c m a r read header route channels gathered governed =
    let g : governing.Governing = c.args.governing.now in
    let mode = meaning-mode g _ c.in-Some.is in
    let other = meaning-other g _ c.in-Some.is (search rules) in
    let refused : number_in c.from_residual-in_err-check_room.result ≡ refusal_number c.in_err-check_room.field-0.0 = search rules in
    first-passed _ _ _ (c.in_ok-check_sequel.ensures m a (meaning g) read other)
    (first-passed _ _ _ (c.in_ok-work.ensures.number (meaning g) c.args.message.now.chunk.section.now mode)
    (first-passed _ _ _ (c.in_ok-check_data.ensures)
    (first-passed _ _ _ (c.in_ok-check_match_bits.ensures (meaning g) (meaning-match g _ c.in-Some.is))
    (first-passed _ _ _ (c.in_ok-check_holder.ensures m r read channels (sym (ap (λ (k : Configuration). k.mode) governed) ∙ mode))
    (refused ∙ c.in_err-check_room.ensures.number m a (meaning g) read (c.in_ok-work.ensures.work (meaning g) mode))))))
    ∙ sym (own-open m a r g c.args.assembly header route governed _ c.in-Some.is c.args.message.now c.args.gathered read gathered other)

pub returns-clause-number : goal.returns-clause-number
returns-clause-number c m a r read header route channels gathered governed =
    let g : governing.Governing = c.args.governing.now in
    let mode = meaning-mode g _ c.in-Some.is in
    let other = meaning-other g _ c.in-Some.is (search rules) in
    first-passed _ _ _ (c.in_ok-check_sequel.ensures m a (meaning g) read other)
    (first-passed _ _ _ (c.in_ok-work.ensures.number (meaning g) c.args.message.now.chunk.section.now mode)
    (first-passed _ _ _ (c.in_ok-check_data.ensures)
    (first-passed _ _ _ (c.in_ok-check_match_bits.ensures (meaning g) (meaning-match g _ c.in-Some.is))
    (first-passed _ _ _ (c.in_ok-check_holder.ensures m r read channels (sym (ap (λ (k : Configuration). k.mode) governed) ∙ mode))
    (c.in_ok-check_room.ensures.number m a (meaning g) read (c.in_ok-work.ensures.work (meaning g) mode))))))
    ∙ sym (own-open m a r g c.args.assembly header route governed _ c.in-Some.is c.args.message.now c.args.gathered read gathered other)

pub returns-clause-work : goal.returns-clause-work
returns-clause-work c = c.in_ok-work.ensures.work (meaning c.args.governing.now) (meaning-mode c.args.governing.now c.in-Some.mode c.in-Some.is)
