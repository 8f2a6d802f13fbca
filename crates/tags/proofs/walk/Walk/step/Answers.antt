-- `Walk::step`: each way out is a law of one word.
use Rattle.std.proofs.Common.{refl, arith}
use Rattle.std.proofs.lemmas.Result.{err_from_is_err_and}
use Rattle.tags.proofs.DictionaryWalkLaws.{step-skipped, step-unread, step-barred, step-misplaced, step-repeated, step-passed}
use Rattle.tags.proofs.walk.Walk.step.Goals as goal

pub returns-then-self-gt0 : goal.returns-then-self-gt0
returns-then-self-gt0 c = step-skipped _ _ _ _ refl c.if-self-gt0.true

pub returns-in_err-tag : goal.returns-in_err-tag
returns-in_err-tag c =
    let p = err_from_is_err_and c.from_residual.result c.from_residual.ensures.1 in
    rw (p.1, p.2) (step-unread _ _ _ _ refl (omega arith) c.in_err-tag.field-0.0 c.in_err-tag.ensures)

pub returns-then-is_barred_in : goal.returns-then-is_barred_in
returns-then-is_barred_in c = step-barred _ c.args.left _ _ refl (omega arith) c.in_ok-tag.tag c.in_ok-tag.ensures c.if-is_barred_in.ensures

pub returns-then-is_misplaced : goal.returns-then-is_misplaced
returns-then-is_misplaced c =
    step-misplaced _ _ _ _ refl (omega arith) c.in_ok-tag.tag c.in_ok-tag.ensures c.if-is_barred_in.ensures c.if-is_misplaced.ensures

pub returns-then-is_repeated : goal.returns-then-is_repeated
returns-then-is_repeated c =
    step-repeated _ _ _ _ refl (omega arith) c.in_ok-tag.tag c.in_ok-tag.ensures c.if-is_barred_in.ensures c.if-is_misplaced.ensures
    (rw (← c.takes_octet-octet.ensures) c.if-is_repeated.ensures)

pub returns : goal.returns
returns c =
    rw (c.pass.ensures, c.takes_octet-octet.ensures)
    (step-passed _ _ _ _ refl (omega arith) c.in_ok-tag.tag c.in_ok-tag.ensures c.if-is_barred_in.ensures c.if-is_misplaced.ensures
    (rw (← c.takes_octet-octet.ensures) c.if-is_repeated.ensures))
