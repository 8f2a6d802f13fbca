-- `receiver::sets::configure` meets its contract: another type is refused by 4 or before, and one of type 0x00 is answered as by itself.
use borrow.Author.Rules.{rules}
use mathlib.Core.Path.{◌≡◌, refl, sym, ◌∙◌}
use Rattle.receiver.specs.Refusal.{refusal_number, number_in}
use Rattle.receiver.proofs.SetLaws.{refusal-first, member_foreign_by, member_by}
use Rattle.receiver.proofs.sets.configure.Goals as goal

pub returns-in_err-check_front : goal.returns-in_err-check_front
returns-in_err-check_front c =
    let number : number_in c.from_residual.result ≡ refusal_number c.in_err-check_front.field-0.0 = search rules in
    member_foreign_by _ c.requires _ (rw c.octet.ensures at c.if-octet.true) _ _ c.in_err-check_front.ensures (number ∙ sym (refusal-first _ 4))

pub returns-then-octet : goal.returns-then-octet
returns-then-octet c = member_foreign_by _ c.requires _ (rw c.octet.ensures at c.if-octet.true) _ _ c.in_ok-check_front.ensures refl

pub returns-in_err-answer : goal.returns-in_err-answer
returns-in_err-answer c =
    let number : number_in c.from_residual-in_err-answer.result ≡ refusal_number c.in_err-answer.field-0.0 = search rules in
    member_by _ _ _ _ _ _ _ c.answer.result c.requires (sym c.octet.ensures ∙ c.if-octet.false) c.answer.ensures.answered c.answer.ensures.accepted _ (number ∙ rw c.in_err-answer.was)

pub returns : goal.returns
returns c =
    member_by _ _ _ _ _ _ _ c.answer.result c.requires (sym c.octet.ensures ∙ c.if-octet.false) c.answer.ensures.answered c.answer.ensures.accepted _ (rw c.in_ok-answer.was)
