-- `lines::reading::read_message` meets its contract: the size stays as the first two octets claim it.
use Rattle.std.proofs.Common.{◌<◌, ◌≡◌, rules, arith, ⊎_elim, ◌∙◌}
use Rattle.receiver.specs.Stream.{entry_of}
use Rattle.receiver.specs.Message.{total_size}
use Rattle.lines.proofs.ReadingLaws.{on_err, few, short, claims, size_kept, all_there, longer}
use Rattle.receiver.specs.StreamLaws.{entry_more}
use Rattle.lines.proofs.reading.read_message.Goals as goal

pub returns-in_err-read_up_to-clause-err : goal.returns-in_err-read_up_to-clause-err
returns-in_err-read_up_to-clause-err g c = on_err c.from_residual.result (few c.read_up_to.new.octets.items (search rules))

pub returns-in_default-clause-next : goal.returns-in_default-clause-next
returns-in_default-clause-next g c = few c.read_up_to.new.octets.items (search rules)

pub returns-in_default-clause-end : goal.returns-in_default-clause-end
returns-in_default-clause-end g c = λ end.
    ⊎_elim (λ enough. absurd (omega arith)) (λ h. all_there (g.R.Read.remaining c.args.input.now) c.clear.new.self.items c.read_up_to.new.octets.items c.clear.ensures.items h) c.in_ok-read_up_to.ensures.ok

pub returns-in_err-read_up_to-2-clause-err : goal.returns-in_err-read_up_to-2-clause-err
returns-in_err-read_up_to-2-clause-err g c =
    on_err c.from_residual-in_err-read_up_to-2.result (short c.read_up_to-2.new.octets.items
    (let size : c.in-Some.size ≡ total_size c.read_up_to.new.octets.items = rw c.as_slice.ensures.value at c.in-Some.ensures.1 in
    let kept : total_size c.read_up_to-2.new.octets.items ≡ total_size c.read_up_to.new.octets.items = size_kept c.read_up_to-2.ensures.grown (rw c.as_slice.ensures.value at c.in-Some.ensures.0) in
    rw (kept, ← size) (omega (arith, c.read_up_to-2.new.octets.ok.0, c.in_err-read_up_to-2.ensures.err))))

pub returns-then-entry-gt0-clause-next : goal.returns-then-entry-gt0-clause-next
returns-then-entry-gt0-clause-next g c =
    let size : c.in-Some.size ≡ total_size c.read_up_to.new.octets.items = rw c.as_slice.ensures.value at c.in-Some.ensures.1 in
    let kept : total_size c.read_up_to-2.new.octets.items ≡ total_size c.read_up_to.new.octets.items = size_kept c.read_up_to-2.ensures.grown (rw c.as_slice.ensures.value at c.in-Some.ensures.0) in
    let some : 0 < entry_of c.read_up_to-2.new.octets.items = search rules in
    let is = claims c.read_up_to-2.new.octets.items some in
    (some, omega (arith, is, kept, size, c.read_up_to.new.octets.ok.0, c.read_up_to-2.new.octets.ok.0, c.read_up_to.ensures.bound, c.read_up_to-2.ensures.bound, c.in-Some.ensures))

pub returns-else-len-size-clause-next : goal.returns-else-len-size-clause-next
returns-else-len-size-clause-next g c = λ more.
    let size : c.in-Some.size ≡ total_size c.read_up_to.new.octets.items = rw c.as_slice.ensures.value at c.in-Some.ensures.1 in
    let kept : total_size c.read_up_to-2.new.octets.items ≡ total_size c.read_up_to.new.octets.items = size_kept c.read_up_to-2.ensures.grown (rw c.as_slice.ensures.value at c.in-Some.ensures.0) in
    let none : entry_of c.read_up_to-2.new.octets.items ≡ 0 = search rules in
    entry_more c.read_up_to-2.new.octets.items more (omega (arith, c.in-Some.ensures.0, c.as_slice.ensures.len, c.read_up_to.new.octets.ok.0, c.read_up_to-2.new.octets.ok.0, longer c.read_up_to-2.ensures.grown)) (rw (kept, ← size) (omega (arith, c.read_up_to-2.new.octets.ok.0))) ∙ none
