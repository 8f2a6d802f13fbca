-- `dictionary::read`: the loop begins before all words and ends behind the last, or behind one that is refused.
use Rattle.std.proofs.Common.{rules, sym}
use Rattle.std.proofs.lemmas.Result.{err_from_is_err_and}
use Rattle.tags.proofs.DictionaryWalkLaws.{onward-all, ends, end_refused, refused_at, last_word}
use Rattle.tags.proofs.dictionary.read.Goals as goal

pub loop-words-init : goal.loop-words-init
loop-words-init c = rw (c.new-walk.ensures, c.as_chunks.ensures.front) (onward-all c.args.mode c.args.tags.now)

pub returns-in_err-step : goal.returns-in_err-step
returns-in_err-step c =
    let p = err_from_is_err_and c.from_residual.result c.from_residual.ensures.1 in
    rw (p.1, p.2)
    (refused_at c.args.mode c.args.tags.now _ c.loop-words.words.now _ _ _ c.in-len1-up.len_at_least (search rules) c.from_be_bytes.ensures c.loop-words.invariant c.in_err-step.ensures)

pub returns-in_err-check_end : goal.returns-in_err-check_end
returns-in_err-check_end c =
    let p = err_from_is_err_and c.from_residual-in_err-check_end.result c.from_residual-in_err-check_end.ensures.1 in
    rw (p.1, p.2)
    (end_refused c.args.mode c.args.tags.now _ (last_word _ _ c.loop-words.words.now _ c.in_default.len_below c.loop-words.invariant) _ c.in_err-check_end.ensures)

pub returns : goal.returns
returns c =
    rw c.into_layout.ensures
    (ends c.args.mode c.args.tags.now _ (last_word _ _ c.loop-words.words.now _ c.in_default.len_below c.loop-words.invariant)
    (sym c.in_ok-check_end.ensures))
