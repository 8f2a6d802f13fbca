-- `tags::kept::put_words` meets its contract.
use Rattle.std.proofs.Common.{◌≡◌, suc, ◌+◌, ◌*◌, ◌%◌, ◌/◌, length, get_or, arith, rules}
use Rattle.std.proofs.Math.Seq.{paste-suc, take-length}
use mir.Syntax.{w16}
use mir.Val.{Fits}
use Rattle.tags.specs.Kept.{word_octets}
use Rattle.tags.specs.KeptLaws.{length-word_octets, low-octet, high-octet}
use Rattle.tags.proofs.kept.put_words.Goals as goal

pub loop-i-preserved : goal.loop-i-preserved
loop-i-preserved c =
    let octets = word_octets c.args.words.now in
    let long = length-word_octets c.args.words.now in
    let low = paste-suc c.args.area.now c.args.from octets (c.loop-i.i * 2) 0 (omega (arith, c.requires)) (omega arith) in
    let high = paste-suc c.args.area.now c.args.from octets (suc (c.loop-i.i * 2)) 0 (omega (arith, c.requires)) (omega arith) in
    let next : (c.loop-i.i + 1) * 2 ≡ suc (suc (c.loop-i.i * 2)) = omega arith in
    let place : c.args.from + c.loop-i.i * 2 + 1 ≡ c.args.from + suc (c.loop-i.i * 2) = omega arith in
    let word : Fits w16 (get_or c.args.words.now c.loop-i.i 0) = search rules in
    let octet : get_or c.args.words.now c.loop-i.i 0 / 256 % 256 ≡ get_or c.args.words.now c.loop-i.i 0 / 256 = omega arith in
    let odd : suc (c.loop-i.i * 2) ≡ c.loop-i.i * 2 + 1 = omega arith in
    rw (next, place, c.loop-i.invariant, c.to_le_bytes.ensures, octet, ← low-octet c.args.words.now c.loop-i.i, ← high-octet c.args.words.now c.loop-i.i, low, ← odd) high

pub returns : goal.returns
returns c =
    let octets = word_octets c.args.words.now in
    let end : c.loop-i.i * 2 ≡ length octets = omega (arith, length-word_octets c.args.words.now) in
    rw (end, take-length octets) at c.loop-i.invariant
