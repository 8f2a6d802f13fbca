-- `lines::text::line` meets its contract: the word, the numbers and the line end are written one after the other, after what lies before
-- the place.
use Prim.Native.Nat.{◌+◌, ◌≤◌}
use native.Mathlib.Omega.{arith}
use mathlib.Core.List.{[], ◌∷◌, ◌++◌}
use lib.ListN.{take, length-take, length-drop}
use Rattle.lines.specs.Text.{spaced, line_of}
use Rattle.lines.proofs.FrontLaws.{front_before, front_more, front_joined, added, spaced-short}
use Rattle.lines.proofs.text.line.Goals as goal

pub copy-requires-2 : goal.copy-requires-2
copy-requires-2 c =
    let short : c.args.at + c.copy.result + c.numbers.result ≤ c.args.at + 104 = omega (arith, c.copy.ensures.count, c.numbers.ensures.count, spaced-short c.args.ns.now, c.requires) in
    simp (length-take, length-drop)
    (omega (arith, short, c.out-2-1.given.1, c.out-1.given.1, c.requires))

pub returns : goal.returns
unfolding line_of
returns c =
    let short : c.args.at + c.copy.result + c.numbers.result ≤ c.args.at + 104 = omega (arith, c.copy.ensures.count, c.numbers.ensures.count, spaced-short c.args.ns.now, c.requires) in
    let before = take c.args.at c.args.out.now in
    added (omega (arith, c.requires))
    (omega (arith, short, c.copy-2.ensures.count, c.out-3-1.given.1, c.out-2-1.given.1, c.out-1.given.1, c.requires))
    (front_joined before c.args.word.now (spaced c.args.ns.now) (10 ∷ [])
    (front_more (before ++ c.args.word.now ++ spaced c.args.ns.now) (10 ∷ [])
    (front_more (before ++ c.args.word.now) (spaced c.args.ns.now)
    (front_more before c.args.word.now (front_before c.args.at c.args.out.now (omega (arith, c.requires))) c.copy.ensures)
    c.numbers.ensures)
    c.copy-2.ensures))
