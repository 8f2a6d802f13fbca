-- The lines of the listing (document 01, "Calls and layers").
use Rattle.std.specs.Prelude.{ℕ, cond, List, [], ◌∷◌, ◌++◌, eqb, codes}
use Rattle.lines.specs.Text.{decimal, line_of}
use Rattle.receiver.specs.declared.Reply.{Reply}
use Rattle.receiver.specs.declared.Readings.{Readings}
use Rattle.std.specs.Fmt.{decimal as printed}
use Rattle.lines.specs.declared.Line.{Line}
use Rattle.lines.specs.declared.Line.TheVariants.{Answer, Cut, Meters}

-- "channel type number points lit", all five from the reply
abbrev pub reply_line : Reply → List ℕ
reply_line r =
    line_of (decimal r.channel.0) (r.chunk_type ∷ r.number ∷ r.points ∷ r.lit_points ∷ [])

-- "cut" and the count of octets from there to the end of the input; an input that ends after a message is not cut
abbrev pub cut_line : ℕ → List ℕ
cut_line count = cond (eqb count 0) [] (line_of (99 ∷ 117 ∷ 116 ∷ []) (count ∷ []))

-- "meters" and the readings
abbrev pub meters_line : Readings → List ℕ
meters_line r =
    line_of (109 ∷ 101 ∷ 116 ∷ 101 ∷ 114 ∷ 115 ∷ []) (r.lit_time ∷ r.points ∷ r.lit_points ∷ [])

-- what `{}` writes of a line, without its end
abbrev pub text_of : Line → List ℕ
text_of (Answer r) =
    printed r.channel.0 ++ codes " " ++ printed r.chunk_type ++ codes " " ++ printed r.number ++ codes " " ++ printed r.points
    ++ codes " " ++ printed r.lit_points
text_of (Cut count) = codes "cut " ++ printed count
text_of (Meters r) = codes "meters " ++ printed r.lit_time ++ codes " " ++ printed r.points ++ codes " " ++ printed r.lit_points

-- a line and its end, as it is put into a slice; of a cut of no octets, nothing
abbrev pub line_put : Line → List ℕ
line_put (Answer r) = reply_line r
line_put (Cut count) = cut_line count
line_put (Meters r) = meters_line r
