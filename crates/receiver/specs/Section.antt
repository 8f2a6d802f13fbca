-- The data section as a part of the host's message (document 01, "Calls and layers"): "One call returns the data section as a part of the
-- host's message, the empty part if 2, 3 or 5 applies."
use Rattle.std.specs.Prelude.{ℕ, cond, List, [], length, eqb}
use Rattle.tags.specs.Choice.{refuse, first}
use Rattle.receiver.specs.Message.{top_bit, data_start, data_of}
use Rattle.receiver.specs.Checks.{wrong_length, passes_end}
use Rattle.receiver.specs.declared.host.Span.{Span}

-- checks 2, 3 and 5; check 4, of the type, plays no part
unfoldable pub section_number : List ℕ → ℕ
section_number m =
    first (refuse (wrong_length m) 2)
    (first (refuse (eqb (top_bit m) 0) 3) (refuse (passes_end m) 5))

-- where the part starts: at octet 8, 12 or 12 + 4 × SCWC; the empty part is at the message's start
unfoldable pub section_start : List ℕ → ℕ
section_start m = cond (eqb (section_number m) 0) (data_start m) 0

unfoldable pub data_section : List ℕ → List ℕ
data_section m = cond (eqb (section_number m) 0) (data_of m) []

-- for a C host, to which no part of a slice can be returned: the part's place and length
abbrev pub span_of : List ℕ → Span
span_of m = record { start = section_start m; length = length (data_section m) }
