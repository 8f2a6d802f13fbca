-- How checks are put in order: the first that refuses gives the number.
use Rattle.std.specs.Prelude.{ℕ, Bool, cond, eqb}

-- refusal n where the test holds, else 0, which is no refusal
abbrev pub refuse : Bool → ℕ → ℕ
refuse b n = cond b n 0

-- the earlier check's number, or the later one's where the earlier one passed
abbrev pub first : ℕ → ℕ → ℕ
first n m = cond (eqb n 0) m n
