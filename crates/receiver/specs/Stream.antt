-- Messages laid end to end (document 01, "Calls and layers": the listing's input; document 02, C-14: a list in one slice). Each message
-- starts where the one before ended.
use Rattle.std.specs.Prelude.{ℕ, zero, suc, Bool, cond, ◌||◌, List, [], ◌∷◌, ◌++◌, length, take, drop, ltb, eqb}
use Rattle.receiver.specs.Message.{total_size}
use Rattle.receiver.specs.Checks.{least_message}

-- no whole message stands at the front: "A size below 8 or past the end, or a lone octet"
abbrev pub is_cut : List ℕ → Bool
is_cut m = ltb (length m) 2 || ltb (total_size m) least_message || ltb (length m) (total_size m)

-- the size of the message at the front, or 0
unfoldable pub entry_of : List ℕ → ℕ
entry_of m = cond (is_cut m) 0 (total_size m)

-- the messages from the front on, as far as whole ones stand there, and at most so many. As many as there are octets is always enough:
-- no message has fewer than 8.
unfoldable pub messages_in : ℕ → List ℕ → List (List ℕ)
messages_in zero m = []
messages_in (suc most) m =
    cond (eqb (entry_of m) 0) [] (take (entry_of m) m ∷ messages_in most (drop (entry_of m) m))

-- the octets after those messages: none, or what the listing calls cut
unfoldable pub left_in : ℕ → List ℕ → List ℕ
left_in zero m = m
left_in (suc most) m = cond (eqb (entry_of m) 0) m (left_in most (drop (entry_of m) m))

-- C-14: what a list in one slice is taken apart into: its messages, and what is left after them, if anything, as one more. What is left is
-- never as long as it claims, or it is below 8 octets, so that check 2 refuses it (proofs/SetLaws.antt: left_refused).
unfoldable pub parts_in : List ℕ → List (List ℕ)
parts_in octets =
    let left = left_in (length octets) octets in
    messages_in (length octets) octets ++ cond (eqb (length left) 0) [] (left ∷ [])

-- how many octets the part at the front has
abbrev pub part_of : List ℕ → ℕ
part_of octets = cond (eqb (entry_of octets) 0) (length octets) (entry_of octets)
