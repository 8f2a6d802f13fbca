-- Laws about octets, which are numbers below 256: what is cut out of octets is made of octets.
use Prim.Native.Nat.{ℕ, zero, suc, ◌+◌, ◌-◌, ◌<◌}
use native.Mathlib.Decide.{dec_lt}
use native.Mathlib.Omega.{arith}
use mathlib.Core.Bool.{Bool, true, false, cond}
use mathlib.Core.List.{List, [], ◌∷◌, ◌++◌}
use lib.ListN.{length, get_or, take, drop, length-take, get_or-eq_default}
use lib.Seq.{get_or-take, get_or-drop}
use lib.Dec.{eqb}
use Rattle.receiver.specs.Message.{data_start, tags_of}
use Rattle.receiver.specs.Stream.{entry_of, messages_in, left_in, parts_in}

abbrev pub Octets : List ℕ → Type 0
Octets l = (k : ℕ) → get_or l k 0 < 256

-- those of a part are octets of the whole
take-octets : (n : ℕ) (l : List ℕ) → Octets l → Octets (take n l)
take-octets n l octets k = go (dec_lt k n)
  where
    go : Dec (k < n) → get_or (take n l) k 0 < 256
    go (yes h) = rw (get_or-take n l k 0 h) (octets k)
    go (no h) = rw (get_or-eq_default (take n l) 0 {n = k} (rw length-take (omega arith))) (omega arith)

drop-octets : (n : ℕ) (l : List ℕ) → Octets l → Octets (drop n l)
drop-octets n l octets k = rw (get_or-drop n l k 0) (octets (n + k))

-- so are the tags of a message
pub tags-octets : (m : List ℕ) → Octets m → Octets (tags_of m)
unfolding tags_of
tags-octets m octets = take-octets (data_start m - 12) (drop 12 m) (drop-octets 12 m octets)

-- and the parts of a set
unfoldable pub AllOctets : List (List ℕ) → Type 0
AllOctets [] = Unit {0}
AllOctets (m ∷ ms) = Octets m × AllOctets ms

left_octets : (most : ℕ) (l : List ℕ) → Octets l → Octets (left_in most l)
unfolding left_in
left_octets zero l octets = octets
left_octets (suc most) l octets = go (eqb (entry_of l) 0) (left_octets most (drop (entry_of l) l) (drop-octets (entry_of l) l octets))
  where
    go : (b : Bool) → Octets (left_in most (drop (entry_of l) l)) → Octets (cond b l (left_in most (drop (entry_of l) l)))
    go true later = octets
    go false later = later

messages-octets : (most : ℕ) (l : List ℕ) → Octets l → AllOctets (messages_in most l)
unfolding messages_in AllOctets
messages-octets zero l octets = tt
messages-octets (suc most) l octets =
    go (eqb (entry_of l) 0) (messages-octets most (drop (entry_of l) l) (drop-octets (entry_of l) l octets))
  where
    go : (b : Bool) → AllOctets (messages_in most (drop (entry_of l) l))
        → AllOctets (cond b [] (take (entry_of l) l ∷ messages_in most (drop (entry_of l) l)))
    go true later = tt
    go false later = (take-octets (entry_of l) l octets, later)

append-octets : (ms ls : List (List ℕ)) → AllOctets ms → AllOctets ls → AllOctets (ms ++ ls)
unfolding AllOctets
append-octets [] ls first rest = rest
append-octets (m ∷ ms) ls first rest = (first.0, append-octets ms ls first.1 rest)

pub parts-octets : (octets : List ℕ) → Octets octets → AllOctets (parts_in octets)
unfolding parts_in AllOctets
parts-octets octets below =
    append-octets (messages_in (length octets) octets) _ (messages-octets (length octets) octets below) (go (eqb (length (left_in (length octets) octets)) 0))
  where
    go : (b : Bool) → AllOctets (cond b [] (left_in (length octets) octets ∷ []))
    go true = tt
    go false = (left_octets (length octets) octets below, tt)
