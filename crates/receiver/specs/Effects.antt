-- What a message leaves, given the number that it was answered with (document 01, "Checks, in order" and "Meters"; document 02, C-12): the
-- reply, the lent slices, the meters, what governs each channel after it, and what is gathered. "A refusal changes no record, meter or
-- slice; only 19 closes the channel."; C-12 says which refusals drop what was gathered, and of which the octets stay written.
use Rattle.std.specs.Prelude.{ℕ, Bool, cond, not, ◌&&◌, ◌||◌, List, eqb, leb}
use Rattle.tags.specs.Rows.{drawn_by}
use Rattle.tags.specs.Levels.{levels_after}
use Rattle.tags.specs.Kept.{octets_put}
use Rattle.receiver.specs.Message.{channel_of, type_of, timestamp_of, is_last, routes, closes, data_of}
use Rattle.receiver.specs.Governing.{Governing, Configuration, closed, routed_by, meant}
use Rattle.receiver.specs.Slices.{Slices, slices}
use Rattle.receiver.specs.Chunk.{Chunk, is_drawing, is_dimming, is_fragment, body, points_of, lit_points_of, levels_of}
use Rattle.receiver.specs.Gathering.{Gathering, no_gathering, gathers_on, place_in, grown, whole_of}
use Rattle.receiver.specs.Meters.{Sums, plus, added_by}
use Rattle.receiver.specs.declared.Reply.{Reply}

-- ---- the reply

-- "a refusal has 0 in all but the number"
abbrev pub bare_reply : ℕ → Reply
bare_reply n =
    record {
      number = n;
      channel = record { 0 = 0 };
      chunk_type = 0;
      timestamp = 0;
      space = 0;
      points = 0;
      lit_points = 0;
      levels = 0;
    }

-- to message m, answered with number n, governed by v, with w gathered before it; a fragment is answered with its own type and timestamp
unfoldable pub reply_of : List ℕ → ℕ → Configuration → Gathering → Reply
reply_of m n v w =
    cond (eqb n 0)
    (record {
      number = 0;
      channel = record { 0 = channel_of m };
      chunk_type = type_of m;
      timestamp = timestamp_of m;
      space = v.sample.space;
      points = points_of (whole_of m v w) v;
      lit_points = lit_points_of (whole_of m v w) v;
      levels = levels_of (whole_of m v w) v;
    })
    (bare_reply n)

-- ---- the lent slices

-- after an accepted chunk: "the decoded points or levels in their places and nothing else new"
unfoldable pub drawn : Chunk → Configuration → Slices → Slices
drawn k v s =
    slices (cond (is_drawing k.type v) (drawn_by v.sample (body k) s.rows) s.rows)
    (cond (is_dimming k.type v) (levels_after v.mode v.mapping (body k) s.levels) s.levels)
    s.assembly

-- the number is of a check that is tried on the whole
abbrev pub of_whole : ℕ → Bool
of_whole n = leb 20 n && leb n 23

-- C-12: the fragment was taken: it was accepted, or it was the last, and the whole was "refused by those checks, .. but its octets stay
-- written"
abbrev pub takes : List ℕ → ℕ → Configuration → Bool
takes m n v = is_fragment (type_of m) v && (eqb n 0 || is_last m && of_whole n)

-- the assembly slice: the octets of a fragment that was taken stand behind those before it, and else "dropping writes no octet"
unfoldable pub assembly_after : List ℕ → ℕ → Configuration → Gathering → List ℕ → List ℕ
assembly_after m n v w a = cond (takes m n v) (octets_put a (place_in m w) (data_of m)) a

unfoldable pub slices_after : List ℕ → ℕ → Configuration → Gathering → Slices → Slices
slices_after m n v w s =
    let d = cond (eqb n 0) (drawn (whole_of m v w) v s) s in slices d.rows d.levels (assembly_after m n v w s.assembly)

-- ---- the meters: a frame in fragments counts "at its accepted last fragment"

unfoldable pub sums_after : List ℕ → ℕ → Configuration → Gathering → Sums → Sums
sums_after m n v w sums = cond (eqb n 0) (plus sums (added_by (whole_of m v w) v)) sums

-- ---- the channels

-- the message decides what its channel is from then on: it was "accepted with Routing, accepted with Close, or refused by 19"
abbrev pub decides : List ℕ → ℕ → Bool
decides m n = eqb n 19 || eqb n 0 && (routes m || closes m)

-- what it decides: "If that one was accepted with Routing and without Close, its mode, service, SDM and tags govern; in all other
-- cases the channel is closed"
abbrev pub decided : List ℕ → ℕ → Governing
decided m n = cond (eqb n 0 && routes m && not (closes m)) (routed_by m) closed

-- what governs channel c after the message
unfoldable pub governing_after : List ℕ → ℕ → (ℕ → Configuration) → ℕ → Configuration
governing_after m n g c = cond (decides m n && eqb c (channel_of m)) (meant (decided m n)) (g c)

-- ---- what is gathered

-- C-12: "A first fragment accepted in mode 2, or on that channel an accepted routing or close or a refusal 19, drops what was gathered";
-- "accepted or refused by those checks, it is then gathered no longer"; 25 "drops the gathering", 26 "drops any gathering"
abbrev pub drops : List ℕ → ℕ → Configuration → Gathering → Bool
drops m n v w = takes m n v || eqb n 25 || eqb n 26 || decides m n && gathers_on w (channel_of m)

-- after the message: a fragment that was taken is gathered, unless it is the last, or closes its channel: "Close acts after the message"
unfoldable pub gathering_after : List ℕ → ℕ → Configuration → Gathering → Gathering
gathering_after m n v w =
    cond (takes m n v && not (is_last m || closes m)) (grown m w) (cond (drops m n v w) no_gathering w)
