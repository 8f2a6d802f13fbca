-- Messages for the tables of the paper's numbers, and what the definitions are asked about them.
use Rattle.std.specs.Prelude.{ℕ, ◌+◌, ◌-◌, ◌/◌, ◌%◌, Bool, cond, List, [], ◌∷◌, ◌++◌, map, length, replicate, eqb}
use Rattle.receiver.specs.Governing.{Configuration, closed, meant}
use Rattle.receiver.specs.Slices.{Lent, lent, slices}
use Rattle.receiver.specs.Gathering.{no_gathering}
use Rattle.receiver.specs.Meters.{Sums, sums}
use Rattle.receiver.specs.Checks.{governs, Standing, number_of}
use Rattle.receiver.specs.Effects.{reply_of, slices_after}
use Rattle.receiver.specs.LookBack.{Offer, offer, Judged, governed_by, gathering_by, history_judged, history_replies, history_numbers, history_sums}
use Rattle.receiver.specs.declared.Reply.{Reply}

-- ---- what the definitions are asked

-- every channel closed, as at a receiver newly started
abbrev pub all_closed : ℕ → Configuration
all_closed c = meant closed

-- the number of a message at a receiver newly started with these meters, where nothing is gathered, and lent these slices
abbrev pub started_at : Sums → Standing
started_at meters = record { channels = all_closed; gathering = no_gathering; sums = meters }

abbrev pub number_at : Sums → ℕ → ℕ → List ℕ → ℕ
number_at meters rows levels m = number_of m (lent rows levels 65536) (started_at meters)

-- lent 12,000 numbers, 1,024 octets of levels and 65,536 of assembly, with meters of 0
abbrev pub number_for : List ℕ → ℕ
number_for = number_at (sums 0 0 0) 12000 1024

-- the numbers of several messages, one after the other, and what the meters then are
abbrev pub offered : List ℕ → Offer
offered m = offer m (lent 12000 1024 65536)

abbrev pub numbers_of : List (List ℕ) → List ℕ
numbers_of ms = history_numbers (sums 0 0 0) (map offered ms)

abbrev pub meters_after : Sums → List (List ℕ) → List ℕ
meters_after start ms = let s = history_sums start (map offered ms) in s.lit_time ∷ s.points ∷ s.lit_points ∷ []

-- points, lit points, levels and space modifier in the reply to an accepted message
abbrev pub replies_to : List ℕ → List ℕ
replies_to m =
    let r = reply_of m 0 (governs m all_closed) no_gathering in r.points ∷ r.lit_points ∷ r.levels ∷ r.space ∷ []

-- every field of the replies to several messages, one after the other
abbrev pub fields_of : List Reply → List ℕ
fields_of [] = []
fields_of (r ∷ rs) =
    r.number ∷ r.channel.0 ∷ r.chunk_type ∷ r.timestamp ∷ r.space ∷ r.points ∷ r.lit_points ∷ r.levels ∷ fields_of rs

abbrev pub fields_after : List (List ℕ) → List ℕ
fields_after ms = fields_of (history_replies (sums 0 0 0) (map offered ms))

-- C-12: their numbers with these starting readings and the slices lent at these lengths, or lent n octets of assembly
abbrev pub numbers_with : Sums → Lent → List (List ℕ) → List ℕ
numbers_with start l ms = history_numbers start (map (λ m. offer m l) ms)

abbrev pub numbers_lent : ℕ → List (List ℕ) → List ℕ
numbers_lent n = numbers_with (sums 0 0 0) (lent 12000 1024 n)

-- what is gathered after them: 1 or 0, its channel, how many octets, the first timestamp, the number of the next sequel, and the octets
abbrev pub gathered_after : List (List ℕ) → List ℕ
gathered_after ms =
    let w = gathering_by (history_judged (sums 0 0 0) (map offered ms)) in
    cond w.is_on 1 0 ∷ w.channel ∷ w.count ∷ w.timestamp ∷ w.sequel ∷ w.octets

-- the assembly slice a after judged messages, latest first
abbrev pub assembly_by : List Judged → List ℕ → List ℕ
assembly_by [] a = a
assembly_by (j ∷ js) a =
    (slices_after j.octets j.number (governed_by js j.octets) (gathering_by js) (slices [] [] (assembly_by js a))).assembly

-- an assembly slice of 12 octets, all 7, after several messages that it is lent with
abbrev pub assembly_left : List (List ℕ) → List ℕ
assembly_left ms = assembly_by (history_judged (sums 0 0 0) (map (λ m. offer m (lent 12000 1024 12)) ms)) (replicate 12 7)

-- ---- messages

-- with its Total Size before it
abbrev pub sized : List ℕ → List ℕ
sized m = let n = length m + 2 in n / 256 ∷ n % 256 ∷ m

-- n octets whose Total Size is t, of a type that there is not: check 4 refuses what check 2 does not
abbrev pub octets : ℕ → ℕ → List ℕ
octets n t = t / 256 ∷ t % 256 ∷ replicate (n - 2) 0x80

-- octet 2, type, and what follows the timestamp
abbrev pub message : ℕ → ℕ → List ℕ → List ℕ
message second t rest = sized (second ∷ t ∷ 0 ∷ 0 ∷ 0 ∷ 0 ∷ rest)

-- on channel c, with Routing: type, CFL, service, mode, tags and chunk
abbrev pub routing : ℕ → ℕ → ℕ → ℕ → ℕ → List ℕ → List ℕ → List ℕ
routing c t cfl service mode tags chunk = message (0xC0 + c) t ((length tags / 4 ∷ cfl ∷ service ∷ mode ∷ []) ++ tags ++ chunk)

-- on channel c, without a configuration header: type and chunk
abbrev pub plain : ℕ → ℕ → List ℕ → List ℕ
plain c t chunk = message (0x80 + c) t chunk

-- on channel c, a configuration header without Routing: CFL, with 99 for SCWC, service and mode
abbrev pub unrouted : ℕ → ℕ → ℕ → List ℕ → List ℕ
unrouted c t cfl chunk = message (0xC0 + c) t ((99 ∷ cfl ∷ 99 ∷ 99 ∷ []) ++ chunk)

-- C-12: octet 2, type, timestamp, and what follows it
abbrev pub stamped : ℕ → ℕ → ℕ → List ℕ → List ℕ
stamped second t at rest = sized (second ∷ t ∷ at / 16777216 ∷ at / 65536 % 256 ∷ at / 256 % 256 ∷ at % 256 ∷ rest)

-- on channel c, a first fragment without a configuration header, a sequel, and a sequel with CCLF: timestamp and octets
abbrev pub fragment : ℕ → ℕ → List ℕ → List ℕ
fragment c at = stamped (0x80 + c) 0x03 at

abbrev pub sequel : ℕ → ℕ → List ℕ → List ℕ
sequel c at = stamped (0x80 + c) 0xC0 at

abbrev pub last_sequel : ℕ → ℕ → List ℕ → List ℕ
last_sequel c at = stamped (0xC0 + c) 0xC0 at

-- X, Y, one colour and a Void: three octets a sample
abbrev pub drawing_tags : List ℕ
drawing_tags = 0x42 ∷ 0x00 ∷ 0x42 ∷ 0x10 ∷ 0x52 ∷ 0x7E ∷ 0x00 ∷ 0x00 ∷ []

-- the tags of a mode
abbrev pub tags_for : ℕ → List ℕ
tags_for mode = cond (eqb mode 1) drawing_tags (cond (eqb mode 2) drawing_tags [])

-- the type of a wave, a frame or dimmer levels in a mode
abbrev pub type_for : ℕ → ℕ
type_for mode = cond (eqb mode 1) 1 (cond (eqb mode 2) 2 0x18)

-- a message that routes channel 0 and brings a chunk of this type: n octets of 0, the header's among them
abbrev pub bringing : ℕ → ℕ → ℕ → List ℕ
bringing mode t n = routing 0 t 1 0 mode (tags_for mode) (replicate n 0)

-- a frame of two points with a colour that is not 0, with Duration 010203
abbrev pub two_coloured : List ℕ
two_coloured = routing 0 2 1 0 2 drawing_tags (0 ∷ 1 ∷ 2 ∷ 3 ∷ 0 ∷ 0 ∷ 9 ∷ 0 ∷ 0 ∷ 9 ∷ [])

-- a wave (1) or frame (2), in its mode, of 20 points of which only the first has a colour that is not 0, with Duration 010203
abbrev pub first_lit : ℕ → List ℕ
first_lit t = routing 0 t 1 0 t drawing_tags ((0 ∷ 1 ∷ 2 ∷ 3 ∷ 0 ∷ 0 ∷ 9 ∷ []) ++ replicate 57 0)

-- channel c routed to frames, with SDM 0, to waves, or to mode 0
abbrev pub frames : ℕ → List ℕ
frames c = routing c 0 1 0 2 drawing_tags []

abbrev pub waves : ℕ → List ℕ
waves c = routing c 0 1 0 1 drawing_tags []

abbrev pub voids : ℕ → List ℕ
voids c = routing c 0 1 0 0 [] []

-- a chunk of two dark points with these flags
abbrev pub dark : ℕ → List ℕ
dark flags = flags ∷ replicate 9 0

-- a Void chunk: 0 where the channel is open, 16 where it is closed
abbrev pub alive : ℕ → List ℕ
alive c = plain c 0 []

-- Close without Routing
abbrev pub close : ℕ → List ℕ
close c = unrouted c 0 2 []

-- C-12: a frame of two points with a colour that is not 0, with Duration 010203; and its fragments, of 8 octets, 1 and 1, the first with
-- Routing
abbrev pub undivided : List ℕ
undivided = 0 ∷ 1 ∷ 2 ∷ 3 ∷ 0x80 ∷ 1 ∷ 9 ∷ 0x7F ∷ 0xFF ∷ 2 ∷ []

abbrev pub opening : ℕ → List ℕ
opening c = stamped (0xC0 + c) 0x03 100 ((2 ∷ 1 ∷ 0 ∷ 2 ∷ []) ++ drawing_tags ++ (0 ∷ 1 ∷ 2 ∷ 3 ∷ 0x80 ∷ 1 ∷ 9 ∷ 0x7F ∷ []))

abbrev pub middle : ℕ → List ℕ
middle c = sequel c 101 (0xFF ∷ [])

abbrev pub ending : ℕ → List ℕ
ending c = last_sequel c 102 (2 ∷ [])

-- a header with this CFL, SCWC 5
abbrev pub flagged : ℕ → List ℕ
flagged cfl = 0 ∷ 0 ∷ 0xC0 ∷ 0 ∷ 0 ∷ 0 ∷ 0 ∷ 0 ∷ 5 ∷ cfl ∷ []

-- what f gives for each of several, one after the other
abbrev pub each_of : {A : Type 0} → List A → (A → List ℕ) → List ℕ
each_of [] f = []
each_of (x ∷ xs) f = f x ++ each_of xs f

abbrev pub bit : Bool → ℕ
bit b = cond b 1 0
