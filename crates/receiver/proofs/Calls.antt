-- What a call of the receiver is: what the contract of the function itself lets a caller learn, in Rattle or from C. `Learnt` is generated
-- from the `ensures`, so that these cannot drift from the code. A host may use the Rattle function, the C one, or the C one on a record that
-- it lends, each time anew: the record that it lends is the receiver that the call before left. A message or a set (C-14) so offered is a
-- step of a run.
use mathlib.Core.Path.{◌≡◌, sym, ap, subst, subst₂, ◌∙◌}
use mathlib.Core.Bool.{true}
use mathlib.Core.List.{List}
use Prim.Native.Nat.{ℕ}
use lib.IntN.{ℤ}
use contract.Lifetimes.{Lfts}
use denote.Ref.{Bor, MutBor}
use denote.MutBor.{as_bor}
use Rattle.receiver.specs.Slices.{Slices, slices, lengths}
use Rattle.receiver.specs.Meters.{Sums}
use Rattle.receiver.specs.Record.{record_in, sized}
use Rattle.receiver.specs.LookBack.{Offer, offer, Called, Answer}
use Rattle.receiver.specs.Contract.{outcome, Started, Answered, readings_of, set_outcome, Patched}
use Rattle.receiver.specs.declared.Receiver.{Receiver}
use Rattle.receiver.specs.declared.Outcome.{Outcome}
use Rattle.receiver.specs.declared.Readings.{Readings}
use Rattle.receiver.specs.declared.SetOutcome.{SetOutcome}
use Rattle.receiver.proofs.Receiver.start.Reads as start_reads
use Rattle.receiver.proofs.Receiver.message.Reads as message_reads
use Rattle.receiver.proofs.Receiver.patch.Reads as patch_reads
use Rattle.receiver.proofs.Receiver.readings.Reads as readings_reads
use Rattle.receiver.proofs.host.mewkoast_start.Reads as c_start_reads
use Rattle.receiver.proofs.host.mewkoast_message.Reads as c_message_reads
use Rattle.receiver.proofs.host.mewkoast_patch.Reads as c_patch_reads
use Rattle.receiver.proofs.host.mewkoast_readings.Reads as c_readings_reads
use Rattle.receiver.proofs.place.mewkoast_begin_on.Reads as begin_on_reads
use Rattle.receiver.proofs.place.mewkoast_offer_on.Reads as offer_on_reads
use Rattle.receiver.proofs.place.mewkoast_patch_on.Reads as patch_on_reads
use Rattle.receiver.proofs.place.mewkoast_readings_on.Reads as readings_on_reads

-- ---- the calls

-- a record that a host lends: references to its octets, its meters and the numbers of what is gathered
pub record RecordRefs : Type 0 where
  pub channels : MutBor (List ℕ)
  pub meters : MutBor (List ℕ)
  pub gathered : MutBor (List ℕ)

-- what they hold
abbrev pub kept : RecordRefs → Receiver
kept at = record_in at.channels.now at.meters.now at.gathered.now

-- start; in place on a record that is lent, whatever it holds, whose arrays have their lengths
pub data StartCall (s : Sums) (o : Outcome) : Type 0 where
  rattle : (κs : Lfts 0)
      → start_reads.Learnt κs (s.lit_time, (s.points, (s.lit_points, tt))) o (s.lit_time, (s.points, (s.lit_points, tt))) → StartCall s o
  c : (κs : Lfts 0)
      → c_start_reads.Learnt κs (s.lit_time, (s.points, (s.lit_points, tt))) o (s.lit_time, (s.points, (s.lit_points, tt))) → StartCall s o
  in_place : (κs : Lfts 3) (at left : RecordRefs) → sized (kept at) ≡ true
      → begin_on_reads.Learnt κs (at.channels, (at.meters, (at.gathered, (s.lit_time, (s.points, (s.lit_points, tt)))))) o.reply (left.channels, (left.meters, (left.gathered, (s.lit_time, (s.points, (s.lit_points, tt))))))
      → o.receiver ≡ kept left → StartCall s o

-- the slices lent with a call, at its beginning or at its end
pub record SliceRefs : Type 0 where
  pub rows : MutBor (List ℤ)
  pub levels : MutBor (List ℕ)
  pub assembly : MutBor (List ℕ)

-- what they hold
abbrev pub held : SliceRefs → Slices
held lent = slices lent.rows.now lent.levels.now lent.assembly.now

pub data MessageCall (r : Receiver) (octets : Bor (List ℕ)) (lent : SliceRefs) (o : Outcome) (left : SliceRefs) : Type 0 where
  rattle : (κs : Lfts 4)
      → message_reads.Learnt κs (r, (octets, (lent.rows, (lent.levels, (lent.assembly, tt))))) o (r, (octets, (left.rows, (left.levels, (left.assembly, tt)))))
      → MessageCall r octets lent o left
  c : (κs : Lfts 4)
      → c_message_reads.Learnt κs (r, (octets, (lent.rows, (lent.levels, (lent.assembly, tt))))) o (r, (octets, (left.rows, (left.levels, (left.assembly, tt)))))
      → MessageCall r octets lent o left
  in_place : (κs : Lfts 7) (at next : RecordRefs) → kept at ≡ r
      → offer_on_reads.Learnt κs (at.channels, (at.meters, (at.gathered, (octets, (lent.rows, (lent.levels, (lent.assembly, tt))))))) o.reply (next.channels, (next.meters, (next.gathered, (octets, (left.rows, (left.levels, (left.assembly, tt)))))))
      → o.receiver ≡ kept next → MessageCall r octets lent o left

-- A set is lent no slice, and in place the meters are only read: the next record has those that were lent.
pub data SetCall (r : Receiver) (octets : Bor (List ℕ)) (o : SetOutcome) : Type 0 where
  rattle : (κs : Lfts 1) → patch_reads.Learnt κs (r, (octets, tt)) o (r, (octets, tt)) → SetCall r octets o
  c : (κs : Lfts 1) → c_patch_reads.Learnt κs (r, (octets, tt)) o (r, (octets, tt)) → SetCall r octets o
  in_place : (κs : Lfts 4) (at next : RecordRefs) → kept at ≡ r → next.meters.now ≡ at.meters.now
      → patch_on_reads.Learnt κs (at.channels, (as_bor at.meters, (at.gathered, (octets, tt)))) o.reply (next.channels, (as_bor at.meters, (next.gathered, (octets, tt))))
      → o.receiver ≡ kept next → SetCall r octets o

pub data ReadingsCall (r : Receiver) (q : Readings) : Type 0 where
  rattle : (κs : Lfts 0) → readings_reads.Learnt κs (r, tt) q (r, tt) → ReadingsCall r q
  c : (κs : Lfts 0) → c_readings_reads.Learnt κs (r, tt) q (r, tt) → ReadingsCall r q
  in_place : (κs : Lfts 1) (at : RecordRefs) → kept at ≡ r
      → readings_on_reads.Learnt κs (as_bor at.meters, tt) q (as_bor at.meters, tt) → ReadingsCall r q

-- ---- each way a caller learns the same

pub start-learnt : {s : Sums} {o : Outcome} → StartCall s o → Started s o
start-learnt (rattle κs learnt) = learnt
start-learnt (c κs learnt) = learnt
start-learnt {s} {o} (in_place κs at left e learnt same) =
    subst (λ (r : Receiver). Started s (outcome r o.reply)) (sym same) (learnt.started e)

pub message-learnt : {r : Receiver} {octets : Bor (List ℕ)} {lent : SliceRefs} {o : Outcome} {left : SliceRefs}
    → MessageCall r octets lent o left → Answered r octets.now (held lent) o (held left)
message-learnt (rattle κs learnt) = learnt
message-learnt (c κs learnt) = learnt
message-learnt {r} {octets} {lent} {o} {left} (in_place κs at next e learnt same) =
    subst₂ (λ (a b : Receiver). Answered a octets.now (held lent) (outcome b o.reply) (held left)) e (sym same) learnt

pub set-learnt : {r : Receiver} {octets : Bor (List ℕ)} {o : SetOutcome} → SetCall r octets o → Patched r octets.now o
set-learnt (rattle κs learnt) = learnt
set-learnt (c κs learnt) = learnt
set-learnt {r} {octets} {o} (in_place κs at next e read learnt same) =
    let left : o.receiver ≡ record_in next.channels.now at.meters.now next.gathered.now =
    same ∙ ap (λ (meters : List ℕ). record_in next.channels.now meters next.gathered.now) read in
    subst₂ (λ (a b : Receiver). Patched a octets.now (set_outcome b o.reply)) e (sym left) learnt

pub readings-learnt : {r : Receiver} {q : Readings} → ReadingsCall r q → q ≡ readings_of r
readings-learnt (rattle κs learnt) = learnt
readings-learnt (c κs learnt) = learnt
readings-learnt (in_place κs at e learnt) = learnt ∙ ap readings_of e

-- ---- a step of a run

-- what the look-back rule is given of a message: its octets and the lengths of the slices lent with it
abbrev pub offered_by : Bor (List ℕ) → SliceRefs → Offer
offered_by octets lent = offer octets.now (lengths (held lent))

-- one call on receiver r, as the rule is given it, with its reply and the receiver that it hands back
pub data Step (r : Receiver) : Called → Answer → Receiver → Type 0 where
  message : (octets : Bor (List ℕ)) (lent : SliceRefs) (o : Outcome) (left : SliceRefs) → MessageCall r octets lent o left
      → Step r (Called.message (offered_by octets lent)) (Answer.message o.reply) o.receiver
  set : (octets : Bor (List ℕ)) (o : SetOutcome) → SetCall r octets o → Step r (Called.set octets.now) (Answer.set o.reply) o.receiver

-- the assembly slice: a message is lent this one; a set is lent none
unfoldable pub Lends : List ℕ → {r : Receiver} {c : Called} {reply : Answer} {r₁ : Receiver} → Step r c reply r₁ → Type 0
Lends a (message octets lent o left call) = lent.assembly.now ≡ a
Lends a (set octets o call) = Unit {0}

-- and as it stands after the step, given as it stood before: as a message left it; a set leaves it alone
unfoldable pub left_after : {r : Receiver} {c : Called} {reply : Answer} {r₁ : Receiver} → Step r c reply r₁ → List ℕ → List ℕ
left_after (message octets lent o left call) before = left.assembly.now
left_after (set octets o call) before = before
