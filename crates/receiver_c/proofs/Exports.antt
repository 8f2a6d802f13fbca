-- Demand 3 speaks of what the archive exports: each call of it that starts, changes or reads a record, by value or in place, is the call of
-- that name that is meant in crates/receiver/proofs/Calls.antt, and so of the runs of History.antt and Runs.antt. `Learnt` is generated from
-- the `ensures` of the exported function itself, so that the clauses, which stand in both crates, cannot come apart. What a caller of the
-- data section learns is said beside it.
use mathlib.Core.Path.{◌≡◌, refl}
use mathlib.Core.Bool.{true}
use mathlib.Core.List.{List}
use Prim.Native.Nat.{ℕ}
use contract.Lifetimes.{Lfts}
use denote.Ref.{Bor}
use denote.MutBor.{as_bor}
use Rattle.receiver.specs.Meters.{Sums}
use Rattle.receiver.specs.Record.{sized}
use Rattle.receiver.specs.declared.Receiver.{Receiver}
use Rattle.receiver.specs.declared.Outcome.{Outcome}
use Rattle.receiver.specs.declared.Readings.{Readings}
use Rattle.receiver.specs.declared.SetOutcome.{SetOutcome}
use Rattle.receiver.specs.declared.host.Span.{Span}
use Rattle.receiver.proofs.Calls.{RecordRefs, kept, SliceRefs, StartCall, MessageCall, SetCall, ReadingsCall}
use Rattle.receiver.proofs.host.mewkoast_data_section.Reads as own_section_reads
use Rattle.receiver_c.proofs.mewkoast_start.Reads as start_reads
use Rattle.receiver_c.proofs.mewkoast_message.Reads as message_reads
use Rattle.receiver_c.proofs.mewkoast_patch.Reads as patch_reads
use Rattle.receiver_c.proofs.mewkoast_readings.Reads as readings_reads
use Rattle.receiver_c.proofs.mewkoast_data_section.Reads as section_reads
use Rattle.receiver_c.proofs.mewkoast_begin_on.Reads as begin_on_reads
use Rattle.receiver_c.proofs.mewkoast_offer_on.Reads as offer_on_reads
use Rattle.receiver_c.proofs.mewkoast_patch_on.Reads as patch_on_reads
use Rattle.receiver_c.proofs.mewkoast_readings_on.Reads as readings_on_reads

-- ---- the calls of the archive, as Calls.antt has those of the receiver

pub data StartExport (s : Sums) (o : Outcome) : Type 0 where
  by_value : (κs : Lfts 0)
      → start_reads.Learnt κs (s.lit_time, (s.points, (s.lit_points, tt))) o (s.lit_time, (s.points, (s.lit_points, tt))) → StartExport s o
  in_place : (κs : Lfts 3) (at left : RecordRefs) → sized (kept at) ≡ true
      → begin_on_reads.Learnt κs (at.channels, (at.meters, (at.gathered, (s.lit_time, (s.points, (s.lit_points, tt)))))) o.reply (left.channels, (left.meters, (left.gathered, (s.lit_time, (s.points, (s.lit_points, tt))))))
      → o.receiver ≡ kept left → StartExport s o

pub data MessageExport (r : Receiver) (octets : Bor (List ℕ)) (lent : SliceRefs) (o : Outcome) (left : SliceRefs) : Type 0 where
  by_value : (κs : Lfts 4)
      → message_reads.Learnt κs (r, (octets, (lent.rows, (lent.levels, (lent.assembly, tt))))) o (r, (octets, (left.rows, (left.levels, (left.assembly, tt)))))
      → MessageExport r octets lent o left
  in_place : (κs : Lfts 7) (at next : RecordRefs) → kept at ≡ r
      → offer_on_reads.Learnt κs (at.channels, (at.meters, (at.gathered, (octets, (lent.rows, (lent.levels, (lent.assembly, tt))))))) o.reply (next.channels, (next.meters, (next.gathered, (octets, (left.rows, (left.levels, (left.assembly, tt)))))))
      → o.receiver ≡ kept next → MessageExport r octets lent o left

pub data SetExport (r : Receiver) (octets : Bor (List ℕ)) (o : SetOutcome) : Type 0 where
  by_value : (κs : Lfts 1) → patch_reads.Learnt κs (r, (octets, tt)) o (r, (octets, tt)) → SetExport r octets o
  in_place : (κs : Lfts 4) (at next : RecordRefs) → kept at ≡ r → next.meters.now ≡ at.meters.now
      → patch_on_reads.Learnt κs (at.channels, (as_bor at.meters, (at.gathered, (octets, tt)))) o.reply (next.channels, (as_bor at.meters, (next.gathered, (octets, tt))))
      → o.receiver ≡ kept next → SetExport r octets o

pub data ReadingsExport (r : Receiver) (q : Readings) : Type 0 where
  by_value : (κs : Lfts 0) → readings_reads.Learnt κs (r, tt) q (r, tt) → ReadingsExport r q
  in_place : (κs : Lfts 1) (at : RecordRefs) → kept at ≡ r
      → readings_on_reads.Learnt κs (as_bor at.meters, tt) q (as_bor at.meters, tt) → ReadingsExport r q

-- ---- each is the receiver's

pub start-exported : {s : Sums} {o : Outcome} → StartExport s o → StartCall s o
start-exported (by_value κs learnt) = StartCall.c κs learnt
start-exported (in_place κs at left e learnt same) = StartCall.in_place κs at left e learnt same

pub message-exported : {r : Receiver} {octets : Bor (List ℕ)} {lent : SliceRefs} {o : Outcome} {left : SliceRefs}
    → MessageExport r octets lent o left → MessageCall r octets lent o left
message-exported (by_value κs learnt) = MessageCall.c κs learnt
message-exported (in_place κs at next e learnt same) = MessageCall.in_place κs at next e learnt same

pub set-exported : {r : Receiver} {octets : Bor (List ℕ)} {o : SetOutcome} → SetExport r octets o → SetCall r octets o
set-exported (by_value κs learnt) = SetCall.c κs learnt
set-exported (in_place κs at next e read learnt same) = SetCall.in_place κs at next e read learnt same

pub readings-exported : {r : Receiver} {q : Readings} → ReadingsExport r q → ReadingsCall r q
readings-exported (by_value κs learnt) = ReadingsCall.c κs learnt
readings-exported (in_place κs at e learnt) = ReadingsCall.in_place κs at e learnt

-- ---- the data section, which is no call of a run

pub section-exported : (κs : Lfts 1) (octets : Bor (List ℕ)) (span : Span)
    → section_reads.Learnt κs (octets, tt) span (octets, tt) ≡ own_section_reads.Learnt κs (octets, tt) span (octets, tt)
section-exported κs octets span = refl
