-- Laws about the messages of a set (document 02, C-14): what a message of type 0x00 is answered with does not depend on any slice, nor on
-- what is gathered; and what it leaves shows alike with whatever assembly slice is lent later.
use mathlib.Core.Path.{◌≡◌, refl, sym, ap, subst, subst₂, ◌∙◌, fun_ext}
use Prim.Native.Nat.{ℕ, ◌+◌}
use mathlib.Core.Bool.{Bool, true, false, false≢true, cond, not, ◌&&◌, ◌||◌}
use mathlib.Core.List.{List, [], ◌∷◌}
use native.Mathlib.Nat.{le_refl}
use native.Mathlib.Omega.{arith}
use lib.ListN.{length, take}
use lib.Dec.{ltb, eqb, lit≤}
use borrow.Author.Tests.{not-false, ltb-false, le-ltb, eqb-true, eq-eqb, ne_eqb}
use Rattle.std.specs.Prelude.{Result, Ok, Err, IfOk}
use Rattle.tags.specs.Choice.{refuse, first}
use Rattle.tags.specs.ChoiceLaws.{or-false_left, or-false_right, first-zero_right, refuse-zero}
use Rattle.receiver.specs.Message.{total_size, top_bit, channel_of, type_of}
use Rattle.receiver.specs.Governing.{Configuration}
use Rattle.receiver.specs.Slices.{Slices, Lent, lengths}
use Rattle.receiver.specs.Chunk.{chunk_of, void_type, points_of, lit_points_of}
use Rattle.receiver.specs.Gathering.{Gathering, no_gathering, whole_of}
use Rattle.receiver.specs.Meters.{Sums, plus, over_limit, added_by}
use Rattle.receiver.specs.Checks.{least_message, largest_message, wrong_length, front_number, header_number, route_number, holder_number, closed_number, governs, sequel_number, match_number, room_number, content_number, whole_number, Standing, governed_in, first_number_of, in_order, number_of, own_number}
use Rattle.receiver.specs.Effects.{reply_of, sums_after, governing_after, gathering_after, decides}
use Rattle.receiver.specs.Stream.{is_cut, entry_of, left_in, parts_in}
use Rattle.receiver.specs.StreamLaws.{left_cut}
use Rattle.receiver.specs.Sets.{none_lent, member_number, standing_after, replied_from, replied_to}
use Rattle.receiver.specs.Record.{record_in, gathered_in, gathering_in, gathering_of, channels_of, sums_of, standing_of, consistent}
use Rattle.receiver.specs.Contract.{outcome, message_number, Answered}
use Rattle.receiver.specs.Steps.{foreign_number, MemberOf}
use Rattle.receiver.specs.Refusal.{refusal_number, number_in}
use Rattle.receiver.specs.Views.{reply_in}
use Rattle.receiver.specs.declared.refusal.Refusal.{Refusal}
use Rattle.receiver.specs.declared.Receiver.{Receiver}
use Rattle.receiver.specs.declared.Outcome.{Outcome}
use Rattle.receiver.specs.declared.Reply.{Reply}
use Rattle.receiver.specs.declared.gather.Gathered.{Gathered}
use Rattle.receiver.proofs.CheckLaws.{number_of-own, first-none, plus-zero}
use Rattle.receiver.proofs.MeterLaws.{meter-idle}
use Rattle.receiver.proofs.JudgeLaws.{consistent-limit}
use Rattle.receiver.proofs.NumberLaws.{refusal-some}
use Rattle.receiver.proofs.SizedLaws.{consistent-sized, three_meters}

-- ---- the number of a message of a set

-- of another type it is what checks 2 to 4 give
pub member_foreign : (m : List ℕ) (b : Standing) → void_type (type_of m) ≡ false → member_number m b ≡ foreign_number m
unfolding member_number
member_foreign m b e = rw e

pub foreign_refused : (m : List ℕ) → foreign_number m ≡ 0 → ⊥
foreign_refused m e =
    let later = first-zero_right (refuse (eqb (top_bit m) 0) 3) 4 (first-zero_right (refuse (wrong_length m) 2) _ e) in
    omega (arith, later)

-- what is cut is never as long as it claims, or it is too short
cut_length : (m : List ℕ) → entry_of m ≡ 0 → wrong_length m ≡ true
unfolding entry_of
cut_length m cut = go (wrong_length m) refl
  where
    go : (b : Bool) → wrong_length m ≡ b → wrong_length m ≡ true
    go true e = e
    go false e =
        let two = or-false_left (ltb (length m) least_message || ltb largest_message (length m)) (not (eqb (length m) (total_size m))) e in
        let least = ltb-false (length m) least_message (or-false_left (ltb (length m) least_message) (ltb largest_message (length m)) two) in
        let same : length m ≡ total_size m =
        eqb-true (length m) (total_size m)
        (not-false _ (or-false_right (ltb (length m) least_message || ltb largest_message (length m)) (not (eqb (length m) (total_size m))) e)) in
        let whole : is_cut m ≡ false =
        rw (← same, le-ltb (length m) 2 (omega (arith, least)), le-ltb (length m) least_message least, le-ltb (length m) (length m) (omega arith)) in
        let size : total_size m ≡ 0 = rw whole at cut in
        absurd (omega (arith, least, same, size))

-- so what is left of a slice, as a message of the set, gets 2
pub left_refused : (octets : List ℕ) (b : Standing) → member_number (left_in (length octets) octets) b ≡ 2
unfolding member_number
left_refused octets b =
    rw (cut_length (left_in (length octets) octets) (left_cut (length octets) octets (le_refl (length octets))))

-- of type 0x00 it is the message's own: checks 2 and 3 come first there too
pub member_void : (m : List ℕ) (b : Standing) → void_type (type_of m) ≡ true → member_number m b ≡ number_of m none_lent b
unfolding member_number number_of in_order header_number
member_void m b e = rw e (go (wrong_length m) (eqb (top_bit m) 0) _ _)
  where
    go : (x y : Bool) (c n : ℕ)
        → first (refuse x 2) (first (refuse y 3) (first (first (refuse x 2) (first (refuse y 3) c)) n))
        ≡ first (first (refuse x 2) (first (refuse y 3) c)) n
    go true y c n = refl
    go false true c n = refl
    go false false c n = refl

-- an accepted one is of type 0x00
pub member_type : (m : List ℕ) (b : Standing) → member_number m b ≡ 0 → type_of m ≡ 0
unfolding member_number
member_type m b e =
    let later = first-zero_right (refuse (eqb (top_bit m) 0) 3) _ (first-zero_right (refuse (wrong_length m) 2) _ e) in
    eqb-true (type_of m) 0 (go (void_type (type_of m)) later)
  where
    go : (t : Bool) → first (refuse (not t) 4) (number_of m none_lent b) ≡ 0 → t ≡ true
    go true e = refl
    go false e = absurd (false≢true (sym (refuse-zero true 4 (lit≤ tt) e)))

pub member_accepted : (m : List ℕ) (b : Standing) → member_number m b ≡ 0 → number_of m none_lent b ≡ 0
member_accepted m b e = sym (member_void m b (eq-eqb (type_of m) 0 (member_type m b e))) ∙ e

-- ---- a message of type 0x00

module _ (m : List ℕ) (t : type_of m ≡ 0) where
  -- it completes no frame, and has nothing to draw or to write
  pub void_whole : (v : Configuration) (w : Gathering) → whole_of m v w ≡ chunk_of m
  unfolding whole_of
  void_whole v w = rw t

  pub void_content : (v : Configuration) (lent : Lent) (s : Sums) → over_limit s ≡ false → whole_number (chunk_of m) v lent s ≡ 0
  unfolding whole_number content_number
  void_content v lent s h =
      ap (λ (k : ℕ). first (content_number (chunk_of m) v lent) k) (meter-idle (chunk_of m) v s (rw t) h) ∙ rw t

  -- so it is answered by its own checks
  pub void_judged : (lent : Lent) (b : Standing) → over_limit b.sums ≡ false → number_of m lent b ≡ own_number m lent.assembly b
  void_judged lent b h =
      number_of-own m lent b
      ∙ ap (λ (k : ℕ). first (own_number m lent.assembly b) k)
      (rw (void_whole (governed_in m b) b.gathering) (void_content (governed_in m b) lent b.sums h))
      ∙ first-none (own_number m lent.assembly b)

  -- of which these are left
  abbrev void_number : (ℕ → Configuration) → ℕ
  void_number g =
      first_number_of
      (header_number m ∷ route_number m ∷ closed_number m g ∷ match_number (chunk_of m) (governs m g) ∷ holder_number m g ∷ [])
      0

  void_own : (n : ℕ) (b : Standing) → own_number m n b ≡ void_number b.channels
  unfolding in_order sequel_number room_number
  void_own n b = rw t

  void_number_lem : (lent : Lent) (b : Standing) → over_limit b.sums ≡ false → number_of m lent b ≡ void_number b.channels
  void_number_lem lent b h = void_judged lent b h ∙ void_own lent.assembly b

  -- so it is the same on any channels that are the same, whatever is lent and gathered
  pub void_same : (l₀ l₁ : Lent) (b₀ b₁ : Standing) → over_limit b₀.sums ≡ false → over_limit b₁.sums ≡ false
      → b₀.channels ≡ b₁.channels → number_of m l₀ b₀ ≡ number_of m l₁ b₁
  void_same l₀ l₁ b₀ b₁ h₀ h₁ same = void_number_lem l₀ b₀ h₀ ∙ ap void_number same ∙ sym (void_number_lem l₁ b₁ h₁)

  -- it adds nothing
  pub void_sums : (n : ℕ) (v : Configuration) (w : Gathering) (s : Sums) → sums_after m n v w s ≡ s
  unfolding sums_after added_by points_of lit_points_of
  void_sums n v w s = rw (void_whole v w, t) (go (eqb n 0))
    where
      go : (b : Bool) → cond b (plus s (record { lit_time = 0; points = 0; lit_points = 0 })) s ≡ s
      go true = plus-zero s
      go false = refl

  -- and takes no fragment: what is gathered stays, or is dropped, whatever octets there are
  void_gathering : (v : Configuration) (w : Gathering)
      → gathering_after m 0 v w ≡ cond (decides m 0 && (w.is_on && eqb (channel_of m) w.channel)) no_gathering w
  unfolding gathering_after
  void_gathering v w = rw t

-- ---- the octets of a frame that is gathered are those of the slice that is lent

gathering-any : (q₁ q : Gathered) (a₁ a : List ℕ) (d : Bool) → gathering_in q₁ a₁ ≡ cond d no_gathering (gathering_in q a)
    → (l : List ℕ) → gathering_in q₁ l ≡ cond d no_gathering (gathering_in q l)
gathering-any q₁ q a₁ a d p l = go d p
  where
    with_octets : List ℕ → Gathering → Gathering
    with_octets l w =
        record {
          is_on = w.is_on;
          channel = w.channel;
          count = w.count;
          octets = take w.count l;
          timestamp = w.timestamp;
          sequel = w.sequel;
        }

    go : (d : Bool) → gathering_in q₁ a₁ ≡ cond d no_gathering (gathering_in q a) → gathering_in q₁ l ≡ cond d no_gathering (gathering_in q l)
    go true p = ap (with_octets l) p
    go false p = ap (with_octets l) p

-- ---- a message answered

-- the number in its reply
pub replied-number : (r : Receiver) (m : List ℕ) (s : Slices) (o : Outcome) (s₁ : Slices) → Answered r m s o s₁
    → o.reply.number ≡ message_number r m s
unfolding reply_of
replied-number r m s o s₁ answered =
    ap (λ (reply : Reply). reply.number) answered.reply ∙ go (message_number r m s) (eqb (message_number r m s) 0) refl
  where
    go : (n : ℕ) (b : Bool) → eqb n 0 ≡ b → (reply_of m n (governs m (channels_of r)) (gathering_of r s.assembly)).number ≡ n
    go n true e = rw e (sym (eqb-true n 0 e))
    go n false e = rw e

-- one of type 0x00 by a consistent record

module _ (r : Receiver) (good : consistent r ≡ true) (m : List ℕ) (t : type_of m ≡ 0) where
  -- its number with whatever slices
  pub void_message_number : (s : Slices) (a : List ℕ) → message_number r m s ≡ number_of m none_lent (standing_of r a)
  void_message_number s a =
      let within = consistent-limit r good in
      rw good (void_same m t (lengths s) none_lent (standing_of r s.assembly) (standing_of r a) within within refl)

  -- what it leaves where it is accepted
  pub void_answered : (s : Slices) (o : Outcome) (s₁ : Slices) → Answered r m s o s₁ → message_number r m s ≡ 0
      → (a : List ℕ) → standing_of o.receiver a ≡ standing_after m (standing_of r a)
  unfolding standing_after
  void_answered s o s₁ answered zero a =
      let v = governs m (channels_of r) in
      let channels : channels_of o.receiver ≡ governing_after m 0 (channels_of r) =
      fun_ext (λ c. answered.channels c ∙ ap (λ (n : ℕ). governing_after m n (channels_of r) c) zero) in
      let sums : sums_of o.receiver ≡ sums_after m 0 v (gathering_of r a) (sums_of r) =
      answered.meters
      ∙ void_sums m t (message_number r m s) v (gathering_of r s.assembly) (sums_of r)
      ∙ sym (void_sums m t 0 v (gathering_of r a) (sums_of r)) in
      let gathering : gathering_of o.receiver a ≡ gathering_after m 0 v (gathering_of r a) =
      gathering-any (gathered_in o.receiver.gathered) (gathered_in r.gathered) s₁.assembly s.assembly
      (decides m 0 && ((gathering_of r a).is_on && eqb (channel_of m) (gathering_of r a).channel))
      (answered.gathering
      ∙ ap (λ (n : ℕ). gathering_after m n v (gathering_of r s.assembly)) zero
      ∙ void_gathering m t v (gathering_of r s.assembly))
      a
      ∙ sym (void_gathering m t v (gathering_of r a)) in
      λ i. record { channels = channels i; gathering = gathering i; sums = sums i }

-- ---- a message of a set offered to a consistent record

pub refusal-first : (e : Refusal) (n : ℕ) → first (refusal_number e) n ≡ refusal_number e
refusal-first e n = rw (refusal-some e)

-- one of another type leaves the record alone
pub member_refused : (r : Receiver) → consistent r ≡ true → (m : List ℕ) → void_type (type_of m) ≡ false → MemberOf r m (foreign_number m) r
member_refused r good m e =
    record {
      number = λ a. sym (member_foreign m (standing_of r a) e);
      standing = λ z. absurd (foreign_refused m z);
      sound = good;
      meters = refl;
    }

-- which checks 2 and 3 refuse, or 4
pub member_foreign_by : (r : Receiver) → consistent r ≡ true → (m : List ℕ) → (type_of m ≡ 0 → ⊥) → (front n : ℕ) → front ≡ front_number m
    → n ≡ first front 4 → MemberOf r m n r
member_foreign_by r good m other front n is number =
    subst (λ (n : ℕ). MemberOf r m n r)
    (go (wrong_length m) (eqb (top_bit m) 0) ∙ sym (number ∙ ap (λ (k : ℕ). first k 4) is))
    (member_refused r good m (ne_eqb (type_of m) 0 other))
  where
    go : (x y : Bool) → first (refuse x 2) (first (refuse y 3) 4) ≡ first (first (refuse x 2) (refuse y 3)) 4
    go true y = refl
    go false true = refl
    go false false = refl

-- one of type 0x00 is answered as by itself
pub member_answered : (r : Receiver) → consistent r ≡ true → (m : List ℕ) → type_of m ≡ 0 → (s : Slices) (o : Outcome) (s₁ : Slices)
    → Answered r m s o s₁ → MemberOf r m o.reply.number o.receiver
member_answered r good m t s o s₁ answered =
    let number = replied-number r m s o s₁ answered in
    let sound = answered.sound ∙ good in
    let same = answered.meters ∙ void_sums m t (message_number r m s) (governs m (channels_of r)) (gathering_of r s.assembly) (sums_of r) in
    record {
      number = λ a. number ∙ void_message_number r good m t s a ∙ sym (member_void m (standing_of r a) (eq-eqb (type_of m) 0 t));
      standing = λ z. void_answered r good m t s o s₁ answered (sym number ∙ z);
      sound = sound;
      meters =
          sym (three_meters o.receiver.meters (consistent-sized o.receiver sound).meters)
          ∙ ap (λ (x : Sums). x.lit_time ∷ x.points ∷ x.lit_points ∷ []) same
          ∙ three_meters r.meters (consistent-sized r good).meters;
    }

-- by what answered it: its number, and the record with the meters that it had
pub member_by : (r : Receiver) (m : List ℕ) (s s₁ : Slices) (channels meters gathered : List ℕ) (answer : Result Reply Refusal)
    → consistent r ≡ true → type_of m ≡ 0 → Answered r m s (outcome (record_in channels meters gathered) (reply_in answer)) s₁
    → IfOk answer (λ reply. reply.number ≡ 0) → (n : ℕ) → n ≡ number_in answer → MemberOf r m n (record_in channels r.meters gathered)
member_by r m s s₁ channels meters gathered answer good t answered accepted n is =
    let member = member_answered r good m t s _ s₁ answered in
    subst₂ (λ (n : ℕ) (l : List ℕ). MemberOf r m n (record_in channels l gathered)) (number answer accepted ∙ sym is) member.meters member
  where
    number : (answer : Result Reply Refusal) → IfOk answer (λ reply. reply.number ≡ 0) → (reply_in answer).number ≡ number_in answer
    number (Ok reply) zero = zero
    number (Err e) zero = refl

-- ---- the reply to a set depends neither on a slice nor on what is gathered

-- what a reply depends on
record Alike (b₀ b₁ : Standing) : Type 0 where
  channels : b₀.channels ≡ b₁.channels
  first : over_limit b₀.sums ≡ false
  second : over_limit b₁.sums ≡ false

member_alike : (m : List ℕ) (b₀ b₁ : Standing) → Alike b₀ b₁ → member_number m b₀ ≡ member_number m b₁
member_alike m b₀ b₁ alike = go (void_type (type_of m)) refl
  where
    go : (t : Bool) → void_type (type_of m) ≡ t → member_number m b₀ ≡ member_number m b₁
    go true e =
        member_void m b₀ e
        ∙ void_same m (eqb-true (type_of m) 0 e) none_lent none_lent b₀ b₁ alike.first alike.second alike.channels
        ∙ sym (member_void m b₁ e)
    go false e = member_foreign m b₀ e ∙ sym (member_foreign m b₁ e)

after_alike : (m : List ℕ) (b₀ b₁ : Standing) → type_of m ≡ 0 → Alike b₀ b₁ → Alike (standing_after m b₀) (standing_after m b₁)
unfolding standing_after
after_alike m b₀ b₁ t alike =
    record {
      channels = ap (governing_after m 0) alike.channels;
      first = rw (void_sums m t 0 (governed_in m b₀) b₀.gathering b₀.sums) alike.first;
      second = rw (void_sums m t 0 (governed_in m b₁) b₁.gathering b₁.sums) alike.second;
    }

replied-alike : (place : ℕ) (b₀ b₁ : Standing) (ms : List (List ℕ)) → Alike b₀ b₁ → replied_from place b₀ ms ≡ replied_from place b₁ ms
unfolding replied_from
replied-alike place b₀ b₁ [] alike = refl
replied-alike place b₀ b₁ (m ∷ ms) alike =
    rw (member_alike m b₀ b₁ alike)
    (go (eqb (member_number m b₁) 0) refl (replied-alike (place + 1) (standing_after m b₀) (standing_after m b₁) ms))
  where
    go : (t : Bool) → eqb (member_number m b₁) 0 ≡ t
        → (Alike (standing_after m b₀) (standing_after m b₁)
        → replied_from (place + 1) (standing_after m b₀) ms ≡ replied_from (place + 1) (standing_after m b₁) ms)
        → cond t (replied_from (place + 1) (standing_after m b₀) ms) (record { place = place; number = member_number m b₁ })
        ≡ cond t (replied_from (place + 1) (standing_after m b₁) ms) (record { place = place; number = member_number m b₁ })
    go true e later = later (after_alike m b₀ b₁ (member_type m b₁ (eqb-true (member_number m b₁) 0 e)) alike)
    go false e later = refl

pub replied-any : (r : Receiver) → consistent r ≡ true → (octets a a₁ : List ℕ)
    → replied_to octets (standing_of r a) ≡ replied_to octets (standing_of r a₁)
replied-any r good octets a a₁ =
    let within = consistent-limit r good in
    replied-alike 0 (standing_of r a) (standing_of r a₁) (parts_in octets) (record { channels = refl; first = within; second = within })
