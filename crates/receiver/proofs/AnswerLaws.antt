-- Laws about the answer to a message: refused by checks 1 to 14, or handled and the record settled, it meets the contract.
use mathlib.Core.Path.{◌≡◌, refl, sym, ap, subst, subst₂, ◌∙◌}
use Prim.Native.Nat.{ℕ, ◌+◌, ◌<◌, ◌≤◌, ◌^◌}
use mathlib.Core.Bool.{Bool, true, false, false≢true, cond, ◌&&◌, ◌||◌}
use mathlib.Core.List.{List}
use native.Mathlib.Omega.{arith}
use lib.ListN.{length, get_or}
use lib.Dec.{eqb}
use Rattle.tags.specs.ChoiceLaws.{and_left, and_right}
use Rattle.std.specs.Prelude.{Result, is_some}
use Rattle.tags.specs.Kept.{area_size}
use Rattle.receiver.specs.Message.{channel_of, type_of, sequel_type, is_last, routes, closes}
use Rattle.receiver.specs.Governing.{Configuration}
use Rattle.receiver.specs.Slices.{Slices, lengths}
use Rattle.receiver.specs.Chunk.{is_fragment}
use Rattle.receiver.specs.Gathering.{Gathering, end_in, whole_of}
use Rattle.receiver.specs.Meters.{plus, over_limit, added_by}
use Rattle.receiver.specs.Checks.{most_octets, governs}
use Rattle.receiver.specs.Effects.{reply_of, of_whole, takes, assembly_after, slices_after, sums_after, gathering_after}
use Rattle.receiver.specs.Record.{record_in, gathered_in, gathering_in, gathering_of, standing_of, channels_of, configuration_of, sums_of, consistent_at, consistent, Config}
use Rattle.receiver.specs.Contract.{outcome, readings_of, message_number, changes, AnsweredWith, Answered}
use Rattle.receiver.specs.Steps.{gathered_by, gathered_after, counts_of, no_counts, Handled, settled_in, risen_from, Done}
use Rattle.receiver.specs.Refusal.{number_in}
use Rattle.receiver.specs.Kinds.{type_number}
use Rattle.receiver.specs.Views.{ReadAs, config_of, meaning, counts_in, done_of}
use Rattle.receiver.specs.declared.Receiver.{Receiver}
use Rattle.receiver.specs.declared.Reply.{Reply}
use Rattle.receiver.specs.declared.draw.Counts.{Counts}
use Rattle.receiver.specs.declared.gather.Gathered.{Gathered}
use Rattle.receiver.specs.declared.governing.Governing as declared_governing
use Rattle.receiver.specs.declared.incoming.Message.{Message}
use Rattle.receiver.specs.declared.refusal.Refusal.{Refusal}
use Rattle.receiver.proofs.CheckLaws.{own-passed, channel-below, plus-zero, within_each, sums_after_within}
use Rattle.receiver.proofs.SettleLaws.{length-settled}
use Rattle.receiver.proofs.GatherLaws.{four_gathered, room-ends, gathering_after_in}
use Rattle.receiver.proofs.WholeLaws.{own_of_taken}
use Rattle.receiver.proofs.JudgeLaws.{consistent-limit, consistent-channels}
use Rattle.receiver.proofs.ChannelLaws.{settled_governs, settled_consistent}
use Rattle.receiver.proofs.SizedLaws.{Sized, consistent-sized, added, risen_none, consistent_of}
use Rattle.receiver.proofs.RefusalLaws.{unchanged_by, takes_none}

-- ---- a message that was handled, by what governs it

module _ (r : Receiver) (z : Sized r) (good : consistent r ≡ true) (m : List ℕ) (s : Slices) (d : Done) (s₁ : Slices)
    (handled : Handled r m s d s₁) where
  abbrev v : Configuration
  v = governs m (channels_of r)

  abbrev a : List ℕ
  a = s.assembly

  abbrev g : Gathering
  g = gathering_of r a

  abbrev n : ℕ
  n = d.number

  -- there is room for a fragment that was taken
  takes-room : takes m n v ≡ true → (end_in m g ≤ length a) × (end_in m g ≤ most_octets)
  takes-room t =
      let whole = passes (eqb n 0) (is_last m) (of_whole n) (and_right (is_fragment (type_of m) v) (eqb n 0 || is_last m && of_whole n) t) in
      let passed = own_of_taken m (lengths s) (standing_of r a) (rw (← handled.number) whole) in
      room-ends m v g (length a) (own-passed m (length a) (standing_of r a) passed).room
      (and_left (is_fragment (type_of m) v) (eqb n 0 || is_last m && of_whole n) t)
    where
      passes : (x l y : Bool) → (x || l && y) ≡ true → (x || y) ≡ true
      passes true l y e = refl
      passes false true y e = e
      passes false false y e = absurd (false≢true e)

  pub accepted-ends : n ≡ 0 → is_fragment (type_of m) v ≡ true → end_in m g ≤ most_octets
  accepted-ends e f = (takes-room (rw (e, f))).1

  -- ---- the record that is left

  module _ (k : Config) (area : List ℕ) (w : length area ≡ area_size) (same : configuration_of k area ≡ v) (sound : consistent_at k ≡ true) where
    abbrev pub next : Receiver
    next =
        record_in (settled_in n (routes m) (closes m) (channel_of m) k area r.channels) (risen_from (readings_of r) d.counts)
        (gathered_by (gathered_after m n v (gathered_in r.gathered)))

    risen_is : sums_of next ≡ sums_after m n v g (sums_of r)
    unfolding sums_after added_by
    risen_is = rw handled.counts (go (eqb n 0))
      where
        go : (b : Bool)
            → plus (sums_of r) (added (cond b (counts_of (whole_of m v g) v) no_counts)) ≡ cond b (plus (sums_of r) (added_by (whole_of m v g) v)) (sums_of r)
        go true = refl
        go false = plus-zero (sums_of r)

    -- nothing of it changes in a refusal that changes no record
    kept_record : changes m n ≡ false → next ≡ r
    unfolding settled_in gathered_after
    kept_record unchanged =
        let u = unchanged_by m n unchanged in
        let none : d.counts ≡ no_counts = handled.counts ∙ rw u.not_0 in
        rw (none, takes_none m n v u.not_0 u.not_whole, u.not_0, u.not_19, u.not_25, u.not_26)
        (λ i. record_in r.channels (risen_none r z.meters i) (four_gathered r.gathered z.gathered i))

    pub sized-next : Sized next
    sized-next =
        record {
          channels = length-settled n (routes m) (closes m) (channel_of m) k area r.channels (channel-below m) w z.channels;
          meters = refl;
          gathered = refl;
        }

    within_next : over_limit (sums_of next) ≡ false
    within_next =
        ap over_limit risen_is
        ∙ ap (λ (x : ℕ). over_limit (sums_after m x v g (sums_of r))) handled.number
        ∙ sums_after_within m (lengths s) (standing_of r a) (consistent-limit r good)

    pub answered : Answered r m s (outcome next (reply_of m n v g)) s₁
    unfolding reply_of slices_after assembly_after sums_after gathering_after
    answered =
        let numbered : n ≡ message_number r m s = handled.number ∙ rw good in
        subst (λ (x : ℕ). AnsweredWith x r m s (outcome next (reply_of m n v g)) s₁) numbered
        (record {
          reply = refl;
          slices = handled.slices;
          meters = risen_is;
          channels = settled_governs r z.channels m (risen_from (readings_of r) d.counts) (gathered_by (gathered_after m n v (gathered_in r.gathered))) k area w n (λ _. same);
          gathering =
              ap (λ (x : Slices). gathering_in (gathered_after m n v (gathered_in r.gathered)) x.assembly) handled.slices
              ∙ gathering_after_in m n v (gathered_in r.gathered) a (λ t. (takes-room t).0);
          sound =
              consistent_of next sized-next within_next (settled_consistent r z.channels m (consistent-channels r good) k area w n (λ _. sound)) ∙ sym good;
          kept = kept_record;
        })

    -- the risen meters fit their fields: they are within the limit
    pub risen_fits : (get_or r.meters 0 0 + d.counts.lit_time < 2 ^ 64) × (get_or r.meters 1 0 + d.counts.points < 2 ^ 64) × (get_or r.meters 2 0 + d.counts.lit_points < 2 ^ 64)
    risen_fits =
        let within = within_each (sums_of next) within_next in
        (omega (arith, within.0), omega (arith, within.1), omega (arith, within.2))

-- ---- the same by the values that the steps of the call pass on

module _ (r : Receiver) (good : consistent r ≡ true) (m : List ℕ) (s : Slices) (x : Message) (e : ReadAs m x) (by : declared_governing.Governing)
    (w : length by.area ≡ area_size) (same : meaning by ≡ governs m (channels_of r))
    (answer : Result Counts Refusal) (s₁ : Slices) (handled : Handled r m s (done_of answer) s₁) where
  abbrev held : Gathered
  held = gathered_in r.gathered

  pub fragment-ends : number_in answer ≡ 0 → is_fragment (type_number x.chunk.chunk_type) (meaning by) ≡ true
      → cond (sequel_type (type_number x.chunk.chunk_type)) held.count 0 + length x.chunk.section.now ≤ most_octets
  fragment-ends accepted fragment =
      rw (e.chunk_type, e.section)
      (accepted-ends r (consistent-sized r good) good m s (done_of answer) s₁ handled accepted (rw (e.chunk_type, same) at fragment))

  pub accepted-counts : number_in answer ≡ 0 → counts_in answer ≡ counts_of (whole_of m (meaning by) (gathering_of r s.assembly)) (meaning by)
  accepted-counts accepted = handled.counts ∙ rw (accepted, same)

  pub counts_fit : (get_or r.meters 0 0 + (counts_in answer).lit_time < 2 ^ 64) × (get_or r.meters 1 0 + (counts_in answer).points < 2 ^ 64) × (get_or r.meters 2 0 + (counts_in answer).lit_points < 2 ^ 64)
  counts_fit = risen_fits r (consistent-sized r good) good m s (done_of answer) s₁ handled (config_of by) by.area w same by.sound

  pub answered-settled : (channels meters gathered : List ℕ) (reply : Reply)
      → channels ≡ settled_in (number_in answer) (is_some x.routing) x.close x.channel.0 (config_of by) by.area r.channels
      → meters ≡ risen_from (readings_of r) (counts_in answer) → gathered ≡ gathered_by (gathered_after m (number_in answer) (meaning by) held)
      → reply ≡ reply_of m (number_in answer) (meaning by) (gathering_of r s.assembly)
      → Answered r m s (outcome (record_in channels meters gathered) reply) s₁
  answered-settled channels meters gathered reply settled risen kept told =
      let n = number_in answer in
      let octets = settled ∙ (λ i. settled_in n (e.routes i) (e.close i) (e.channel i) (config_of by) by.area r.channels) in
      let frame = kept ∙ ap (λ (v : Configuration). gathered_by (gathered_after m n v held)) same in
      subst₂ (λ (at : Receiver) (p : Reply). Answered r m s (outcome at p) s₁)
      (λ i. record_in (sym octets i) (sym risen i) (sym frame i))
      (sym (told ∙ ap (λ (v : Configuration). reply_of m n v (gathering_of r s.assembly)) same))
      (answered r (consistent-sized r good) good m s (done_of answer) s₁ handled (config_of by) by.area w same by.sound)
