-- Laws about a message that checks 2 to 14 let pass, judged on itself, its fragment taken, the whole tried and drawn.
use mathlib.Core.Path.{◌≡◌, refl, sym, ap, ◌∙◌}
use Prim.Native.Nat.{ℕ}
use mathlib.Core.Bool.{Bool, true, false, cond, and-false}
use mathlib.Core.List.{List}
use lib.ListN.{length, take}
use lib.Dec.{eqb}
use Rattle.tags.specs.ChoiceLaws.{and_right}
use Rattle.tags.specs.Kept.{octets_put}
use Rattle.receiver.specs.Message.{type_of, is_last, data_of}
use Rattle.receiver.specs.Governing.{Configuration}
use Rattle.receiver.specs.Slices.{Slices, slices, lengths}
use Rattle.receiver.specs.Chunk.{Chunk, chunk, chunk_of, is_fragment}
use Rattle.receiver.specs.Gathering.{Gathering, place_in, end_in, so_far, completes, whole_of}
use Rattle.receiver.specs.Meters.{over_limit}
use Rattle.receiver.specs.Checks.{governs, whole_number, Standing, own_number}
use Rattle.receiver.specs.Effects.{drawn, takes, assembly_after, slices_after}
use Rattle.receiver.specs.Record.{gathered_in, gathering_of, standing_of, channels_of, sums_of}
use Rattle.receiver.specs.Steps.{counts_of, no_counts, whole_in, Concluded, Handled, Done}
use Rattle.receiver.specs.declared.Receiver.{Receiver}
use Rattle.receiver.proofs.CheckLaws.{own-passed, number_of-own, number_of-whole}
use Rattle.receiver.proofs.GatherLaws.{room-ends, so_far-put}
use Rattle.receiver.proofs.WholeLaws.{own-NotWhole, takes-taken}
use Rattle.receiver.proofs.RefusalLaws.{takes_none}

module _ (r : Receiver) (within : over_limit (sums_of r) ≡ false) (m : List ℕ) (s : Slices) where
  abbrev v : Configuration
  v = governs m (channels_of r)

  abbrev a : List ℕ
  a = s.assembly

  abbrev g : Gathering
  g = gathering_of r a

  abbrev b : Standing
  b = standing_of r a

  -- one of its own checks refuses it
  pub handled-refused : (n : ℕ) → eqb n 0 ≡ false → n ≡ own_number m (length a) b → Handled r m s (record { number = n; counts = no_counts }) s
  unfolding slices_after assembly_after
  handled-refused n e own =
      let unlike = own-NotWhole m (length a) b in
      let none = takes_none m n v e (rw (own, unlike, and-false (is_last m))) in
      record { number = sym (rw (number_of-own m (lengths s) b, ← own, e)); counts = rw e; slices = rw (none, e) }

  -- it passes them
  module _ (passed : own_number m (length a) b ≡ 0) (a₁ : List ℕ) (d : Done) (s₁ : Slices)
      (put : a₁ ≡ cond (is_fragment (type_of m) v) (octets_put a (place_in m g) (data_of m)) a)
      (concluded : Concluded 0 (whole_in m v (take (end_in m g) a₁)) v (sums_of r) s d s₁) where
    -- the frame that it completes is the first octets of the slice
    whole_is : whole_in m v (take (end_in m g) a₁) ≡ whole_of m v g
    unfolding whole_of
    whole_is = go (completes m v) refl
      where
        go : (t : Bool) → completes m v ≡ t → cond t (chunk 2 (take (end_in m g) a₁)) (chunk_of m) ≡ cond t (chunk 2 (so_far m g)) (chunk_of m)
        go false e = refl
        go true e =
            let fragment = and_right (is_last m) (is_fragment (type_of m) v) e in
            let fits = room-ends m v g (length a) (own-passed m (length a) b passed).room fragment in
            let there : a₁ ≡ octets_put a (place_in m g) (data_of m) = put ∙ rw fragment in
            ap (λ (x : List ℕ). chunk 2 (take (end_in m g) x)) there
            ∙ ap (chunk 2) (so_far-put m (gathered_in r.gathered) a fits.0)

    numbered : d.number ≡ whole_number (whole_of m v g) v (lengths s) (sums_of r)
    numbered = concluded.number ∙ ap (λ (k : Chunk). whole_number k v (lengths s) (sums_of r)) whole_is

    taken_is : takes m d.number v ≡ is_fragment (type_of m) v
    taken_is =
        ap (λ (n : ℕ). takes m n v) numbered
        ∙ takes-taken m 0 v g (lengths s) (sums_of r) (λ _. within) (λ _. refl)

    pub handled : Handled r m s d (slices s₁.rows s₁.levels a₁)
    unfolding slices_after assembly_after
    handled =
        let shown : s₁ ≡ cond (eqb d.number 0) (drawn (whole_of m v g) v s) s =
        concluded.slices ∙ ap (λ (k : Chunk). cond (eqb d.number 0) (drawn k v s) s) whole_is in
        let left : a₁ ≡ cond (takes m d.number v) (octets_put a (place_in m g) (data_of m)) a = put ∙ rw taken_is in
        record {
          number = numbered ∙ sym (number_of-whole m (lengths s) b passed);
          counts = concluded.counts ∙ ap (λ (k : Chunk). cond (eqb d.number 0) (counts_of k v) no_counts) whole_is;
          slices = λ i. slices (shown i).rows (shown i).levels (left i);
        }
