-- Laws about a frame in fragments: what a fragment that is taken has passed. So a message leaves the assembly slice at its length, and a
-- frame is gathered only after its first fragment.
use mathlib.Core.Path.{◌≡◌, refl, sym, ap, ◌∙◌}
use Prim.Native.Nat.{ℕ, ◌≤◌}
use mathlib.Core.Bool.{Bool, true, false, false≢true, true≢false, cond, not, ◌&&◌, ◌||◌}
use mathlib.Core.List.{List}
use lib.ListN.{length}
use lib.Dec.{eqb, lit≤}
use borrow.Author.Tests.{eqb-true, ne_eqb}
use Rattle.tags.specs.ChoiceLaws.{and_left, and_right, refuse-zero}
use Rattle.tags.specs.Kept.{octets_put}
use Rattle.tags.specs.KeptLaws.{length-put}
use Rattle.receiver.specs.Message.{type_of, is_sequel, is_last, closes, data_of}
use Rattle.receiver.specs.Governing.{Configuration}
use Rattle.receiver.specs.Slices.{Slices, Lent, lengths}
use Rattle.receiver.specs.Chunk.{fragment_type, is_fragment}
use Rattle.receiver.specs.Gathering.{Gathering, no_gathering, place_in, end_in, grown, whole_of}
use Rattle.receiver.specs.Checks.{governs, sequel_number, Standing, governed_in, whole_number, number_of, own_number}
use Rattle.receiver.specs.Effects.{of_whole, takes, assembly_after, slices_after, drops, gathering_after}
use Rattle.receiver.specs.Record.{channels_of, gathering_of, standing_of, consistent}
use Rattle.receiver.specs.Contract.{message_number, Answered}
use Rattle.receiver.specs.declared.Receiver.{Receiver}
use Rattle.receiver.specs.declared.Outcome.{Outcome}
use Rattle.receiver.proofs.CheckLaws.{number_of-own, own-passed}
use Rattle.receiver.proofs.GatherLaws.{room-ends}
use Rattle.receiver.proofs.WholeLaws.{own-NotWhole}

-- ---- a fragment that is taken

module _ (m : List ℕ) (lent : Lent) (b : Standing) where
  abbrev own : ℕ
  own = own_number m lent.assembly b

  abbrev v : Configuration
  v = governed_in m b

  abbrev w : Gathering
  w = b.gathering

  module _ (taken : takes m (number_of m lent b) v ≡ true) where
    fragment : is_fragment (type_of m) v ≡ true
    fragment = and_left (is_fragment (type_of m) v) _ taken

    -- it passed its own checks: it was accepted, or the whole was refused
    taken_own : own ≡ 0
    taken_own = go (eqb own 0) refl (rw (number_of-own m lent b) at taken)
      where
        go : (t : Bool) → eqb own 0 ≡ t → takes m (cond t (whole_number (whole_of m v w) v lent b.sums) own) v ≡ true → own ≡ 0
        go true e h = eqb-true own 0 e
        go false e h =
            let last : (is_last m && of_whole own) ≡ true = rw e at (and_right (is_fragment (type_of m) v) _ h) in
            absurd (false≢true (sym (own-NotWhole m lent.assembly b) ∙ and_right (is_last m) _ last))

    -- so there is room for it in the assembly slice
    taken-fits : end_in m w ≤ lent.assembly
    taken-fits = (room-ends m v w lent.assembly (own-passed m lent.assembly b taken_own).room fragment).0

    -- and where it is a sequel, a frame is gathered
    taken_on : (type_of m ≡ 3 → ⊥) → w.is_on ≡ false → ⊥
    unfolding sequel_number
    taken_on other off =
        let sequel : is_sequel m ≡ true = rw (ne_eqb (type_of m) 3 other) at (and_left (fragment_type (type_of m)) _ fragment) in
        let mode : v.mode ≡ 2 = eqb-true v.mode 2 (and_right (fragment_type (type_of m)) _ fragment) in
        let heard = (own-passed m lent.assembly b taken_own).sequel in
        true≢false (refuse-zero true 24 (lit≤ tt) (rw (sequel, mode, off) at heard))

  -- where no frame is gathered, a message that is no first fragment begins none: a sequel gets 24
  pub gathering-unbegun : (type_of m ≡ 3 → ⊥) → w.is_on ≡ false → (gathering_after m (number_of m lent b) v w).is_on ≡ false
  unfolding gathering_after
  gathering-unbegun other off =
      go (takes m (number_of m lent b) v && not (is_last m || closes m)) (drops m (number_of m lent b) v w) refl
    where
      go : (x y : Bool) → (takes m (number_of m lent b) v && not (is_last m || closes m)) ≡ x
          → (cond x (grown m w) (cond y no_gathering w)).is_on ≡ false
      go true y e = absurd (taken_on (and_left (takes m (number_of m lent b) v) _ e) other off)
      go false true e = refl
      go false false e = off

-- ---- a message leaves the assembly slice at its length

module _ (r : Receiver) (m : List ℕ) (s₀ : Slices) where
  abbrev governing : Configuration
  governing = governs m (channels_of r)

  abbrev gathering : Gathering
  gathering = gathering_of r s₀.assembly

  answered-fits : (sound : Bool) → takes m (cond sound (number_of m (lengths s₀) (standing_of r s₀.assembly)) 1) governing ≡ true
      → end_in m gathering ≤ length s₀.assembly
  answered-fits true taken = taken-fits m (lengths s₀) (standing_of r s₀.assembly) taken
  answered-fits false taken = absurd (false≢true (and_right (is_last m) false (and_right (is_fragment (type_of m) governing) _ taken)))

  pub length-assembly : (o : Outcome) (s₁ : Slices) → Answered r m s₀ o s₁ → length s₁.assembly ≡ length s₀.assembly
  unfolding slices_after assembly_after
  length-assembly o s₁ answered =
      ap (λ (s : Slices). length s.assembly) answered.slices ∙ go (takes m (message_number r m s₀) governing) refl
    where
      go : (t : Bool) → takes m (message_number r m s₀) governing ≡ t
          → length (cond t (octets_put s₀.assembly (place_in m gathering) (data_of m)) s₀.assembly) ≡ length s₀.assembly
      go true e = length-put s₀.assembly (place_in m gathering) (data_of m) (answered-fits (consistent r) e)
      go false e = refl
