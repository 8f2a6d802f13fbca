-- What C-11 takes from the lit points of a chunk (Chunk.antt): of a wave, whose lit points are all that have a colour, nothing; of a
-- frame one, where its first point has a colour.
use Rattle.std.specs.Prelude.{◌≡◌, ℕ, ◌-◌, Bool, ◌&&◌}
use Rattle.std.proofs.Math.Path.{refl}
use Rattle.std.proofs.Math.Bool.{true, false, cond}
use Rattle.tags.specs.Rows.{lit_points_by}
use Rattle.tags.specs.RowsLaws.{first_lit_by, lit_points-behind-none, lit_points-behind-first}
use Rattle.receiver.specs.Governing.{Configuration}
use Rattle.receiver.specs.Chunk.{Chunk, is_drawing, body, lit_points_of}

-- the points of a wave or frame with a colour that is not 0, whichever they are; and whether the first is one of them
abbrev pub all_lit_of : Chunk → Configuration → ℕ
all_lit_of k v = cond (is_drawing k.type v) (lit_points_by v.sample (body k)) 0

abbrev pub first_lit_of : Chunk → Configuration → Bool
first_lit_of k v = is_drawing k.type v && first_lit_by v.sample (body k)

module _ (k : Chunk) (v : Configuration) where
  pub lit_points_of-wave : k.type ≡ 1 → lit_points_of k v ≡ all_lit_of k v
  unfolding lit_points_of
  lit_points_of-wave e = rw (e, lit_points-behind-none v.sample (body k)) refl

  pub lit_points_of-frame : k.type ≡ 2 → lit_points_of k v ≡ all_lit_of k v - cond (first_lit_of k v) 1 0
  unfolding lit_points_of
  lit_points_of-frame e = rw (e, lit_points-behind-first v.sample (body k)) (go (is_drawing 2 v))
    where
      go : (b : Bool) → cond b (lit_points_by v.sample (body k) - cond (first_lit_by v.sample (body k)) 1 0) 0
          ≡ cond b (lit_points_by v.sample (body k)) 0 - cond (b && first_lit_by v.sample (body k)) 1 0
      go true = refl
      go false = refl
