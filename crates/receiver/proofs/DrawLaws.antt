-- Laws about what is drawn or written of a message: checks 20 to 23 one by one, and the end of a message by them.
use mathlib.Core.Path.{◌≡◌, sym}
use Prim.Native.Nat.{ℕ}
use mathlib.Core.Bool.{true, false}
use mathlib.Core.List.{List}
use lib.ListN.{length}
use Rattle.std.specs.Prelude.{Result, Ok, Err}
use Rattle.tags.specs.Kept.{area_size, octets_of, mapping_in}
use Rattle.tags.specs.KeptLaws.{kept-octets}
use Rattle.receiver.specs.Governing.{Configuration}
use Rattle.receiver.specs.Slices.{Slices, Lent, lengths}
use Rattle.receiver.specs.Chunk.{Chunk, chunk, is_drawing, is_dimming, body}
use Rattle.receiver.specs.Meters.{Sums, over_limit}
use Rattle.receiver.specs.Checks.{draw_number, dim_number, content_number, whole_number}
use Rattle.receiver.specs.Effects.{drawn}
use Rattle.receiver.specs.Record.{configuration_of, Config}
use Rattle.receiver.specs.Steps.{counts_of, no_counts, Concluded}
use Rattle.receiver.specs.Refusal.{refusal_number}
use Rattle.receiver.specs.Views.{done_of}
use Rattle.receiver.specs.declared.draw.Counts.{Counts}
use Rattle.receiver.specs.declared.refusal.Refusal.{Refusal}
use Rattle.receiver.proofs.ChunkLaws.{drawing-sample, not-drawing, is_dimming-mapping, drawn-none}
use Rattle.receiver.proofs.MeterLaws.{meter-idle}
use Rattle.receiver.proofs.NumberLaws.{refusal-some}

-- ---- the end of a message, by checks 20 to 23

module _ (k : Chunk) (v : Configuration) (sums : Sums) (s : Slices) where
  pub concluded-refused : (answer : Result Counts Refusal) (e : Refusal) → answer ≡ Err e → refusal_number e ≡ whole_number k v (lengths s) sums
      → Concluded 0 k v sums s (done_of answer) s
  concluded-refused answer e is n = rw is (record { number = n; counts = rw (refusal-some e); slices = rw (refusal-some e) })

  pub concluded-done : (counts : Counts) (s₁ : Slices) → 0 ≡ whole_number k v (lengths s) sums → (counts ≡ counts_of k v) × (s₁ ≡ drawn k v s)
      → Concluded 0 k v sums s (done_of (Ok counts)) s₁
  concluded-done counts s₁ n written = record { number = n; counts = written.0; slices = written.1 }

-- ---- checks 20 to 22 of a wave or frame, of levels, and of neither

module _ (t : ℕ) (octets : List ℕ) (k : Config) (area : List ℕ) (lent : Lent) where
  pub content-drawing : length area ≡ area_size → is_drawing t (configuration_of k area) ≡ true
      → content_number (chunk t octets) (configuration_of k area) lent ≡ draw_number t (octets_of k.size) (length (body (chunk t octets))) lent.rows
  unfolding content_number
  content-drawing e d = rw (d, drawing-sample t k area d, kept-octets k.size k.colours area e)

  pub content-dimming : is_dimming t (configuration_of k area) ≡ true
      → content_number (chunk t octets) (configuration_of k area) lent ≡ dim_number (mapping_in k.size area) (length (body (chunk t octets))) lent.levels
  unfolding content_number
  content-dimming d = rw (not-drawing t (configuration_of k area) d, d, is_dimming-mapping t k area d)

-- a chunk that is neither writes nothing
pub concluded-idle : (t : ℕ) (octets : List ℕ) (k : Config) (area : List ℕ) (sums : Sums) (s : Slices)
    → is_drawing t (configuration_of k area) ≡ false → is_dimming t (configuration_of k area) ≡ false → over_limit sums ≡ false
    → Concluded 0 (chunk t octets) (configuration_of k area) sums s (done_of (Ok no_counts)) s
unfolding whole_number content_number
concluded-idle t octets k area sums s d m within =
    concluded-done (chunk t octets) (configuration_of k area) sums s no_counts s
    (rw (d, m) (sym (meter-idle (chunk t octets) (configuration_of k area) sums d within)))
    (drawn-none t octets k area s d m)
