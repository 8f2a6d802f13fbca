-- A tag does what specs/Dictionary.antt says of the word that it is read from.
use Rattle.std.specs.Prelude.{ℕ, true, false, cond, ◌&&◌, ◌||◌, Some, None, ◌≡◌, ◌++◌, ◌∷◌, [], length, leb, Bool, List}
use Rattle.std.proofs.Common.{refl, sym, ◌∙◌, arith}
use Rattle.std.proofs.Math.Bool.{or-false}
use Rattle.tags.specs.Limits.{octet_limit}
use Rattle.tags.specs.UnknownLaws.{unlisted, repeated-unknown}
use Rattle.std.proofs.lemmas.Bool.Decides.{nat_tests}
use Rattle.tags.specs.Tag.{takes_octet, is_space, is_colour, is_precision, is_prefix, is_signal, is_unknown_octet, wavelength, is_single, known_tag, reserved_space, refused_tag, skips, slot_for}
use Rattle.std.specs.Option.{is_some, unwrap_or}
use Rattle.samples.specs.Roles.{ignored, precision_of}
use Rattle.tags.specs.TagView.{IsTagOf, barred_by}
use Rattle.tags.specs.Dictionary.{Sample, Allowed, DictionaryWalk, misplaced, repeated, role_for, sample_with, allowed_after}
use Rattle.tags.specs.DictionaryView.{misplaced_by, repeated_by, roles_by, waiting_by, skip_by, space_by, waves_by, passed, past_tag}
use Rattle.tags.specs.declared.tag.HintFormat.TheVariants.{Scales}
use Rattle.tags.specs.declared.tag.Signal.TheVariants.{X}
use Rattle.tags.specs.declared.tag.Tag as declared_tag
use Rattle.tags.specs.declared.tag.Tag.TheVariants.{Skip, Hint, Signal, Unknown}

pub misplaced_same : (w left : ℕ) (t : declared_tag.Tag) (a : Allowed) → IsTagOf w t → misplaced left w a ≡ misplaced_by t left a
unfolding misplaced known_tag is_single
misplaced_same w left (Skip n) a h = grind (arith, nat_tests)
misplaced_same w left (Hint Scales) a h = grind (arith, nat_tests)
misplaced_same w left (Signal X) a h = grind (arith, nat_tests)
misplaced_same w left t a h = grind (arith, nat_tests)

pub barred_same : (w mode : ℕ) (t : declared_tag.Tag) → IsTagOf w t → refused_tag 1 w ≡ false → refused_tag mode w ≡ barred_by t mode
unfolding reserved_space known_tag is_single
barred_same w mode (Skip n) h p = grind (arith, nat_tests)
barred_same w mode (Hint Scales) h p = grind (arith, nat_tests)
barred_same w mode (Signal X) h p = grind (arith, nat_tests)
barred_same w mode t h p = grind (arith, nat_tests)

pub repeated_same : (w : ℕ) (t : declared_tag.Tag) (s : Sample) → IsTagOf w t → repeated w s ≡ repeated_by t (takes_octet w) s
unfolding repeated known_tag is_single slot_for
repeated_same w Unknown s h = repeated-unknown w s h.1 ∙ sym (or-false (takes_octet w && leb octet_limit (length s.roles)))
repeated_same w (Skip n) s h = grind (arith, nat_tests)
repeated_same w (Hint Scales) s h = grind (arith, nat_tests)
repeated_same w (Signal X) s h = grind (arith, nat_tests)
repeated_same w t s h = grind (arith, nat_tests)

pub skip_same : (w : ℕ) (t : declared_tag.Tag) → IsTagOf w t → skip_by t ≡ skips w
unfolding known_tag
skip_same w (Skip n) h = grind (arith, nat_tests)
skip_same w (Hint Scales) h = grind (arith, nat_tests)
skip_same w (Signal X) h = grind (arith, nat_tests)
skip_same w t h = grind (arith, nat_tests)

pub role_same : (w : ℕ) (t : declared_tag.Tag) (s : DictionaryWalk) → IsTagOf w t → (roles_by t (takes_octet w) s).0 ≡ role_for w s
unfolding role_for known_tag is_single slot_for
role_same w (Skip n) s h = grind (arith, nat_tests)
role_same w (Hint Scales) s h = grind (arith, nat_tests)
role_same w (Signal X) s h = grind (arith, nat_tests)
role_same w t s h = grind (arith, nat_tests)

unknown_refined : (b : Bool) → is_some (cond b (Some ignored) None) ≡ (b && true)
unknown_refined true = refl
unknown_refined false = refl

pub precision_same : (w : ℕ) (t : declared_tag.Tag) (s : DictionaryWalk) → IsTagOf w t
    → is_some (roles_by t (takes_octet w) s).1 ≡ (is_signal w || is_unknown_octet w)
unfolding known_tag is_single
precision_same w Unknown s h = rw ((unlisted w h.1).signal, h.1) (unknown_refined (takes_octet w))
precision_same w (Skip n) s h = grind (arith, nat_tests)
precision_same w (Hint Scales) s h = grind (arith, nat_tests)
precision_same w (Signal X) s h = grind (arith, nat_tests)
precision_same w t s h = grind (arith, nat_tests)

pub precision_role_same : (w : ℕ) (t : declared_tag.Tag) (s : DictionaryWalk) → IsTagOf w t → unwrap_or (roles_by t (takes_octet w) s).1 ignored ≡ cond (is_signal w) (precision_of (slot_for w (length s.sample.waves))) ignored
unfolding known_tag is_single slot_for
precision_role_same w (Skip n) s h = grind (arith, nat_tests)
precision_role_same w (Hint Scales) s h = grind (arith, nat_tests)
precision_role_same w (Signal X) s h = grind (arith, nat_tests)
precision_role_same w t s h = grind (arith, nat_tests)

pub waiting_same : (w : ℕ) (t : declared_tag.Tag) (a : Allowed) → IsTagOf w t → waiting_by t a ≡ (is_prefix w || is_precision w && a.waiting)
unfolding known_tag
waiting_same w (Skip n) a h = grind (arith, nat_tests)
waiting_same w (Hint Scales) a h = grind (arith, nat_tests)
waiting_same w (Signal X) a h = grind (arith, nat_tests)
waiting_same w t a h = grind (arith, nat_tests)

pub waves_same : (w : ℕ) (t : declared_tag.Tag) (ws : List ℕ) → IsTagOf w t → waves_by t ws ≡ cond (is_colour w) (ws ++ (wavelength w ∷ [])) ws
unfolding known_tag
waves_same w (Skip n) ws h = grind (arith, nat_tests)
waves_same w (Hint Scales) ws h = grind (arith, nat_tests)
waves_same w (Signal X) ws h = grind (arith, nat_tests)
waves_same w t ws h = grind (arith, nat_tests)

pub space_same : (w : ℕ) (t : declared_tag.Tag) (space : ℕ) → IsTagOf w t → space_by t space ≡ cond (is_space w) w space
unfolding known_tag
space_same w (Skip n) space h = grind (arith, nat_tests)
space_same w (Hint Scales) space h = grind (arith, nat_tests)
space_same w (Signal X) space h = grind (arith, nat_tests)
space_same w t space h = grind (arith, nat_tests)

pub passed_same : (w : ℕ) (t : declared_tag.Tag) (s : DictionaryWalk) → IsTagOf w t → passed t (takes_octet w) s ≡ past_tag w s
unfolding sample_with allowed_after
passed_same w t s h =
    let octet = takes_octet w in
    λ i.
    record {
      refusal = 0;
      skip = skip_same w t h i;
      allowed = record { precision = precision_same w t s h i; role = precision_role_same w t s h i; waiting = waiting_same w t s.allowed h i };
      sample =
          record {
            roles = cond octet (s.sample.roles ++ (role_same w t s h i ∷ [])) s.sample.roles;
            waves = waves_same w t s.sample.waves h i;
            space = space_same w t s.sample.space h i;
          };
    }
