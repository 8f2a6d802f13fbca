-- Laws of a tag that document 01 does not know (document 02, C-16): what may refuse it; and that of the sample it adds at most an octet, whose
-- role is ignored, and so is that of a precision directly behind it. By `row_of-ignored` of the crate samples such octets change no number of the row.
use Rattle.std.specs.Prelude.{ℕ, false, cond, ◌&&◌, ◌||◌, [], ◌∷◌, ◌++◌, ◌≡◌, length, ltb, leb, eqb}
use Rattle.std.proofs.lemmas.Bool.{false≢true}
use Rattle.std.proofs.Math.Bool.{and-true, or-false}
use Rattle.std.proofs.Math.Path.{refl}
use Rattle.std.proofs.Common.{sym, ap, ◌∙◌, ne_eqb}
use Rattle.samples.specs.Roles.{ignored}
use Rattle.tags.specs.Limits.{octet_limit}
use Rattle.tags.specs.ChoiceLaws.{or-false_left, or-false_right}
use Rattle.tags.specs.Tag.{takes_octet, is_void, is_space, is_precision, is_hint, is_colour, is_prefixed, is_prefix, is_single, known_tag, skips, is_signal}
use Rattle.tags.specs.Dictionary.{Sample, Allowed, DictionaryWalk, misplaced, repeated, role_for, sample_with, allowed_after}
use Rattle.tags.specs.DictionaryView.{past_tag}

-- ---- it is none of the tags that document 01 lists

pub record Unlisted (w : ℕ) : Type 0 where
  pub space : is_space w ≡ false
  pub precision : is_precision w ≡ false
  pub hint : is_hint w ≡ false
  pub single : is_single w ≡ false
  pub colour : is_colour w ≡ false
  pub prefixed : is_prefixed w ≡ false
  pub prefix : is_prefix w ≡ false
  pub signal : is_signal w ≡ false

pub unlisted : (w : ℕ) → known_tag w ≡ false → Unlisted w
unfolding known_tag
unlisted w u =
    let nops = is_void w || is_space w || eqb w 0x4000 in
    let precisions = nops || is_precision w in
    let hints = precisions || is_hint w in
    let singles = hints || is_single w in
    let colours = singles || is_colour w in
    let no_colours = or-false_left colours (is_prefix w) u in
    let no_singles = or-false_left singles (is_colour w) no_colours in
    let no_hints = or-false_left hints (is_single w) no_singles in
    let no_precisions = or-false_left precisions (is_hint w) no_hints in
    let no_nops = or-false_left nops (is_precision w) no_precisions in
    let single = or-false_right hints (is_single w) no_singles in
    let colour = or-false_right singles (is_colour w) no_colours in
    let prefix = or-false_right colours (is_prefix w) u in
    record {
      space = or-false_right (is_void w) (is_space w) (or-false_left (is_void w || is_space w) (eqb w 0x4000) no_nops);
      precision = or-false_right nops (is_precision w) no_precisions;
      hint = or-false_right precisions (is_hint w) no_hints;
      single = single;
      colour = colour;
      prefixed = ne_eqb w 0x5000 (λ e. false≢true (sym colour ∙ ap is_colour e));
      prefix = prefix;
      signal = rw (single, colour, prefix) refl;
    }

-- ---- what refuses it, of 10 and 11: where a prefix waits, a skip past the end, a 33rd octet

pub misplaced-unknown : (left w : ℕ) (a : Allowed) → known_tag w ≡ false → misplaced left w a ≡ (a.waiting || ltb left (skips w))
unfolding misplaced
misplaced-unknown left w a unknown = let u = unlisted w unknown in rw (u.precision, u.prefixed) refl

pub repeated-unknown : (w : ℕ) (s : Sample) → known_tag w ≡ false → repeated w s ≡ (takes_octet w && leb octet_limit (length s.roles))
unfolding repeated
repeated-unknown w s unknown =
    let u = unlisted w unknown in
    let full = or-false (takes_octet w && leb octet_limit (length s.roles)) in
    rw (u.colour, u.single, u.hint, u.space, full, full, full, full) refl

-- ---- what it adds

module _ (w : ℕ) (s : DictionaryWalk) (unknown : known_tag w ≡ false) where
  pub role_for-unknown : role_for w s ≡ ignored
  unfolding role_for
  role_for-unknown = let u = unlisted w unknown in rw (u.signal, u.precision, u.hint) refl

  pub sample_with-unknown : sample_with w s
      ≡ record { roles = cond (takes_octet w) (s.sample.roles ++ (ignored ∷ [])) s.sample.roles; waves = s.sample.waves; space = s.sample.space }
  unfolding sample_with
  sample_with-unknown = let u = unlisted w unknown in rw (role_for-unknown, u.colour, u.space) refl

  -- a precision may stand behind its octet, and is ignored too; no 5000 may
  pub allowed_after-unknown : allowed_after w s ≡ record { precision = takes_octet w; role = ignored; waiting = false }
  unfolding allowed_after
  allowed_after-unknown =
      let u = unlisted w unknown in rw (u.signal, u.prefix, u.precision, unknown, and-true (takes_octet w)) refl

  pub precision-unknown : role_for 0x4010 (past_tag w s) ≡ ignored
  unfolding role_for is_single
  precision-unknown = rw allowed_after-unknown refl
