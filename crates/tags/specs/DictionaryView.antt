-- How the record that the dictionary walk carries is read, and what a tag does to it, case by case. proofs/TagLaws.antt shows that it is what
-- specs/Dictionary.antt says of the words that the tag is read from.
use Rattle.std.specs.Prelude.{ℕ, ◌+◌, Bool, true, false, cond, not, ◌&&◌, ◌||◌, Option, None, Some, Result, Ok, Err, List, [], ◌∷◌, ◌++◌, ◌≡◌, ◌<◌, length, ltb, leb, eqb}
use Rattle.std.specs.Option.{is_some, unwrap_or}
use Rattle.samples.specs.Roles.{ignored, first_octet_of, precision_of, hint_of, has}
use Rattle.tags.specs.Limits.{octet_limit, colour_limit}
use Rattle.tags.specs.Refusal.{refusal_number}
use Rattle.tags.specs.Tag.{skips}
use Rattle.tags.specs.TagView.{slot_of, hint_number}
use Rattle.tags.specs.Dictionary.{Sample, Allowed, DictionaryWalk, nothing_read, allowed_after, sample_with}
use Rattle.tags.specs.declared.refusal.Refusal.{Refusal}
use Rattle.tags.specs.declared.walk.Walk as declared_walk
use Rattle.tags.specs.declared.tag.Tag as declared_tag
use Rattle.tags.specs.declared.tag.Tag.TheVariants.{Skip, Space, Precision, Hint, Signal, Colour, PrefixedColour, Prefix, Unknown}

-- ---- the walk, which goes on only while nothing is refused

abbrev pub allowed_in : Option ℕ → Bool → Allowed
allowed_in precision waiting = record { precision = is_some precision; role = unwrap_or precision ignored; waiting = waiting }

abbrev pub allowed_of : declared_walk.Walk → Allowed
allowed_of p = allowed_in p.precision p.waiting

abbrev pub sample_in : declared_walk.Walk → Sample
sample_in p = record { roles = p.roles; waves = p.waves; space = unwrap_or p.space 0 }

abbrev pub walk_of : declared_walk.Walk → DictionaryWalk
walk_of p = record { refusal = 0; skip = p.skip; allowed = allowed_of p; sample = sample_in p }

-- ---- a tag

abbrev pub misplaced_by : declared_tag.Tag → ℕ → Allowed → Bool
misplaced_by Precision left a = not a.precision
misplaced_by PrefixedColour left a = not a.waiting
misplaced_by (Skip n) left a = a.waiting || ltb left n
misplaced_by _ left a = a.waiting

abbrev pub again : declared_tag.Tag → Sample → Bool
again (Colour _) s = leb colour_limit (length s.waves)
again PrefixedColour s = leb colour_limit (length s.waves)
again (Signal x) s = has s.roles (first_octet_of (slot_of x))
again (Hint _) s = has s.roles (hint_of 0) || has s.roles (hint_of 1)
again (Space _) s = not (eqb s.space 0)
again _ s = false

abbrev pub repeated_by : declared_tag.Tag → Bool → Sample → Bool
repeated_by t octet s = octet && leb octet_limit (length s.roles) || again t s

-- the roles of its octet and of a precision octet behind it
abbrev pub roles_of : ℕ → ℕ × Option ℕ
roles_of slot = (first_octet_of slot, Some (precision_of slot))

abbrev pub roles_by : declared_tag.Tag → Bool → DictionaryWalk → ℕ × Option ℕ
roles_by Precision octet s = (s.allowed.role, None)
roles_by (Hint f) octet s = (hint_of (hint_number f), None)
roles_by (Signal x) octet s = roles_of (slot_of x)
roles_by (Colour _) octet s = roles_of (length s.sample.waves + 8)
roles_by PrefixedColour octet s = roles_of (length s.sample.waves + 8)
roles_by Prefix octet s = roles_of (length s.sample.waves + 16)
roles_by Unknown octet s = (ignored, cond octet (Some ignored) None)
roles_by _ octet s = (ignored, None)

abbrev pub waiting_by : declared_tag.Tag → Allowed → Bool
waiting_by Prefix a = true
waiting_by Precision a = a.waiting
waiting_by _ a = false

abbrev pub skip_by : declared_tag.Tag → ℕ
skip_by (Skip n) = n
skip_by _ = 0

abbrev pub space_by : declared_tag.Tag → ℕ → ℕ
space_by (Space v) space = v
space_by _ space = space

abbrev pub waves_by : declared_tag.Tag → List ℕ → List ℕ
waves_by (Colour v) waves = waves ++ (v ∷ [])
waves_by PrefixedColour waves = waves ++ (0 ∷ [])
waves_by _ waves = waves

-- a space modifier's word is not 0
abbrev pub IsWritten : declared_tag.Tag → Type 0
IsWritten (Space v) = 0 < v
IsWritten _ = Unit {0}

-- the walk past it
abbrev pub passed : declared_tag.Tag → Bool → DictionaryWalk → DictionaryWalk
passed t octet s =
    let roles = roles_by t octet s in
    record {
      refusal = 0;
      skip = skip_by t;
      allowed = allowed_in roles.1 (waiting_by t s.allowed);
      sample =
          record {
            roles = cond octet (s.sample.roles ++ (roles.0 ∷ [])) s.sample.roles;
            waves = waves_by t s.sample.waves;
            space = space_by t s.sample.space;
          };
    }

-- ---- one word, and the end

-- `after` is what one word more leaves: the walk past it, or the number that refuses it
abbrev pub StepsTo : DictionaryWalk → Result Unit Refusal → DictionaryWalk → Type 0
StepsTo after (Ok _) s = s ≡ after
StepsTo after (Err r) s = nothing_read (refusal_number r) ≡ after

-- ---- the walk of specs/Dictionary.antt past a tag of word w, where it passes

abbrev pub past_tag : ℕ → DictionaryWalk → DictionaryWalk
past_tag w s = record { refusal = 0; skip = skips w; allowed = allowed_after w s; sample = sample_with w s }
