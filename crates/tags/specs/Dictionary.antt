-- The dictionary check (document 01, "Tag dictionary, modes 1 and 2" and checks 8 to 12 in their order; document 02, C-16): the tags are
-- taken one by one; at each 8, 9, 10 and 11 are tried in turn, then the next tag; at the end an unfinished prefix is 10, then 12.
use Rattle.std.specs.Prelude.{ℕ, zero, suc, ◌+◌, ◌-◌, ◌*◌, ◌/◌, ◌%◌, Bool, false, cond, not, ◌&&◌, ◌||◌, List, [], ◌∷◌, ◌++◌, length, get_or, ltb, leb, eqb}
use Rattle.samples.specs.Roles.{ignored, first_octet_of, precision_of, hint_of, has}
use Rattle.tags.specs.Limits.{octet_limit, colour_limit, tag_octet_limit}
use Rattle.tags.specs.Choice.{refuse, first}
use Rattle.tags.specs.Tag.{takes_octet, defined_group, is_space, is_precision, is_hint, is_colour, wavelength, is_prefixed, is_prefix, is_single, refused_tag, skips, is_unknown_octet, is_signal, slot_for}

-- What a dictionary says of a sample: a role for each octet, so as many roles as the sample has octets; the wavelength of each
-- colour in dictionary order, 0 where a prefix gives it; and the space modifier's word, 0 if none.
pub record Sample : Type 0 where
  pub roles : List ℕ
  pub waves : List ℕ
  pub space : ℕ

abbrev pub no_sample : Sample
no_sample = record { roles = []; waves = []; space = 0 }

-- What the tag directly before allows: whether a precision may stand here, and the role that its octet then has; and whether a prefix,
-- with its precision if any, waits for its 5000.
pub record Allowed : Type 0 where
  pub precision : Bool
  pub role : ℕ
  pub waiting : Bool

abbrev pub nothing_allowed : Allowed
nothing_allowed = record { precision = false; role = ignored; waiting = false }

-- The walk: the refusal, 0 so far; how many words are still skipped; what the tag before allows; and the sample so far.
pub record DictionaryWalk : Type 0 where
  pub refusal : ℕ
  pub skip : ℕ
  pub allowed : Allowed
  pub sample : Sample

-- the walk with nothing read: at its start with 0, and after a refusal with its number
abbrev pub nothing_read : ℕ → DictionaryWalk
nothing_read n = record { refusal = n; skip = 0; allowed = nothing_allowed; sample = no_sample }

-- ---- checks 10 and 11

-- check 10: "Precision, prefix or 5000 is misplaced, or a Void passes the end"; C-16, "Skips past the end give 10", of an unknown tag as of
-- a Void. `left` words stand after the tag.
unfoldable pub misplaced : ℕ → ℕ → Allowed → Bool
misplaced left w a =
    cond (is_precision w) (not a.precision)
    (cond (is_prefixed w) (not a.waiting)
    (a.waiting || ltb left (skips w)))

-- check 11: "A signal, hint or space modifier repeats, or it is the 9th colour or 33rd octet"
unfoldable pub repeated : ℕ → Sample → Bool
repeated w s =
    takes_octet w && leb octet_limit (length s.roles)
    || is_colour w && leb colour_limit (length s.waves)
    || is_single w && has s.roles (first_octet_of (slot_for w 0))
    || is_hint w && (has s.roles (hint_of 0) || has s.roles (hint_of 1))
    || is_space w && not (eqb s.space 0)

-- the number that refuses tag w, 0 where it passes
unfoldable pub tag_number : ℕ → ℕ → ℕ → DictionaryWalk → ℕ
tag_number mode left w s =
    first (refuse (not (defined_group w)) 8)
    (first (refuse (refused_tag mode w) 9)
    (first (refuse (misplaced left w s.allowed) 10)
    (refuse (repeated w s.sample) 11)))

-- ---- a tag that passes

-- the role of its octet; that of a NOP and of an unknown tag is ignored
unfoldable pub role_for : ℕ → DictionaryWalk → ℕ
role_for w s =
    cond (is_signal w) (first_octet_of (slot_for w (length s.sample.waves)))
    (cond (is_precision w) s.allowed.role
    (cond (is_hint w) (hint_of (w % 2)) ignored))

-- what the sample is with it
unfoldable pub sample_with : ℕ → DictionaryWalk → Sample
sample_with w s =
    record {
      roles = cond (takes_octet w) (s.sample.roles ++ (role_for w s ∷ [])) s.sample.roles;
      waves = cond (is_colour w) (s.sample.waves ++ (wavelength w ∷ [])) s.sample.waves;
      space = cond (is_space w) w s.sample.space;
    }

-- what it allows directly after it: a precision after a signal, an ignored one after an unknown tag with an octet, and after a prefix or
-- its precision the 5000
unfoldable pub allowed_after : ℕ → DictionaryWalk → Allowed
allowed_after w s =
    record {
      precision = is_signal w || is_unknown_octet w;
      role = cond (is_signal w) (precision_of (slot_for w (length s.sample.waves))) ignored;
      waiting = is_prefix w || is_precision w && s.allowed.waiting;
    }

-- ---- the walk

-- the walk with tag w read, after which `left` words stand
unfoldable pub read : ℕ → ℕ → ℕ → DictionaryWalk → DictionaryWalk
read mode left w s =
    cond (eqb (tag_number mode left w s) 0)
    (record { refusal = 0; skip = skips w; allowed = allowed_after w s; sample = sample_with w s })
    (nothing_read (tag_number mode left w s))

-- one word more: a refusal stays, a word that is skipped is not read
unfoldable pub step : ℕ → ℕ → ℕ → DictionaryWalk → DictionaryWalk
step mode left w s =
    cond (eqb s.refusal 0)
    (cond (eqb s.skip 0)
    (read mode left w s)
    (record { refusal = 0; skip = s.skip - 1; allowed = s.allowed; sample = s.sample }))
    s

-- word i of the tag octets, big-endian
abbrev pub word_at : List ℕ → ℕ → ℕ
word_at tags i = get_or tags (i * 2) 0 * 256 + get_or tags (i * 2 + 1) 0

abbrev pub word_count : List ℕ → ℕ
word_count tags = length tags / 2

-- the walk over the first i words
unfoldable pub walked : ℕ → List ℕ → ℕ → DictionaryWalk
walked mode tags zero = nothing_read 0
walked mode tags (suc i) = step mode (word_count tags - suc i) (word_at tags i) (walked mode tags i)

-- ---- the end

-- check 12: "X (4200), Y (4210) or every colour is missing"
unfoldable pub incomplete : Sample → Bool
incomplete s = not (has s.roles (first_octet_of 0)) || not (has s.roles (first_octet_of 1)) || eqb (length s.waves) 0

unfoldable pub end_number : DictionaryWalk → ℕ
end_number s = first s.refusal (first (refuse s.allowed.waiting 10) (refuse (incomplete s.sample) 12))

-- the refusal of the dictionary `tags` in mode 1 or 2, 8 to 12, or 0
unfoldable pub dictionary_number : ℕ → List ℕ → ℕ
dictionary_number mode tags = end_number (walked mode tags (word_count tags))

-- the sample that it describes, where it is not refused
unfoldable pub dictionary_sample : ℕ → List ℕ → Sample
dictionary_sample mode tags =
    cond (eqb (dictionary_number mode tags) 0) (walked mode tags (word_count tags)).sample no_sample

-- "A C host calls the dictionary check with a mode and the tag octets": 6 for modes but 1 and 2, then 5 for odd lengths or above 1,020,
-- then 8 to 12
unfoldable pub host_number : ℕ → List ℕ → ℕ
host_number mode tags =
    first (refuse (not (eqb mode 1 || eqb mode 2)) 6)
    (first (refuse (not (eqb (length tags % 2) 0 && leb (length tags) tag_octet_limit)) 5) (dictionary_number mode tags))

-- "it returns the width, or 100 plus the refusal"
unfoldable pub host_check : ℕ → List ℕ → ℕ
host_check mode tags =
    cond (eqb (host_number mode tags) 0) (length (dictionary_sample mode tags).roles) (100 + host_number mode tags)

-- the sample that a host is given, where nothing refuses
unfoldable pub host_sample : ℕ → List ℕ → Sample
host_sample mode tags = cond (eqb (host_number mode tags) 0) (dictionary_sample mode tags) no_sample
