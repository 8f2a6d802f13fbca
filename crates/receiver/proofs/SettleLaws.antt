-- How the octets of a record change over a message, and what later calls then read of them.
use mathlib.Core.Path.{◌≡◌, refl, sym, ap, ◌∙◌}
use Prim.Native.Nat.{ℕ, zero, suc, ◌+◌, ◌-◌, ◌<◌, ◌≤◌}
use mathlib.Core.Bool.{Bool, true, false, cond, ◌&&◌, ◌||◌}
use mathlib.Core.Logic.{⊎_elim}
use native.Mathlib.Nat.{eq-or-lt_of_le, le_of_suc-le-suc}
use native.Mathlib.Decide.{dec_lt}
use mathlib.Core.List.{List}
use native.Mathlib.Omega.{arith}
use lib.ListN.{length, get_or, take, set, length-set}
use lib.Seq.{get_or-set_same, get_or-set_other, drop-set-lt}
use lib.Dec.{eqb}
use borrow.Author.Tests.{eqb-true, eqb-false, eq-eqb, ne_eqb, le-ltb}
use Rattle.tags.specs.ChoiceLaws.{and_left, and_right}
use Rattle.tags.specs.Kept.{area_size}
use Rattle.tags.specs.KeptLaws.{length-put, put_before, put_after, octets_put_lem}
use Rattle.receiver.specs.Modes.{channel_count}
use Rattle.receiver.specs.Governing.{Configuration}
use Rattle.receiver.specs.Record.{record_size, match_place, size_place, colours_place, area_place, config_in, area_in, channels_of, configuration_of, consistent_at, consistent_up_to, Config}
use Rattle.receiver.specs.Steps.{stored_in, closed_by, settled_in}
use Rattle.receiver.specs.declared.Receiver.{Receiver}
use Rattle.receiver.proofs.PartLaws.{part_same}
use Rattle.receiver.proofs.RecordLaws.{channels_of-below}

-- ---- stores and places

-- a store is read back at its place and changes no other
get_or-set-cond : (l : List ℕ) (i c a : ℕ) → i < length l → get_or (set l i a) c 0 ≡ cond (eqb c i) a (get_or l c 0)
get_or-set-cond l i c a h = go (eqb c i) refl
  where
    go : (b : Bool) → eqb c i ≡ b → get_or (set l i a) c 0 ≡ cond b a (get_or l c 0)
    go true e = rw (eqb-true c i e) (get_or-set_same l i a 0 h)
    go false e = get_or-set_other l i c a 0 (eqb-false c i e)

eqb-shift : (n a b : ℕ) → eqb (n + a) (n + b) ≡ eqb a b
eqb-shift n a b = go (eqb a b) refl
  where
    go : (t : Bool) → eqb a b ≡ t → eqb (n + a) (n + b) ≡ t
    go true e = eq-eqb (n + a) (n + b) (ap (λ (x : ℕ). n + x) (eqb-true a b e))
    go false e = ne_eqb (n + a) (n + b) (λ q. eqb-false a b e (omega (arith, q)))

-- ---- a channel stored

module _ (l : List ℕ) (z : length l ≡ record_size) (i : ℕ) (h : i < channel_count) (k : Config) (area : List ℕ) (w : length area ≡ area_size) where
  abbrev heads : List ℕ
  heads =
      set (set (set (set l i k.state) (match_place i) k.match_bits) (size_place i) k.size) (colours_place i) k.colours

  pub length-heads : length heads ≡ record_size
  length-heads =
      length-set (set (set (set l i k.state) (match_place i) k.match_bits) (size_place i) k.size) (colours_place i) k.colours
      ∙ length-set (set (set l i k.state) (match_place i) k.match_bits) (size_place i) k.size
      ∙ length-set (set l i k.state) (match_place i) k.match_bits
      ∙ length-set l i k.state
      ∙ z

  pub area-fits : area_place i + length area ≤ length heads
  area-fits = rw (length-heads, w) (omega arith)

  pub length-stored : length (stored_in l i k area) ≡ record_size
  length-stored = length-put heads (area_place i) area area-fits ∙ length-heads

  -- the octet of a head, by the place that it has
  head-stored : (p : ℕ) → p < 256
      → get_or (stored_in l i k area) p 0
      ≡ cond (eqb p (colours_place i)) k.colours
      (cond (eqb p (size_place i)) k.size
      (cond (eqb p (match_place i)) k.match_bits
      (cond (eqb p i) k.state (get_or l p 0))))
  head-stored p b =
      let l₁ = set l i k.state in
      let l₂ = set l₁ (match_place i) k.match_bits in
      let l₃ = set l₂ (size_place i) k.size in
      let n₁ : length l₁ ≡ record_size = length-set l i k.state ∙ z in
      let n₂ : length l₂ ≡ record_size = length-set l₁ (match_place i) k.match_bits ∙ n₁ in
      let n₃ : length l₃ ≡ record_size = length-set l₂ (size_place i) k.size ∙ n₂ in
      put_before heads (area_place i) area area-fits p (omega arith)
      ∙ get_or-set-cond l₃ (colours_place i) p k.colours (rw n₃ (omega arith))
      ∙ ap (λ (x : ℕ). cond (eqb p (colours_place i)) k.colours x)
      (get_or-set-cond l₂ (size_place i) p k.size (rw n₂ (omega arith))
      ∙ ap (λ (x : ℕ). cond (eqb p (size_place i)) k.size x)
      (get_or-set-cond l₁ (match_place i) p k.match_bits (rw n₁ (omega arith))
      ∙ ap (λ (x : ℕ). cond (eqb p (match_place i)) k.match_bits x)
      (get_or-set-cond l i p k.state (rw z (omega arith)))))

  module _ (c : ℕ) (below : c < channel_count) where
    state_stored : get_or (stored_in l i k area) c 0 ≡ cond (eqb c i) k.state (get_or l c 0)
    state_stored =
        head-stored c (omega arith)
        ∙ rw (ne_eqb c (colours_place i) (λ q. omega (arith, q)), ne_eqb c (size_place i) (λ q. omega (arith, q)), ne_eqb c (match_place i) (λ q. omega (arith, q)))

    match-stored : get_or (stored_in l i k area) (match_place c) 0 ≡ cond (eqb c i) k.match_bits (get_or l (match_place c) 0)
    match-stored =
        head-stored (match_place c) (omega arith)
        ∙ rw (ne_eqb (match_place c) (colours_place i) (λ q. omega (arith, q)), ne_eqb (match_place c) (size_place i) (λ q. omega (arith, q)), ne_eqb (match_place c) i (λ q. omega (arith, q)), eqb-shift 64 c i)

    size-stored : get_or (stored_in l i k area) (size_place c) 0 ≡ cond (eqb c i) k.size (get_or l (size_place c) 0)
    size-stored =
        head-stored (size_place c) (omega arith)
        ∙ rw (ne_eqb (size_place c) (colours_place i) (λ q. omega (arith, q)), ne_eqb (size_place c) (match_place i) (λ q. omega (arith, q)), ne_eqb (size_place c) i (λ q. omega (arith, q)), eqb-shift 128 c i)

    colours-stored : get_or (stored_in l i k area) (colours_place c) 0 ≡ cond (eqb c i) k.colours (get_or l (colours_place c) 0)
    colours-stored =
        head-stored (colours_place c) (omega arith)
        ∙ rw (ne_eqb (colours_place c) (size_place i) (λ q. omega (arith, q)), ne_eqb (colours_place c) (match_place i) (λ q. omega (arith, q)), ne_eqb (colours_place c) i (λ q. omega (arith, q)), eqb-shift 192 c i)

    pub config-stored : config_in (stored_in l i k area) c ≡ cond (eqb c i) k (config_in l c)
    config-stored =
        (λ j. record { state = state_stored j; match_bits = match-stored j; size = size-stored j; colours = colours-stored j })
        ∙ go (eqb c i)
      where
        go : (b : Bool)
            → ◌≡◌ {A = Config}
            (record {
              state = cond b k.state (get_or l c 0);
              match_bits = cond b k.match_bits (get_or l (match_place c) 0);
              size = cond b k.size (get_or l (size_place c) 0);
              colours = cond b k.colours (get_or l (colours_place c) 0);
            })
            (cond b k (config_in l c))
        go true = refl
        go false = refl

    -- the sets of the heads leave the areas alone
    heads-area : area_in heads c ≡ area_in l c
    heads-area =
        let d = area_place c in
        ap (take area_size)
        (drop-set-lt d (set (set (set l i k.state) (match_place i) k.match_bits) (size_place i) k.size) (colours_place i) k.colours (omega arith)
        ∙ drop-set-lt d (set (set l i k.state) (match_place i) k.match_bits) (size_place i) k.size (omega arith)
        ∙ drop-set-lt d (set l i k.state) (match_place i) k.match_bits (omega arith)
        ∙ drop-set-lt d l i k.state (omega arith))

    pub area-stored : area_in (stored_in l i k area) c ≡ cond (eqb c i) area (area_in l c)
    area-stored = go (eqb c i) refl
      where
        same_place : c ≡ i → area_in (stored_in l i k area) c ≡ area
        same_place e =
            ap (area_in (stored_in l i k area)) e ∙ octets_put_lem heads (area_place i) area area-fits area_size w

        other_place : (c ≡ i → ⊥) → (n : ℕ) → n < area_size → get_or (stored_in l i k area) (area_place c + n) 0 ≡ get_or heads (area_place c + n) 0
        other_place e n s = by_order (dec_lt c i)
          where
            by_order : Dec (c < i) → get_or (stored_in l i k area) (area_place c + n) 0 ≡ get_or heads (area_place c + n) 0
            by_order (yes o) = put_before heads (area_place i) area area-fits (area_place c + n) (omega arith)
            by_order (no o) =
                let past : area_place i + length area + (area_place c + n - (area_place i + length area)) ≡ area_place c + n = rw w (omega arith) in
                ap (λ (x : ℕ). get_or (stored_in l i k area) x 0) (sym past)
                ∙ put_after heads (area_place i) area area-fits (area_place c + n - (area_place i + length area))
                ∙ ap (λ (x : ℕ). get_or heads x 0) past

        go : (b : Bool) → eqb c i ≡ b → area_in (stored_in l i k area) c ≡ cond b area (area_in l c)
        go true e = same_place (eqb-true c i e)
        go false e =
            part_same area_size (area_place c) heads (stored_in l i k area) (rw length-heads (omega arith)) (length-stored ∙ sym length-heads)
            (other_place (eqb-false c i e))
            ∙ heads-area

-- ---- a channel closed

module _ (l : List ℕ) (z : length l ≡ record_size) (i : ℕ) (h : i < channel_count) where
  -- what channel c holds then
  pub config-shut : (c : ℕ) → c < channel_count → config_in (set l i 0) c ≡ cond (eqb c i) (closed_by true (config_in l i)) (config_in l c)
  config-shut c below =
      (λ j.
      record {
        state = get_or-set-cond l i c 0 (rw z (omega arith)) j;
        match_bits = get_or-set_other l i (match_place c) 0 0 (λ q. omega (arith, q)) j;
        size = get_or-set_other l i (size_place c) 0 0 (λ q. omega (arith, q)) j;
        colours = get_or-set_other l i (colours_place c) 0 0 (λ q. omega (arith, q)) j;
      })
      ∙ go (eqb c i) refl
    where
      go : (b : Bool) → eqb c i ≡ b
          → ◌≡◌ {A = Config}
          (record {
            state = cond b 0 (get_or l c 0);
            match_bits = get_or l (match_place c) 0;
            size = get_or l (size_place c) 0;
            colours = get_or l (colours_place c) 0;
          })
          (cond b (closed_by true (config_in l i)) (config_in l c))
      go true e = ap (λ (x : ℕ). closed_by true (config_in l x)) (eqb-true c i e)
      go false e = refl

  pub area-shut : (c : ℕ) → area_in (set l i 0) c ≡ area_in l c
  area-shut c = ap (take area_size) (drop-set-lt (area_place c) l i 0 (omega arith))

-- ---- the length afterwards

pub length-settled : (n : ℕ) (routing closing : Bool) (i : ℕ) (k : Config) (area l : List ℕ) → i < channel_count → length area ≡ area_size → length l ≡ record_size
    → length (settled_in n routing closing i k area l) ≡ record_size
unfolding settled_in
length-settled n routing closing i k area l h w z = go (eqb n 0 && routing) (eqb n 19 || eqb n 0 && closing)
  where
    go : (a b : Bool) → length (cond a (stored_in l i (closed_by closing k) area) (cond b (set l i 0) l)) ≡ record_size
    go true b = length-stored l z i h (closed_by closing k) area w
    go false true = length-set l i 0 ∙ z
    go false false = z

-- ---- what governs each channel afterwards

-- a record that holds something else of one channel
module _ (r s : Receiver) (i : ℕ) (h : i < channel_count) (v : Configuration)
    (changed : (c : ℕ) → c < channel_count
    → configuration_of (config_in s.channels c) (area_in s.channels c)
    ≡ cond (eqb c i) v (configuration_of (config_in r.channels c) (area_in r.channels c))) where
  pub channels-changed : (c : ℕ) → channels_of s c ≡ cond (eqb c i) v (channels_of r c)
  channels-changed c = go (dec_lt c channel_count)
    where
      go : Dec (c < channel_count) → channels_of s c ≡ cond (eqb c i) v (channels_of r c)
      go (yes below) = channels_of-below s c below ∙ changed c below ∙ ap (cond (eqb c i) v) (sym (channels_of-below r c below))
      go (no above) = rw (le-ltb c channel_count (omega arith), ne_eqb c i (λ q. omega (arith, q)))

-- ---- the consistency rule afterwards

-- the rule up to n is the rule at each channel below n
pub consistent-each : (l : List ℕ) (n : ℕ) → consistent_up_to l n ≡ true → (c : ℕ) → c < n → consistent_at (config_in l c) ≡ true
unfolding consistent_up_to
consistent-each l zero e c h = absurd (omega arith)
consistent-each l (suc n) e c h =
    ⊎_elim (λ (q : c ≡ n). rw q (and_right (consistent_up_to l n) (consistent_at (config_in l n)) e)) (λ (q : c < n). consistent-each l n (and_left (consistent_up_to l n) (consistent_at (config_in l n)) e) c q)
    (eq-or-lt_of_le (le_of_suc-le-suc h))

each-consistent : (l : List ℕ) (n : ℕ) → ((c : ℕ) → c < n → consistent_at (config_in l c) ≡ true) → consistent_up_to l n ≡ true
unfolding consistent_up_to
each-consistent l zero f = refl
each-consistent l (suc n) f = rw (each-consistent l n (λ c h. f c (omega arith)), f n (omega arith))

-- it holds on where one channel is changed to what is consistent
pub consistent-changed : (l m : List ℕ) (i : ℕ) (k : Config)
    → ((c : ℕ) → c < channel_count → config_in m c ≡ cond (eqb c i) k (config_in l c))
    → consistent_up_to l channel_count ≡ true → consistent_at k ≡ true → consistent_up_to m channel_count ≡ true
consistent-changed l m i k changed sound e =
    each-consistent m channel_count (λ c below. ap consistent_at (changed c below) ∙ go c below (eqb c i))
  where
    go : (c : ℕ) → c < channel_count → (b : Bool) → consistent_at (cond b k (config_in l c)) ≡ true
    go c below true = e
    go c below false = consistent-each l channel_count sound c below
