-- Laws of the lists of signals: one signal more, and what a loop over a list stores.
use Prim.Native.Nat.{ℕ, ◌+◌, ◌<◌, ◌≤◌}
use native.Mathlib.Omega.{arith}
use native.Mathlib.Decide.{ℕ_discrete, dec_lt}
use mathlib.Core.Path.{◌≡◌, refl, sym, ◌∙◌, ap}
use mathlib.Core.Bool.{Bool, true, false}
use mathlib.Core.List.{List, [], ◌∷◌, ◌++◌}
use mathlib.Core.Logic.{◌⊎◌, inl, inr}
use lib.Bits.{bit_or, or_zero_l, or_add_and, and_le_l, and_le_r}
use lib.ListN.{length, get_or, set, length-append, get_or-append}
use lib.Seq.{get_or-set_same, get_or-set_other, get_or_at}
use lib.IntN.{ℤ, pos}
use lib.Dec.{ltb}
use borrow.Author.Tests.{lt-ltb, le-ltb}
use Rattle.samples.specs.declared.signals.Signal.{Signal}
use Rattle.samples.specs.declared.signals.Kind.{Kind}
use Rattle.samples.specs.Limits.{row_size}
use Rattle.samples.specs.Roles.{first_octet_of}
use Rattle.samples.specs.Signals.{signal_of, signal_at, Among, In, is_free, Found, Listed, Gathered, Stored, BothStored, NoneLit, NoneLitIn}

-- ---- one signal more

module _ (list : List Signal) (x : Signal) where
  longer : length (list ++ (x ∷ [])) ≡ length list + 1
  longer = rw length-append refl

  old : (j : ℕ) → j < length list → signal_at (list ++ (x ∷ [])) j ≡ signal_at list j
  old j h = get_or-append list (x ∷ []) _ j h

  new : signal_at (list ++ (x ∷ [])) (length list) ≡ x
  new = get_or_at list x [] _ (length list) refl

  among-more : (s : ℕ) → Among list (length list) s → Among (list ++ (x ∷ [])) (length (list ++ (x ∷ []))) s
  among-more s a =
      record {
        index = a.index;
        below = omega (arith, longer, a.below);
        slot = ap (λ (y : Signal). y.slot) (old a.index a.below) ∙ a.slot;
      }

  among-new : Among (list ++ (x ∷ [])) (length (list ++ (x ∷ []))) x.slot
  among-new = record { index = length list; below = omega (arith, longer); slot = ap (λ (y : Signal). y.slot) new }

module _ (places : List ℕ) (width : ℕ) (waves : List ℕ) (start count : ℕ) (precise : Bool) (n : ℕ) (list : List Signal) (g : Listed places width waves start count precise n list) where
  listed_kept : Listed places width waves start count precise (n + 1) list
  listed_kept = record { short = omega (arith, g.short); each = g.each }

  listed_more : (x : Signal) → Found places width waves start count precise x → Listed places width waves start count precise (n + 1) (list ++ (x ∷ []))
  listed_more x f = record { short = omega (arith, longer list x, g.short); each = each }
    where
      go : (j : ℕ) → j < length (list ++ (x ∷ [])) → Dec (j < length list) → Found places width waves start count precise (signal_at (list ++ (x ∷ [])) j)
      go j h (yes b) = rw (old list x j b) (g.each j b)
      go j h (no b) = let q : j ≡ length list = omega (arith, longer list x) in rw (q, new list x) f

      each : (j : ℕ) → j < length (list ++ (x ∷ [])) → Found places width waves start count precise (signal_at (list ++ (x ∷ [])) j)
      each j h = go j h (dec_lt j (length list))

-- slot s is gone through: its signal is added to one of the lists, or to none
module _ (places : List ℕ) (width : ℕ) (waves : List ℕ) (start count n s : ℕ) (kind : Kind) (g : Gathered places width waves start count n kind) (h : n < count) (q : s ≡ start + n) where
  abbrev x : Signal
  x = signal_of places s

  abbrev kind₁ : Kind
  kind₁ = record { fine = kind.fine ++ (x ∷ []); coarse = kind.coarse }

  abbrev kind₂ : Kind
  kind₂ = record { fine = kind.fine; coarse = kind.coarse ++ (x ∷ []) }

  found : (precise : Bool) → is_free waves s ≡ true → x.first < width → ltb x.second width ≡ precise → Found places width waves start count precise x
  found precise f b k = record { low = omega arith; high = omega arith; free = f; placed = refl; refined = refl; within = b; known = k }

  all_by : (after : Kind) → ((k : ℕ) → In kind k → In after k) → (is_free waves s ≡ true → x.first < width → In after s)
      → (k : ℕ) → start ≤ k → k < start + (n + 1) → is_free waves k ≡ true → get_or places (first_octet_of k) 0 < width → In after k
  all_by after more this k a b f w = go (ℕ_discrete k s)
    where
      go : Dec (k ≡ s) → In after k
      go (yes e) = rw e (this (rw e at f) (rw e at w))
      go (no ne) = more k (g.all k a (omega arith) f w)

  pub gathered-fine : is_free waves s ≡ true → x.first < width → x.second < width → Gathered places width waves start count (n + 1) kind₁
  gathered-fine f b k =
      record {
        precise = listed_more places width waves start count true n kind.fine g.precise x (found true f b (lt-ltb x.second width k));
        plain = listed_kept places width waves start count false n kind.coarse g.plain;
        all = all_by kind₁ more (λ _ _. inl (among-new kind.fine x));
      }
    where
      more : (k : ℕ) → In kind k → In kind₁ k
      more k (inl a) = inl (among-more kind.fine x k a)
      more k (inr a) = inr a

  pub gathered-coarse : is_free waves s ≡ true → x.first < width → width ≤ x.second → Gathered places width waves start count (n + 1) kind₂
  gathered-coarse f b k =
      record {
        precise = listed_kept places width waves start count true n kind.fine g.precise;
        plain = listed_more places width waves start count false n kind.coarse g.plain x (found false f b (le-ltb x.second width k));
        all = all_by kind₂ more (λ _ _. inr (among-new kind.coarse x));
      }
    where
      more : (k : ℕ) → In kind k → In kind₂ k
      more k (inl a) = inl a
      more k (inr a) = inr (among-more kind.coarse x k a)

  pub gathered-none : (is_free waves s ≡ true → x.first < width → ⊥) → Gathered places width waves start count (n + 1) kind
  gathered-none f =
      record {
        precise = listed_kept places width waves start count true n kind.fine g.precise;
        plain = listed_kept places width waves start count false n kind.coarse g.plain;
        all = all_by kind (λ k a. a) (λ a b. absurd (f a b));
      }

-- ---- what a loop over a list stores

module _ (g : Signal → ℤ) (list : List Signal) (row₀ : List ℤ) where
  -- the signal at j is stored
  module _ (j : ℕ) (row : List ℤ) (x : Signal) (v : ℤ) (l : length row ≡ row_size) (q : x ≡ signal_at list j) (b : x.slot < row_size) (e : v ≡ g x) (d : Stored g list j row₀ row) where
    pub stored_more : Stored g list (j + 1) row₀ (set row x.slot v)
    stored_more f right s h y = go (ℕ_discrete s x.slot)
      where
        before : (s ≡ x.slot → ⊥) → (get_or row₀ s (pos 0) ≡ f s) ⊎ Among list (j + 1) s → (get_or row₀ s (pos 0) ≡ f s) ⊎ Among list j s
        before ne (inl r) = inl r
        before ne (inr a) = inr (record { index = a.index; below = at (dec_lt a.index j); slot = a.slot })
          where
            at : Dec (a.index < j) → a.index < j
            at (yes c) = c
            at (no c) =
                let i : a.index ≡ j = omega (arith, a.below) in
                absurd (ne (sym a.slot ∙ ap (λ (k : ℕ). (signal_at list k).slot) i ∙ ap (λ (y : Signal). y.slot) (sym q)))

        go : Dec (s ≡ x.slot) → get_or (set row x.slot v) s (pos 0) ≡ f s
        go (yes i) = rw i (get_or-set_same row x.slot v (pos 0) (rw l b) ∙ e ∙ rw q (right j (omega arith)))
        go (no ne) = get_or-set_other row x.slot s v (pos 0) ne ∙ d f (λ i c. right i (omega arith)) s h (before ne y)

-- ---- numbers joined bit by bit

or-none : (a b : ℕ) → bit_or a b ≡ 0 → (a ≡ 0) × (b ≡ 0)
or-none a b e = (omega (arith, or_add_and a b, and_le_l a b, and_le_r a b), omega (arith, or_add_and a b, and_le_l a b, and_le_r a b))

or-zeros : (a b : ℕ) → a ≡ 0 → b ≡ 0 → bit_or a b ≡ 0
or-zeros a b p q = rw (p, q) (or_zero_l 0)

pub lit-more : (r : ℕ) (v : Signal → ℕ) (list : List Signal) (j n : ℕ) (x : Signal) → x ≡ signal_at list j → n ≡ v x → NoneLit r v list j → NoneLit (bit_or r n) v list (j + 1)
lit-more r v list j n x q e d =
    ((λ z i h. go z i h (ℕ_discrete i j)), (λ z. or-zeros r n (d.1 (λ i h. z i (omega arith))) (e ∙ rw q (z j (omega arith)))))
  where
    go : bit_or r n ≡ 0 → (i : ℕ) → i < j + 1 → Dec (i ≡ j) → v (signal_at list i) ≡ 0
    go z i h (yes k) = rw (k, ← q) (sym e ∙ (or-none r n z).1)
    go z i h (no ne) = d.0 (or-none r n z).0 i (omega arith)

-- ---- the two lists of a kind, one after the other

module _ (kind : Kind) (fine coarse : List Signal) (p : fine ≡ kind.fine) (q : coarse ≡ kind.coarse) where
  pub both_stored : (g : Signal → ℤ) (row₀ row₁ row₂ : List ℤ) → Stored g fine (length fine) row₀ row₁ → Stored g coarse (length coarse) row₁ row₂ → BothStored g kind row₀ row₂
  both_stored g row₀ row₁ row₂ d₀ e₀ f a b s h = go
    where
      d : Stored g kind.fine (length kind.fine) row₀ row₁
      d = rw p at d₀

      e : Stored g kind.coarse (length kind.coarse) row₁ row₂
      e = rw q at e₀

      go : (get_or row₀ s (pos 0) ≡ f s) ⊎ In kind s → get_or row₂ s (pos 0) ≡ f s
      go (inl r) = e f b s h (inl (d f a s h (inl r)))
      go (inr (inl x)) = e f b s h (inl (d f a s h (inr x)))
      go (inr (inr x)) = e f b s h (inr x)

  pub none_lit_in : (v : Signal → ℕ) (m n : ℕ) → NoneLit m v fine (length fine) → NoneLit n v coarse (length coarse) → NoneLitIn (bit_or m n) v kind
  none_lit_in v m n d₀ e₀ = ((λ z. let o = or-none m n z in (d.0 o.0, e.0 o.1)), (λ z. or-zeros m n (d.1 z.0) (e.1 z.1)))
    where
      d : NoneLit m v kind.fine (length kind.fine)
      d = rw p at d₀

      e : NoneLit n v kind.coarse (length kind.coarse)
      e = rw q at e₀
