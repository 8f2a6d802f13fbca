use lib.Seq.{paste}
use Rattle.std.proofs.Common.{◌≡◌, ◌∙◌, ℕ, ◌+◌, ◌-◌, ◌<◌, ◌≤◌, List, ◌++◌, length, replicate, take, set, get_or, sym, ap, arith}
use Rattle.std.proofs.lemmas.List.{append-nil, set-get_or, drop_all, length-replicate, length-take-le}
use Rattle.std.proofs.lemmas.List.Edits.{paste_none, paste_all, fill_from_more}
use Rattle.samples.proofs.fixed_list.FixedList.into_array.Goals as goal
use Rattle.samples.proofs.fixed_list.FixedList.into_array.Goals.{then-place-from, else-place-from}

-- No blank yet.
none : {X : Type 0} (items : List X) (len n : ℕ) (blank : X) → n ≡ 0 → items ≡ paste items len (replicate n blank) n
none items len n blank e = paste_none items len (replicate 0 blank) ∙ ap (λ m. paste items len (replicate m blank) m) (sym e)

-- One more, in place `place`.
one_more : {X : Type 0} (items now : List X) (len n place m : ℕ) (blank : X) → now ≡ paste items len (replicate n blank) n → place ≡ len + n → m ≡ n + 1 → place < length items → set now place blank ≡ paste items len (replicate m blank) m
one_more items now len n place m blank is e f below =
    ap (λ xs. set xs place blank) is
    ∙ ap (λ p. set (paste items len (replicate n blank) n) p blank) e
    ∙ fill_from_more items len n blank (omega arith)
    ∙ ap (λ k. paste items len (replicate k blank) k) (sym f)

-- Blanks to the end.
all : {X : Type 0} (items now self : List X) (len n m : ℕ) (blank : X) → now ≡ paste items len (replicate m blank) m → m ≡ n - len → take len items ≡ self → length items ≡ n → len ≤ n → now ≡ self ++ replicate (n - length self) blank
all items now self len n m blank is e taken size within =
    let long : length self ≡ len = ap length (sym taken) ∙ length-take-le len items (omega arith) in
    is
    ∙ paste_all items len (replicate m blank) m (sym (length-replicate m blank))
    ∙ ap (λ xs. take len items ++ (replicate m blank ++ xs)) (drop_all (len + m) items (omega arith))
    ∙ ap (λ xs. take len items ++ xs) (append-nil (replicate m blank))
    ∙ ap (λ xs. xs ++ replicate m blank) taken
    ∙ ap (λ k. self ++ replicate k blank) (let f : m ≡ n - length self = omega (arith, e, long) in f)

-- A place that keeps its item: there is no blank yet, nor is there one after it.
kept : {X : Type 0} (items now : List X) (len n m place : ℕ) (blank d : X) → now ≡ paste items len (replicate n blank) n → m ≡ n → set now place (get_or now place d) ≡ paste items len (replicate m blank) m
kept items now len n m place blank d is e = set-get_or now place d ∙ is ∙ ap (λ k. paste items len (replicate k blank) k) (sym e)

pub loop-place-init : goal.loop-place-init
loop-place-init g c = none c.self.inside.items c.self.inside.len _ c.args.blank (omega arith)

pub loop-place-preserved : goal.loop-place-preserved
loop-place-preserved g c =
    let size : length c.self.inside.items ≡ g.row.N = c.self.invariant.2 in
    elim c.if-place-from.branch [
      | then-place-from w ↦
          w.item-items-is
          ∙ one_more c.self.inside.items c.loop-place.item-items c.self.inside.len (c.loop-place.place - c.self.inside.len) c.loop-place.place _ c.args.blank c.loop-place.invariant (omega (arith, w.if-place-from.true, c.from.ensures)) (omega (arith, w.if-place-from.true, c.from.ensures)) (omega (arith, size, c.loop-place-test.true))
      | else-place-from w ↦
          w.item-items-is
          ∙ kept c.self.inside.items c.loop-place.item-items c.self.inside.len (c.loop-place.place - c.self.inside.len) _ c.loop-place.place c.args.blank _ c.loop-place.invariant (omega (arith, w.if-place-from.false, c.from.ensures))
    ]

pub returns : goal.returns
returns g c =
    all c.self.inside.items c.loop-place.item-items _ c.self.inside.len g.row.N (c.loop-place.place - c.self.inside.len) c.args.blank c.loop-place.invariant (omega (arith, c.loop-place-test.false, c.loop-place.auto.place-end)) c.self.view_is c.self.invariant.2 c.self.invariant.0
