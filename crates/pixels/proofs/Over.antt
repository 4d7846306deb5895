-- Pixels stored only where 0 stands: what a row has at each column afterwards, and the same for a sprite.
use Prim.Native.Nat.{ℕ, zero, suc, ◌+◌, ◌-◌, ◌*◌, ◌/◌, ◌%◌, ◌<◌, ◌≤◌}
use mathlib.Core.Path.{◌≡◌, refl, ap, sym, ◌∙◌}
use mathlib.Core.Bool.{Bool, true, false, cond}
use mathlib.Core.Logic.{◌⊎◌, inl, inr, ⊎_elim}
use mathlib.Core.List.{List}
use native.Mathlib.Omega.{arith}
use native.Mathlib.Numerals.{add-one}
use borrow.Author.Tests.{ne_eqb, le-leb, lt-leb, lt-ltb, le-ltb}
use lib.Dec.{eqb}
use lib.ListN.{length, get_or, set, length-set}
use lib.Seq.{set-get_or, get_or-set_same, get_or-set_other}
use Rattle.model.specs.declared.Sprite.{Sprite}
use Rattle.model.specs.Unit.{bit}
use Rattle.model.specs.Background.{colour_of, number_of}
use Rattle.model.specs.Sprites.{shade}
use Rattle.model.proofs.Scroll.{lt_or_ge}
use Rattle.words.specs.Pack.{pack, byte_of}
use Rattle.pixels.specs.Row.{over_one, over_at, over_tab, placed}
use Rattle.words.proofs.Colours.{shade_bytes}

length_over : (l : List ℕ) (at v : ℕ) → length (over_at l at v) ≡ length l
unfolding over_at
length_over l at v = len (eqb (get_or l at 0) 0)
  where
    len : (b : Bool) → length (cond b (set l at v) l) ≡ length l
    len true = length-set l at v
    len false = refl

pub length_over_tab : (g : ℕ → ℕ) (at n : ℕ) (l : List ℕ) → length (over_tab g at n l) ≡ length l
unfolding over_tab
length_over_tab g at zero l = refl
length_over_tab g at (suc n) l = length_over (over_tab g at n l) (at + n) (g n) ∙ length_over_tab g at n l

-- one store more, as code makes it: the old pixel is stored again where it stays
over_set : (l : List ℕ) (at v : ℕ) → set l at (over_one (get_or l at 0) v) ≡ over_at l at v
unfolding over_at
over_set l at v = by_test (eqb (get_or l at 0) 0)
  where
    by_test : (b : Bool) → set l at (cond b v (get_or l at 0)) ≡ cond b (set l at v) l
    by_test true = refl
    by_test false = set-get_or l at 0

pub over_more : (g : ℕ → ℕ) (at n : ℕ) (l l' : List ℕ) (v r : ℕ) → l' ≡ over_tab g at n l → v ≡ g n → r ≡ over_one (get_or l' (at + n) 0) v → set l' (at + n) r ≡ over_tab g at (n + 1) l
unfolding over_tab
over_more g at n l l' v r e k d = rw (add-one n, d, k, ← e) (over_set l' (at + n) (g n))

pub over_start : (g : ℕ → ℕ) (at : ℕ) (l : List ℕ) → l ≡ over_tab g at 0 l
unfolding over_tab
over_start g at l = refl

pub ruleset over_loop = (over_start, over_more)

-- at the place of a store, and at any other
over_same : (l : List ℕ) (at v : ℕ) → at < length l → get_or (over_at l at v) at 0 ≡ over_one (get_or l at 0) v
unfolding over_at
over_same l at v h = same (eqb (get_or l at 0) 0)
  where
    same : (b : Bool) → get_or (cond b (set l at v) l) at 0 ≡ cond b v (get_or l at 0)
    same true = get_or-set_same l at v 0 h
    same false = refl

over_other : (l : List ℕ) (at v k : ℕ) → (k ≡ at → ⊥) → get_or (over_at l at v) k 0 ≡ get_or l k 0
unfolding over_at
over_other l at v k h = other (eqb (get_or l at 0) 0)
  where
    other : (b : Bool) → get_or (cond b (set l at v) l) k 0 ≡ get_or l k 0
    other true = get_or-set_other l at k v 0 h
    other false = refl

-- outside the n columns, and in them
pub tab_out : (g : ℕ → ℕ) (at n : ℕ) (l : List ℕ) (k : ℕ) → (k < at) ⊎ (at + n ≤ k) → get_or (over_tab g at n l) k 0 ≡ get_or l k 0
unfolding over_tab
tab_out g at zero l k h = refl
tab_out g at (suc n) l k (inl h) = over_other (over_tab g at n l) (at + n) (g n) k (λ e. omega arith) ∙ tab_out g at n l k (inl h)
tab_out g at (suc n) l k (inr h) = over_other (over_tab g at n l) (at + n) (g n) k (λ e. omega arith) ∙ tab_out g at n l k (inr (omega arith))

pub tab_in : (g : ℕ → ℕ) (at n : ℕ) (l : List ℕ) (k : ℕ) → at + n ≤ length l → at ≤ k → k < at + n → get_or (over_tab g at n l) k 0 ≡ over_one (get_or l k 0) (g (k - at))
unfolding over_tab
tab_in g at zero l k h a b = omega arith
tab_in g at (suc n) l k h a b =
    ⊎_elim
    (λ (lt : k < at + n). over_other (over_tab g at n l) (at + n) (g n) k (λ e. omega arith) ∙ tab_in g at n l k (omega arith) a lt)
    (λ (ge : at + n ≤ k).
    let e : k ≡ at + n = omega arith in
    let d : (at + n) - at ≡ n = omega arith in
    rw (e, d)
    (over_same (over_tab g at n l) (at + n) (g n) (rw (length_over_tab g at n l) (omega arith))
    ∙ ap (λ (o : ℕ). over_one o (g n)) (tab_out g at n l (at + n) (inr (omega arith)))))
    (lt_or_ge k (at + n))

-- 0 over a pixel leaves it
pub over_none : (v : ℕ) → over_one v 0 ≡ v
over_none zero = refl
over_none (suc v) = rw (ne_eqb (suc v) 0 (λ e. omega arith))

-- eight pixels over a row, at each column
pub over_placed : (g : ℕ → ℕ) (x p : ℕ) (row : List ℕ) → x + 8 ≤ length row → get_or (over_tab g x 8 row) p 0 ≡ over_one (get_or row p 0) (placed g x p)
unfolding placed
over_placed g x p row h =
    ⊎_elim
    (λ (lt : p < x). tab_out g x 8 row p (inl lt) ∙ sym (rw (lt-leb x p lt) (over_none (get_or row p 0))))
    (λ (ge : x ≤ p).
    ⊎_elim
    (λ (lt : p < x + 8). tab_in g x 8 row p h ge lt ∙ rw (le-leb x p ge, lt-ltb p (x + 8) lt))
    (λ (out : x + 8 ≤ p). tab_out g x 8 row p (inr out) ∙ sym (rw (le-leb x p ge, le-ltb p (x + 8) out) (over_none (get_or row p 0))))
    (lt_or_ge p (x + 8)))
    (lt_or_ge p x)

-- a sprite's eight pixels from its X byte on: `sprite_bytes`
module _ (s : Sprite) (n : ℕ) (e : n ≡ pack (λ (j : ℕ). number_of (4 + s.attribute % 4 + s.attribute / 32 % 2 * 8) (colour_of s.low s.high (cond (bit 64 s.attribute) j (7 - j)))) 8) where
  pub placed_shade : (p : ℕ) → placed (byte_of n) s.x p ≡ shade s p
  unfolding shade placed
  placed_shade p =
      ⊎_elim
      (λ (lt : p < s.x). rw (lt-leb s.x p lt))
      (λ (ge : s.x ≤ p).
      ⊎_elim
      (λ (lt : p < s.x + 8).
      rw (le-leb s.x p ge, lt-ltb p (s.x + 8) lt, e)
      (shade_bytes s.low s.high (4 + s.attribute % 4 + s.attribute / 32 % 2 * 8) (bit 64 s.attribute) (p - s.x) (omega arith) (omega arith)))
      (λ (out : s.x + 8 ≤ p). rw (le-leb s.x p ge, le-ltb p (s.x + 8) out))
      (lt_or_ge p (s.x + 8)))
      (lt_or_ge p s.x)

  -- over a row, at each column: `put_over`
  pub over_shade : (p : ℕ) (row row' : List ℕ) → s.x + 8 ≤ length row → row' ≡ over_tab (byte_of n) s.x 8 row → get_or row' p 0 ≡ over_one (get_or row p 0) (shade s p)
  over_shade p row row' h d = rw d (over_placed (byte_of n) s.x p row h ∙ ap (λ (v : ℕ). over_one (get_or row p 0) v) (placed_shade p))
