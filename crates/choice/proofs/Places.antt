-- The choice by distances is document 01's choice by Y bytes.
use Prim.Native.Nat.{ℕ, zero, suc, ◌+◌, ◌-◌, ◌*◌, ◌/◌, ◌%◌, ◌<◌, ◌≤◌, min}
use mathlib.Core.Path.{◌≡◌, refl, ap, sym, ◌∙◌}
use mathlib.Core.Bool.{Bool, true, false, cond, ◌&&◌, false≢true}
use mathlib.Core.Logic.{⊎_elim}
use mathlib.Core.List.{List, [], ◌∷◌, ◌++◌}
use native.Mathlib.Omega.{arith}
use native.Mathlib.Numerals.{add-one}
use borrow.Author.Tests.{ne_eqb, le-leb, lt-leb, lt-ltb, le-ltb, leb-true, ltb-true}
use lib.Dec.{eqb, ltb, leb}
use lib.ListN.{length, get_or, set, take, length-append, get_or-append}
use lib.Seq.{take-set-le, take-suc-set, take-take, take_all, get_or_at}
use Rattle.model.specs.Sprites.{oam_at, height, covers, places_of, count_of}
use Rattle.model.proofs.Scroll.{lt_or_ge}
use Rattle.choice.specs.Distance.{Distances, distance_of, is_from, near}

-- ---- how many, and which
pub count_le : (f : ℕ → Bool) (n : ℕ) → count_of f n ≤ n
unfolding count_of
count_le f zero = omega arith
count_le f (suc n) = by_test (f n) (count_le f n)
  where
    by_test : (b : Bool) {k : ℕ} → k ≤ n → cond b (k + 1) k ≤ suc n
    by_test true h = omega arith
    by_test false h = omega arith

-- one more counts 1 or 0
pub count_more : (f : ℕ → Bool) (n k o : ℕ) → k ≡ count_of f n → o ≡ cond (f n) 1 0 → k + o ≡ count_of f (n + 1)
unfolding count_of
count_more f n k o e d = rw (add-one n, d, e) (by_test (f n))
  where
    by_test : (b : Bool) → count_of f n + cond b 1 0 ≡ cond b (count_of f n + 1) (count_of f n)
    by_test true = refl
    by_test false = omega arith

-- none is counted: the first is not
pub count_first : (f : ℕ → Bool) (n : ℕ) → count_of f (suc n) ≡ 0 → f 0 ≡ false
unfolding count_of
count_first f zero e = by_test (f 0) e
  where
    by_test : (b : Bool) → cond {A = ℕ} b 1 0 ≡ 0 → b ≡ false
    by_test false e = refl
    by_test true e = absurd (no e)
      where
        no : ◌≡◌ {A = ℕ} 1 0 → ⊥
        no e = omega arith
count_first f (suc n) e = count_first f n (by_test (f (suc n)) e)
  where
    by_test : (b : Bool) {k : ℕ} → cond b (k + 1) k ≡ 0 → k ≡ 0
    by_test true e = omega arith
    by_test false e = e

pub count_cong : (f g : ℕ → Bool) (n : ℕ) → ((i : ℕ) → i < n → f i ≡ g i) → count_of f n ≡ count_of g n
unfolding count_of
count_cong f g zero h = refl
count_cong f g (suc n) h = rw (count_cong f g n (λ i lt. h i (omega arith)), h n (omega arith))

-- what f has g has too
pub count_within : (f g : ℕ → Bool) (n : ℕ) → ((i : ℕ) → f i ≡ true → g i ≡ true) → count_of f n ≤ count_of g n
unfolding count_of
count_within f g zero h = omega arith
count_within f g (suc n) h = by_test (f n) (g n) (h n) (count_within f g n h)
  where
    by_test : (a b : Bool) → (a ≡ true → b ≡ true) → count_of f n ≤ count_of g n → cond a (count_of f n + 1) (count_of f n) ≤ cond b (count_of g n + 1) (count_of g n)
    by_test true true h k = omega arith
    by_test true false h k = absurd (false≢true (h refl))
    by_test false true h k = omega arith
    by_test false false h k = k

pub places_cong : (f g : ℕ → Bool) (n : ℕ) → ((i : ℕ) → i < n → f i ≡ g i) → places_of f n ≡ places_of g n
unfolding places_of
places_cong f g zero h = refl
places_cong f g (suc n) h = rw (places_cong f g n (λ i lt. h i (omega arith)), h n (omega arith))

-- one place more: it is stored, and kept if f has it
pub places_more : (f : ℕ → Bool) (n k o : ℕ) (l : List ℕ) → k < length l → take k l ≡ places_of f n → o ≡ cond (f n) 1 0 → take (k + o) (set l k n) ≡ places_of f (n + 1)
unfolding places_of
places_more f n k o l h e d = rw (add-one n, d) (by_test (f n))
  where
    by_test : (b : Bool) → take (k + cond b 1 0) (set l k n) ≡ cond b (places_of f n ++ (n ∷ [])) (places_of f n)
    by_test true = rw (add-one k, take-suc-set l k n h, e)
    by_test false = let z : k + 0 ≡ k = omega arith in rw (z, take-set-le k l k n (omega arith), e)

pub length_places : (f : ℕ → Bool) (n : ℕ) → length (places_of f n) ≡ count_of f n
unfolding places_of count_of
length_places f zero = refl
length_places f (suc n) = by_test (f n) (length_places f n)
  where
    by_test : (b : Bool) → length (places_of f n) ≡ count_of f n → length (cond b (places_of f n ++ (n ∷ [])) (places_of f n)) ≡ cond b (count_of f n + 1) (count_of f n)
    by_test true e = simp length-append (rw e)
    by_test false e = e

no_places : (n : ℕ) → places_of (λ (i : ℕ). false) n ≡ []
unfolding places_of
no_places zero = refl
no_places (suc n) = no_places n

-- what is listed is below n, and f has it
pub places_at : (f : ℕ → Bool) (n j : ℕ) → j < length (places_of f n) → (get_or (places_of f n) j 0 < n) × (f (get_or (places_of f n) j 0) ≡ true)
unfolding places_of
places_at f zero j h = absurd (none j h)
  where
    none : (j : ℕ) → j < 0 → ⊥
    none j h = omega arith
places_at f (suc n) j h = by_test (f n) refl (λ k. places_at f n j k) h
  where
    Ok : List ℕ → Type 0
    Ok l = (get_or l j 0 < suc n) × (f (get_or l j 0) ≡ true)

    by_test : (b : Bool) → f n ≡ b → (j < length (places_of f n) → (get_or (places_of f n) j 0 < n) × (f (get_or (places_of f n) j 0) ≡ true)) → j < length (cond b (places_of f n ++ (n ∷ [])) (places_of f n)) → Ok (cond b (places_of f n ++ (n ∷ [])) (places_of f n))
    by_test false e ih k = (omega (arith, (ih k).0), (ih k).1)
    by_test true e ih k =
        ⊎_elim
        (λ (lt : j < length (places_of f n)). rw (get_or-append (places_of f n) (n ∷ []) 0 j lt) (omega (arith, (ih lt).0), (ih lt).1))
        (λ (ge : length (places_of f n) ≤ j).
        let d : length (places_of f n) ≡ j = omega (arith, simp length-append at k) in
        rw (get_or_at (places_of f n) n [] 0 j d) (omega arith, e))
        (lt_or_ge j (length (places_of f n)))

-- ---- what covers says
pub height_le : (c : ℕ) → height c ≤ 16
unfolding height
height_le c = by_test (eqb (c / 32 % 2) 1)
  where
    by_test : (b : Bool) → cond b 16 8 ≤ 16
    by_test true = omega arith
    by_test false = omega arith

and_both : (a b : Bool) → (a && b) ≡ true → (a ≡ true) × (b ≡ true)
and_both true b e = (refl, e)
and_both false b e = (e, absurd (false≢true e))

pub covers_from : (c : ℕ) (o : List ℕ) (n i : ℕ) → covers c o n i ≡ true → oam_at o i 0 ≤ n
unfolding covers
covers_from c o n i e = leb-true (oam_at o i 0) n (and_both (leb (oam_at o i 0) n) (ltb n (oam_at o i 0 + height c)) e).0

pub covers_to : (c : ℕ) (o : List ℕ) (n i : ℕ) → covers c o n i ≡ true → n < oam_at o i 0 + height c
unfolding covers
covers_to c o n i e = ltb-true n (oam_at o i 0 + height c) (and_both (leb (oam_at o i 0) n) (ltb n (oam_at o i 0 + height c)) e).1

-- ---- distances
-- the Y byte stands first
pub y_at : (o : List ℕ) (i : ℕ) → get_or o (4 * i) 0 ≡ oam_at o i 0
y_at o i = let e : 4 * i + 0 ≡ 4 * i = omega arith in rw e

pub distance_in : (n y : ℕ) → y ≤ n → n - y ≡ distance_of n y
unfolding distance_of
distance_in n y h = rw (le-leb y n h)

pub distance_out : (n y : ℕ) → n < y → 255 ≡ distance_of n y
unfolding distance_of
distance_out n y h = rw (lt-leb y n h)

pub from_in : (from h d : ℕ) → from ≤ d → d - from < h → is_from from h d ≡ true
unfolding is_from
from_in from h d a b = rw (le-leb from d a, lt-ltb (d - from) h b)

pub from_under : (from h d : ℕ) → d < from → is_from from h d ≡ false
unfolding is_from
from_under from h d a = rw (lt-leb from d a)

pub from_past : (from h d : ℕ) → from ≤ d → h ≤ d - from → is_from from h d ≡ false
unfolding is_from
from_past from h d a b = rw (le-leb from d a, le-ltb (d - from) h b)

-- the h distances from `from` are those at which the sprite covers line n - from
pub from_covers : (from n y h : ℕ) → h ≤ 16 → from ≤ 1 → from ≤ n → is_from from h (distance_of n y) ≡ (leb y (n - from) && ltb (n - from) (y + h))
from_covers from n y h k f g =
    ⊎_elim
    (λ (out : n < y). rw (← distance_out n y out, from_past from h 255 (omega arith) (omega arith), lt-leb y (n - from) (omega arith)))
    (λ (here : y ≤ n).
    ⊎_elim
    (λ (lt : n - y < from). rw (← distance_in n y here, from_under from h (n - y) lt, lt-leb y (n - from) (omega arith)))
    (λ (ge : from ≤ n - y).
    ⊎_elim
    (λ (lt : n - y - from < h). rw (← distance_in n y here, from_in from h (n - y) ge lt, le-leb y (n - from) (omega arith), lt-ltb (n - from) (y + h) (omega arith)))
    (λ (le : h ≤ n - y - from). rw (← distance_in n y here, from_past from h (n - y) ge le, le-leb y (n - from) (omega arith), le-ltb (n - from) (y + h) (omega arith)))
    (lt_or_ge (n - y - from) h))
    (lt_or_ge (n - y) from))
    (lt_or_ge n y)

-- line 0 is 1 to h below no sprite
from_none : (y h : ℕ) → h ≤ 16 → is_from 1 h (distance_of 0 y) ≡ false
from_none y h k =
    ⊎_elim
    (λ (out : 0 < y). rw (← distance_out 0 y out, from_past 1 h 255 (omega arith) (omega arith)))
    (λ (here : y ≤ 0). rw (← distance_in 0 y here, from_under 1 h (0 - y) (omega arith)))
    (lt_or_ge 0 y)

-- ---- the lists
take_cond : (n : ℕ) (b : Bool) (l : List ℕ) → take n (cond b [] l) ≡ cond b [] (take n l)
take_cond zero true l = refl
take_cond (suc n) true l = refl
take_cond n false l = refl

module _ (c n : ℕ) (o d : List ℕ) (e : Distances n o d) where
  pub near_covers : (from i : ℕ) → i < 64 → from ≤ 1 → from ≤ n → near d from (height c) i ≡ covers c o (n - from) i
  unfolding near covers
  near_covers from i lt f g = rw (e.each i lt) (from_covers from n (oam_at o i 0) (height c) (height_le c) f g)

  near_none : (i : ℕ) → i < 64 → n ≡ 0 → near d 1 (height c) i ≡ false
  unfolding near
  near_none i lt z = rw (e.each i lt, z) (from_none (oam_at o i 0) (height c) (height_le c))

  pub places_shown : places_of (near d 1 (height c)) 64 ≡ cond (eqb n 0) [] (places_of (covers c o (n - 1)) 64)
  places_shown =
      ⊎_elim
      (λ (some : 0 < n). rw (ne_eqb n 0 (λ z. omega arith)) (places_cong (near d 1 (height c)) (covers c o (n - 1)) 64 (λ i lt. near_covers 1 i lt (omega arith) (omega arith))))
      (λ (none : n ≤ 0).
      let z : n ≡ 0 = omega arith in
      places_cong (near d 1 (height c)) (λ (i : ℕ). false) 64 (λ i lt. near_none i lt z) ∙ no_places 64 ∙ rw z)
      (lt_or_ge 0 n)

  -- s of them are listed: the first eight
  pub eight_shown : (s k : ℕ) (l : List ℕ) → s ≡ count_of (near d 1 (height c)) 64 → k ≡ min s 8 → take s l ≡ places_of (near d 1 (height c)) 64
      → take k l ≡ cond (eqb n 0) [] (take 8 (places_of (covers c o (n - 1)) 64))
  eight_shown s k l f m z =
      let few : length (take s l) ≡ s = ap length z ∙ length_places (near d 1 (height c)) 64 ∙ sym f in
      let w : take k l ≡ take 8 (take s l) =
      ⊎_elim
      (λ (lt : 8 < s). let eight : k ≡ 8 = omega (arith, m) in rw eight (sym (take-take 8 s l (omega arith))))
      (λ (ge : s ≤ 8). let all : k ≡ s = omega (arith, m) in rw all (sym (take_all 8 (take s l) (omega arith))))
      (lt_or_ge 8 s) in
      w ∙ ap (take 8) (z ∙ places_shown) ∙ take_cond 8 (eqb n 0) (places_of (covers c o (n - 1)) 64)
